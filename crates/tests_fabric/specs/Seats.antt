-- What a seat knows of its pass: whether its actor is down; and how an actor may be restarted.
use Rattle.std.specs.Prelude.{◌≡◌, ◌<◌, Bool, true, false, []}
use Rattle.atomic_table.specs.Seated.{TableId}
use Rattle.qc_decl.specs.Vocabulary.{actors}
use Rattle.qc_decl.specs.declared.declaration.Declaration.{Declaration}
use Rattle.qc_mailbox.specs.Vocabulary.{is_down}
use Rattle.qc_msg.specs.Vocabulary.{HasRecord, IsByDisk, deeds}
use Rattle.qc_msg.specs.declared.step.Step.{Step}
use Rattle.qc_msg.specs.declared.turn.Appended.{Appended}
use Rattle.qc_msg.specs.declared.turn.Appended.TheVariants.{Done, Failed, Stopped}
use Rattle.qc_pass.specs.declared.token.Pass.{Pass}
use Rattle.qc_pass.specs.Vocabulary.{number, pass_table, seen}
use Rattle.qc_fabric.specs.Vocabulary.{GoesToActors}
use Rattle.qc_fabric.specs.declared.rising.Rising.{Rising}
use Rattle.qc_fabric.specs.declared.rising.Rising.TheVariants.{Rose, Damaged, NotOpened}

-- the pass is of the table, and its actor, a site or a client, is down or isn't
pub record IsSeat (z : TableId) (decl : Declaration) (pass : Pass Step) (down : Bool) : Type 0 where
  pub table_is : pass_table pass ≡ z
  pub down_is : number pass < actors decl → down ≡ is_down (deeds (number pass) [] (seen pass))

-- who was down, or wasn't, is so after a post, by what became of its record
abbrev pub down_after : Bool → Appended → Bool
down_after down Done = down
down_after down Failed = true
down_after down Stopped = true

-- and so after a restart
abbrev pub down_by : Bool → Rising → Bool
down_by down (Rose records turn) = down_after false turn.append
down_by down (Damaged offset) = down
down_by down (NotOpened cause) = true

-- a rising turn has a record, and its messages go to actors; no line makes a journal's opening fail
abbrev pub MayRise : Rising → Type 0
MayRise (Rose records turn) = HasRecord turn.write × GoesToActors turn
MayRise (Damaged offset) = Unit {0}
MayRise (NotOpened cause) = IsByDisk cause
