-- What a cell keeps, and what a turn makes of it.
use Rattle.std.specs.Prelude.{◌≡◌, ◌⊎◌, ℕ, ◌<◌, Bool, true, false, List, [], ◌∷◌, ◌++◌, None}
use mathlib.Core.List.{IsPrefix}
use Rattle.atomic_table.specs.Seated.{TableId}
use Rattle.qc_core.specs.Vocabulary.{IsLawfulWithFalls, actor_after, actor_takes}
use Rattle.qc_decl.specs.Vocabulary.{actors}
use Rattle.qc_decl.specs.declared.declaration.Declaration.{Declaration}
use Rattle.qc_msg.specs.Vocabulary.{Entry, Takes, deeds, deeds_as}
use Rattle.qc_msg.specs.declared.step.Input.{Input}
use Rattle.qc_msg.specs.declared.step.Step.{Step}
use Rattle.qc_msg.specs.declared.turn.Appended.{Appended}
use Rattle.qc_pass.specs.declared.token.Pass.{Pass}
use Rattle.qc_pass.specs.Vocabulary.{number, pass_table, room, seen}
use Rattle.qc_process.specs.Vocabulary.{IsOnDisk, IsProcess, IsStored, ProcessView, StoreView}
use Rattle.qc_script.specs.Vocabulary.{RunWithFalls}
use Rattle.qc_script.specs.declared.script.Script.{Script}
use Rattle.qc_fabric.specs.Vocabulary.{HasNone}
use Rattle.qc_node.specs.Rules.{fits_of}
use Rattle.qc_node.specs.declared.ends.TurnEnd.{TurnEnd}
use Rattle.qc_node.specs.declared.ends.TurnEnd.TheVariants as ends

-- what callers see: the actor's number, what the cell saw of the history, and the process, with whether it was given up
pub record Known : Type 0 where
  pub number : ℕ
  pub seen : List Entry
  pub given_up : Bool
  pub process : ProcessView

-- a store of a process that was given up: it stands as the history tells; or its journal was given up as well, and its
-- disk holds the records and has counted its falls
abbrev pub IsLeft : Bool → Declaration → ℕ → List Entry → StoreView → Type 0
IsLeft tells decl a h s =
    IsStored tells decl a h s ⊎ ((s.journal ≡ None) × IsOnDisk tells decl a h s.told s.fuse.unarmed)

-- what is known of a process: it is what its actor's deeds make of it; or it was given up, and its disk alone is known
abbrev pub IsKnown : Bool → Declaration → ℕ → List Entry → Bool → ProcessView → Type 0
IsKnown tells decl a h false p = IsProcess tells decl a h p
IsKnown tells decl a h true p = IsLeft tells decl a h p.store

-- the pass is of the run, of an actor, and has no room
pub record IsCell (tells : Bool) (z : TableId) (decl : Declaration) (given_up : Bool) (p : ProcessView)
    (pass : Pass Step) : Type 0 where
  pub table_is : pass_table pass ≡ z
  pub is_actor : number pass < actors decl
  pub no_room : room pass ≡ 0
  pub known : IsKnown tells decl (number pass) (seen pass) given_up p

-- The cell saw more, in which its actor did nothing: what it saw is a run, after which a limit is reached, an input of
-- the actor is open, or nothing is ready for it.
pub record IsIdle (decl : Declaration) (script : Script) (old new : Known) : Type 0 where
  pub begins : IsPrefix old.seen new.seen
  pub does : deeds new.number [] new.seen ≡ deeds old.number [] old.seen
  pub process_is : new.process ≡ old.process
  pub given_up_is : new.given_up ≡ old.given_up
  pub run : RunWithFalls (IsLawfulWithFalls decl) (fits_of decl) decl script new.seen
  pub why : HasNone decl script run.0 new.number new.seen

-- The cell saw more, in which its actor took an input and posted the turn that this calls for, by what became of its
-- record; its messages have the numbers from first on.
pub record IsServed (decl : Declaration) (old new : Known) : Type 0 where
  pub begins : IsPrefix old.seen new.seen
  pub given : Input
  pub end : Appended
  pub first : ℕ
  pub does : deeds new.number [] new.seen
      ≡ (deeds old.number [] old.seen ++ Takes given ∷ [])
      ++ deeds_as end first (actor_takes decl (actor_after decl old.number (deeds old.number [] old.seen)).actor
      given).turn
  pub up : new.given_up ≡ false

abbrev pub IsTurn : Declaration → Script → Known → Known → TurnEnd → Type 0
IsTurn decl script old new ends.NothingReady = IsIdle decl script old new
IsTurn decl script old new ends.Done = IsServed decl old new
