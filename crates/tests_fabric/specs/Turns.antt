-- A conduct under which an actor that is up may do anything. One that is down tells replies alone.
use Rattle.std.specs.Prelude.{◌≡◌, ℕ, Bool, true, List, [], None}
use Rattle.qc_decl.specs.declared.declaration.Declaration.{Declaration}
use Rattle.qc_mailbox.specs.Vocabulary.{is_down}
use Rattle.qc_msg.specs.Vocabulary.{Deed, MayEnd}
use Rattle.qc_msg.specs.declared.record.Record.{Record}
use Rattle.qc_msg.specs.declared.turn.Turn.{Turn}

-- only a record can fail to be written, and who is down, or isn't, may post this turn
pub record MaySay (down : Bool) (turn : Turn) : Type 0 where
  pub ends : MayEnd turn.write turn.append
  pub writes_none : down ≡ true → turn.write ≡ None
  pub sends_none : down ≡ true → turn.sends ≡ []

abbrev pub any_turn : Declaration → ℕ → List Deed → Turn → Type 0
any_turn decl actor done turn = MaySay (is_down done) turn

-- an actor may rise with any records
abbrev pub any_records : Declaration → ℕ → List Record → Type 0
any_records decl actor records = Unit {0}
