-- A move of a client: all that its turn records, asks and tells is by the rows, it tells just what the running
-- command's row tells, and the tie holds after it.
use Rattle.std.specs.Prelude.{◌≡◌, ℕ, false, fold}
use Rattle.qc_client.specs.declared.client.Client.{Client}
use Rattle.qc_client.specs.Vocabulary.{ClientMove, client_does}
use Rattle.qc_decl.specs.declared.declaration.Declaration.{Declaration}
use Rattle.qc_front.specs.Vocabulary.{FrontHolds, IsNumbered}
use Rattle.qc_msg.specs.Vocabulary.{turn_deeds}
use Rattle.qc_promise.specs.Vocabulary.{Account, account_at, running_row}
use Rattle.laws_due.specs.ByRows.{AreByRows}
use Rattle.laws_due.specs.Ties.{Ties}

-- what holds of a client between two inputs, whatever its account
pub record Holds (decl : Declaration) (c : Client) : Type 0 where
  pub front : FrontHolds decl c.front
  pub numbered : IsNumbered c.front.doing

-- the account after the input being d, and the messages of the turn numbered from this number on
pub record Goes (decl : Declaration) (number : ℕ) (d : Account) (move : ClientMove) : Type 0 where
  pub tells : move.turn.told ≡ running_row decl d false
  pub due : AreByRows decl d (turn_deeds number move.turn)
  pub ties : Ties decl (fold (account_at decl) d (turn_deeds number move.turn))
      (fold (client_does decl) move (turn_deeds number move.turn)).client
