-- What holds of him between two inputs: each open request has its number. So one call with the number of the next
-- message leaves him as he is after each of a turn's messages got its own.
use Rattle.std.specs.Prelude.{◌≡◌, ℕ, ◌==◌, false, List, length}
use Rattle.qc_decl.specs.declared.declaration.Declaration.{Declaration}
use Rattle.qc_msg.specs.declared.call.Call.{Call}
use Rattle.qc_plan.specs.Vocabulary.{RoundState}
use Rattle.qc_front.specs.Vocabulary.{AreOpen, IsAwaiting, IsRound, awaited, sites_called}
use Rattle.qc_epoch.specs.Vocabulary.{Admin, AdminMove, Asking, Closing, Doing, Installing, Resting}
use Rattle.qc_admin.specs.Sent.{is_unasked, sent, sent_each}

-- a round by the plan of the decided epoch, from site 0, in which each awaited site has an open request
pub record ClosingHolds (decl : Declaration) (epoch : ℕ) (calls : List Call) (round : RoundState) : Type 0 where
  pub round_is : IsRound decl 0 epoch round.need round
  pub awaits : IsAwaiting round
  pub calls_are : AreOpen calls round
  pub numbered : sites_called calls ≡ awaited round

abbrev pub DoingHolds : Declaration → ℕ → Doing → Type 0
DoingHolds decl epoch Resting = Unit {0}
DoingHolds decl epoch (Closing next calls round shuts) = ClosingHolds decl epoch calls round
DoingHolds decl epoch (Asking next shuts questions) = is_unasked questions ≡ false
DoingHolds decl epoch (Installing closed sites calls installed) = (length calls == 0) ≡ false

abbrev pub AdminHolds : Declaration → Admin → Type 0
AdminHolds decl m = DoingHolds decl m.epoch m.doing

-- one call gives a turn's messages the numbers that they get one after another
pub record IsNumberedAtOnce (decl : Declaration) (move : AdminMove) : Type 0 where
  pub told : (first : ℕ) → sent_each move.admin first move.turn.sends ≡ sent move.admin first
  pub holds : (first : ℕ) → AdminHolds decl (sent move.admin first)
