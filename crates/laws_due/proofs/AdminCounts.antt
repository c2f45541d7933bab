-- What an answer of the administrator's, or that a request is lost, leaves of what he runs.
use Rattle.std.proofs.Common.{◌≡◌, ℕ, Option, ap, ◌∙◌}
use Rattle.qc_msg.specs.declared.message.Answer.{Answer}
use Rattle.qc_promise.specs.Vocabulary.{AdminAccount, admin_counted, asks, closes, installs, is_ask, is_close}
use Rattle.qc_promise.specs.Vocabulary.{is_install}
use Rattle.qc_epoch.specs.Vocabulary.{Admin}
use Rattle.laws_due.proofs.AdminRequests.{takes, wanting_taken}
use Rattle.laws_due.proofs.AdminStages.{Base, Moves, Rests}

module _ (d : AdminAccount) (number : ℕ) (answer : Option Answer) where
  pub closes_taken : closes (admin_counted d number answer) ≡ takes number answer (closes d)
  closes_taken = wanting_taken number answer is_close d.requests

  pub asks_taken : asks (admin_counted d number answer) ≡ takes number answer (asks d)
  asks_taken = wanting_taken number answer is_ask d.requests

  pub installs_taken : installs (admin_counted d number answer) ≡ takes number answer (installs d)
  installs_taken = wanting_taken number answer is_install d.requests

  pub moves_counted : (epoch : ℕ) → Moves d epoch → Moves (admin_counted d number answer) epoch
  moves_counted epoch moves = record {
    command = moves.command;
    next = moves.next;
    unwritten = moves.unwritten;
    installs_none = installs_taken ∙ ap (takes number answer) moves.installs_none;
  }

  -- he rests
  pub rests_counted : Rests d → Rests (admin_counted d number answer)
  rests_counted rests = record { commanded_none = rests.commanded_none; unwritten = rests.unwritten }

pub base_counted : (d : AdminAccount) (m : Admin) → Base d m → (number : ℕ) (answer : Option Answer)
    → Base (admin_counted d number answer) m
base_counted d m base number answer = record { up = base.up; decided = base.decided; epoch = base.epoch }
