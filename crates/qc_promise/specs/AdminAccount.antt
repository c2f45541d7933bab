-- The administrator's account: the epoch that he decided last, and of the running command its requests in asked order,
-- what was taken first for each, and the record that he wrote since.
use Rattle.std.specs.Prelude.{ℕ, Bool, true, false, List, [], filter, Option, None}
use Rattle.std.specs.Prelude.{option_and_then}
use Rattle.std.specs.Option.{option_map_or}
use Rattle.qc_stamp.specs.declared.stamp.TxId.{TxId}
use Rattle.qc_stamp.specs.Vocabulary.{same_tx}
use Rattle.qc_msg.specs.declared.message.Answer.{Answer}
use Rattle.qc_msg.specs.declared.step.Command.{Command}
use Rattle.qc_msg.specs.Vocabulary.{first_epoch}
use Rattle.qc_msg.specs.declared.payload.EpochStart.{EpochStart}

-- what a request is: a Close, an Ask about a transaction, an Install
pub data AdminWant : Type 0 where
  Close : AdminWant
  Ask : (tx : TxId) → AdminWant
  Install : AdminWant

pub record AdminRequest : Type 0 where
  pub number : ℕ
  pub to : ℕ
  pub want : AdminWant
  -- the first thing that was taken for it, if any: an answer, or that it is lost, which is no answer
  pub taken : Option (Option Answer)

pub record AdminAccount : Type 0 where
  pub up : Bool
  -- what the last epoch that he decided before the running command begins with: none for the first epoch
  pub decided : Option EpochStart
  pub command : Option Command
  pub requests : List AdminRequest
  -- what he decided since the command
  pub written : Option EpochStart

abbrev pub new_admin_account : AdminAccount
new_admin_account = record { up = true; decided = None; command = None; requests = []; written = None }

-- the epoch that is decided
abbrev pub decided_epoch : AdminAccount → ℕ
decided_epoch d = option_map_or (λ (i : EpochStart). i.epoch) d.decided first_epoch

-- the requests of a kind

abbrev pub is_close : AdminWant → Bool
is_close Close = true
is_close (Ask tx) = false
is_close Install = false

abbrev pub is_ask_of : TxId → AdminWant → Bool
is_ask_of tx Close = false
is_ask_of tx (Ask other) = same_tx other tx
is_ask_of tx Install = false

abbrev pub is_ask : AdminWant → Bool
is_ask Close = false
is_ask (Ask tx) = true
is_ask Install = false

abbrev pub is_install : AdminWant → Bool
is_install Close = false
is_install (Ask tx) = false
is_install Install = true

abbrev pub asked_with : (AdminWant → Bool) → AdminAccount → List AdminRequest
asked_with test d = filter (λ (q : AdminRequest). test q.want) d.requests

abbrev pub closes : AdminAccount → List AdminRequest
closes d = asked_with is_close d

abbrev pub asks : AdminAccount → List AdminRequest
asks d = asked_with is_ask d

abbrev pub installs : AdminAccount → List AdminRequest
installs d = asked_with is_install d

-- the answer that was taken first for a request, if one was
abbrev pub answer_to : AdminRequest → Option Answer
answer_to q = option_and_then (λ (answer : Option Answer). answer) q.taken
