use Rattle.std.proofs.Common.{◌≡◌, ◌-◌, ◌≤◌, drop, length}
use Rattle.qc_script.specs.Vocabulary.{has_request}
use Rattle.qc_mailbox.specs.Vocabulary.{asked, items}
use Rattle.qc_mailbox.proofs.asked.Queue+Asked.has_request.Given as goal

abbrev pub invariant-requests : goal.invariant-requests
invariant-requests l = record {
  within : l.place ≤ length (items l.self);
  rest : has_request (asked (drop l.place (items l.self))) l.number ≡ has_request (asked (items l.self)) l.number;
}

abbrev pub decreases-requests : goal.decreases-requests
decreases-requests l = length (items l.self) - l.place
