use Rattle.std.proofs.Common.{◌≡◌, ◌+◌, ◌-◌, ◌≤◌, drop, length}
use Rattle.qc_script.specs.Vocabulary.{requests_to, with_lost}
use Rattle.qc_mailbox.specs.Vocabulary.{asked, items, spare}
use Rattle.qc_mailbox.proofs.asked.Queue+Asked.lose.Given as goal

abbrev pub invariant-requests : goal.invariant-requests
invariant-requests l = record {
  within : l.place ≤ length (items l.self);
  rest : with_lost (requests_to l.actor (asked (drop l.place (items l.self)))) (items l.lost) ≡ with_lost
      (requests_to l.actor (asked (items l.self))) (items l.initial.lost);
  fits : length (requests_to l.actor (asked (drop l.place (items l.self)))) ≤ spare l.lost;
  used : spare l.initial.lost + length (requests_to l.actor (asked (drop l.place (items l.self)))) ≤ spare l.lost +
      length (requests_to l.actor (asked (items l.self)));
}

abbrev pub decreases-requests : goal.decreases-requests
decreases-requests l = length (items l.self) - l.place
