use Rattle.std.proofs.Common.{◌≡◌, ◌≤◌, ◌++◌, length, drop}
use Rattle.qc_msg.specs.Vocabulary.{without_call}
use Rattle.qc_msg.proofs.call.Calls.without_call.Given as goal

abbrev pub invariant-calls : goal.invariant-calls
invariant-calls l =
    (length l.rest ≤ l.call-index)
    × (l.rest ++ without_call (drop l.call-index l.call-items) l.number ≡ without_call l.call-items l.number)
