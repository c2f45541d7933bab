use Rattle.std.proofs.Common.{◌≡◌, ◌++◌, drop, length, take, ◌-◌, ◌≤◌}
use Rattle.qc_script.specs.Vocabulary.{with_number}
use Rattle.qc_mailbox.specs.Vocabulary.{items}
use Rattle.qc_mailbox.proofs.queue.Queue+u32.place_of.Given as goal

abbrev pub invariant-numbers : goal.invariant-numbers
invariant-numbers l =
    (l.place ≤ length (items l.self))
    × (take l.place (items l.self) ++ with_number (drop l.place (items l.self)) l.number
    ≡ with_number (items l.self) l.number)

abbrev pub decreases-numbers : goal.decreases-numbers
decreases-numbers l = length (items l.self) - l.place
