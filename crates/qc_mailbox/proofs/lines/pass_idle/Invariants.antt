use Rattle.std.proofs.Common.{◌≡◌, length}
use Rattle.qc_script.specs.Vocabulary.{acting}
use Rattle.qc_mailbox.specs.Vocabulary.{items}
use Rattle.qc_mailbox.proofs.lines.pass_idle.Given as goal

abbrev pub invariant-lines : goal.invariant-lines
invariant-lines l = acting l.up (items l.controls) ≡ acting l.up (items l.initial.controls)

abbrev pub decreases-lines : goal.decreases-lines
decreases-lines l = length (items l.controls)
