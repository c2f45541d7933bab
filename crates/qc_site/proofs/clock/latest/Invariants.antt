use Rattle.std.proofs.Common.{◌≡◌, drop}
use Rattle.qc_site.specs.Vocabulary.{latest}
use Rattle.qc_site.proofs.clock.latest.Given as goal

abbrev pub invariant-lines : goal.invariant-lines
invariant-lines l = latest l.clock.value (drop l.line-index l.lines) ≡ latest l.fn.clock.value l.lines
