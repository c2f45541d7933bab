use Rattle.std.proofs.Common.{◌≡◌, ◌<◌, true}
use Rattle.qc_table.specs.Vocabulary.{has}
use Rattle.qc_cert.proofs.parts.shortest.Given as goal

abbrev pub invariant-loop-event : goal.invariant-loop-event
invariant-loop-event l = record {
  within : l.found < 64;
  has : has l.set l.found ≡ true;
}
