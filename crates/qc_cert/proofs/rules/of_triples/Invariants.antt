use Rattle.std.proofs.Common.{◌≡◌, drop}
use Rattle.qc_cert.specs.Vocabulary.{marked_fault}
use Rattle.qc_cert.proofs.rules.of_triples.Given as goal

abbrev pub invariant-loop-place : goal.invariant-loop-place
invariant-loop-place l =
    marked_fault l.kind l.triples l.place (drop l.place l.firsts) (drop l.place l.triple-items)
    ≡ marked_fault l.kind l.triples 0 l.firsts l.triple-items
