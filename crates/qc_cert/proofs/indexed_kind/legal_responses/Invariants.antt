use Rattle.std.proofs.Common.{◌≡◌, ◌*◌, length}
use Rattle.qc_cert.specs.Vocabulary.{AreLegal}
use Rattle.qc_cert.proofs.indexed_kind.legal_responses.Given as goal

abbrev pub invariant-states : goal.invariant-states
invariant-states l = record {
  all : length l.legal.items ≡ l.state * 32;
  responses : AreLegal l.kind l.legal.items;
}
