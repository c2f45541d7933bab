use Rattle.std.proofs.Common.{◌≡◌, ◌+◌, ◌*◌, length}
use Rattle.qc_cert.specs.Vocabulary.{AreLegal}
use Rattle.qc_cert.proofs.indexed_kind.add_state.Given as goal

abbrev pub invariant-invs : goal.invariant-invs
invariant-invs l = record {
  all : length l.legal.items ≡ l.state * 32 + l.inv;
  responses : AreLegal l.kind l.legal.items;
}
