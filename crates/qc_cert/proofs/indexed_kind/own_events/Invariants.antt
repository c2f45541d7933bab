use Rattle.std.proofs.Common.{◌≡◌, length}
use Rattle.qc_cert.specs.Vocabulary.{AreOwn}
use Rattle.qc_cert.proofs.indexed_kind.own_events.Given as goal

abbrev pub invariant-invs : goal.invariant-invs
invariant-invs l = record {
  all : length l.own.items ≡ l.inv;
  events : AreOwn l.kind l.own.items;
}
