use Rattle.std.proofs.Common.{◌≡◌, ◌<◌, ℕ, true}
use Rattle.qc_cert.specs.Vocabulary.{inv_of}
use Rattle.qc_table.specs.Vocabulary.{has}
use Rattle.qc_cert.proofs.indexed_kind.events.Given as goal

abbrev pub invariant-loop-event : goal.invariant-loop-event
invariant-loop-event l = record {
  all : (e : ℕ) → e < l.event → inv_of l.kind e ≡ l.inv → has l.set e ≡ true;
  within : (e : ℕ) → has l.set e ≡ true → e < l.event;
}
