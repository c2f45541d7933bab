use Rattle.std.proofs.Common.{◌≡◌}
use Rattle.qc_accept.specs.Vocabulary.{listed_in, needs_of, store_in}
use Rattle.qc_accept.proofs.epochs.Listed.needs.Given as goal

abbrev pub invariant-loop-object : goal.invariant-loop-object
invariant-loop-object l = l.needs ≡ needs_of (store_in l.store) l.side (listed_in l.self) l.object
