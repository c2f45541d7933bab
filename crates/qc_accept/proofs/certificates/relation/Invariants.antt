use Rattle.std.proofs.Common.{◌≡◌, ◌<◌, All, drop}
use Rattle.qc_table.specs.declared.relation.Pair.{Pair}
use Rattle.qc_decl.specs.Vocabulary.{most_events, most_invocations}
use Rattle.qc_accept.specs.Vocabulary.{data_of, events_in, pair_in, pairs_in, read_each, with_read, words_in}
use Rattle.qc_accept.proofs.certificates.relation.Given as goal

abbrev pub invariant-loop-item : goal.invariant-loop-item
invariant-loop-item l = record {
  reads : pairs_in (words_in l.words) (events_in l.events) (data_of l.items) ≡ read_each
      (with_read (pair_in (words_in l.words) (events_in l.events))) l.pairs (drop l.item-index (data_of l.items));
  within : All (λ (p : Pair). (p.inv < most_invocations) × (p.event < most_events)) l.pairs;
}
