use Rattle.std.proofs.Common.{◌≡◌, [], All, drop}
use Rattle.qc_accept.specs.Vocabulary.{data_of, events_in, read_each, triple_in, with_read, words_in}
use Rattle.qc_accept.proofs.Alike.{AreLow}
use Rattle.qc_accept.proofs.certificates.triples.Given as goal

abbrev pub invariant-loop-item : goal.invariant-loop-item
invariant-loop-item l = record {
  reads : read_each (with_read (triple_in (words_in l.words) (events_in l.events))) [] (data_of l.items) ≡ read_each
      (with_read (triple_in (words_in l.words) (events_in l.events))) l.triples (drop l.item-index (data_of l.items));
  within : All AreLow l.triples;
}
