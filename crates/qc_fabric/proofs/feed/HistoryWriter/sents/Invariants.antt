use Rattle.std.proofs.Common.{◌≡◌, ◌+◌, length}
use Rattle.std.specs.Vec.Iter.{into_iter_items}
use Rattle.qc_msg.specs.Vocabulary.{sents}
use Rattle.qc_fabric.specs.Vocabulary.{CanWrite, HasWrittenPart}
use Rattle.qc_fabric.proofs.feed.HistoryWriter.sents.Given as goal

abbrev pub invariant-loop-to : goal.invariant-loop-to
invariant-loop-to l = record {
  can : (goal.iterator-loop-to).can_next l.to-iterator;
  finite : (goal.iterator-loop-to).is_finite l.to-iterator;
  number_is : l.number + length (into_iter_items l.to-iterator) ≡ l.fn.first + length l.fn.postings.items;
  part : HasWrittenPart l.fn.self l.fn.right l.self l.right (sents l.fn.first l.fn.postings.items)
      (sents l.number (into_iter_items l.to-iterator));
  room : CanWrite l.self l.right (length (into_iter_items l.to-iterator));
}
