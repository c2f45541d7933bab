use Rattle.std.proofs.Common.{rules, ◌≡◌, ◌+◌, ◌∷◌, List, length, ap, ◌∙◌, arith, subst}
use Rattle.std.specs.Vec.Iter.{into_iter_items}
use Rattle.qc_msg.specs.declared.turn.Posting.{Posting}
use Rattle.qc_msg.specs.Vocabulary.{sents}
use Rattle.qc_fabric.specs.Vocabulary.{CanWrite, HasWrittenPart}
use Rattle.qc_fabric.proofs.Fed.{can_then, part_more}
use Rattle.qc_fabric.proofs.feed.HistoryWriter.sents.Goals as goal

pub loop-to-preserved : goal.loop-to-preserved
loop-to-preserved c =
    let left : into_iter_items c.loop-to.to-iterator ≡ c.in-Some.field-0 ∷ into_iter_items c.next.new.self =
    search rules in
    let before = c.loop-to.invariant in
    let some : HasWrittenPart c.args.self.now c.args.right c.loop-to.self c.loop-to.right
    (sents c.args.first c.args.postings.items)
    (sents c.loop-to.number (c.in-Some.field-0 ∷ into_iter_items c.next.new.self)) =
    subst (λ (ps : List Posting). HasWrittenPart c.args.self.now c.args.right c.loop-to.self c.loop-to.right
    (sents c.args.first c.args.postings.items) (sents c.loop-to.number ps)) left before.part in
    let room : CanWrite c.loop-to.self c.loop-to.right (length (into_iter_items c.next.new.self) + 1) =
    subst (λ n. CanWrite c.loop-to.self c.loop-to.right n) (ap length left ∙ omega arith) before.room in
    record {
      can = tt;
      finite = tt;
      number_is = omega (arith, before.number_is, ap length left);
      part = part_more c.args.self.now c.loop-to.self c.add-right.new.self c.args.right c.loop-to.right
          c.add-right.result _ _ _ some c.add-right.ensures;
      room = can_then c.loop-to.self c.add-right.new.self c.loop-to.right c.add-right.result _
          (length (into_iter_items c.next.new.self)) _ c.add-right.ensures (omega arith) room;
    }
