use Rattle.std.proofs.Common.{◌++◌, ◌∙◌, ap, List, ℕ}
use Rattle.byteorder.specs.Endian.{big_bytes}
use Rattle.qc_record.specs.Vocabulary.{tx_form}
use Rattle.qc_record.proofs.Puts.{on_ok, five, wide, as_bytes}
use Rattle.qc_record.proofs.line.LineItem.put.Goals as goal

pub returns : goal.returns
returns c = λ before.
    let l = c.args.self.now in
    on_ok c.put-4.result (λ last. five c.args.out.now.items c.put.new.out.items c.put_tx.new.out.items
    c.put-2.new.out.items c.put-3.new.out.items c.put-4.new.out.items
    (big_bytes 8 l.stamp.clock) (tx_form.spelled l.tx) (big_bytes 1 l.op) (big_bytes 1 l.object) (big_bytes 1 l.event)
    c.in_ok-put.ensures c.in_ok-put_tx.ensures (as_bytes 1 _ _ c.from.result l.op c.from.ensures c.in_ok-put-2.ensures)
    (as_bytes 1 _ _ c.from-2.result l.object c.from-2.ensures c.in_ok-put-3.ensures)
    (as_bytes 1 _ _ c.from-3.result l.event c.from-3.ensures last)
    ∙ ap (λ (t : List ℕ). c.args.out.now.items ++ (big_bytes 8 l.stamp.clock ++ t))
    (wide (big_bytes 1 l.tx.client) (big_bytes 4 l.tx.life) (big_bytes 4 l.tx.number)
    (big_bytes 1 l.op ++ (big_bytes 1 l.object ++ big_bytes 1 l.event)))) c.put-4.ensures
