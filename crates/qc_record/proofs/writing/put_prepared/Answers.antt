use Rattle.byteorder.specs.Endian.{big_bytes}
use Rattle.qc_record.specs.Vocabulary.{lines_form, locks_form, owns_form, tx_form}
use Rattle.qc_record.proofs.Puts.{on_ok, five, as_bytes, as_spelled}
use Rattle.qc_record.proofs.writing.put_prepared.Goals as goal

pub returns : goal.returns
returns c =
    let p = c.args.prepared.now in
    on_ok c.put_log.result (λ last. five c.args.out.now.items c.put_tx.new.out.items c.put.new.out.items
    c.put_list.new.out.items c.put_list-2.new.out.items c.put_log.new.out.items
    (tx_form.spelled p.tx) (big_bytes 1 p.epoch) (locks_form.spelled p.locks) (owns_form.spelled p.own)
    (lines_form.spelled p.lines)
    c.in_ok-put_tx.ensures (as_bytes 1 _ _ c.from.result p.epoch c.from.ensures c.in_ok-put.ensures)
    (as_spelled locks_form _ _ c.items.result.now p.locks c.items.ensures c.in_ok-put_list.ensures)
    (as_spelled owns_form _ _ c.items-2.result.now p.own c.items-2.ensures c.in_ok-put_list-2.ensures) last)
    c.put_log.ensures
