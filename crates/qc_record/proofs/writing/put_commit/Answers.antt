use Rattle.byteorder.specs.Endian.{big_bytes}
use Rattle.qc_record.specs.Vocabulary.{ops_form, tx_form}
use Rattle.qc_record.proofs.Puts.{on_ok, three, as_spelled}
use Rattle.qc_record.proofs.writing.put_commit.Goals as goal

pub returns : goal.returns
returns c =
    let p = c.args.commit.now in
    on_ok c.put_list.result (λ last. three c.args.out.now.items c.put_tx.new.out.items c.put.new.out.items
    c.put_list.new.out.items
    (tx_form.spelled p.tx) (big_bytes 8 p.stamp.clock)
    (ops_form.spelled p.ops) c.in_ok-put_tx.ensures c.in_ok-put.ensures
    (as_spelled ops_form _ _ c.items.result.now p.ops c.items.ensures last)) c.put_list.ensures
