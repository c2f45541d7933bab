use Rattle.std.proofs.Common.{◌+◌, length, sym, ap, arith}
use Rattle.qc_msg.specs.Vocabulary.{told}
use Rattle.qc_fabric.proofs.Fed.{can_then, can_write_fewer, length-failed, length-sents, written_join}
use Rattle.qc_fabric.proofs.feed.HistoryWriter.post_failed.Goals as goal

pub sents-right-requires-clause-room : goal.sents-right-requires-clause-room
sents-right-requires-clause-room c =
    can_write_fewer c.args.self.now c.args.right (length c.into_vec.result.items) _ c.requires.room
    (omega (arith, ap length c.into_vec.ensures, length-failed c.args.first c.args.turn))

pub told-right-requires : goal.told-right-requires
told-right-requires c =
    can_write_fewer c.sents-right.new.self c.sents-right.result (length (told c.args.turn.failed_told)) _
    (can_then c.args.self.now c.sents-right.new.self c.args.right c.sents-right.result _
    (length (told c.args.turn.failed_told) + 1) _ c.sents-right.ensures
    (omega (
      arith,
      ap length c.into_vec.ensures,
      length-sents c.args.first c.into_vec.result.items,
      length-failed c.args.first c.args.turn,
    )) c.requires.room)
    (omega arith)

pub fell-requires : goal.fell-requires
fell-requires c =
    can_then c.sents-right.new.self c.told-right.new.self c.sents-right.result c.told-right.result _ 1 _
    c.told-right.ensures (omega arith)
    (can_then c.args.self.now c.sents-right.new.self c.args.right c.sents-right.result _
    (length (told c.args.turn.failed_told) + 1) _ c.sents-right.ensures
    (omega (
      arith,
      ap length c.into_vec.ensures,
      length-sents c.args.first c.into_vec.result.items,
      length-failed c.args.first c.args.turn,
    )) c.requires.room)

pub returns : goal.returns
returns c = rw (sym c.into_vec.ensures)
    (written_join _ _ _ _ _ _ _ _ c.sents-right.ensures
    (written_join _ _ _ _ _ _ _ _ c.told-right.ensures c.fell.ensures))
