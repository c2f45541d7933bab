use Rattle.std.proofs.Common.{◌+◌, length, sym, ap, arith}
use Rattle.qc_msg.specs.Vocabulary.{told}
use Rattle.qc_fabric.proofs.Fed.{can_then, can_write_fewer, length-done, length-sents, written_join}
use Rattle.qc_fabric.proofs.feed.HistoryWriter.post_done.Goals as goal

pub sents-right-requires-clause-room : goal.sents-right-requires-clause-room
sents-right-requires-clause-room c =
    can_write_fewer c.wrote-right.new.self c.wrote-right.result (length c.into_vec.result.items) _
    (can_then c.args.self.now c.wrote-right.new.self c.args.right c.wrote-right.result _
    (length c.args.turn.sends + length (told c.args.turn.told)) _ c.wrote-right.ensures
    (omega (arith, length-done c.args.first c.args.turn)) c.requires.room)
    (omega (arith, ap length c.into_vec.ensures))

pub told-requires : goal.told-requires
told-requires c =
    can_then c.wrote-right.new.self c.sents-right.new.self c.wrote-right.result c.sents-right.result _
    (length (told c.args.turn.told)) _ c.sents-right.ensures
    (omega (arith, length-sents c.args.first c.into_vec.result.items, ap length c.into_vec.ensures))
    (can_then c.args.self.now c.wrote-right.new.self c.args.right c.wrote-right.result _
    (length c.args.turn.sends + length (told c.args.turn.told)) _ c.wrote-right.ensures
    (omega (arith, length-done c.args.first c.args.turn)) c.requires.room)

pub returns : goal.returns
returns c = rw (sym c.into_vec.ensures)
    (written_join _ _ _ _ _ _ _ _ c.wrote-right.ensures
    (written_join _ _ _ _ _ _ _ _ c.sents-right.ensures c.told.ensures))
