use Rattle.qc_cert.proofs.PieceTables.{all_left, row_more}
use Rattle.qc_cert.proofs.blocks.Block.left.Goals as goal

pub loop-number-init : goal.loop-number-init
loop-number-init c =
    let sets = c.args.self.now in
    let out = c.args.out in
    record {
      first = all_left sets out 0;
      second = all_left sets out 64;
      third = all_left sets out 128;
      fourth = all_left sets out 192;
    }

pub loop-number-preserved : goal.loop-number-preserved
loop-number-preserved c =
    row_more c.args.self.now c.args.out c.loop-number.number c.loop-number.left c.kept.result c.both-left.result
    c.loop-number.invariant c.kept.ensures
    c.both-left.ensures.first c.both-left.ensures.second c.both-left.ensures.third c.both-left.ensures.fourth
