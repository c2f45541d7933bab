use Rattle.qc_files.proofs.Fronts.{front_fits, front_grew}
use Rattle.qc_files.proofs.out_sink.write_front.Goals as goal

pub loop-preserved : goal.loop-preserved
loop-preserved g c = (
  front_fits c.args.bytes.now c.loop.count c.in-Some.more c.loop.invariant.0 c.in-Some.ensures.bound,
  front_grew (g.W.Write.contents c.args.writer.now) (g.W.Write.contents c.loop.writer)
      (g.W.Write.contents c.write_some.new.writer) c.args.bytes.now c.loop.count c.in-Some.more
      c.loop.invariant.1 c.in-Some.ensures.taken,
)
