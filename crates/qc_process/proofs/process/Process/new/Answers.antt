use Rattle.std.proofs.Common.{refl}
use Rattle.qc_process.proofs.process.Process.new.Goals as goal

pub returns-clause-begun : goal.returns-clause-begun
returns-clause-begun g c tells still = record {
  number_is = refl;
  actor_is = c.in-Ok.ensures;
  stored = c.in_ok-store.ensures.stored tells c.args.decl.now c.args.number still;
}
