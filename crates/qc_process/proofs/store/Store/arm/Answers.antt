use Rattle.std.proofs.Common.{rules}
use Rattle.qc_process.proofs.Crashes.{armed_of}
use Rattle.qc_process.proofs.store.Store.arm.Goals as goal

pub returns-in-Some-clause-goes : goal.returns-in-Some-clause-goes
returns-in-Some-clause-goes g c tells decl a h now goes is =
    armed_of tells decl a h now c.args.self.now _ c.args.kind c.args.at (search rules) goes is

pub returns-clause-goes : goal.returns-clause-goes
returns-clause-goes g c tells decl a h now goes is =
    armed_of tells decl a h now c.args.self.now _ c.args.kind c.args.at (search rules) goes is
