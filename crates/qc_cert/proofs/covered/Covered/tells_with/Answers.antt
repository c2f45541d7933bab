use Rattle.qc_cert.proofs.Asked.{covered_more}
use Rattle.qc_cert.proofs.covered.Covered.tells_with.Goals as goal

pub returns-then-knows-clause-told : goal.returns-then-knows-clause-told
returns-then-knows-clause-told c = λ _.
    covered_more c.args.self.now.list c.args.view c.args.log c.args.self.now.out c.args.event
    (c.knows.ensures.told c.if-knows.true)
