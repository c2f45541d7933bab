use Rattle.qc_store.proofs.Contents.{rested, rested_begun, still}
use Rattle.qc_store.proofs.store.crash.Goals as goal

pub returns-clause-holds : goal.returns-clause-holds
returns-clause-holds g c bodies rests = rested _ _ c.args.journal.end bodies c.fell.ensures.moments rests

pub returns-clause-begun : goal.returns-clause-begun
returns-clause-begun g c bodies rests = rested_begun _ _ c.args.journal.end bodies c.fell.ensures.moments rests

pub returns-clause-tells : goal.returns-clause-tells
returns-clause-tells g c = still _ _ _ c.fell.ensures.moments
