use Rattle.qc_store.proofs.Contents.{broken_off, still, still_then}
use Rattle.qc_store.proofs.store.write.Goals as goal

pub returns-in-Err-Failed-clause-holds : goal.returns-in-Err-Failed-clause-holds
returns-in-Err-Failed-clause-holds g c bodies rests =
    broken_off _ _ _ bodies c.args.body.now (c.append.ensures.moments bodies rests) c.fell.ensures.moments

pub returns-in-Err-Stopped-clause-holds : goal.returns-in-Err-Stopped-clause-holds
returns-in-Err-Stopped-clause-holds g c bodies rests =
    broken_off _ _ _ bodies c.args.body.now
    (c.append.ensures.moments bodies rests) c.fell-in-Err-Stopped.ensures.moments

pub returns-in-Ok-clause-tells : goal.returns-in-Ok-clause-tells
returns-in-Ok-clause-tells g c bodies rests = still _ _ _ (c.append.ensures.moments bodies rests)

pub returns-in-Err-Failed-clause-tells_err : goal.returns-in-Err-Failed-clause-tells_err
returns-in-Err-Failed-clause-tells_err g c bodies rests =
    still_then _ _ _ (still _ _ _ (c.append.ensures.moments bodies rests)) (still _ _ _ c.fell.ensures.moments)

pub returns-in-Err-Stopped-clause-tells_err : goal.returns-in-Err-Stopped-clause-tells_err
returns-in-Err-Stopped-clause-tells_err g c bodies rests =
    still_then _ _ _ (still _ _ _ (c.append.ensures.moments bodies rests))
    (still _ _ _ c.fell-in-Err-Stopped.ensures.moments)
