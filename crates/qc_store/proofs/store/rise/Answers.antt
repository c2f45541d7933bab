use Rattle.qc_journal.specs.Vocabulary.{lists}
use Rattle.qc_store.proofs.Contents.{never_torn, opening_gives, refusal_holds, still, still_then}
use Rattle.qc_store.proofs.store.rise.Goals as goal

pub returns-in-Ok-clause-given : goal.returns-in-Ok-clause-given
returns-in-Ok-clause-given g c bodies pending t tells holds =
    opening_gives _ _ bodies (lists c.in-Ok.bodies.items) pending _ t tells c.in-Ok.ensures.opened holds

pub returns-in-Err-clause-torn : goal.returns-in-Err-clause-torn
returns-in-Err-clause-torn g c offset bodies pending t is tells holds =
    never_torn _ _ bodies pending offset t tells (c.in-Err.ensures.torn offset (c.refused.ensures.torn offset is)) holds

pub returns-in-Err-clause-holds : goal.returns-in-Err-clause-holds
returns-in-Err-clause-holds g c bodies pending holds =
    c.refused.ensures.holds bodies pending (refusal_holds _ _ bodies pending c.in-Err.ensures.moments_err holds)

pub returns-in-Err-clause-account_fell : goal.returns-in-Err-clause-account_fell
returns-in-Err-clause-account_fell g c t kind is tab =
    c.refused.ensures.account_fell _ t kind is c.in-Err.ensures.fuse_err tab

pub returns-in-Err-clause-account_torn : goal.returns-in-Err-clause-account_torn
returns-in-Err-clause-account_torn g c t offset is tab =
    c.refused.ensures.account_torn _ t offset is c.in-Err.ensures.fuse_err tab

pub returns-in-Ok-clause-tells : goal.returns-in-Ok-clause-tells
returns-in-Ok-clause-tells g c = still _ _ _ c.in-Ok.ensures.opened

pub returns-in-Err-clause-tells_err : goal.returns-in-Err-clause-tells_err
returns-in-Err-clause-tells_err g c =
    still_then _ _ _ (still _ _ _ c.in-Err.ensures.moments_err) c.refused.ensures.tells

pub returns-in-Err-clause-later : goal.returns-in-Err-clause-later
returns-in-Err-clause-later g c is = c.refused.ensures.later _ is c.in-Err.ensures.fuse_err
