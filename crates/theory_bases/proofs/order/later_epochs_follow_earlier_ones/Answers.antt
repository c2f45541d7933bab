use Rattle.theory_bases.proofs.EpochOrder.{later_readers, later_writers}
use Rattle.theory_bases.proofs.order.later_epochs_follow_earlier_ones.Goals as goal

pub returns-clause-readers : goal.returns-clause-readers
returns-clause-readers r decl acts c d a b accepted run hc hd ha hb object some dep less =
    later_readers decl accepted acts run c d a b hc hd ha hb object some dep less

pub returns-clause-writers : goal.returns-clause-writers
returns-clause-writers r decl acts c d a b accepted run hc hd ha hb object some dep less =
    later_writers decl accepted acts run c d a b hc hd ha hb object some dep less
