use Rattle.qc_lock.proofs.Entries.{locks_given, own_given, others_stay}
use Rattle.qc_lock.proofs.laws.transactions_hold_what_is_given.Goals as goal

pub returns : goal.returns
returns c = record { locks = locks_given; own = own_given; others = others_stay }
