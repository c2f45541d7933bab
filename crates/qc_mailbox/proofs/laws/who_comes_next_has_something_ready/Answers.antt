use Rattle.qc_mailbox.proofs.Picking.{none_picked, none_ready, some_picked}
use Rattle.qc_mailbox.proofs.laws.who_comes_next_has_something_ready.Goals as goal

pub returns : goal.returns
returns c = record { none = none_ready; only = none_picked; some = some_picked }
