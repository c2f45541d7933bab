use Rattle.qc_mailbox.proofs.Bounds.{calls_few, controls_within}
use Rattle.qc_mailbox.proofs.laws.trays_are_in_range.Goals as goal

pub returns : goal.returns
returns c = record { control = controls_within; calls = calls_few }
