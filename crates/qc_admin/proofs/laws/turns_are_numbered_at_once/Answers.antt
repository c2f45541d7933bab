use Rattle.qc_admin.proofs.AtOnce.{takes_now}
use Rattle.qc_admin.proofs.laws.turns_are_numbered_at_once.Goals as goal

pub returns : goal.returns
returns c = record { new = λ decl. tt; risen = λ decl records. tt; takes = takes_now }
