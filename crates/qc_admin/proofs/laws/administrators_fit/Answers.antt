use Rattle.qc_admin.proofs.Fitting.{sent_fits, takes_fit}
use Rattle.qc_admin.proofs.laws.administrators_fit.Goals as goal

pub returns : goal.returns
returns c = record { new = tt; risen = λ records. tt; takes = takes_fit; sent = sent_fits }
