use Rattle.std.proofs.Common.{refl}
use Rattle.std.specs.Fmt.{digits}
use Rattle.qc_text.proofs.laws.sites_read_so.Goals as goal

pub returns-clause-began : goal.returns-clause-began
unfolding digits
returns-clause-began c = refl

pub returns-clause-fell : goal.returns-clause-fell
unfolding digits
returns-clause-fell c = refl

pub returns-clause-another_fell : goal.returns-clause-another_fell
unfolding digits
returns-clause-another_fell c = refl

pub returns-clause-damaged : goal.returns-clause-damaged
unfolding digits
returns-clause-damaged c = refl

pub returns-clause-rose : goal.returns-clause-rose
unfolding digits
returns-clause-rose c = refl

pub returns-clause-fell_again : goal.returns-clause-fell_again
unfolding digits
returns-clause-fell_again c = refl

pub returns-clause-closed : goal.returns-clause-closed
unfolding digits
returns-clause-closed c = λ tx lock. refl

pub returns-clause-installed : goal.returns-clause-installed
unfolding digits
returns-clause-installed c = λ tx lock line. refl
