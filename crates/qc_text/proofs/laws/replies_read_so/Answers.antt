use Rattle.std.proofs.Common.{refl}
use Rattle.std.specs.Fmt.{digits}
use Rattle.qc_text.proofs.laws.replies_read_so.Goals as goal

pub returns-clause-began : goal.returns-clause-began
unfolding digits
returns-clause-began c decl command = refl

pub returns-clause-already : goal.returns-clause-already
unfolding digits
returns-clause-already c decl command = refl

pub returns-clause-conflict : goal.returns-clause-conflict
unfolding digits
returns-clause-conflict c decl command = refl

pub returns-clause-closed : goal.returns-clause-closed
unfolding digits
returns-clause-closed c decl command = refl

pub returns-clause-quorum : goal.returns-clause-quorum
unfolding digits
returns-clause-quorum c decl command = refl

pub returns-clause-committed : goal.returns-clause-committed
unfolding digits
returns-clause-committed c decl command = refl

pub returns-clause-restarted : goal.returns-clause-restarted
unfolding digits
returns-clause-restarted c decl command = refl

pub returns-clause-no_answer : goal.returns-clause-no_answer
unfolding digits
returns-clause-no_answer c decl command = refl

pub returns-clause-order : goal.returns-clause-order
unfolding digits
returns-clause-order c decl command = refl

pub returns-clause-in_doubt : goal.returns-clause-in_doubt
unfolding digits
returns-clause-in_doubt c decl command = refl

pub returns-clause-moved : goal.returns-clause-moved
unfolding digits
returns-clause-moved c decl command = refl

pub returns-clause-moved_nobody : goal.returns-clause-moved_nobody
unfolding digits
returns-clause-moved_nobody c decl command = refl
