use Rattle.laws_atomic.proofs.Runs.{apart, one_copy}
use Rattle.laws_atomic.proofs.atomic.runs_are_one_copy.Goals as goal

pub returns-clause-one_copy : goal.returns-clause-one_copy
returns-clause-one_copy c decl script h open_inputs accepted sound run =
    one_copy decl script h open_inputs accepted sound run

pub returns-clause-apart : goal.returns-clause-apart
returns-clause-apart c decl script h open_inputs accepted sound run = apart decl script h open_inputs accepted sound run
