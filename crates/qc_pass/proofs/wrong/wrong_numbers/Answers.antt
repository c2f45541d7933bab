use Rattle.qc_pass.proofs.WrongStates.{entry_not_made, pass_not_made, second_pass}
use Rattle.qc_pass.proofs.wrong.wrong_numbers.Goals as goal

pub returns-clause-second : goal.returns-clause-second
returns-clause-second g c = second_pass

pub returns-clause-pass_not_made : goal.returns-clause-pass_not_made
returns-clause-pass_not_made g c = pass_not_made

pub returns-clause-entry_not_made : goal.returns-clause-entry_not_made
returns-clause-entry_not_made g c = entry_not_made
