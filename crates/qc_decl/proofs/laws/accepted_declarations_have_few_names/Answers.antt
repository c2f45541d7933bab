use Rattle.qc_decl.proofs.AcceptedNames.{accepted_declarations_have_few_names}
use Rattle.qc_decl.proofs.laws.accepted_declarations_have_few_names.Goals as goal

pub returns : goal.returns
returns c = accepted_declarations_have_few_names
