use Rattle.laws_due.proofs.Awaits.{told_absent, told_response}
use Rattle.laws_due.proofs.waiting_laws.granted_dos_are_answered.Goals as goal

pub returns : goal.returns
returns c = record { absent = told_absent; response = told_response }
