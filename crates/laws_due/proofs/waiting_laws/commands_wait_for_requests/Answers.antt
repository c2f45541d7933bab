use Rattle.laws_due.proofs.Awaits.{commands_wait_for_requests}
use Rattle.laws_due.proofs.waiting_laws.commands_wait_for_requests.Goals as goal

pub returns : goal.returns
returns c = commands_wait_for_requests
