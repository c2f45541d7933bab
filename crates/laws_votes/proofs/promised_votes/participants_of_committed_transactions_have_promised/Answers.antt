use Rattle.laws_votes.proofs.Promising.{participants_of_committed_transactions_have_promised}
use Rattle.laws_votes.proofs.promised_votes.participants_of_committed_transactions_have_promised.Goals as goal

pub returns : goal.returns
returns g c decl script h open_inputs accepted sound run kept commit listed =
    participants_of_committed_transactions_have_promised g.C.ConductWithFalls.fits decl script h open_inputs accepted
    sound run kept commit listed
