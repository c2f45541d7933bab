use Rattle.laws_votes.proofs.EpochLaw.{begun_in, one_epoch}
use Rattle.laws_votes.proofs.epochs.transactions_ask_in_one_epoch.Goals as goal

pub returns-clause-one : goal.returns-clause-one
returns-clause-one g c decl script h open_inputs accepted sound run kept =
    one_epoch g.C.ConductWithFalls.fits decl script h open_inputs accepted sound run kept

pub returns-clause-begun : goal.returns-clause-begun
returns-clause-begun g c decl script h open_inputs accepted sound run kept =
    begun_in g.C.ConductWithFalls.fits decl script h open_inputs accepted sound run kept
