use Rattle.laws_votes.proofs.Laws.{fits_free, fits_taken}
use Rattle.laws_votes.proofs.counted_votes.promises_of_running_transactions_fit.Goals as goal

pub returns-clause-free : goal.returns-clause-free
returns-clause-free g c decl script h open_inputs accepted sound run kept few a client t begun site is up free =
    fits_free g.C.ConductWithFalls.fits decl script h open_inputs accepted sound run kept few a client t begun site is
    up free

pub returns-clause-taken : goal.returns-clause-taken
returns-clause-taken g c decl script h open_inputs accepted sound run kept few a client t begun site is up taken before
    input same =
    fits_taken g.C.ConductWithFalls.fits decl script h open_inputs accepted sound run kept few a client t begun site is
    up taken before input same
