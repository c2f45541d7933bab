use Rattle.laws_votes.proofs.EpochLaw.{sees_earlier, stamped_before_later}
use Rattle.laws_votes.proofs.epochs.later_epochs_follow_earlier_ones_through_falls.Goals as goal

pub returns-clause-readers : goal.returns-clause-readers
returns-clause-readers g c decl script h open_inputs accepted sound run kept =
    sees_earlier g.C.ConductWithFalls.fits decl script h open_inputs accepted sound run kept

pub returns-clause-writers : goal.returns-clause-writers
returns-clause-writers g c decl script h open_inputs accepted sound run kept =
    stamped_before_later g.C.ConductWithFalls.fits decl script h open_inputs accepted sound run kept
