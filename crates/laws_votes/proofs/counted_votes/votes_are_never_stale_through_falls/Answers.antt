use Rattle.laws_votes.proofs.Laws.{never_counted, never_said}
use Rattle.laws_votes.proofs.counted_votes.votes_are_never_stale_through_falls.Goals as goal
use Rattle.qc_msg.specs.declared.message.Answer.TheVariants.{Behind, Stale}

pub returns-clause-stale : goal.returns-clause-stale
returns-clause-stale g c decl script h open_inputs accepted sound run kept few a client q among want taken =
    never_counted g.C.ConductWithFalls.fits decl script h open_inputs accepted sound run kept few a client q among want
    Stale taken tt

pub returns-clause-behind : goal.returns-clause-behind
returns-clause-behind g c decl script h open_inputs accepted sound run kept few a client q among want epoch taken =
    never_counted g.C.ConductWithFalls.fits decl script h open_inputs accepted sound run kept few a client q among want
    (Behind epoch) taken tt

pub returns-clause-told : goal.returns-clause-told
returns-clause-told g c decl script h open_inputs accepted sound run kept few a site told =
    never_said g.C.ConductWithFalls.fits decl script h open_inputs accepted sound run kept few a site told
