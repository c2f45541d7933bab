use Rattle.laws_votes.proofs.Laws.{never_posted}
use Rattle.laws_votes.proofs.counted_votes.asked_sites_never_forget_through_falls.Goals as goal
use Rattle.qc_msg.specs.declared.message.Answer.TheVariants.{Behind, Stale}

pub returns-clause-stale : goal.returns-clause-stale
returns-clause-stale g c decl script h open_inputs accepted sound run kept few a client q vote site taken turn law p
    among is =
    never_posted g.C.ConductWithFalls.fits decl script h open_inputs accepted sound run kept few a client q vote site
    taken turn law p among Stale is tt

pub returns-clause-behind : goal.returns-clause-behind
returns-clause-behind g c decl script h open_inputs accepted sound run kept few a client q vote site taken turn law p
    among epoch is =
    never_posted g.C.ConductWithFalls.fits decl script h open_inputs accepted sound run kept few a client q vote site
    taken turn law p among (Behind epoch) is tt
