use Rattle.qc_msg.specs.declared.message.Answer.TheVariants.{Behind, Stale}
use Rattle.laws_votes.proofs.Answering.{never_forgotten}
use Rattle.laws_votes.proofs.asked_votes.asked_sites_remember_through_falls.Goals as goal

pub returns-clause-stale : goal.returns-clause-stale
returns-clause-stale g c decl script h open_inputs accepted sound run kept a client t begun q k site is_site taken up
    before input deeds_are turn law fit p among is =
    never_forgotten g.C.ConductWithFalls.fits decl script h open_inputs accepted sound run kept a client t begun q k
    site is_site taken up before input deeds_are turn law fit p Stale among is tt

pub returns-clause-behind : goal.returns-clause-behind
returns-clause-behind g c decl script h open_inputs accepted sound run kept a client t begun q k site is_site taken up
    before input deeds_are turn law fit p among epoch is =
    never_forgotten g.C.ConductWithFalls.fits decl script h open_inputs accepted sound run kept a client t begun q k
    site is_site taken up before input deeds_are turn law fit p (Behind epoch) among is tt
