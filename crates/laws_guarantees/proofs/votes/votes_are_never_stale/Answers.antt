use Rattle.laws_guarantees.proofs.Remembered.{counted_remembered, never_told}
use Rattle.laws_guarantees.proofs.votes.votes_are_never_stale.Goals as goal
use Rattle.qc_msg.specs.declared.message.Answer.TheVariants.{Stale, Behind}

pub returns-clause-stale : goal.returns-clause-stale
returns-clause-stale c decl script h open_inputs a q accepted sound run few client among want taken =
    counted_remembered decl script accepted sound h open_inputs run few a q Stale client (among, want, taken) tt

pub returns-clause-behind : goal.returns-clause-behind
returns-clause-behind c decl script h open_inputs a q epoch accepted sound run few client among want taken =
    counted_remembered decl script accepted sound h open_inputs run few a q (Behind epoch) client
    (among, want, taken) tt

pub returns-clause-told : goal.returns-clause-told
returns-clause-told c decl script h open_inputs a site accepted sound run few told =
    never_told decl script accepted sound h open_inputs run few a site told
