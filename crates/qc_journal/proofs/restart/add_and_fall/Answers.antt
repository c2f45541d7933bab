use Rattle.std.proofs.lemmas.Result.{IfOk-weaker, IfErr-weaker}
use Rattle.qc_journal.specs.Vocabulary.{lists}
use Rattle.qc_journal.proofs.Again.{read_again, never_torn}
use Rattle.qc_journal.proofs.restart.add_and_fall.Goals as goal

pub returns-clause-kept : goal.returns-clause-kept
returns-clause-kept g c bodies rests =
    IfOk-weaker c.open.result _ _
    (λ r opened. read_again bodies c.args.body.now (lists r.1.items) r.0.end _ _ _ _
    (c.append-added.ensures.moments bodies rests) c.fell.ensures.moments opened)
    c.open.ensures.opened

pub returns-clause-whole : goal.returns-clause-whole
returns-clause-whole g c bodies rests =
    IfErr-weaker c.open.result _ _
    (λ e torn offset is. never_torn bodies c.args.body.now offset _ _ _ _
    (c.append-added.ensures.moments bodies rests) c.fell.ensures.moments (torn offset is))
    c.open.ensures.torn
