use Rattle.std.proofs.Common.{List, sym, ap, ◌∙◌, subst}
use Rattle.qc_plan.specs.declared.standing.Asked.{Asked}
use Rattle.qc_epoch.specs.Vocabulary.{ShutSite, in_asked_order}
use Rattle.qc_admin.specs.Vocabulary.{ShutsFit, closing_of, with_last}
use Rattle.qc_admin.proofs.Moves.{closed_met, ordered_fit}
use Rattle.qc_admin.proofs.closing.Closing.go_on.Goals as goal

pub ask-requires-clause-fit : goal.ask-requires-clause-fit
ask-requires-clause-fit c =
    let all : List ShutSite = with_last c.args.self.now.shuts c.args.shut in
    subst ShutsFit (sym c.in_ok-shuts-in-Met.ensures) (ordered_fit c.asked_sites.result.now all c.requires.fit)

pub returns-in_ok-shuts-in-Met-clause-ok : goal.returns-in_ok-shuts-in-Met-clause-ok
returns-in_ok-shuts-in-Met-clause-ok c =
    let all : List ShutSite = with_last c.args.self.now.shuts c.args.shut in
    closed_met c.args.decl.now c.ask.result c.args.self.now c.args.calls c.args.round all c.in_ok-shuts-in-Met.shuts
    (closing_of c.args.self.now)
    (sym c.verdict.ensures ∙ c.in-Met.is)
    (c.in_ok-shuts-in-Met.ensures ∙ ap (λ (asked : List Asked). in_asked_order asked all) c.asked_sites.ensures)
    c.ask.ensures
