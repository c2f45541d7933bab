use Rattle.std.proofs.Common.{Option, sym, ap, ◌∙◌, subst}
use Rattle.std.specs.Option.{option_copied}
use Rattle.qc_plan.specs.Vocabulary.{RoundState, note}
use Rattle.qc_plan.specs.declared.standing.Standing.{Standing}
use Rattle.qc_epoch.specs.Vocabulary.{ShutSite}
use Rattle.qc_admin.specs.Vocabulary.{ShutsFit, closing_of, with_last}
use Rattle.qc_admin.proofs.Moves.{answered_on, last_fits}
use Rattle.qc_admin.proofs.closing.Closing.answer.Goals as goal

pub go_on-requires-clause-fit : goal.go_on-requires-clause-fit
go_on-requires-clause-fit c =
    let fits = c.requires.fits in
    subst (λ (shut : Option ShutSite). ShutsFit (with_last c.args.self.now.shuts shut)) (sym c.in_ok-shut.ensures)
    (last_fits c.args.self.now.shuts c.in-Some.site (option_copied c.args.answer) fits.1 c.requires.answer)

pub returns-clause-ok : goal.returns-clause-ok
returns-clause-ok c =
    answered_on c.args.decl.now c.go_on.result c.args.self.now c.in-Some.site c.args.number
    (option_copied c.args.answer)
    c.without_call-calls.result c.note.new.self c.in_ok-shut.shut (closing_of c.go_on.new.self)
    (sym c.site_called.ensures ∙ c.in-Some.is)
    c.without_call-calls.ensures
    (c.note.ensures
    ∙ ap (λ (r : RoundState). note r c.in-Some.site c.standing_of.result) c.in_ok-round.ensures
    ∙ ap (λ (s : Standing). note c.args.self.now.round c.in-Some.site s) c.standing_of.ensures)
    c.in_ok-shut.ensures
    c.go_on.ensures.ok
