use Rattle.std.proofs.Common.{ap, ◌∙◌}
use Rattle.qc_admin.specs.Vocabulary.{latest_of, unasked}
use Rattle.qc_admin.proofs.Asked.{latest_shown}
use Rattle.qc_admin.proofs.questions.Questions.latest.Goals as goal

pub returns : goal.returns
returns c =
    c.latest_in.ensures
    ∙ ap (λ qs. latest_of c.args.clock (unasked qs)) c.as_slice.ensures.value
    ∙ latest_shown c.self.inside.first c.args.clock c.self.inside.queries.items
    ∙ ap (latest_of c.args.clock) c.self.view_is
