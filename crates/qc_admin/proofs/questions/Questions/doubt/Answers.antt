use Rattle.std.proofs.Common.{option_map, ap, ◌∙◌}
use Rattle.qc_epoch.specs.Vocabulary.{first_doubt}
use Rattle.qc_admin.specs.Vocabulary.{in_doubt, unasked}
use Rattle.qc_admin.proofs.Asked.{doubt_shown}
use Rattle.qc_admin.proofs.questions.Questions.doubt.Goals as goal

pub returns : goal.returns
returns c =
    c.doubt_in.ensures
    ∙ ap (λ qs. option_map in_doubt (first_doubt (unasked qs))) c.as_slice.ensures.value
    ∙ doubt_shown c.self.inside.first c.self.inside.queries.items
    ∙ ap (λ qs. option_map in_doubt (first_doubt qs)) c.self.view_is
