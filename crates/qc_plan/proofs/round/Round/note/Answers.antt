use Rattle.std.proofs.Common.{◌≡◌, sym, ◌∙◌, ap, take}
use Rattle.qc_plan.specs.Vocabulary.{RoundState, note, place_in}
use Rattle.qc_plan.proofs.Rounds.{note_some, note_none}
use Rattle.qc_plan.proofs.round.Round.note.Goals as goal

pub returns-then-place-self : goal.returns-then-place-self
returns-then-place-self c =
    let inside = c.self.inside in
    let here : c.asked_sites.result.now ≡ take c.self.inside.asked c.self.inside.sites.items = c.asked_sites.ensures
    ∙ ap (λ (r : RoundState). r.asked) (sym c.self.view_is) in
    let place : c.place_of-place.result ≡ place_in c.args.site (take c.self.inside.asked c.self.inside.sites.items) =
    c.place_of-place.ensures.place ∙ ap (place_in c.args.site) here in
    note_some inside.weights inside.need inside.sites.items inside.asked c.place_of-place.result c.args.site
    c.args.standing c.if-place-self.true place
    ∙ ap (λ (r : RoundState). note r c.args.site c.args.standing) c.self.view_is

pub returns-else-place-self : goal.returns-else-place-self
returns-else-place-self c =
    let inside = c.self.inside in
    let here : c.asked_sites.result.now ≡ take c.self.inside.asked c.self.inside.sites.items = c.asked_sites.ensures
    ∙ ap (λ (r : RoundState). r.asked) (sym c.self.view_is) in
    let place : c.place_of-place.result ≡ place_in c.args.site (take c.self.inside.asked c.self.inside.sites.items) =
    c.place_of-place.ensures.place ∙ ap (place_in c.args.site) here in
    sym c.self.view_is
    ∙ note_none inside.weights inside.need inside.sites.items inside.asked c.place_of-place.result c.args.site
    c.args.standing _ c.if-place-self.false place
    ∙ ap (λ (r : RoundState). note r c.args.site c.args.standing) c.self.view_is
