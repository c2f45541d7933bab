use Rattle.std.proofs.Common.{◌≡◌, ℕ, true, false, List, Option, Some, None, is_some, refl, sym, ap, ◌∙◌}
use Rattle.qc_epoch.specs.Vocabulary.{Question}
use Rattle.qc_admin.specs.Vocabulary.{shown, with_numbers}
use Rattle.qc_admin.specs.declared.questions.Query.{Query}
use Rattle.qc_admin.proofs.Numbers.{numbers_shown, numbers_stay}
use Rattle.qc_admin.proofs.questions.Questions.sent.Goals as goal

unnumbered : (o : Option ℕ) → is_some o ≡ false → o ≡ None
unnumbered None is = refl
unnumbered (Some n) is = absurd (let never : ⊥ = cc in never)

stays : (o : Option ℕ) (first : ℕ) (qs : List Query) → is_some o ≡ true → shown o qs ≡ with_numbers (shown o qs) first
stays None first qs is = absurd (let never : ⊥ = cc in never)
stays (Some n) first qs is = numbers_stay n first qs

pub returns-then-is_none : goal.returns-then-is_none
returns-then-is_none c =
    let none : c.self.inside.first ≡ None = unnumbered c.self.inside.first c.if-is_none.ensures in
    numbers_shown c.args.first c.self.inside.queries.items
    ∙ ap (λ (o : Option ℕ). with_numbers (shown o c.self.inside.queries.items) c.args.first) (sym none)
    ∙ ap (λ (qs : List Question). with_numbers qs c.args.first) c.self.view_is

pub returns-else-is_none : goal.returns-else-is_none
returns-else-is_none c =
    sym c.self.view_is
    ∙ stays c.self.inside.first c.args.first c.self.inside.queries.items c.if-is_none.ensures
    ∙ ap (λ (qs : List Question). with_numbers qs c.args.first) c.self.view_is
