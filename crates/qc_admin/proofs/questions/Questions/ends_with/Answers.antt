use Rattle.std.proofs.Common.{◌≡◌, ◌==◌, ℕ, suc, List, Some, None, map, get_or, set, Bool, true, false, refl, sym, ap}
use Rattle.std.proofs.Common.{◌∙◌, eqb-true, arith}
use Rattle.std.proofs.lemmas.Bool.{eq-eqb, ne_eqb}
use Rattle.qc_epoch.specs.Vocabulary.{all_taken, taken_for}
use Rattle.qc_admin.specs.Vocabulary.{open_at, waiting_in}
use Rattle.qc_admin.specs.declared.questions.Query.{Query}
use Rattle.qc_admin.proofs.Taken.{all_shown, taken_none, taken_some, waiting_less}
use Rattle.qc_admin.proofs.questions.Questions.ends_with.Goals as goal

one_is : (n m : ℕ) → n ≡ suc m → (n == 1) ≡ (m == 0)
one_is n m is = by (m == 0) refl
  where
    by : (b : Bool) → (m == 0) ≡ b → (n == 1) ≡ b
    by true none = let zero_is : m ≡ 0 = eqb-true m 0 none in eq-eqb n 1 (omega arith)
    by false some = ne_eqb n 1 (λ e. absurd (let is_zero : (m == 0) ≡ true = eq-eqb m 0 (omega arith) in
        let never : ⊥ = cc in never))

nobody : Query
nobody = record { tx = record { client = 0; life = 0; number = 0 }; site = 0; taken = None }

pub returns-in-Some : goal.returns-in-Some
returns-in-Some c outcome =
    let qs = c.self.inside.queries.items in
    let place = c.in-Some.field-0 in
    let found : open_at c.self.inside.first qs c.args.number ≡ Some place =
    sym (ap (λ items. open_at c.self.inside.first items c.args.number) c.as_slice.ensures.value) ∙ sym c.open_at.ensures
    ∙ c.in-Some.is in
    let after : List Query = set qs place (record (get_or qs place nobody) { taken = Some outcome }) in
    one_is c.self.inside.waiting (waiting_in after)
    (c.self.invariant ∙ waiting_less c.self.inside.first c.args.number place outcome nobody qs found)
    ∙ sym (all_shown c.self.inside.first after)
    ∙ ap all_taken (sym (taken_some c.self.inside.first c.args.number place outcome nobody qs found)
    ∙ ap (map (taken_for c.args.number outcome)) c.self.view_is)

pub returns-in-None : goal.returns-in-None
returns-in-None c outcome =
    let qs = c.self.inside.queries.items in
    let found : open_at c.self.inside.first qs c.args.number ≡ None =
    sym (ap (λ items. open_at c.self.inside.first items c.args.number) c.as_slice.ensures.value) ∙ sym c.open_at.ensures
    ∙ c.in-None.is in
    ap (λ (n : ℕ). n == 0) c.self.invariant
    ∙ sym (all_shown c.self.inside.first qs)
    ∙ ap all_taken (sym (taken_none c.self.inside.first c.args.number outcome qs found)
    ∙ ap (map (taken_for c.args.number outcome)) c.self.view_is)
