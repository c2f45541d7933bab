use Rattle.std.proofs.Common.{◌≡◌, ◌-◌, ◌<◌, ℕ, Some, None, length, map, get_or, set, sym, ap, ◌∙◌, subst, arith}
use Rattle.qc_epoch.specs.Vocabulary.{taken_for}
use Rattle.qc_admin.specs.Vocabulary.{open_at, shown, waiting_in}
use Rattle.qc_admin.specs.declared.questions.Query.{Query}
use Rattle.qc_admin.proofs.Taken.{place_inside, taken_none, taken_some, waiting_less}
use Rattle.qc_admin.proofs.questions.Questions.take.Goals as goal

pub index_mut-requires : goal.index_mut-requires
index_mut-requires c =
    let qs = c.self.inside.queries.items in
    let inside : c.in-Some.place < length qs =
    place_inside c.self.inside.first c.args.number c.in-Some.place qs
    (sym (ap (λ items. open_at c.self.inside.first items c.args.number) c.as_slice.ensures.value)
    ∙ sym c.open_at.ensures ∙ c.in-Some.is) in
    subst (λ (n : ℕ). c.in-Some.place < n) (sym c.self.inside.queries.ok.0) inside

pub overflow_sub-self : goal.overflow_sub-self
overflow_sub-self c =
    let qs = c.self.inside.queries.items in
    let less = waiting_less c.self.inside.first c.args.number c.in-Some.place c.args.outcome c.index.result.now qs
    (sym (ap (λ items. open_at c.self.inside.first items c.args.number) c.as_slice.ensures.value)
    ∙ sym c.open_at.ensures ∙ c.in-Some.is) in
    let whole : c.self.inside.waiting ≡ waiting_in qs = c.self.invariant in
    omega (arith, less, whole)

pub invariant_of-self : goal.invariant_of-self
invariant_of-self c =
    let qs = c.self.inside.queries.items in
    let less = waiting_less c.self.inside.first c.args.number c.in-Some.place c.args.outcome c.index.result.now qs
    (sym (ap (λ items. open_at c.self.inside.first items c.args.number) c.as_slice.ensures.value)
    ∙ sym c.open_at.ensures ∙ c.in-Some.is) in
    let whole : c.self.inside.waiting ≡ waiting_in qs = c.self.invariant in
    let one_less : c.self.inside.waiting - 1 ≡ waiting_in
    (set qs c.in-Some.place (record (get_or qs c.in-Some.place c.index.result.now) { taken = Some c.args.outcome }))
    = omega (arith, less, whole) in
    one_less
    ∙ ap (λ (q : Query). waiting_in (set qs c.in-Some.place (record q { taken = Some c.args.outcome })))
    (sym c.index.ensures)

pub returns-in-Some : goal.returns-in-Some
returns-in-Some c =
    let qs = c.self.inside.queries.items in
    let found : open_at c.self.inside.first qs c.args.number ≡ Some c.in-Some.place =
    sym (ap (λ items. open_at c.self.inside.first items c.args.number) c.as_slice.ensures.value) ∙ sym c.open_at.ensures
    ∙ c.in-Some.is in
    ap (λ (q : Query). shown c.self.inside.first (set qs c.in-Some.place (record q { taken = Some c.args.outcome })))
    c.index.ensures
    ∙ sym (taken_some c.self.inside.first c.args.number c.in-Some.place c.args.outcome c.index.result.now qs found)
    ∙ ap (map (taken_for c.args.number c.args.outcome)) c.self.view_is

pub returns-in_default : goal.returns-in_default
returns-in_default c =
    let qs = c.self.inside.queries.items in
    let found : open_at c.self.inside.first qs c.args.number ≡ None =
    sym (ap (λ items. open_at c.self.inside.first items c.args.number) c.as_slice.ensures.value) ∙ sym c.open_at.ensures
    ∙ c.in_default.is in
    sym c.self.view_is
    ∙ sym (taken_none c.self.inside.first c.args.number c.args.outcome qs found)
    ∙ ap (map (taken_for c.args.number c.args.outcome)) c.self.view_is
