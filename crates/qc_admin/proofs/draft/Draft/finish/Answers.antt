use Rattle.std.proofs.Common.{◌≡◌, ℕ, zero, suc, length, take, List, [], ◌∷◌, None, Option, is_none, cond, sym, ap, ◌∙◌}
use Rattle.std.proofs.Common.{arith}
use Rattle.std.specs.List.{AllByRecursion as Every, count_by}
use Rattle.std.specs.Prelude.{min}
use Rattle.std.proofs.lemmas.List.Sums.{sum_by-cons}
use Rattle.qc_msg.specs.declared.message.Outcome.{Outcome}
use Rattle.qc_epoch.specs.Vocabulary.{most_asks}
use Rattle.qc_admin.specs.declared.questions.Query.{Query}
use Rattle.qc_admin.proofs.draft.Draft.finish.Goals as goal

-- of new questions all wait
all_wait : (n : ℕ) (qs : List Query) → Every (λ (q : Query). q.taken ≡ None) qs
    → count_by (λ (q : Query). is_none q.taken) (take n qs) ≡ min (length qs) n
all_wait zero qs fresh = omega arith
all_wait (suc n) [] fresh = omega arith
all_wait (suc n) (q ∷ qs) fresh =
    let rest = all_wait n qs fresh.1 in
    let more = sum_by-cons (λ (x : Query). cond (is_none x.taken) 1 0) q (take n qs) in
    let here : ◌≡◌ {A = ℕ} (cond (is_none q.taken) 1 0) 1 =
    ap (λ (o : Option (Option Outcome)). cond (is_none o) 1 0) fresh.0 in
    omega (arith, rest, more, here)

pub invariant_of-result : goal.invariant_of-result
invariant_of-result c =
    c.min-waiting.ensures ∙ ap (λ (n : ℕ). min n most_asks) (c.len.ensures ∙ c.self.inside.queries.ok.0)
    ∙ sym (all_wait most_asks c.self.inside.queries.items c.self.invariant.fresh)
