-- What stays as the administrator takes something for a request: its number; and where all questions are answered, all
-- requests are.
use Rattle.std.proofs.Common.{◌≡◌, ◌<◌, ◌≤◌, ℕ, zero, suc, ◌==◌, ◌&&◌, Bool, true, false, cond, List, [], ◌∷◌, length}
use Rattle.std.proofs.Common.{take, Option, Some, None, option_map, refl, sym, subst, arith}
use Rattle.std.specs.Prelude.{is_none, is_some}
use Rattle.std.specs.List.{AllByRecursion as Every, list_all}
use Rattle.qc_msg.specs.declared.message.Answer.{Answer}
use Rattle.qc_promise.specs.Vocabulary.{AdminRequest, Promised}
use Rattle.qc_epoch.specs.Vocabulary.{Question, outcome_in}
use Rattle.laws_due.specs.Vocabulary.{AreApart}
use Rattle.laws_due.proofs.AdminRequests.{all_taken, map_taken, takes, took}
use Rattle.laws_due.proofs.AdminStages.{Numbered}
use Rattle.laws_due.proofs.AdminQuestions.{AreAbout, asked_of}

-- numbers stay as something is taken

pub numbered_taken : (number : ℕ) (answer : Option Answer) (n : ℕ) (qs : List AdminRequest) → Numbered n qs
    → Numbered n (takes number answer qs)
numbered_taken number answer n qs numbers = record {
  below = by qs numbers.below;
  apart = subst AreApart (sym (map_taken number answer (λ (q : AdminRequest). q.number) (λ q. refl) qs)) numbers.apart;
}
  where
    one : (q : AdminRequest) → q.number < n → (b : Bool) → (cond b (took q answer) q).number < n
    one q low true = low
    one q low false = low

    by : (xs : List AdminRequest) → Every (λ (q : AdminRequest). q.number < n) xs
        → Every (λ (q : AdminRequest). q.number < n) (takes number answer xs)
    by [] all = tt
    by (q ∷ xs) all = (one q all.0 ((q.number == number) && is_none q.taken), by xs all.1)

-- where all questions that were asked are answered, so are the requests

pub asked_all_taken : (n : ℕ) (ps : List Promised) (qs : List AdminRequest) → length qs ≤ n → AreAbout ps qs
    → list_all (λ (x : Question). is_some x.taken) (take n (asked_of ps qs)) ≡ true → all_taken qs ≡ true
asked_all_taken n ps [] low are all = refl
asked_all_taken n [] (q ∷ qs) low are all = absurd are
asked_all_taken zero (p ∷ ps) (q ∷ qs) low are all = absurd (omega (arith, low))
asked_all_taken (suc n) (p ∷ ps) (q ∷ qs) low are all =
    by q.taken refl all (asked_all_taken n ps qs (omega (arith, low)) are.1)
  where
    by : (t : Option (Option Answer)) → q.taken ≡ t
        → (is_some (option_map outcome_in t) && list_all (λ (x : Question). is_some x.taken) (take n (asked_of ps qs)))
        ≡ true
        → (list_all (λ (x : Question). is_some x.taken) (take n (asked_of ps qs)) ≡ true → all_taken qs ≡ true)
        → (is_some q.taken && all_taken qs) ≡ true
    by None is e more = absurd (let never : ⊥ = cc in never)
    by (Some a) is e more = rw is (more e)
