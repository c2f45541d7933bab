-- Requests by their numbers.
use Rattle.std.proofs.Common.{◌≡◌, ℕ, ◌==◌, ◌||◌, Bool, true, false, cond, not, List, [], ◌∷◌, ◌++◌, refl, ap}
use Rattle.std.proofs.lemmas.List.{map-append}
use Rattle.qc_script.specs.Vocabulary.{SentRequest, has_number, has_request, request_numbers, without_number}
use Rattle.qc_script.specs.Vocabulary.{without_request}

pub has-numbers : (rs : List SentRequest) (n : ℕ) → has_request rs n ≡ has_number (request_numbers rs) n
has-numbers [] n = refl
has-numbers (r ∷ rs) n = ap (λ (t : Bool). (r.number == n) || t) (has-numbers rs n)

pub without-numbers : (rs : List SentRequest) (n : ℕ)
    → request_numbers (without_request rs n) ≡ without_number (request_numbers rs) n
without-numbers [] n = refl
without-numbers (r ∷ rs) n = by (not (r.number == n)) (without-numbers rs n)
  where
    by : (t : Bool) → request_numbers (without_request rs n) ≡ without_number (request_numbers rs) n
        → request_numbers (cond t (r ∷ without_request rs n) (without_request rs n)) ≡ cond t
        (r.number ∷ without_number (request_numbers rs) n) (without_number (request_numbers rs) n)
    by true rest = ap (λ (ns : List ℕ). r.number ∷ ns) rest
    by false rest = rest

pub added-number : (rs : List SentRequest) (r : SentRequest)
    → request_numbers (rs ++ r ∷ []) ≡ request_numbers rs ++ r.number ∷ []
added-number rs r = map-append (λ (x : SentRequest). x.number) rs (r ∷ [])
