-- Two sets whose weights add to more than the weight of all sites share a site.
use Rattle.std.proofs.Common.{ℕ, suc, ◌+◌, ◌<◌, ◌≡◌, Bool, true, false, cond, List, [], ◌∷◌, length, refl, arith}
use Rattle.std.proofs.Common.{suc-le-suc, zero-lt-suc}
use Rattle.qc_plan.specs.Vocabulary.{IsShared, total, weight}

-- a site in common behind the first one
later : (w : ℕ) (ws : List ℕ) (a b : ℕ → Bool) → IsShared ws (λ k. a (suc k)) (λ k. b (suc k)) → IsShared (w ∷ ws) a b
later w ws a b s = record { site = suc s.site; within = suc-le-suc s.within; first = s.first; second = s.second }

abbrev AreMet : List ℕ → Type 0
AreMet ws = (a b : ℕ → Bool) → total ws < weight a ws + weight b ws → IsShared ws a b

-- one more site, by whether the two sets have it
meet_more : (w : ℕ) (ws : List ℕ) → AreMet ws → (a b : ℕ → Bool) (x y : Bool) → a 0 ≡ x → b 0 ≡ y
    → w + total ws < (cond x w 0 + weight (λ k. a (suc k)) ws) + (cond y w 0 + weight (λ k. b (suc k)) ws)
    → IsShared (w ∷ ws) a b
meet_more w ws met a b true true p q more = record { site = 0; within = zero-lt-suc (length ws); first = p; second = q }
meet_more w ws met a b true false p q more = later w ws a b (met (λ k. a (suc k)) (λ k. b (suc k)) (omega arith))
meet_more w ws met a b false true p q more = later w ws a b (met (λ k. a (suc k)) (λ k. b (suc k)) (omega arith))
meet_more w ws met a b false false p q more = later w ws a b (met (λ k. a (suc k)) (λ k. b (suc k)) (omega arith))

pub meet : (ws : List ℕ) → AreMet ws
meet [] a b more = absurd (omega arith)
meet (w ∷ ws) a b more = meet_more w ws (meet ws) a b (a 0) (b 0) refl refl more
