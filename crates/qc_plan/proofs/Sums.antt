-- Weights of the sites so far, one more site at a time.
use Rattle.std.proofs.Common.{◌≡◌, ℕ, suc, ◌+◌, ◌<◌, Bool, cond, List, [], ◌∷◌, ◌++◌, length, take, get_or, ap, ◌∙◌}
use Rattle.std.proofs.Common.{arith, length-take}
use Rattle.std.proofs.lemmas.List.{take_more}
use Rattle.qc_plan.specs.Vocabulary.{total, weight}

-- one more site at the end
weight_push : (ws : List ℕ) (w : ℕ) (sites : ℕ → Bool)
    → weight sites (ws ++ w ∷ []) ≡ weight sites ws + cond (sites (length ws)) w 0
weight_push [] w sites = omega arith
weight_push (v ∷ ws) w sites = ap (λ n. cond (sites 0) v 0 + n) (weight_push ws w (λ k. sites (suc k))) ∙ omega arith

total_push : (ws : List ℕ) (w : ℕ) → total (ws ++ w ∷ []) ≡ total ws + w
total_push [] w = omega arith
total_push (v ∷ ws) w = ap (λ n. v + n) (total_push ws w) ∙ omega arith

pub weight_more : (sites : ℕ → Bool) (ws : List ℕ) (n d : ℕ) → n < length ws
    → weight sites (take (n + 1) ws) ≡ weight sites (take n ws) + cond (sites n) (get_or ws n d) 0
weight_more sites ws n d l =
    let size : length (take n ws) ≡ n = simp length-take (omega arith) in
    ap (weight sites) (take_more ws n d l) ∙ weight_push (take n ws) (get_or ws n d) sites
    ∙ ap (λ k. weight sites (take n ws) + cond (sites k) (get_or ws n d) 0) size

pub total_more : (ws : List ℕ) (n d : ℕ) → n < length ws → total (take (n + 1) ws) ≡ total (take n ws) + get_or ws n d
total_more ws n d l = ap total (take_more ws n d l) ∙ total_push (take n ws) (get_or ws n d)
