-- Requests in a queue, one after another; and control lines that are passed over.
use Rattle.std.proofs.Common.{◌≡◌, ℕ, ◌+◌, ◌≤◌, ◌==◌, Bool, true, false, cond, not, List, [], ◌∷◌, length, refl, ap}
use Rattle.std.proofs.Common.{arith}
use Rattle.std.specs.Prelude.{drop, filter}
use Rattle.qc_msg.specs.declared.step.Control.{Control}
use Rattle.qc_script.specs.Vocabulary.{SentRequest, acting, does_nothing, requests_to, requests_to_others}
use Rattle.qc_script.specs.Vocabulary.{without_request}
use Rattle.qc_mailbox.specs.Vocabulary.{asked, first_does_nothing}
use Rattle.qc_mailbox.specs.declared.asked.Asked.{Asked}

pub asked-without : (rs : List Asked) (n : ℕ)
    → asked (filter (λ (r : Asked). not (r.number == n)) rs) ≡ without_request (asked rs) n
asked-without [] n = refl
asked-without (r ∷ rs) n = by (not (r.number == n)) (asked-without rs n)
  where
    by : (t : Bool) → asked (filter (λ (x : Asked). not (x.number == n)) rs) ≡ without_request (asked rs) n
        → asked (cond t (r ∷ filter (λ (x : Asked). not (x.number == n)) rs)
        (filter (λ (x : Asked). not (x.number == n)) rs)) ≡ cond t
        (record { number = r.number; to = r.to } ∷ without_request (asked rs) n) (without_request (asked rs) n)
    by true rest = ap (λ (xs : List SentRequest). record { number = r.number; to = r.to } ∷ xs) rest
    by false rest = rest

pub asked-others : (rs : List Asked) (a : ℕ)
    → asked (filter (λ (r : Asked). not (r.to == a)) rs) ≡ requests_to_others a (asked rs)
asked-others [] a = refl
asked-others (r ∷ rs) a = by (not (r.to == a)) (asked-others rs a)
  where
    by : (t : Bool) → asked (filter (λ (x : Asked). not (x.to == a)) rs) ≡ requests_to_others a (asked rs)
        → asked (cond t (r ∷ filter (λ (x : Asked). not (x.to == a)) rs) (filter (λ (x : Asked). not (x.to == a)) rs))
        ≡ cond t (record { number = r.number; to = r.to } ∷ requests_to_others a (asked rs))
        (requests_to_others a (asked rs))
    by true rest = ap (λ (xs : List SentRequest). record { number = r.number; to = r.to } ∷ xs) rest
    by false rest = rest

-- each request is to the actor or to another
pub parts : (rs : List SentRequest) (a : ℕ) → length (requests_to a rs) + length (requests_to_others a rs) ≡ length rs
parts [] a = refl
parts (r ∷ rs) a = by (r.to == a) (parts rs a)
  where
    by : (t : Bool) → length (requests_to a rs) + length (requests_to_others a rs) ≡ length rs
        → length (cond t (r ∷ requests_to a rs) (requests_to a rs)) + length
        (cond (not t) (r ∷ requests_to_others a rs) (requests_to_others a rs)) ≡ length (r ∷ rs)
    by true rest = omega (arith, rest)
    by false rest = omega (arith, rest)

pub length-asked : (rs : List Asked) → length (asked rs) ≡ length rs
length-asked [] = refl
length-asked (r ∷ rs) = let rest : length (asked rs) ≡ length rs = length-asked rs in omega (arith, rest)

pub few_to : (rs : List Asked) (a : ℕ) → length (requests_to a (asked rs)) ≤ length rs
few_to rs a =
    let both : length (requests_to a (asked rs)) + length (requests_to_others a (asked rs)) ≡ length (asked rs) =
    parts (asked rs) a in
    let all : length (asked rs) ≡ length rs = length-asked rs in
    omega (arith, both, all)

-- control lines

pub acting_past : (up : List Bool) (cs : List Control) → first_does_nothing up cs ≡ true
    → acting up (drop 1 cs) ≡ acting up cs
acting_past up [] is = refl
acting_past up (c ∷ cs) is = by (does_nothing up c) is
  where
    by : (t : Bool) → t ≡ true → acting up cs ≡ cond t (acting up cs) (c ∷ cs)
    by true is = refl
    by false is = absurd (let never : ⊥ = cc in never)

pub acting_now : (up : List Bool) (cs : List Control) → first_does_nothing up cs ≡ false → cs ≡ acting up cs
acting_now up [] is = refl
acting_now up (c ∷ cs) is = by (does_nothing up c) is
  where
    by : (t : Bool) → t ≡ false → (c ∷ cs) ≡ cond t (acting up cs) (c ∷ cs)
    by true is = absurd (let never : ⊥ = cc in never)
    by false is = refl
