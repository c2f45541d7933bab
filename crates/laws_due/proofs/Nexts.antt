-- The first site that a round wants is the next to be asked, and once it is asked the round wants the others.
use Rattle.std.proofs.Common.{◌≡◌, ◌≤◌, ℕ, zero, suc, Bool, true, false, cond, List, [], ◌∷◌, ◌++◌, length, drop}
use Rattle.std.proofs.Common.{Option, Some, None, refl, sym, ap, ◌∙◌, arith}
use Rattle.qc_plan.specs.Vocabulary.{RoundState, asking_first, asking_in_turn, asking_next, asking_on, first, may_ask}
use Rattle.qc_plan.specs.Vocabulary.{next_site, wanted}
use Rattle.qc_plan.proofs.Rounds.{sites_are_asked_one_by_one}

-- a round's one site more
abbrev pub asking_one : RoundState → ℕ → RoundState
asking_one r site = record r { asked = r.asked ++ record { site = site; standing = None } ∷ []; rest = drop 1 r.rest }

next_parts : (r : RoundState) (site : ℕ) → next_site r ≡ Some site → (may_ask r ≡ true) × (first r.rest ≡ Some site)
next_parts r site is = by (may_ask r) refl is
  where
    by : (b : Bool) → may_ask r ≡ b → cond b (first r.rest) None ≡ Some site
        → (may_ask r ≡ true) × (first r.rest ≡ Some site)
    by true e next = (e, next)
    by false e next = absurd (let never : ⊥ = cc in never)

asking_is : (r : RoundState) (site : ℕ) → next_site r ≡ Some site → asking_next r ≡ asking_one r site
asking_is r site is =
    let parts : (may_ask r ≡ true) × (first r.rest ≡ Some site) = next_parts r site is in
    ap (λ (b : Bool). cond b (asking_first r r.rest) r) parts.0 ∙ by r.rest parts.1
  where
    by : (rest : List ℕ) → first rest ≡ Some site
        → asking_first r rest ≡ record r {
          asked = r.asked ++ record { site = site; standing = None } ∷ [];
          rest = drop 1 rest;
        }
    by [] e = absurd (let never : ⊥ = cc in never)
    by (x ∷ rest) e = let same : x ≡ site = cc in
        ap (λ (k : ℕ). record r { asked = r.asked ++ record { site = k; standing = None } ∷ []; rest = rest }) same

fewer : (n : ℕ) (xs : List ℕ) → length xs ≤ suc n → length (drop 1 xs) ≤ n
fewer n [] low = omega arith
fewer n (x ∷ xs) low = omega arith

pub first_wanted : (r : RoundState) (site : ℕ) (sites : List ℕ) → wanted r ≡ site ∷ sites
    → (next_site r ≡ Some site) × (wanted (asking_one r site) ≡ sites)
first_wanted r site sites is = by (length r.rest) (let same : length r.rest ≡ length r.rest = refl in omega arith)
  where
    by : (n : ℕ) → length r.rest ≤ n → (next_site r ≡ Some site) × (wanted (asking_one r site) ≡ sites)
    by zero low =
        absurd
        (let none : [] ≡ site ∷ sites =
        ap (λ (p : List ℕ × RoundState). p.0) (sites_are_asked_one_by_one zero r low) ∙ is in
        let never : ⊥ = cc in never)
    by (suc n) low =
        at (next_site r) refl (ap (λ (p : List ℕ × RoundState). p.0) (sites_are_asked_one_by_one (suc n) r low) ∙ is)
      where
        at : (o : Option ℕ) → next_site r ≡ o → (asking_on r o (asking_next r) (asking_in_turn n)).0 ≡ site ∷ sites
            → (next_site r ≡ Some site) × (wanted (asking_one r site) ≡ sites)
        at None e first_is = absurd (let never : ⊥ = cc in never)
        at (Some s) e first_is =
            let same : s ≡ site = cc in
            let rest_is : (asking_in_turn n (asking_next r)).0 ≡ sites = cc in
            let next_is : next_site r ≡ Some site = e ∙ ap (λ (k : ℕ). Some k) same in
            let asked : asking_next r ≡ asking_one r site = asking_is r site next_is in
            let low_now : length (asking_one r site).rest ≤ n = fewer n r.rest low in (
              next_is,
              sym (ap (λ (p : List ℕ × RoundState). p.0) (sites_are_asked_one_by_one n (asking_one r site) low_now))
                  ∙ ap (λ (q : RoundState). (asking_in_turn n q).0) (sym asked) ∙ rest_is,
            )
