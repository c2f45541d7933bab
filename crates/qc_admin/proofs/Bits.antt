-- Sites as a set: of what is open, each site has its own bit.
use Rattle.std.proofs.Common.{◌≡◌, ℕ, ◌+◌, ◌^◌, ◌≤◌, ◌<◌, ◌==◌, Bool, true, false, cond, not, List, [], ◌∷◌, ◌++◌, drop}
use Rattle.std.proofs.Common.{get_or, length, Some, option_map, refl, ap, arith}
use Rattle.std.specs.List.{find}
use Rattle.std.specs.Prelude.{nat_lt}
use Rattle.std.proofs.Math.Nat.{pow-le-pow_right}
use Rattle.std.proofs.lemmas.Bool.{ltb-false, ltb-true}
use Rattle.std.proofs.lemmas.List.Sums.{sum_by-append, sum_by-cons, sum_by-drop_more}
use Rattle.qc_msg.specs.declared.call.Call.{Call}
use Rattle.qc_msg.specs.Vocabulary.{site_called, without_call}
use Rattle.qc_front.specs.Vocabulary.{sites_called}
use Rattle.qc_epoch.specs.Vocabulary.{site_set}

-- one site more, first or last

pub first_bit : (site : ℕ) (sites : List ℕ) → site_set (site ∷ sites) ≡ 2 ^ site + site_set sites
first_bit site sites = sum_by-cons (λ (s : ℕ). 2 ^ s) site sites

pub both_sets : (xs ys : List ℕ) → site_set (xs ++ ys) ≡ site_set xs + site_set ys
both_sets xs ys = sum_by-append (λ (s : ℕ). 2 ^ s) xs ys

pub last_bit : (site : ℕ) (sites : List ℕ) → site_set (sites ++ site ∷ []) ≡ site_set sites + 2 ^ site
last_bit site sites =
    let both = both_sets sites (site ∷ []) in
    let one = first_bit site [] in
    let none : ◌≡◌ {A = ℕ} (site_set []) 0 = refl in
    omega (arith, both, one, none)

-- a site of a set of 16 bits
pub below_16 : (site : ℕ) → 2 ^ site < 2 ^ 16 → site < 16
below_16 site low = by (nat_lt site 16) refl
  where
    by : (t : Bool) → nat_lt site 16 ≡ t → site < 16
    by true is = ltb-true site 16 is
    by false is =
        let more : 16 ≤ site = ltb-false site 16 is in
        let two : 0 < 2 = omega arith in
        absurd (let grown : 2 ^ 16 ≤ 2 ^ site = pow-le-pow_right two more in omega (arith, grown, low))

-- from a place on

pub bits_from : (sites : List ℕ) (i d : ℕ) → i < length sites
    → site_set (drop i sites) ≡ 2 ^ (get_or sites i d) + site_set (drop (i + 1) sites)
bits_from sites i d inside = sum_by-drop_more (λ (s : ℕ). 2 ^ s) sites i d inside

-- what is taken for an open request

fewer_bits : (number : ℕ) (calls : List Call)
    → site_set (sites_called (without_call calls number)) ≤ site_set (sites_called calls)
fewer_bits number [] = omega arith
fewer_bits number (c ∷ cs) = by (c.number == number) (fewer_bits number cs)
  where
    by : (t : Bool) → site_set (sites_called (without_call cs number)) ≤ site_set (sites_called cs)
        → site_set (sites_called (cond (not t) (c ∷ without_call cs number) (without_call cs number))) ≤ site_set
        (sites_called (c ∷ cs))
    by true rest =
        let more = first_bit c.site (sites_called cs) in
        omega (arith, rest, more)
    by false rest =
        let more = first_bit c.site (sites_called cs) in
        let left = first_bit c.site (sites_called (without_call cs number)) in
        omega (arith, rest, more, left)

pub taken_bit : (number site : ℕ) (calls : List Call) → site_called calls number ≡ Some site
    → 2 ^ site + site_set (sites_called (without_call calls number)) ≤ site_set (sites_called calls)
taken_bit number site [] called = absurd (let never : ⊥ = cc in never)
taken_bit number site (c ∷ cs) called = by (c.number == number) called (taken_bit number site cs)
  where
    by : (t : Bool) → option_map (λ (x : Call). x.site) (cond t (Some c) (find (λ (x : Call). x.number == number) cs))
        ≡ Some site
        → (site_called cs number ≡ Some site → 2 ^ site + site_set (sites_called (without_call cs number)) ≤ site_set
        (sites_called cs))
        → 2 ^ site + site_set (sites_called (cond (not t) (c ∷ without_call cs number) (without_call cs number))) ≤
        site_set (sites_called (c ∷ cs))
    by true is rest =
        let same : c.site ≡ site = cc in
        let here : 2 ^ c.site ≡ 2 ^ site = ap (λ (s : ℕ). 2 ^ s) same in
        let more = first_bit c.site (sites_called cs) in
        let left = fewer_bits number cs in
        omega (arith, here, more, left)
    by false is rest =
        let more = first_bit c.site (sites_called cs) in
        let left = first_bit c.site (sites_called (without_call cs number)) in
        let fewer = rest is in
        omega (arith, more, left, fewer)
