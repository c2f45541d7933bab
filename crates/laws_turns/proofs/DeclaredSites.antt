-- Lists of declared sites: whom a round asks, and whom it is yet to ask.
use Rattle.std.proofs.Common.{ℕ, zero, suc, ◌+◌, ◌-◌, ◌<◌, ◌≤◌, Bool, true, false, cond, List, [], ◌∷◌, ◌++◌, drop}
use Rattle.std.proofs.Common.{None, sym, subst, arith}
use Rattle.std.specs.List.{AllByRecursion as Every, filter, range_with_len}
use Rattle.qc_decl.specs.declared.declaration.Declaration.{Declaration}
use Rattle.qc_front.proofs.Awaited.{wanted_is}
use Rattle.qc_plan.specs.Vocabulary.{RoundState, asking_all, cyclic, wanted}

abbrev pub AreSites : Declaration → List ℕ → Type 0
AreSites decl sites = Every (λ (s : ℕ). s < decl.sites) sites

sites_both : (decl : Declaration) (xs ys : List ℕ) → AreSites decl xs → AreSites decl ys → AreSites decl (xs ++ ys)
sites_both decl [] ys first second = second
sites_both decl (x ∷ xs) ys first second = (first.0, sites_both decl xs ys first.1 second)

sites_front : (decl : Declaration) (xs ys : List ℕ) → AreSites decl (xs ++ ys) → AreSites decl xs
sites_front decl [] ys all = tt
sites_front decl (x ∷ xs) ys all = (all.0, sites_front decl xs ys all.1)

sites_rest : (decl : Declaration) (xs : List ℕ) → AreSites decl xs → AreSites decl (drop 1 xs)
sites_rest decl [] all = tt
sites_rest decl (x ∷ xs) all = all.1

pub sites_range : (decl : Declaration) (from n : ℕ) → from + n ≤ decl.sites → AreSites decl (range_with_len from n)
sites_range decl from zero within = tt
sites_range decl from (suc n) within = (
  (let low : from < decl.sites = omega arith in low),
  sites_range decl (from + 1) n (omega arith),
)

pub sites_filter : (decl : Declaration) (test : ℕ → Bool) (xs : List ℕ) → AreSites decl xs
    → AreSites decl (filter test xs)
sites_filter decl test [] all = tt
sites_filter decl test (x ∷ xs) all = at (test x) (sites_filter decl test xs all.1)
  where
    at : (t : Bool) → AreSites decl (filter test xs) → AreSites decl (cond t (x ∷ filter test xs) (filter test xs))
    at true rest = (all.0, rest)
    at false rest = rest

pub sites_cyclic : (decl : Declaration) (n from : ℕ) → n ≤ decl.sites → from ≤ decl.sites
    → AreSites decl (cyclic n from)
sites_cyclic decl n from few low = sites_both decl (range_with_len from (n - from)) (range_with_len 0 from)
    (sites_range decl from (n - from) (omega arith)) (sites_range decl 0 from (omega arith))

-- a round

pub asking_rest : (decl : Declaration) (r : RoundState) (sites : List ℕ) → AreSites decl r.rest
    → AreSites decl (asking_all r sites).rest
asking_rest decl r [] all = all
asking_rest decl r (s ∷ sites) all = asking_rest decl
    (record r { asked = r.asked ++ record { site = s; standing = None } ∷ []; rest = drop 1 r.rest }) sites
    (sites_rest decl r.rest all)

pub wanted_sites : (decl : Declaration) (r : RoundState) → AreSites decl r.rest → AreSites decl (wanted r)
wanted_sites decl r all = sites_front decl (wanted r) (wanted_is r).more
    (subst (AreSites decl) (sym (wanted_is r).is) all)
