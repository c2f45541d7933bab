-- A met round weighs what is needed; one site more weighs no less.
use Rattle.std.proofs.Common.{[], ◌≡◌, ℕ, suc, ◌+◌, ◌≤◌, ◌==◌, ◌||◌, ◌&&◌, nat_lt, nat_le, Bool, true, false, cond}
use Rattle.std.proofs.Common.{List, ◌∷◌, ◌++◌, Option, Some, None, unwrap_or, length, take, set, refl, ◌∙◌, ap, arith}
use Rattle.std.specs.Option.{option_or}
use Rattle.std.proofs.lemmas.Bool.Decides.{nat_tests}
use Rattle.std.proofs.lemmas.List.Folds.{list_any-append, list_all-append}
use Rattle.qc_plan.specs.Vocabulary.{RoundState, all_noted, asking_all, asking_first, asking_in_turn, asking_on}
use Rattle.qc_plan.specs.Vocabulary.{clash_at, closed_at, first, first_clash, first_closed, has_granted, is_asked}
use Rattle.qc_plan.specs.Vocabulary.{note_in, place_in, prefix, refusal, verdict, wanted, weight}
use Rattle.qc_plan.specs.declared.standing.Asked.{Asked}
use Rattle.qc_plan.specs.declared.standing.Standing.{Standing}
use Rattle.qc_plan.specs.declared.standing.Standing.TheVariants as standings
use Rattle.qc_plan.specs.declared.standing.Verdict.{Verdict}
use Rattle.qc_plan.specs.declared.standing.Verdict.TheVariants as verdicts
use Rattle.qc_list.proofs.Booleans.{and_false, or_first}

-- noting is a write at the site's place
pub note_put : (site : ℕ) (standing : Standing) (asked : List Asked)
    → note_in site standing asked ≡ set asked (place_in site asked) (record { site = site; standing = Some standing })
note_put site standing [] = refl
note_put site standing (a ∷ rest) = by (a.site == site) (note_put site standing rest) where
  by : (t : Bool)
      → note_in site standing rest ≡ set rest (place_in site rest) (record { site = site; standing = Some standing })
      → cond t (record { site = site; standing = Some standing } ∷ rest) (a ∷ note_in site standing rest)
      ≡ set (a ∷ rest) (cond t 0 (suc (place_in site rest))) (record { site = site; standing = Some standing })
  by true more = refl
  by false more = ap (λ (more : List Asked). a ∷ more) more

-- what refuses isn't Met

abbrev is_met : Verdict → Bool
is_met verdicts.Waiting = false
is_met verdicts.Met = true
is_met (verdicts.Closed epoch site) = false
is_met (verdicts.Clash tx site) = false
is_met (verdicts.Short got need) = false

abbrev IsNoMet : Option Verdict → Type 0
IsNoMet None = Unit {0}
IsNoMet (Some v) = is_met v ≡ false

or_no : (a b : Option Verdict) → IsNoMet a → IsNoMet b → IsNoMet (option_or a b)
or_no None b x y = y
or_no (Some v) b x y = x

closed_no : (site : ℕ) (standing : Option Standing) → IsNoMet (closed_at site standing)
closed_no site None = tt
closed_no site (Some standings.Granted) = tt
closed_no site (Some (standings.Clash tx)) = tt
closed_no site (Some (standings.Closed epoch)) = refl
closed_no site (Some standings.Missing) = tt

clash_no : (site : ℕ) (standing : Option Standing) → IsNoMet (clash_at site standing)
clash_no site None = tt
clash_no site (Some standings.Granted) = tt
clash_no site (Some (standings.Clash tx)) = refl
clash_no site (Some (standings.Closed epoch)) = tt
clash_no site (Some standings.Missing) = tt

closed_nowhere : (asked : List Asked) → IsNoMet (first_closed asked)
closed_nowhere [] = tt
closed_nowhere (a ∷ rest) =
    or_no (closed_at a.site a.standing) (first_closed rest) (closed_no a.site a.standing) (closed_nowhere rest)

clash_nowhere : (asked : List Asked) → IsNoMet (first_clash asked)
clash_nowhere [] = tt
clash_nowhere (a ∷ rest) =
    or_no (clash_at a.site a.standing) (first_clash rest) (clash_no a.site a.standing) (clash_nowhere rest)

met_by : (noted enough last : Bool) (refused : Option Verdict) (got need : ℕ) → IsNoMet refused
    → cond noted (unwrap_or refused (cond enough verdicts.Met (cond last (verdicts.Short got need) verdicts.Waiting)))
    verdicts.Waiting ≡ verdicts.Met → enough ≡ true
met_by false enough last refused got need free is = absurd (cc)
met_by true true last refused got need free is = refl
met_by true false true None got need free is = absurd (cc)
met_by true false false None got need free is = absurd (cc)
met_by true false last (Some v) got need free is = let met : is_met v ≡ true = ap is_met is in absurd (cc)

enough_weighs : (need got : ℕ) → nat_le need got ≡ true → need ≤ got
enough_weighs need got is = grind (arith, nat_tests)

-- a met round has grants of the weight that is needed
pub met_weighs : (r : RoundState) → verdict r ≡ verdicts.Met → r.need ≤ weight (has_granted r.asked) r.weights
met_weighs r is =
    let refused : IsNoMet (refusal r.asked) =
    or_no (first_closed r.asked) (first_clash r.asked) (closed_nowhere r.asked) (clash_nowhere r.asked) in
    enough_weighs r.need (weight (has_granted r.asked) r.weights)
    (met_by (all_noted r.asked) (nat_le r.need (weight (has_granted r.asked) r.weights)) (length r.rest == 0)
    (refusal r.asked) (weight (has_granted r.asked) r.weights) r.need refused is)

-- more sites weigh no less

weight_mono : (ws : List ℕ) (a b : ℕ → Bool) → ((k : ℕ) → a k ≡ true → b k ≡ true) → weight a ws ≤ weight b ws
weight_mono [] a b more = omega arith
weight_mono (w ∷ ws) a b more =
    by (a 0) (b 0) (more 0) (weight_mono ws (λ k. a (suc k)) (λ k. b (suc k)) (λ k. more (suc k))) where
      by : (x y : Bool) → (x ≡ true → y ≡ true) → weight (λ k. a (suc k)) ws ≤ weight (λ k. b (suc k)) ws
          → cond x w 0 + weight (λ k. a (suc k)) ws ≤ cond y w 0 + weight (λ k. b (suc k)) ws
      by true true here rest = omega arith
      by true false here rest = let never : false ≡ true = here refl in absurd (cc)
      by false true here rest = omega arith
      by false false here rest = omega arith

-- a site that was asked just now

abbrev pub with_site : List Asked → ℕ → List Asked
with_site asked site = asked ++ record { site = site; standing = None } ∷ []

asked_more : (asked : List Asked) (site k : ℕ) → is_asked asked k ≡ true → is_asked (with_site asked site) k ≡ true
asked_more asked site k is =
    list_any-append (λ (a : Asked). a.site == k) asked (record { site = site; standing = None } ∷ [])
    ∙ or_first (is_asked asked k) (is_asked (record { site = site; standing = None } ∷ []) k) is

heavy_still : (need a b : ℕ) → a ≤ b → nat_lt a need ≡ false → nat_lt b need ≡ false
heavy_still need a b le is = grind (arith, nat_tests)

pub stays_heavy : (weights : List ℕ) (need : ℕ) (asked : List Asked) (site : ℕ)
    → nat_lt (weight (is_asked asked) weights) need ≡ false
    → nat_lt (weight (is_asked (with_site asked site)) weights) need ≡ false
stays_heavy weights need asked site is =
    heavy_still need (weight (is_asked asked) weights) (weight (is_asked (with_site asked site)) weights)
    (weight_mono weights (is_asked asked) (is_asked (with_site asked site)) (asked_more asked site)) is

pub unknown : (asked : List Asked) (site : ℕ) → all_noted (with_site asked site) ≡ false
unknown asked site =
    list_all-append _ asked (record { site = site; standing = None } ∷ []) ∙ and_false (all_noted asked)

-- one by one

abbrev pub state : List ℕ → ℕ → List Asked → List ℕ → RoundState
state weights need asked rest = record { weights = weights; need = need; asked = asked; rest = rest }

abbrev pub is_light : List ℕ → ℕ → List Asked → Bool
is_light weights need asked = nat_lt (weight (is_asked asked) weights) need

abbrev pub IsWanted : ℕ → RoundState → Type 0
IsWanted turns r = asking_in_turn turns r ≡ (wanted r, asking_all r (wanted r))

-- the wanted sites, and a turn, by the three tests
abbrev pub wanted_by : Bool → Bool → Bool → RoundState → List ℕ
wanted_by waits light noted r =
    cond waits (cond light (prefix r.weights r.need r.asked r.rest) (cond noted (take 1 r.rest) [])) []

abbrev pub turn_by : Bool → Bool → Bool → RoundState → (RoundState → List ℕ × RoundState) → List ℕ × RoundState
turn_by waits light noted r more =
    asking_on r (cond (waits && (light || noted)) (first r.rest) None)
    (cond (waits && (light || noted)) (asking_first r r.rest) r) more
