-- The sites that a round may still ask are sites, and no more than there are.
use Rattle.std.proofs.Common.{◌≡◌, ℕ, zero, suc, ◌+◌, ◌%◌, ◌<◌, ◌≤◌, nat_lt, true, List, [], ◌∷◌, ◌++◌, length}
use Rattle.std.proofs.Common.{Option, Some, None, refl, sym, ap, subst, arith}
use Rattle.std.specs.Prelude.{slice_index}
use Rattle.std.specs.List.{AllByRecursion as Every}
use Rattle.std.specs.Option.{option_map_or}
use Rattle.std.proofs.lemmas.List.{length-append}
use Rattle.qc_list.proofs.Members.{In-passes, every-from_In, length-filter}
use Rattle.qc_decl.specs.declared.declaration.Declaration.{Declaration}
use Rattle.qc_decl.specs.Vocabulary.{IsAccepted, first_site, plan_in}
use Rattle.qc_plan.specs.declared.plan.Plan.{Plan}
use Rattle.qc_plan.specs.Vocabulary.{RoundState, cyclic, start, wanted, weighing, weight_at}
use Rattle.qc_front.specs.Vocabulary.{IsRound, sites_of, weights_of}
use Rattle.qc_front.proofs.Awaited.{wanted_is}
use Rattle.qc_front.proofs.Fitting.{plan_weights}
use Rattle.qc_plan.proofs.Rounds.{weighing_none, length-cyclic}

pub record RestFits (n : ℕ) (r : RoundState) : Type 0 where
  pub below : Every (λ site. site < n) r.rest
  pub few : length r.rest ≤ n

first_below : (n : ℕ) (xs ys : List ℕ) → Every (λ x. x < n) (xs ++ ys) → Every (λ x. x < n) xs
first_below n [] ys all = tt
first_below n (x ∷ xs) ys all = (all.0, first_below n xs ys all.1)

last_below : (n : ℕ) (xs ys : List ℕ) → Every (λ x. x < n) (xs ++ ys) → Every (λ x. x < n) ys
last_below n [] ys all = all
last_below n (x ∷ xs) ys all = last_below n xs ys all.1

pub wanted_below : (n : ℕ) (r : RoundState) → RestFits n r → Every (λ site. site < n) (wanted r)
wanted_below n r f = first_below n (wanted r) (wanted_is r).more
    (subst (Every (λ site. site < n)) (sym (wanted_is r).is) f.below)

pub wanted_few : (n : ℕ) (r : RoundState) → RestFits n r → length (wanted r) ≤ n
wanted_few n r f =
    let whole : length (wanted r ++ (wanted_is r).more) ≡ length r.rest = ap length (wanted_is r).is in
    let both : length (wanted r ++ (wanted_is r).more) ≡ length (wanted r) + length (wanted_is r).more =
    length-append (wanted r) (wanted_is r).more in
    let few : length r.rest ≤ n = f.few in
    omega arith

-- a site of positive weight has one
weighs_below : (weights : List ℕ) (site : ℕ) → nat_lt 0 (slice_index weights site) ≡ true → site < length weights
weighs_below [] site is = absurd (let no : ⊥ = cc in no)
weighs_below (w ∷ ws) zero is = omega arith
weighs_below (w ∷ ws) (suc site) is = let low : site < length ws = weighs_below ws site is in omega arith

start_fits_at : (decl : Declaration) (client need : ℕ) (weights : List ℕ) → IsAccepted decl
    → length weights ≡ decl.sites → RestFits decl.sites (start weights (first_site decl client) need)
start_fits_at decl client need weights accepted same = record {
  below = every-from_In (λ site. site < decl.sites) (weighing weights around) (λ site among.
      let low : site < length weights = weighs_below weights site
      (In-passes (λ s. nat_lt 0 (weight_at weights s)) site around among) in omega arith);
  few =
      let some : 0 < decl.sites = accepted.has_site in
      let low : client % decl.sites < decl.sites = omega arith in
      let whole : length around ≡ length weights =
      length-cyclic (length weights) (first_site decl client) (omega arith) in
      let fewer : length (weighing weights around) ≤ length around =
      length-filter (λ s. nat_lt 0 (weight_at weights s)) around in
      omega arith;
} where
  around : List ℕ
  around = cyclic (length weights) (first_site decl client)

pub start_fits : (decl : Declaration) (client epoch need : ℕ) → IsAccepted decl
    → RestFits decl.sites (start (weights_of decl epoch) (first_site decl client) need)
start_fits decl client epoch need accepted = by (plan_in decl epoch) refl
  where
    by : (o : Option Plan) → plan_in decl epoch ≡ o
        → RestFits decl.sites (start (option_map_or (λ (p : Plan). p.weights) o []) (first_site decl client) need)
    by None is = subst (λ (rest : List ℕ). RestFits decl.sites
        (record { weights = []; need = need; asked = []; rest = rest }))
        (sym (weighing_none (cyclic 0 (first_site decl client)))) (record { below = tt; few = omega arith })
    by (Some p) is = start_fits_at decl client need p.weights accepted (plan_weights decl epoch accepted p is)

pub round_fits : (decl : Declaration) (client epoch need : ℕ) (r : RoundState) → IsAccepted decl
    → IsRound decl client epoch need r → RestFits decl.sites r
round_fits decl client epoch need r accepted is =
    let first : RestFits decl.sites (start (weights_of decl epoch) (first_site decl client) need) =
    start_fits decl client epoch need accepted in
    record {
      below = last_below decl.sites (sites_of r.asked) r.rest
          (subst (Every (λ site. site < decl.sites)) (sym is.sites) first.below);
      few =
          let whole : length (sites_of r.asked ++ r.rest) ≡ length
          (start (weights_of decl epoch) (first_site decl client) need).rest = ap length is.sites in
          let both : length (sites_of r.asked ++ r.rest) ≡ length (sites_of r.asked) + length r.rest =
          length-append (sites_of r.asked) r.rest in
          let most : length (start (weights_of decl epoch) (first_site decl client) need).rest ≤ decl.sites =
          first.few in
          omega arith;
    }
