-- The sites of a round, and those that have closed in it, are a set of 16 bits.
use Rattle.std.proofs.Common.{◌≡◌, ℕ, zero, suc, ◌+◌, ◌-◌, ◌*◌, ◌^◌, ◌≤◌, ◌<◌, ◌==◌, Bool, true, false, cond, List, []}
use Rattle.std.proofs.Common.{◌∷◌, ◌++◌, filter, length, map, Option, Some, None, refl, sym, ap, ◌∙◌, subst, eqb-true}
use Rattle.std.proofs.Common.{arith}
use Rattle.std.specs.List.{range_with_len}
use Rattle.std.specs.Prelude.{nat_lt}
use Rattle.std.proofs.Math.Nat.{pow-suc, pow-zero}
use Rattle.std.proofs.Math.Pow.{pow_mono}
use Rattle.std.proofs.lemmas.List.{append-nil, map-append}
use Rattle.std.proofs.lemmas.List.FromFn.{length-range_with_len}
use Rattle.qc_decl.specs.declared.declaration.Declaration.{Declaration}
use Rattle.qc_decl.specs.Vocabulary.{IsAccepted, plan_in}
use Rattle.qc_plan.specs.declared.plan.Plan.{Plan}
use Rattle.qc_plan.specs.declared.standing.Asked.{Asked}
use Rattle.qc_plan.specs.declared.standing.Standing.{Standing}
use Rattle.qc_plan.specs.Vocabulary.{RoundState, note, start, weight_at}
use Rattle.qc_front.specs.Vocabulary.{sites_of}
use Rattle.qc_epoch.specs.Vocabulary.{ShutSite, close_need, close_round, close_round_by, in_asked_order, shut_at}
use Rattle.qc_epoch.specs.Vocabulary.{shut_list, site_set}
use Rattle.qc_admin.specs.Vocabulary.{AreSites, sites_in}
use Rattle.qc_admin.proofs.Bits.{both_sets, first_bit}
use Rattle.qc_front.proofs.Fitting.{plan_weights}
use Rattle.qc_front.proofs.NotedRounds.{note_sites}

-- sites in a row

range_bits : (from count : ℕ) → site_set (range_with_len from count) + 2 ^ from ≡ 2 ^ (from + count)
range_bits from zero =
    let none : ◌≡◌ {A = ℕ} (site_set []) 0 = refl in
    let same : from + 0 ≡ from = omega arith in
    let power : 2 ^ (from + 0) ≡ 2 ^ from = ap (λ (n : ℕ). 2 ^ n) same in
    omega (arith, none, power)
range_bits from (suc count) =
    let more = first_bit from (range_with_len (from + 1) count) in
    let rest = range_bits (from + 1) count in
    let next : from + 1 ≡ suc from = omega arith in
    let double : 2 ^ (from + 1) ≡ 2 ^ from * 2 = ap (λ (n : ℕ). 2 ^ n) next ∙ pow-suc 2 from in
    let same : from + 1 + count ≡ from + suc count = omega arith in
    let power : 2 ^ (from + 1 + count) ≡ 2 ^ (from + suc count) = ap (λ (n : ℕ). 2 ^ n) same in
    omega (arith, more, rest, double, power)

pub row_sites : (count : ℕ) → count ≤ 16 → AreSites (range_with_len 0 count)
row_sites count few =
    let bits = range_bits 0 count in
    let one : 2 ^ 0 ≡ 1 = pow-zero 2 in
    let same : 0 + count ≡ count = omega arith in
    let power : 2 ^ (0 + count) ≡ 2 ^ count = ap (λ (n : ℕ). 2 ^ n) same in
    let most : 2 ^ count ≤ 2 ^ 16 = pow_mono few in
    let counted = length-range_with_len 0 count in
    record { few = omega (arith, counted); set = omega (arith, bits, one, power, most) }

-- fewer of them

fewer_sites : (test : ℕ → Bool) (sites : List ℕ)
    → (length (filter test sites) ≤ length sites) × (site_set (filter test sites) ≤ site_set sites)
fewer_sites test [] = (omega arith, omega arith)
fewer_sites test (s ∷ ss) = by (test s) (fewer_sites test ss)
  where
    by : (t : Bool) → (length (filter test ss) ≤ length ss) × (site_set (filter test ss) ≤ site_set ss)
        → (length (cond t (s ∷ filter test ss) (filter test ss)) ≤ length (s ∷ ss))
        × (site_set (cond t (s ∷ filter test ss) (filter test ss)) ≤ site_set (s ∷ ss))
    by true rest =
        let whole = first_bit s ss in
        let part = first_bit s (filter test ss) in
        let few = rest.0 in
        let less = rest.1 in
        (omega arith, omega (arith, whole, part, less))
    by false rest =
        let whole = first_bit s ss in
        let few = rest.0 in
        let less = rest.1 in
        (omega arith, omega (arith, whole, less))

weighing_sites : (decl : Declaration) (weights : List ℕ) (need : ℕ) → length weights ≤ 16
    → AreSites (sites_in (start weights 0 need))
weighing_sites decl weights need few =
    let row : List ℕ = range_with_len 0 (length weights - 0) in
    let whole = row_sites (length weights - 0) (omega arith) in
    let less = fewer_sites (λ (site : ℕ). nat_lt 0 (weight_at weights site)) row in
    let count = less.0 in
    let bits = less.1 in
    let all : length row ≤ 16 = whole.few in
    let set : site_set row < 2 ^ 16 = whole.set in
    subst (λ (sites : List ℕ). AreSites (filter (λ (site : ℕ). nat_lt 0 (weight_at weights site)) sites))
    (sym (append-nil row))
    (record { few = omega (arith, count, all); set = omega (arith, bits, set) })

pub round_begins : (decl : Declaration) (epoch : ℕ) → IsAccepted decl → AreSites (sites_in (close_round decl epoch))
round_begins decl epoch accepted = by (plan_in decl epoch) refl
  where
    by : (o : Option Plan) → plan_in decl epoch ≡ o → AreSites (sites_in (close_round_by o))
    by None is = weighing_sites decl [] 0 (omega arith)
    by (Some p) is =
        let same : length p.weights ≡ decl.sites = plan_weights decl epoch accepted p is in
        let few : decl.sites ≤ 16 = accepted.sites in
        weighing_sites decl p.weights (close_need p) (omega arith)

-- a round's sites stay

pub note_fits : (round : RoundState) (site : ℕ) (standing : Standing) → AreSites (sites_in round)
    → AreSites (sites_in (note round site standing))
note_fits round site standing are = subst (λ (ss : List ℕ). AreSites (ss ++ round.rest))
    (sym (note_sites site standing round.asked)) are

-- the closed sites are asked ones

shut_bits : (shuts : List ShutSite) (site : ℕ)
    → site_set (map (λ (s : ShutSite). s.site) (shut_list (shut_at shuts site))) ≤ 2 ^ site
shut_bits [] site = omega arith
shut_bits (s ∷ ss) site = by (s.site == site) refl (shut_bits ss site)
  where
    by : (t : Bool) → (s.site == site) ≡ t → site_set
        (map (λ (x : ShutSite). x.site) (shut_list (shut_at ss site))) ≤ 2 ^ site
        → site_set (map (λ (x : ShutSite). x.site) (shut_list (cond t (Some s) (shut_at ss site)))) ≤ 2 ^ site
    by true is rest =
        let same : 2 ^ s.site ≡ 2 ^ site = ap (λ (n : ℕ). 2 ^ n) (eqb-true s.site site is) in
        let one = first_bit s.site [] in
        let none : ◌≡◌ {A = ℕ} (site_set []) 0 = refl in
        omega (arith, same, one, none)
    by false is rest = rest

ordered_bits : (asked : List Asked) (shuts : List ShutSite)
    → site_set (map (λ (s : ShutSite). s.site) (in_asked_order asked shuts)) ≤ site_set (sites_of asked)
ordered_bits [] shuts = omega arith
ordered_bits (a ∷ rest) shuts =
    let first : List ShutSite = shut_list (shut_at shuts a.site) in
    let more : List ShutSite = in_asked_order rest shuts in
    let split : site_set (map (λ (s : ShutSite). s.site) (first ++ more)) ≡ site_set
    (map (λ (s : ShutSite). s.site) first) + site_set (map (λ (s : ShutSite). s.site) more) =
    ap site_set (map-append (λ (s : ShutSite). s.site) first more)
    ∙ both_sets (map (λ (s : ShutSite). s.site) first) (map (λ (s : ShutSite). s.site) more) in
    let here = shut_bits shuts a.site in
    let later = ordered_bits rest shuts in
    let whole = first_bit a.site (sites_of rest) in
    omega (arith, split, here, later, whole)

pub closed_bits : (round : RoundState) (shuts : List ShutSite) → AreSites (sites_in round)
    → site_set (map (λ (s : ShutSite). s.site) (in_asked_order round.asked shuts)) < 2 ^ 16
closed_bits round shuts are =
    let less = ordered_bits round.asked shuts in
    let both = both_sets (sites_of round.asked) round.rest in
    let whole : site_set (sites_in round) < 2 ^ 16 = are.set in
    omega (arith, less, both, whole)
