-- A front end asks sites alone, and what it asked stays in order: so its turns are short.
use Rattle.std.proofs.Common.{◌≡◌, ℕ, ◌+◌, ◌<◌, ◌≤◌, ◌⊎◌, inl, inr, nat_lt, Bool, true, false, List, [], ◌∷◌, fold}
use Rattle.std.proofs.Common.{length, Option, Some, None, refl, subst, arith}
use Rattle.std.specs.List.{AllByRecursion as Every}
use Rattle.std.specs.Option.{option_map_or}
use Rattle.std.specs.Ordering.{nat_cmp}
use Rattle.std.specs.declared.cmp.Ordering.{Ordering}
use Rattle.std.specs.declared.cmp.Ordering.TheVariants.{Equal, Greater, Less}
use Rattle.std.proofs.lemmas.Bool.{ltb-false, ltb-true}
use Rattle.std.proofs.lemmas.Cmp.{nat_cmp_total}
use Rattle.std.proofs.lemmas.List.{get_or_past}
use Rattle.qc_list.specs.Vocabulary.{Ascends, In, IsBelowAll, by_order, inserted}
use Rattle.qc_list.proofs.Members.{In-first, In-passes}
use Rattle.qc_list.proofs.Order.{ascends-inserted}
use Rattle.qc_decl.specs.declared.declaration.Declaration.{Declaration}
use Rattle.qc_decl.specs.Vocabulary.{IsAccepted, append_need_of, first_site, plan_in, read_need_of}
use Rattle.qc_plan.specs.declared.plan.Plan.{Plan}
use Rattle.qc_plan.specs.Vocabulary.{RoundState, cyclic, start, weighing, weight_at}
use Rattle.qc_msg.specs.Vocabulary.{with_site}
use Rattle.qc_front.specs.declared.doing.Doing.{Doing}
use Rattle.qc_front.specs.declared.doing.Doing.TheVariants.{Idle, Reading, Appending}
use Rattle.qc_front.specs.declared.transaction.Transaction.{Transaction}
use Rattle.qc_front.specs.Vocabulary.{BegunHolds, IsRound, sites_of, weights_of}
use Rattle.laws_turns.specs.Vocabulary.{AreSites}
use Rattle.qc_front.proofs.Fitting.{plan_weights}
use Rattle.qc_core.proofs.FewSites.{none_low}
use Rattle.qc_list.proofs.Numbers.{below_from_cmp}

-- members of lists

in_inserted : (x y : ℕ) (ys : List ℕ) → In x (inserted nat_cmp ys y) → In x ys ⊎ (x ≡ y)
in_inserted x y [] (inl same) = inr same
in_inserted x y [] (inr never) = absurd never
in_inserted x y (z ∷ zs) among = by (nat_cmp y z) (in_inserted x y zs) among where
  deeper : In x zs ⊎ (x ≡ y) → In x (z ∷ zs) ⊎ (x ≡ y)
  deeper (inl old) = inl (inr old)
  deeper (inr new) = inr new

  by : (order : Ordering) → (In x (inserted nat_cmp zs y) → In x zs ⊎ (x ≡ y))
      → In x (by_order order (y ∷ z ∷ zs) (y ∷ zs) (z ∷ inserted nat_cmp zs y)) → In x (z ∷ zs) ⊎ (x ≡ y)
  by Less rest (inl same) = inr same
  by Less rest (inr old) = inl old
  by Equal rest (inl same) = inr same
  by Equal rest (inr old) = inl (inr old)
  by Greater rest (inl same) = inl (inl same)
  by Greater rest (inr later) = deeper (rest later)

pub in_joined : (x : ℕ) (xs ys : List ℕ) → In x (fold with_site xs ys) → In x xs ⊎ In x ys
in_joined x xs [] among = inl among
in_joined x xs (y ∷ ys) among = by (in_joined x (with_site xs y) ys among) where
  old : In x xs ⊎ (x ≡ y) → In x xs ⊎ In x (y ∷ ys)
  old (inl first) = inl first
  old (inr same) = inr (inl same)

  by : In x (with_site xs y) ⊎ In x ys → In x xs ⊎ In x (y ∷ ys)
  by (inl first) = old (in_inserted x y xs first)
  by (inr later) = inr (inr later)

pub joined-ascends : (xs ys : List ℕ) → Ascends nat_cmp xs → Ascends nat_cmp (fold with_site xs ys)
joined-ascends xs [] up = up
joined-ascends xs (y ∷ ys) up = joined-ascends (with_site xs y) ys (ascends-inserted nat_cmp nat_cmp_total xs y up)

-- ascending numbers from a low one on, below another

few_between : (low high : ℕ) (xs : List ℕ) → Ascends nat_cmp xs → Every (λ x. low ≤ x) xs → Every (λ x. x < high) xs
    → low ≤ high → low + length xs ≤ high
few_between low high [] up above below le = omega arith
few_between low high (x ∷ xs) up above below le =
    let first : low ≤ x = above.0 in
    let last : x < high = below.0 in
    let rest : (x + 1) + length xs ≤ high = few_between (x + 1) high xs up.1 (later xs up.0) below.1 (omega arith) in
    omega arith
  where
    later : (ys : List ℕ) → IsBelowAll nat_cmp x ys → Every (λ y. x + 1 ≤ y) ys
    later [] here = tt
    later (y ∷ ys) here = (let low : x < y = below_from_cmp x y here.0 in omega arith, later ys here.1)

-- sites are few
pub few_sites : (decl : Declaration) (sites : List ℕ) → AreSites decl sites → length sites ≤ decl.sites
few_sites decl sites are = let few : 0 + length sites ≤ decl.sites =
    few_between 0 decl.sites sites are.ascending (none_low sites) are.declared (omega arith) in omega arith

-- a round's sites are sites

weights_few : (decl : Declaration) (epoch : ℕ) → IsAccepted decl → length (weights_of decl epoch) ≤ decl.sites
weights_few decl epoch accepted = by (plan_in decl epoch) refl where
  by : (o : Option Plan) → plan_in decl epoch ≡ o → length (option_map_or (λ (p : Plan). p.weights) o []) ≤ decl.sites
  by None is = omega arith
  by (Some p) is = let same : length p.weights ≡ decl.sites = plan_weights decl epoch accepted p is in omega arith

weighing_below : (weights : List ℕ) (x : ℕ) (xs : List ℕ) → In x (weighing weights xs) → x < length weights
weighing_below weights x xs among = by (nat_lt x (length weights)) refl where
  by : (t : Bool) → nat_lt x (length weights) ≡ t → x < length weights
  by true is = ltb-true x (length weights) is
  by false is = absurd (
      let heavy : 0 < weight_at weights x = ltb-true 0 (weight_at weights x)
      (In-passes (λ site. nat_lt 0 (weight_at weights site)) x xs among) in
      let past : length weights ≤ x = ltb-false x (length weights) is in
      let none : weight_at weights x ≡ 0 = get_or_past weights x 0 past in
      omega arith)

-- the sites that the running round asked
abbrev pub InRound : ℕ → Doing → Type 0
InRound x Idle = ⊥
InRound x (Reading object inv calls round) = In x (sites_of round.asked)
InRound x (Appending object inv event calls round) = In x (sites_of round.asked)

round_below : (decl : Declaration) (client epoch need : ℕ) (r : RoundState) (x : ℕ) → IsAccepted decl
    → IsRound decl client epoch need r → In x (sites_of r.asked) → x < decl.sites
round_below decl client epoch need r x accepted is among =
    let whole : In x (start (weights_of decl epoch) (first_site decl client) need).rest =
    subst (In x) is.sites (In-first x (sites_of r.asked) r.rest among) in
    let low : x < length (weights_of decl epoch) =
    weighing_below (weights_of decl epoch) x
    (cyclic (length (weights_of decl epoch)) (first_site decl client)) whole in
    let few : length (weights_of decl epoch) ≤ decl.sites = weights_few decl epoch accepted in
    omega arith

pub doing_below : (decl : Declaration) (client : ℕ) (t : Option Transaction) (doing : Doing) (x : ℕ) → IsAccepted decl
    → BegunHolds decl client t doing → InRound x doing → x < decl.sites
doing_below decl client t Idle x accepted h never = absurd never
doing_below decl client None (Reading object inv calls round) x accepted h among = absurd (let no : ⊥ = cc in no)
doing_below decl client None (Appending object inv event calls round) x accepted h among =
    absurd (let no : ⊥ = cc in no)
doing_below decl client (Some t) (Reading object inv calls round) x accepted h among =
    round_below decl client t.begun.epoch (read_need_of decl t.begun.epoch object inv) round x accepted h.1.round_is
    among
doing_below decl client (Some t) (Appending object inv event calls round) x accepted h among =
    round_below decl client t.begun.epoch (append_need_of decl t.begun.epoch object event) round x accepted h.1.round_is
    among
