-- The index stays right as a rule is added.
use Rattle.std.proofs.Common.{arith, ◌≡◌, ℕ, suc, ◌&&◌, Bool, true, false, cond, List, [], ◌∷◌, ◌++◌, length, Option}
use Rattle.std.proofs.Common.{Some, None, is_some, refl, sym, ◌∙◌, ap, subst, nat_eq}
use Rattle.std.specs.BTreeMap.{BTreeMap, get}
use Rattle.std.specs.Cmp.{both_tied}
use Rattle.std.specs.Option.{option_cmp, option_eq, option_map, option_or}
use Rattle.std.specs.Ordering.{is_eq, nat_cmp, ordering_then}
use Rattle.std.proofs.lemmas.Bool.{eq-eqb, eqb-true, and_from}
use Rattle.std.proofs.lemmas.Grind.{common_steps}
use Rattle.qc_link.specs.declared.plan.Link.{Link}
use Rattle.qc_link.specs.Vocabulary.{IsIndex, Pattern, has_pattern, pattern_cmp, pattern_of, place, same_pattern}
use Rattle.qc_list.proofs.Booleans.{and_parts}

-- patterns that are the same are equal

option_same : (a b : Option ℕ) → option_eq nat_eq a b ≡ true → a ≡ b
option_same None None is = refl
option_same None (Some n) is = absurd (cc)
option_same (Some m) None is = absurd (cc)
option_same (Some m) (Some n) is = ap Some (eqb-true m n is)

option_self : (a : Option ℕ) → option_eq nat_eq a a ≡ true
option_self None = refl
option_self (Some n) = eq-eqb n n refl

same_is : (x y : Pattern) → same_pattern x y ≡ true → x ≡ y
same_is x y is =
    let outer = and_parts (option_eq nat_eq x.0 y.0 && option_eq nat_eq x.1 y.1) (option_eq nat_eq x.2 y.2) is in
    let inner = and_parts (option_eq nat_eq x.0 y.0) (option_eq nat_eq x.1 y.1) outer.0 in
    let p : x.0 ≡ y.0 = option_same x.0 y.0 inner.0 in
    let q : x.1 ≡ y.1 = option_same x.1 y.1 inner.1 in
    let r : x.2 ≡ y.2 = option_same x.2 y.2 outer.1 in
    λ i. (p i, q i, r i)

same_self : (x : Pattern) → same_pattern x x ≡ true
same_self x = and_from (option_eq nat_eq x.0 x.0 && option_eq nat_eq x.1 x.1) (option_eq nat_eq x.2 x.2)
    (and_from (option_eq nat_eq x.0 x.0) (option_eq nat_eq x.1 x.1) (option_self x.0) (option_self x.1))
    (option_self x.2)

same_turned : (x y : Pattern) → same_pattern x y ≡ false → same_pattern y x ≡ false
same_turned x y apart = by (same_pattern y x) refl where
  by : (t : Bool) → same_pattern y x ≡ t → t ≡ false
  by true is = let here : same_pattern x y ≡ true =
      subst (λ z. same_pattern z y ≡ true) (same_is y x is) (same_self y) in
      absurd (let never : true ≡ false = sym here ∙ apart in cc)
  by false is = refl

-- patterns that are the same are those that the order has equal

option_tied : (a b : Option ℕ) → option_eq nat_eq a b ≡ is_eq (option_cmp nat_cmp a b)
option_tied None None = refl
option_tied None (Some n) = refl
option_tied (Some m) None = refl
option_tied (Some m) (Some n) = number_tied m n where
  number_tied : (x y : ℕ) → nat_eq x y ≡ is_eq (nat_cmp x y)
  number_tied x y = grind (arith, common_steps)

same_tied : (x y : Pattern) → same_pattern x y ≡ is_eq (pattern_cmp x y)
same_tied x y =
    both_tied (option_eq nat_eq x.0 y.0 && option_eq nat_eq x.1 y.1) (option_eq nat_eq x.2 y.2)
    (ordering_then (option_cmp nat_cmp x.0 y.0) (option_cmp nat_cmp x.1 y.1)) (option_cmp nat_cmp x.2 y.2)
    (both_tied (option_eq nat_eq x.0 y.0) (option_eq nat_eq x.1 y.1) (option_cmp nat_cmp x.0 y.0)
    (option_cmp nat_cmp x.1 y.1) (option_tied x.0 y.0) (option_tied x.1 y.1))
    (option_tied x.2 y.2)

-- a rule more

pub place_push : (test : Link → Bool) (links : List Link) (link : Link)
    → place test (links ++ link ∷ []) ≡ option_or (place test links) (cond (test link) (Some (length links)) None)
place_push test [] link = refl
place_push test (l ∷ links) link = by (test l) (place_push test links link) where
  later : (o : Option ℕ) (t : Bool) (n : ℕ)
      → option_map suc (option_or o (cond t (Some n) None)) ≡ option_or (option_map suc o) (cond t (Some (suc n)) None)
  later None true n = refl
  later None false n = refl
  later (Some m) t n = refl

  by : (t : Bool) → place test (links ++ link ∷ []) ≡ option_or (place test links)
      (cond (test link) (Some (length links)) None)
      → cond t (Some 0) (option_map suc (place test (links ++ link ∷ []))) ≡ option_or
      (cond t (Some 0) (option_map suc (place test links))) (cond (test link) (Some (length (l ∷ links))) None)
  by true rest = refl
  by false rest = ap (λ o. option_map suc o) rest ∙ later (place test links) (test link) (length links)

or_none : (o : Option ℕ) → option_or o None ≡ o
or_none None = refl
or_none (Some n) = refl

-- a rule of a pattern that the index lacks

pub index_more : (old new : BTreeMap Pattern ℕ) (links : List Link) (link : Link)
    → IsIndex old links → get pattern_cmp old (pattern_of link) ≡ None
    → ((q : Pattern) → get pattern_cmp new q ≡ cond (is_eq (pattern_cmp (pattern_of link) q)) (Some (length links))
    (get pattern_cmp old q))
    → IsIndex new (links ++ link ∷ [])
index_more old new links link index missing updates q = by (same_pattern (pattern_of link) q) refl where
  by : (t : Bool) → same_pattern (pattern_of link) q ≡ t
      → get pattern_cmp new q ≡ place (has_pattern q) (links ++ link ∷ [])
  by true is =
      let same : pattern_of link ≡ q = same_is (pattern_of link) q is in
      let none : place (has_pattern q) links ≡ None = sym (index q)
      ∙ subst (λ k. get pattern_cmp old k ≡ None) same missing in
      let here : has_pattern q link ≡ true = subst (λ k. same_pattern q k ≡ true) (sym same) (same_self q) in
      updates q ∙ ap (λ t. cond t (Some (length links)) (get pattern_cmp old q))
      (sym (same_tied (pattern_of link) q) ∙ is)
      ∙ sym (place_push (has_pattern q) links link
      ∙ ap (λ o. option_or o (cond (has_pattern q link) (Some (length links)) None)) none
      ∙ ap (λ t. cond t (Some (length links)) None) here)
  by false is =
      let apart : has_pattern q link ≡ false = same_turned (pattern_of link) q is in
      updates q ∙ ap (λ t. cond t (Some (length links)) (get pattern_cmp old q))
      (sym (same_tied (pattern_of link) q) ∙ is) ∙ index q
      ∙ sym (place_push (has_pattern q) links link
      ∙ ap (λ t. option_or (place (has_pattern q) links) (cond t (Some (length links)) None)) apart
      ∙ or_none (place (has_pattern q) links))

-- a rule of a pattern that the index has

pub index_again : (places : BTreeMap Pattern ℕ) (links : List Link) (link : Link)
    → IsIndex places links → is_some (get pattern_cmp places (pattern_of link)) ≡ true
    → IsIndex places (links ++ link ∷ [])
index_again places links link index has q = by (has_pattern q link) refl where
  some_or : (o p : Option ℕ) → is_some o ≡ true → option_or o p ≡ o
  some_or None p is = absurd (cc)
  some_or (Some n) p is = refl

  by : (t : Bool) → has_pattern q link ≡ t → get pattern_cmp places q ≡ place (has_pattern q) (links ++ link ∷ [])
  by true is =
      let same : q ≡ pattern_of link = same_is q (pattern_of link) is in
      let some : is_some (place (has_pattern q) links) ≡ true =
      subst (λ o. is_some o ≡ true) (index q) (subst (λ k. is_some (get pattern_cmp places k) ≡ true)
      (sym same) has) in
      index q ∙ sym (place_push (has_pattern q) links link
      ∙ some_or (place (has_pattern q) links) (cond (has_pattern q link) (Some (length links)) None) some)
  by false is =
      index q ∙ sym (place_push (has_pattern q) links link
      ∙ ap (λ t. option_or (place (has_pattern q) links) (cond t (Some (length links)) None)) is
      ∙ or_none (place (has_pattern q) links))

pub not_some : (o : Option ℕ) → false ≡ is_some o → o ≡ None
not_some None is = refl
not_some (Some n) is = absurd (cc)
