-- Marks of the triples that stand nowhere before: what those cover.
use Rattle.std.proofs.Common.{[], ◌≡◌, ℕ, suc, ◌+◌, ◌<◌, Bool, true, false, cond, List, ◌∷◌, ◌++◌, All, length, get_or}
use Rattle.std.proofs.Common.{take, drop, refl, sym, ap, ◌∙◌, arith, Ordering}
use Rattle.std.specs.Prelude.{not, ◌==◌, ◌&&◌, ◌||◌}
use Rattle.std.specs.List.{list_any, AllByRecursion}
use Rattle.std.specs.Ordering.{is_eq, nat_cmp, ordering_then}
use Rattle.std.proofs.lemmas.Bool.{eqb-true, and_parts, or_left, or_right, true≢false}
use Rattle.std.proofs.lemmas.List.{take_more, drop_more}
use Rattle.std.proofs.lemmas.Grind.{common_steps}
use Rattle.std.proofs.lemmas.List.Elements.{All-from_recursion, recursion_from_All}
use Rattle.std.proofs.lemmas.List.Folds.{list_any-append}
use Rattle.qc_cert.specs.Vocabulary.{covers, distinct, firsts, firsts_after, is_among, is_covered, is_same, marked}
use Rattle.qc_cert.specs.Vocabulary.{triple}
use Rattle.qc_cert.specs.declared.triple.Triple.{Triple}
use Rattle.qc_list.proofs.Numbers.{cmp_is_eq}

-- ---- what the set's order tells
number_then : (x y : ℕ) (o : Ordering) (b : Bool) → is_eq o ≡ b
    → is_eq (ordering_then (nat_cmp x y) o) ≡ ((x == y) && b)
number_then x y o b e = grind (arith, common_steps, e)

-- equal by the order are those that are the same
abbrev pub TellsSame : (Triple → Triple → Ordering) → Type 0
TellsSame cmp = (a b : Triple) → is_eq (cmp a b) ≡ is_same a b

abbrev pub triple_cmp : Triple → Triple → Ordering
triple_cmp a b = ordering_then (nat_cmp a.view b.view) (ordering_then (nat_cmp a.log b.log) (nat_cmp a.out b.out))

pub order_tells : TellsSame triple_cmp
order_tells a b =
    number_then a.view b.view (ordering_then (nat_cmp a.log b.log) (nat_cmp a.out b.out))
    ((a.log == b.log) && (a.out == b.out))
    (number_then a.log b.log (nat_cmp a.out b.out) (a.out == b.out) (cmp_is_eq a.out b.out))

-- ---- the same triple
pub same_equal : (a b : Triple) → is_same a b ≡ true → a ≡ b
same_equal a b s =
    let one : ((a.view == b.view) ≡ true) × (((a.log == b.log) && (a.out == b.out)) ≡ true) =
    and_parts (a.view == b.view) ((a.log == b.log) && (a.out == b.out)) s in
    let two : ((a.log == b.log) ≡ true) × ((a.out == b.out) ≡ true) =
    and_parts (a.log == b.log) (a.out == b.out) one.1 in
    ap (λ v. triple v a.log a.out) (eqb-true a.view b.view one.0)
    ∙ ap (λ l. triple b.view l a.out) (eqb-true a.log b.log two.0)
    ∙ ap (λ o. triple b.view b.log o) (eqb-true a.out b.out two.1)

-- a triple that no other is equal to, or that is among those before
pub among_more : (before : List Triple) (t q : Triple)
    → is_among (before ++ t ∷ []) q ≡ (is_among before q || is_same t q)
among_more before t q =
    list_any-append (λ a. is_same a q) before (t ∷ []) ∙ ap (λ b. is_among before q || b) (or_none (is_same t q))
  where
    or_none : (b : Bool) → (b || false) ≡ b
    or_none true = refl
    or_none false = refl

-- the same test the other way round
same_back : (a b : Triple) → is_same a b ≡ is_same b a
same_back a b = rw (eqb_back a.view b.view, eqb_back a.log b.log, eqb_back a.out b.out) refl
  where
    eqb_back : (x y : ℕ) → (x == y) ≡ (y == x)
    eqb_back x y = grind (arith, common_steps)

-- a look-up by the order
pub among_by : (cmp : Triple → Triple → Ordering) → TellsSame cmp → (ks : List Triple) (t : Triple)
    → list_any (λ k. is_eq (cmp t k)) ks ≡ is_among ks t
among_by cmp tells [] t = refl
among_by cmp tells (k ∷ ks) t =
    ap (λ b. b || list_any (λ j. is_eq (cmp t j)) ks) (tells t k ∙ same_back t k)
    ∙ ap (λ b. is_same k t || b) (among_by cmp tells ks t)

-- ---- marks
pub length_firsts : (before ts : List Triple) → length (firsts_after before ts) ≡ length ts
length_firsts before [] = refl
length_firsts before (t ∷ ts) = ap suc (length_firsts (before ++ t ∷ []) ts)

-- one triple more was marked
pub marks_more : (list : List Triple) (i : ℕ) (x d : Triple) → i < length list → x ≡ get_or list i d
    → firsts_after (take i list) (drop i list)
    ≡ not (is_among (take i list) x) ∷ firsts_after (take (i + 1) list) (drop (i + 1) list)
marks_more list i x d l e =
    ap (firsts_after (take i list)) (drop_more list i d l ∙ ap (λ y. y ∷ drop (i + 1) list) (sym e))
    ∙ ap (λ ts. not (is_among (take i list) x) ∷ firsts_after ts (drop (i + 1) list))
    (sym (take_more list i d l ∙ ap (λ y. take i list ++ y ∷ []) (sym e)))

-- the triples with a mark, from a place on
pub marked_more : (marks : List Bool) (list : List Triple) (i : ℕ) (b c : Bool) (x d : Triple) → i < length marks
    → i < length list → b ≡ get_or marks i c → x ≡ get_or list i d
    → marked (drop i marks) (drop i list)
    ≡ cond b (x ∷ marked (drop (i + 1) marks) (drop (i + 1) list)) (marked (drop (i + 1) marks) (drop (i + 1) list))
marked_more marks list i b c x d m l be xe =
    ap (λ ms. marked ms (drop i list)) (drop_more marks i c m ∙ ap (λ y. y ∷ drop (i + 1) marks) (sym be))
    ∙ ap (marked (b ∷ drop (i + 1) marks)) (drop_more list i d l ∙ ap (λ y. y ∷ drop (i + 1) list) (sym xe))

-- a triple that was seen
pub seen_more : (list : List Triple) (i : ℕ) (x d q : Triple) → i < length list → x ≡ get_or list i d
    → is_among (take (i + 1) list) q ≡ (is_among (take i list) q || is_same x q)
seen_more list i x d q l e =
    ap (λ ts. is_among ts q) (take_more list i d l ∙ ap (λ y. take i list ++ y ∷ []) (sym e))
    ∙ among_more (take i list) x q

-- what the set that was given a triple has
pub seen_with : (cmp : Triple → Triple → Ordering) → TellsSame cmp → (old new : List Triple) (x : Triple)
    → ((t : Triple)
    → list_any (λ k. is_eq (cmp t k)) new ≡ cond (is_eq (cmp x t)) true (list_any (λ k. is_eq (cmp t k)) old))
    → (t : Triple) → is_among new t ≡ (is_among old t || is_same x t)
seen_with cmp tells old new x updates t =
    sym (finds new) ∙ updates t ∙ ap (λ b. cond b true (list_any (λ k. is_eq (cmp t k)) old)) (tells x t)
    ∙ ap (cond (is_same x t) true) (finds old) ∙ either (is_same x t) (is_among old t)
  where
    finds : (ks : List Triple) → list_any (λ k. is_eq (cmp t k)) ks ≡ is_among ks t
    finds ks = among_by cmp tells ks t

    either : (b c : Bool) → cond b true c ≡ (c || b)
    either true true = refl
    either true false = refl
    either false true = refl
    either false false = refl

-- what holds of each triple holds of each that has a mark
all_marked : (P : Triple → Type 0) (marks : List Bool) (ts : List Triple) → AllByRecursion P ts
    → AllByRecursion P (marked marks ts)
all_marked P [] ts all = tt
all_marked P (m ∷ ms) [] all = tt
all_marked P (true ∷ ms) (t ∷ ts) all = (all.0, all_marked P ms ts all.1)
all_marked P (false ∷ ms) (t ∷ ts) all = all_marked P ms ts all.1

pub All-distinct : (P : Triple → Type 0) (list : List Triple) → All P list → All P (distinct list)
All-distinct P list all =
    All-from_recursion P (distinct list) (all_marked P (firsts list) list (recursion_from_All P list all))

-- ---- what is covered
among_covers : (before : List Triple) (x t : Triple) → is_among before x ≡ true → covers x t ≡ true
    → is_covered before t ≡ true
among_covers [] x t among c = absurd (true≢false (sym among))
among_covers (a ∷ before) x t among c = by (is_same a x) refl among (λ later. among_covers before x t later c)
  where
    by : (b : Bool) → is_same a x ≡ b → (b || is_among before x) ≡ true
        → (is_among before x ≡ true → is_covered before t ≡ true) → is_covered (a ∷ before) t ≡ true
    by true same either later =
        or_left (covers a t) (is_covered before t) (ap (λ y. covers y t) (same_equal a x same) ∙ c)
    by false same either later = or_right (covers a t) (is_covered before t) (later either)

-- each triple that stands before or after is covered by those before and the first of the others
covered_after : (before ts : List Triple) (t : Triple)
    → (is_covered before t || is_covered (marked (firsts_after before ts) ts) t)
    ≡ (is_covered before t || is_covered ts t)
covered_after before [] t = refl
covered_after before (x ∷ ts) t = by (is_among before x) refl
    (ap (λ b. b || is_covered (marked (firsts_after (before ++ x ∷ []) ts) ts) t)
    (sym (list_any-append (λ a. covers a t) before (x ∷ [])))
    ∙ covered_after (before ++ x ∷ []) ts t
    ∙ ap (λ b. b || is_covered ts t) (list_any-append (λ a. covers a t) before (x ∷ [])))
  where
    rest : List Triple
    rest = marked (firsts_after (before ++ x ∷ []) ts) ts

    first : (b c m n : Bool) → ((b || (c || false)) || m) ≡ ((b || (c || false)) || n)
        → (b || (c || m)) ≡ (b || (c || n))
    first true c m n e = refl
    first false true m n e = refl
    first false false m n e = e

    again : (b c m n : Bool) → (c ≡ true → b ≡ true) → ((b || (c || false)) || m) ≡ ((b || (c || false)) || n)
        → (b || m) ≡ (b || (c || n))
    again true c m n before e = refl
    again false true m n before e = absurd (true≢false (sym (before refl)))
    again false false m n before e = e

    by : (b : Bool) → is_among before x ≡ b
        → ((is_covered before t || (covers x t || false)) || is_covered rest t)
        ≡ ((is_covered before t || (covers x t || false)) || is_covered ts t)
        → (is_covered before t || is_covered (cond (not b) (x ∷ rest) rest) t)
        ≡ (is_covered before t || (covers x t || is_covered ts t))
    by true among more =
        again (is_covered before t) (covers x t) (is_covered rest t) (is_covered ts t) (among_covers before x t among)
        more
    by false among more = first (is_covered before t) (covers x t) (is_covered rest t) (is_covered ts t) more

-- being covered by the distinct triples is being covered by all
pub distinct_triples_cover_alike : (list : List Triple) (t : Triple) → is_covered (distinct list) t ≡ is_covered list t
distinct_triples_cover_alike list t = covered_after [] list t
