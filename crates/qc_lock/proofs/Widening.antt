-- Places that are added and dropped one after another.
use Rattle.std.proofs.Common.{◌≡◌, ◌⊎◌, inl, inr, ℕ, ◌<◌, Bool, true, false, cond, ◌==◌, ◌&&◌, ◌||◌, not, List, take}
use Rattle.std.proofs.Common.{drop, refl, sym, ◌∙◌, ap, subst}
use Rattle.std.specs.BTreeMap.{is_at}
use Rattle.std.specs.BTreeSet.{BTreeSet}
use Rattle.std.specs.List.{list_any}
use Rattle.std.specs.Ordering.{is_eq, nat_cmp, ordering_then}
use Rattle.std.specs.declared.cmp.Ordering.{Ordering}
use Rattle.std.specs.declared.cmp.Ordering.TheVariants.{Less, Equal, Greater}
use Rattle.std.proofs.lemmas.Bool.{and_parts, both_ways, eqb-true, or_cases, or_left, or_right}
use Rattle.std.proofs.lemmas.List.{take-append-drop}
use Rattle.std.proofs.lemmas.List.Folds.{list_any-append}
use Rattle.qc_stamp.specs.declared.stamp.TxId.{TxId}
use Rattle.qc_stamp.specs.Vocabulary.{tx_cmp}
use Rattle.qc_lock.specs.declared.holder_set.HolderKey.{HolderKey}
use Rattle.qc_lock.specs.Vocabulary.{Narrows, Sets, Widens, is_there, place_cmp, same_tx}
use Rattle.qc_lock.proofs.Holding.{place}
use Rattle.qc_lock.proofs.NumberedEntries.{tx_same}
use Rattle.qc_stamp.proofs.Orders.{same_tx_itself, same_tx_is, other_tx_sym}
use Rattle.qc_list.proofs.Numbers.{cmp_is_eq}

-- one test passes what the other does, and these numbers
abbrev pub Grows : (ℕ → ℕ → Bool) → (ℕ → ℕ → Bool) → ℕ → ℕ → Type 0
Grows test more object number = (a b : ℕ) → more a b ≡ (test a b || ((object == a) && (number == b)))

then_eq : (a b : Ordering) → is_eq (ordering_then a b) ≡ (is_eq a && is_eq b)
then_eq Less b = refl
then_eq Equal b = refl
then_eq Greater b = refl

-- when two places are the same
place_same : (object number a b : ℕ) (tx other : TxId)
    → is_eq (place_cmp (place object number tx) (place a b other)) ≡
    ((object == a) && ((number == b) && same_tx tx other))
place_same object number a b tx other =
    then_eq (nat_cmp object a) _ ∙ ap (λ t. t && is_eq (ordering_then (nat_cmp number b) (tx_cmp tx other)))
    (cmp_is_eq object a)
    ∙ ap (λ t. (object == a) && t) (then_eq (nat_cmp number b) _
    ∙ ap (λ t. t && is_eq (tx_cmp tx other)) (cmp_is_eq number b) ∙ ap (λ t. (number == b) && t) (tx_same tx other))

sets_at : (before after : BTreeSet HolderKey) (object number : ℕ) (tx : TxId) (there : Bool)
    → Sets before after object number tx there → (a b : ℕ) (other : TxId)
    → is_there after a b other ≡ cond ((object == a) && ((number == b) && same_tx tx other)) there
    (is_there before a b other)
sets_at before after object number tx there sets a b other = sets (place a b other)
    ∙ ap (λ t. cond t there (is_there before a b other)) (place_same object number a b tx other)

-- more places

pub widens_none : (places : BTreeSet HolderKey) (tx : TxId) → Widens places places tx (λ a b. false) true
widens_none places tx = record {
  kept = λ other a b there. there;
  within = λ other a b there gone. absurd (both_ways (is_there places a b other) gone there);
  done = λ all a b never. absurd (let no_case : ⊥ = cc in no_case);
}

pub widens_more : (before mid after : BTreeSet HolderKey) (tx : TxId) (test more : ℕ → ℕ → Bool) (object number : ℕ)
    → number < 256
    → Widens before mid tx test true → Sets mid after object number tx true → Grows test more object number
    → Widens before after tx more true
widens_more before mid after tx test more object number small widens sets grows = record {
  kept = λ other a b there. stays other a b (widens.kept other a b there);
  within = within;
  done = λ all a b passes. done a b (or_cases (test a b) ((object == a) && (number == b)) (sym (grows a b) ∙ passes));
} where
  here : ℕ → ℕ → TxId → Bool
  here a b other = (object == a) && ((number == b) && same_tx tx other)

  at : (a b : ℕ) (other : TxId) → is_there after a b other ≡ cond (here a b other) true (is_there mid a b other)
  at a b other = sets_at mid after object number tx true sets a b other

  stays : (other : TxId) (a b : ℕ) → is_there mid a b other ≡ true → is_there after a b other ≡ true
  stays other a b there = at a b other ∙ by (here a b other) where
    by : (t : Bool) → cond t true (is_there mid a b other) ≡ true
    by true = refl
    by false = there

  within : (other : TxId) (a b : ℕ) → is_there after a b other ≡ true → is_there before a b other ≡ false
      → (other ≡ tx) × (more a b ≡ true) × (b < 256)
  within other a b there gone = by (here a b other) refl (sym (at a b other) ∙ there) where
    by : (t : Bool) → here a b other ≡ t → cond t true (is_there mid a b other) ≡ true
        → (other ≡ tx) × (more a b ≡ true) × (b < 256)
    by true is there =
        let parts = and_parts (object == a) ((number == b) && same_tx tx other) is in
        let rest = and_parts (number == b) (same_tx tx other) parts.1 in
        let both : ((object == a) && (number == b)) ≡ true =
        subst (λ t. (t && (number == b)) ≡ true) (sym parts.0) rest.0 in (
          sym (same_tx_is tx other rest.1),
          grows a b ∙ or_right (test a b) ((object == a) && (number == b)) both,
          subst (λ n. n < 256) (eqb-true number b rest.0) small,
        )
    by false is there =
        let was = widens.within other a b there gone in
        (was.0, grows a b ∙ or_left (test a b) ((object == a) && (number == b)) was.1, was.2)

  done : (a b : ℕ) → (test a b ≡ true) ⊎ (((object == a) && (number == b)) ≡ true) → is_there after a b tx ≡ true
  done a b (inl passes) = stays tx a b (widens.done refl a b passes)
  done a b (inr is) =
      let parts = and_parts (object == a) (number == b) is in
      at a b tx ∙ ap (λ t. cond t true (is_there mid a b tx))
      (subst (λ t. (t && ((number == b) && same_tx tx tx)) ≡ true) (sym parts.0)
      (subst (λ t. (t && same_tx tx tx) ≡ true) (sym parts.1) (same_tx_itself tx)))

-- some of the places, where the next found no memory
pub widens_part : (before mid after : BTreeSet HolderKey) (tx : TxId) (test more : ℕ → ℕ → Bool)
    → Widens before mid tx test true → after.keys ≡ mid.keys → ((a b : ℕ) → test a b ≡ true → more a b ≡ true)
    → Widens before after tx more false
widens_part before mid after tx test more widens same grows = record {
  kept = λ other a b there. as_before other a b ∙ widens.kept other a b there;
  within = λ other a b there gone.
      let was = widens.within other a b (sym (as_before other a b) ∙ there) gone in
      (was.0, grows a b was.1, was.2);
  done = λ all a b passes. absurd (let no_case : ⊥ = cc in no_case);
} where
  as_before : (other : TxId) (a b : ℕ) → is_there after a b other ≡ is_there mid a b other
  as_before other a b = ap (λ ks. list_any (is_at (place_cmp (place a b other))) ks) same

-- what one of the first passes, one of all passes
pub part_passes : {A : Type 0} (p : A → Bool) (n : ℕ) (xs : List A) → list_any p (take n xs) ≡ true
    → list_any p xs ≡ true
part_passes p n xs passes =
    subst (λ ys. list_any p ys ≡ true) (take-append-drop n xs)
    (list_any-append p (take n xs) (drop n xs) ∙ or_left (list_any p (take n xs)) (list_any p (drop n xs)) passes)

-- fewer places

pub narrows_none : (places : BTreeSet HolderKey) (tx : TxId) (spared : ℕ → ℕ → Bool)
    → Narrows places places tx (λ a b. false) spared
narrows_none places tx spared = λ other a b. by (is_there places a b other) (same_tx other tx) where
  by : (t s : Bool) → t ≡ (t && not (s && false))
  by true true = refl
  by true false = refl
  by false s = refl

pub narrows_more : (before mid after : BTreeSet HolderKey) (tx : TxId) (test more spared : ℕ → ℕ → Bool)
    (object number : ℕ)
    → spared object number ≡ false
    → Narrows before mid tx test spared → Sets mid after object number tx false → Grows test more object number
    → Narrows before after tx more spared
narrows_more before mid after tx test more spared object number apart narrows sets grows = λ other a b.
    sets_at mid after object number tx false sets a b other
    ∙ ap (cond ((object == a) && ((number == b) && same_tx tx other)) false) (narrows other a b)
    ∙ ap (λ t. cond ((object == a) && ((number == b) && t)) false
    (is_there before a b other && not (same_tx other tx && (test a b && not (spared a b))))) (same_turned tx other)
    ∙ by (object == a) (number == b) (same_tx other tx) (test a b) (spared a b) (is_there before a b other)
    (λ o n. here a b o n)
    ∙ ap (λ t. is_there before a b other && not (same_tx other tx && (t && not (spared a b)))) (sym (grows a b)) where
      here : (a b : ℕ) → (object == a) ≡ true → (number == b) ≡ true → spared a b ≡ false
      here a b o n = subst (λ m. spared m b ≡ false) (eqb-true object a o)
          (subst (λ m. spared object m ≡ false) (eqb-true number b n) apart)

      by : (o n s f k w : Bool) → (o ≡ true → n ≡ true → k ≡ false)
          → cond (o && (n && s)) false (w && not (s && (f && not k))) ≡ (w && not (s && ((f || (o && n)) && not k)))
      by true true true true k w rest = both_sides k w (rest refl refl) where
        both_sides : (k w : Bool) → k ≡ false → false ≡ (w && not (true && (true && not k)))
        both_sides true w is = absurd (let no_case : ⊥ = cc in no_case)
        both_sides false true is = refl
        both_sides false false is = refl
      by true true true false k w rest = both_sides k w (rest refl refl) where
        both_sides : (k w : Bool) → k ≡ false → false ≡ (w && not (true && (true && not k)))
        both_sides true w is = absurd (let no_case : ⊥ = cc in no_case)
        both_sides false true is = refl
        both_sides false false is = refl
      by true true false f k w rest = refl
      by true false s true k w rest = refl
      by true false s false k w rest = refl
      by false n s true k w rest = refl
      by false n s false k w rest = refl

      same_turned : (x y : TxId) → same_tx x y ≡ same_tx y x
      same_turned x y = turned (same_tx x y) refl where
        turned : (t : Bool) → same_tx x y ≡ t → t ≡ same_tx y x
        turned true is = sym (subst (λ u. same_tx u x ≡ true) (same_tx_is x y is) (same_tx_itself x))
        turned false is = sym (other_tx_sym x y is)

pub narrows_spared : (before mid : BTreeSet HolderKey) (tx : TxId) (test more spared : ℕ → ℕ → Bool) (object number : ℕ)
    → spared object number ≡ true
    → Narrows before mid tx test spared → Grows test more object number → Narrows before mid tx more spared
narrows_spared before mid tx test more spared object number kept narrows grows = λ other a b.
    narrows other a b
    ∙ by (object == a) (number == b) (same_tx other tx) (test a b) (spared a b) (is_there before a b other)
    (λ o n. here a b o n)
    ∙ ap (λ t. is_there before a b other && not (same_tx other tx && (t && not (spared a b)))) (sym (grows a b)) where
      here : (a b : ℕ) → (object == a) ≡ true → (number == b) ≡ true → spared a b ≡ true
      here a b o n = subst (λ m. spared m b ≡ true) (eqb-true object a o)
          (subst (λ m. spared object m ≡ true) (eqb-true number b n) kept)

      by : (o n s f k w : Bool) → (o ≡ true → n ≡ true → k ≡ true)
          → (w && not (s && (f && not k))) ≡ (w && not (s && ((f || (o && n)) && not k)))
      by o n s true k w rest = refl
      by true true s false true w rest = refl
      by true true s false false w rest = absurd
          (let wrong : false ≡ true = rest refl refl in let no_case : ⊥ = cc in no_case)
      by true false s false k w rest = refl
      by false n s false k w rest = refl
