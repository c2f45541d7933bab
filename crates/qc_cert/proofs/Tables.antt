-- Tables of bits tell which sets are within another: what a row is, how rows join, and what is left in the end.
use Rattle.std.proofs.Common.{[], ◌≡◌, ◌⊎◌, inl, inr, ℕ, max, ◌+◌, ◌-◌, ◌*◌, ◌/◌, ◌%◌, ◌^◌, ◌<◌, ◌≤◌, Bool, true, false}
use Rattle.std.proofs.Common.{List, ◌∷◌, ◌++◌, All, Some, slice_get, length, get_or, bit_or, refl, sym, ap, subst, ◌∙◌}
use Rattle.std.proofs.Common.{arith}
use Rattle.std.specs.Prelude.{◌==◌, ◌||◌, not}
use Rattle.std.specs.Int.{bit_at}
use Rattle.std.proofs.lemmas.Bool.{cases_lt, eqb-true, eqb-false, false_from_ne_true, ne_eqb, true≢false}
use Rattle.std.proofs.lemmas.List.{get_or_append_left, get_or_push, length-append}
use Rattle.std.proofs.lemmas.List.Folds.{list_any_none}
use Rattle.std.proofs.lemmas.Nat.{or_comm}
use Rattle.std.proofs.lemmas.Nat.Bits.{bit_at-zero, bit_at_or, same_from_bits}
use Rattle.std.proofs.lemmas.Option.{slice_get-get_or}
use Rattle.qc_cert.specs.Vocabulary.{AreLeft, AreRows, IsLeft, IsRow, IsWord, agrees, any_within, keeps, no_row}
use Rattle.qc_cert.specs.declared.blocks.Row.{Row}
use Rattle.qc_table.proofs.Related.{has_with}
use Rattle.qc_table.specs.Vocabulary.{has, is_within, with_member}
use Rattle.qc_cert.proofs.PieceTables.{within_agrees, word_hit}
use Rattle.qc_list.proofs.Booleans.{or_true, or_false}
use Rattle.qc_table.proofs.Sets.{none_left}

-- words without one
word_missed : (sets : List ℕ) (out from word place set : ℕ) → AreLeft sets out 16 from word → word ≡ 0 → from ≤ place
    → place < from + 64
    → slice_get sets place ≡ Some set → is_within set out ≡ true → ⊥
word_missed sets out from word place set left none low high at within =
    let same : from + (place - from) ≡ place = omega (arith, low) in
    let here : has word (place - from) ≡ true =
    left (place - from) (omega (arith, low, high)) ∙ ap (λ n. agrees sets out n 16) same
    ∙ within_agrees sets out place set 16 at within in
    true≢false (sym here ∙ none_left word none (place - from))

pub none_hit : (sets : List ℕ) (out : ℕ) (row : Row) → length sets ≤ 256 → IsLeft sets out 16 row
    → row.first ≡ 0 → row.second ≡ 0 → row.third ≡ 0 → row.fourth ≡ 0 → any_within sets out ≡ false
none_hit sets out row few left a b c d = list_any_none (λ s. is_within s out) sets (λ k default l.
    false_from_ne_true (is_within (get_or sets k default) out) (λ (here : is_within (get_or sets k default) out ≡ true).
    by k (get_or sets k default) (slice_get-get_or sets k default l) here (omega (arith, l, few)) (cases_lt k 64)
    (cases_lt k 128) (cases_lt k 192)))
  where
    by : (k set : ℕ) → slice_get sets k ≡ Some set → is_within set out ≡ true → k < 256 → (k < 64) ⊎ (64 ≤ k)
        → (k < 128) ⊎ (128 ≤ k) → (k < 192) ⊎ (192 ≤ k) → ⊥
    by k set at within l (inl one) two three =
        word_missed sets out 0 row.first k set left.first a (omega arith) (omega (arith, one)) at within
    by k set at within l (inr one) (inl two) three =
        word_missed sets out 64 row.second k set left.second b one (omega (arith, two)) at within
    by k set at within l (inr one) (inr two) (inl three) =
        word_missed sets out 128 row.third k set left.third c two (omega (arith, three)) at within
    by k set at within l (inr one) (inr two) (inr three) =
        word_missed sets out 192 row.fourth k set left.fourth d three (omega (arith, l)) at within

-- ---- how a word is made
-- a word of the first bits
pub record IsBegun (sets : List ℕ) (from number some count word : ℕ) : Type 0 where
  pub below : (k : ℕ) → k < count → has word k ≡ keeps sets (from + k) number some
  pub above : (k : ℕ) → count ≤ k → has word k ≡ false

-- the first of 64 has no bit yet
pub begun : (sets : List ℕ) (from number some : ℕ) → IsBegun sets from number some 0 0
begun sets from number some = record {
  below = λ k l. absurd (omega (arith, l));
  above = λ k past. none_left 0 refl k;
}

-- one set more, which keeps to the piece or doesn't
pub begun_with : (sets : List ℕ) (from number some count word : ℕ) → IsBegun sets from number some count word
    → keeps sets (from + count) number some ≡ true
    → IsBegun sets from number some (count + 1) (with_member word count)
begun_with sets from number some count word old here = record {
  below = λ k l. has_with word count k ∙ by k (count == k) refl l;
  above = λ k past.
      has_with word count k ∙ ap (λ b. b || (count == k)) (old.above k (omega (arith, past)))
      ∙ ne_eqb count k (λ (same : count ≡ k). omega (arith, past, same));
}
  where
    by : (k : ℕ) (b : Bool) → (count == k) ≡ b → k < count + 1 → (has word k || b) ≡ keeps sets (from + k) number some
    by k true e l = or_true (has word k) ∙ sym here ∙ ap (λ n. keeps sets (from + n) number some) (eqb-true count k e)
    by k false e l =
        or_false (has word k)
        ∙ old.below k (let apart : (count ≡ k) → ⊥ = eqb-false count k e in omega (arith, l, apart))

pub begun_without : (sets : List ℕ) (from number some count word : ℕ) → IsBegun sets from number some count word
    → keeps sets (from + count) number some ≡ false
    → IsBegun sets from number some (count + 1) word
begun_without sets from number some count word old lacks = record {
  below = λ k l. by k (cases_lt k count) l;
  above = λ k past. old.above k (omega (arith, past));
}
  where
    by : (k : ℕ) → (k < count) ⊎ (count ≤ k) → k < count + 1 → has word k ≡ keeps sets (from + k) number some
    by k (inl less) l = old.below k less
    by k (inr past) l =
        let same : count ≡ k = omega (arith, l, past) in
        old.above k past ∙ sym lacks ∙ ap (λ n. keeps sets (from + n) number some) same

pub begun_all : (sets : List ℕ) (from number some count word : ℕ) → IsBegun sets from number some count word
    → 64 ≤ count → IsWord sets from number some word
begun_all sets from number some count word old past k l = old.below k (omega (arith, l, past))

-- ---- how a table is made
-- one row more
pub rows_more : (sets : List ℕ) (rows : List Row) (row : Row) → AreRows sets rows
    → IsRow sets (length rows / 16) (length rows % 16) row → AreRows sets (rows ++ row ∷ [])
rows_more sets rows row old new place l = by (cases_lt place (length rows))
  where
    by : (place < length rows) ⊎ (length rows ≤ place)
        → IsRow sets (place / 16) (place % 16) (get_or (rows ++ row ∷ []) place no_row)
    by (inl less) =
        subst (λ r. IsRow sets (place / 16) (place % 16) r) (sym (get_or_append_left rows (row ∷ []) no_row place less))
        (old place less)
    by (inr past) =
        let all : length (rows ++ row ∷ []) ≡ length rows + 1 = length-append rows (row ∷ []) in
        let same : length rows ≡ place = omega (arith, l, past, all) in
        subst (λ n. IsRow sets (n / 16) (n % 16) (get_or (rows ++ row ∷ []) n no_row)) same
        (subst (λ r. IsRow sets (length rows / 16) (length rows % 16) r)
        (sym (get_or_push rows row no_row (length rows) refl)) new)

-- the row of a piece and a choice
pub row_at : (sets : List ℕ) (rows : List Row) (number some place : ℕ) (row : Row) → AreRows sets rows
    → length rows ≡ 256 → number < 16 → some < 16
    → place ≡ number * 16 + some → row ≡ get_or rows place no_row → IsRow sets number some row
row_at sets rows number some place row told all n s at is =
    let whole : place / 16 ≡ number = omega (arith, s, at) in
    let left : place % 16 ≡ some = omega (arith, s, at) in
    subst (IsRow sets number some) (sym is)
    (subst (λ m. IsRow sets number m (get_or rows place no_row)) left
    (subst (λ m. IsRow sets m (place % 16) (get_or rows place no_row)) whole
    (told place (omega (arith, all, n, s, at)))))

-- ---- the answer
or_zero : (a b : ℕ) → bit_or a b ≡ 0 → a ≡ 0
or_zero a b none = same_from_bits a 0 (λ k.
    let both : bit_at 0 k ≡ max (bit_at a k) (bit_at b k) = ap (λ n. bit_at n k) (sym none) ∙ bit_at_or a b k in
    grind (arith, both, bit_at-zero k))

-- whether some bit is left tells whether a set is within
pub left_tells : (sets : List ℕ) (out : ℕ) (row : Row) → length sets ≤ 256 → All (λ set. set < 2 ^ 64) sets
    → IsLeft sets out 16 row
    → row.first < 2 ^ 64 → row.second < 2 ^ 64 → row.third < 2 ^ 64 → row.fourth < 2 ^ 64
    → not (bit_or (bit_or (bit_or row.first row.second) row.third) row.fourth == 0) ≡ any_within sets out
left_tells sets out row few small left fa fb fc fd =
    by (bit_or (bit_or (bit_or row.first row.second) row.third) row.fourth == 0) refl
    (row.first == 0) (row.second == 0) (row.third == 0) (row.fourth == 0) refl refl refl refl
  where
    some : ℕ
    some = bit_or (bit_or (bit_or row.first row.second) row.third) row.fourth

    by : (b : Bool) → (some == 0) ≡ b → (v w x y : Bool) → (row.first == 0) ≡ v → (row.second == 0) ≡ w
        → (row.third == 0) ≡ x → (row.fourth == 0) ≡ y → not b ≡ any_within sets out
    by true e v w x y ev ew ex ey =
        let all : some ≡ 0 = eqb-true some 0 e in
        let three : bit_or (bit_or row.first row.second) row.third ≡ 0 = or_zero _ row.fourth all in
        let two : bit_or row.first row.second ≡ 0 = or_zero _ row.third three in
        sym (none_hit sets out row few left (or_zero row.first row.second two)
        (or_zero row.second row.first (or_comm row.second row.first ∙ two))
        (or_zero row.third (bit_or row.first row.second) (or_comm row.third _ ∙ three))
        (or_zero row.fourth _ (or_comm row.fourth (bit_or (bit_or row.first row.second) row.third) ∙ all)))
    by false e false w x y ev ew ex ey =
        sym (word_hit sets out 0 row.first small left.first fa (eqb-false row.first 0 ev))
    by false e true false x y ev ew ex ey =
        sym (word_hit sets out 64 row.second small left.second fb (eqb-false row.second 0 ew))
    by false e true true false y ev ew ex ey =
        sym (word_hit sets out 128 row.third small left.third fc (eqb-false row.third 0 ex))
    by false e true true true false ev ew ex ey =
        sym (word_hit sets out 192 row.fourth small left.fourth fd (eqb-false row.fourth 0 ey))
    by false e true true true true ev ew ex ey = absurd (eqb-false some 0 e (
        ap (λ n. bit_or (bit_or (bit_or n row.second) row.third) row.fourth) (eqb-true row.first 0 ev)
        ∙ ap (λ n. bit_or (bit_or (bit_or 0 n) row.third) row.fourth) (eqb-true row.second 0 ew)
        ∙ ap (λ n. bit_or (bit_or (bit_or 0 0) n) row.fourth) (eqb-true row.third 0 ex)
        ∙ ap (λ n. bit_or (bit_or (bit_or 0 0) 0) n) (eqb-true row.fourth 0 ey)))
