-- Pieces of a set, as rows of bits: how rows join, and what is left in the end.
use Rattle.std.proofs.Common.{◌≡◌, ◌⊎◌, inl, inr, ℕ, zero, suc, ◌+◌, ◌-◌, ◌*◌, ◌/◌, ◌%◌, ◌^◌, ◌<◌, ◌≤◌, Bool, true}
use Rattle.std.proofs.Common.{false, List, All, Option, Some, None, slice_get, length, get_or, bit_and, refl, sym, ap}
use Rattle.std.proofs.Common.{◌∙◌, add-one, arith, w64}
use Rattle.std.specs.Prelude.{◌==◌, ◌&&◌}
use Rattle.std.specs.Int.{bit_at, trailing_zeros}
use Rattle.std.specs.Option.{option_map_or}
use Rattle.std.proofs.lemmas.Bool.{and_from, and_parts, cases_lt, eqb-true, eqb-false, eq-eqb, false_from_ne_true}
use Rattle.std.proofs.lemmas.Bool.{true≢false}
use Rattle.std.proofs.lemmas.List.Folds.{list_any_at}
use Rattle.std.proofs.lemmas.Nat.{pow_pos, shr_split}
use Rattle.std.proofs.lemmas.Nat.Bits.{bit_at-lt, bit_at_and, bit_at_above, bit_at_cat_high, bit_at_cat_low}
use Rattle.std.proofs.lemmas.Nat.Bits.{bit_at_ones}
use Rattle.std.proofs.lemmas.Option.{get_or_from_slice_get, slice_get_within}
use Rattle.std.proofs.Math.Nat.{mod-lt}
use Rattle.qc_cert.proofs.Computed.{true_within, within_true}
use Rattle.qc_cert.proofs.Shared.{lowest_has}
use Rattle.qc_cert.specs.Vocabulary.{AreLeft, IsLeft, IsRow, IsWord, agrees, any_within, keeps, piece}
use Rattle.qc_cert.specs.declared.blocks.Row.{Row}
use Rattle.qc_table.specs.Vocabulary.{IsWithin, has, is_within}
use Rattle.qc_table.proofs.Sets.{below_64}

-- ---- pieces
-- a number shifted, and its lowest bits
shifted : (n k i : ℕ) → bit_at (n / 2 ^ k) i ≡ bit_at n (i + k)
shifted n k i =
    let less : n % 2 ^ k < 2 ^ k = mod-lt n (pow_pos k) in
    let high : bit_at (n / 2 ^ k * 2 ^ k + n % 2 ^ k) (i + k) ≡ bit_at (n / 2 ^ k) (i + k - k) =
    bit_at_cat_high (n / 2 ^ k) k (n % 2 ^ k) (i + k) less (omega arith) in
    let back : i + k - k ≡ i = omega arith in
    sym (ap (λ m. bit_at m (i + k)) (sym (shr_split n k)) ∙ high ∙ ap (bit_at (n / 2 ^ k)) back)

lowest : (n i : ℕ) → i < 4 → bit_at (n % 16) i ≡ bit_at n i
lowest n i l =
    let whole : n ≡ n / 16 * 2 ^ 4 + n % 16 = omega arith in
    sym (ap (λ m. bit_at m i) whole ∙ bit_at_cat_low (n / 16) 4 (n % 16) i l)

pub piece_has : (set number i : ℕ) → i < 4 → has (piece set number) i ≡ has set (i + 4 * number)
piece_has set number i l = ap (λ b. b == 1) (lowest (set / 2 ^ (4 * number)) i l ∙ shifted set (4 * number) i)

pub piece_small : (set number : ℕ) → piece set number < 16
piece_small set number = omega arith

past_piece : (set number i : ℕ) → has (piece set number) i ≡ true → i < 4
past_piece set number i here = by (cases_lt i 4)
  where
    by : (i < 4) ⊎ (4 ≤ i) → i < 4
    by (inl l) = l
    by (inr past) = absurd (
        let none : bit_at (piece set number) i ≡ 0 =
        bit_at_above (piece set number) 4 i (piece_small set number) past in
        let one : bit_at (piece set number) i ≡ 1 = eqb-true _ 1 here in
        omega arith)

-- where a set is within another, each piece is
pub pieces_within : (a b number : ℕ) → is_within a b ≡ true → is_within (piece a number) (piece b number) ≡ true
pieces_within a b number within = true_within (piece a number) (piece b number) (λ i here.
    let l : i < 4 = past_piece a number i here in
    piece_has b number i l ∙ within_true a b within (i + 4 * number) (sym (piece_has a number i l) ∙ here))

-- where each piece is, the set is
pub within_pieces : (a b : ℕ) → a < 2 ^ 64
    → ((number : ℕ) → number < 16 → is_within (piece a number) (piece b number) ≡ true) → is_within a b ≡ true
within_pieces a b small pieces = true_within a b at
  where
    at : IsWithin a b
    at k here =
        let l : k < 64 = below_64 a k small here in
        let place : k % 4 + 4 * (k / 4) ≡ k = omega arith in
        let low : k % 4 < 4 = omega arith in
        let ours : has (piece a (k / 4)) (k % 4) ≡ true = piece_has a (k / 4) (k % 4) low ∙ ap (has a) place ∙ here in
        let theirs : has (piece b (k / 4)) (k % 4) ≡ true =
        within_true (piece a (k / 4)) (piece b (k / 4)) (pieces (k / 4) (omega (arith, l))) (k % 4) ours in
        ap (has b) (sym place) ∙ sym (piece_has b (k / 4) (k % 4) low) ∙ theirs

-- ---- words
-- the bits that two words have both
pub has_both : (a b k : ℕ) → has (bit_and a b) k ≡ (has a k && has b k)
has_both a b k = by (has a k) (has b k) refl refl
  where
    by : (x y : Bool) → has a k ≡ x → has b k ≡ y → has (bit_and a b) k ≡ (x && y)
    by true true ea eb =
        let one : bit_at a k ≡ 1 = eqb-true (bit_at a k) 1 ea in
        let other : bit_at b k ≡ 1 = eqb-true (bit_at b k) 1 eb in
        eq-eqb _ 1 (omega (arith, bit_at_and a b k))
    by true false ea eb = false_from_ne_true (has (bit_and a b) k) (λ (both : has (bit_and a b) k ≡ true).
        let one : bit_at (bit_and a b) k ≡ 1 = eqb-true _ 1 both in
        let none : (bit_at b k ≡ 1) → ⊥ = eqb-false (bit_at b k) 1 eb in
        none (omega (arith, bit_at_and a b k, bit_at-lt b k, bit_at-lt a k)))
    by false y ea eb = false_from_ne_true (has (bit_and a b) k) (λ (both : has (bit_and a b) k ≡ true).
        let one : bit_at (bit_and a b) k ≡ 1 = eqb-true _ 1 both in
        let none : (bit_at a k ≡ 1) → ⊥ = eqb-false (bit_at a k) 1 ea in
        none (omega (arith, bit_at_and a b k, bit_at-lt b k, bit_at-lt a k)))

-- at first all are left
pub all_left : (sets : List ℕ) (out from : ℕ) → AreLeft sets out 0 from 18446744073709551615
all_left sets out from k l = eq-eqb (bit_at 18446744073709551615 k) 1 (bit_at_ones 64 k l)

-- one piece more
pub left_more : (sets : List ℕ) (out count from word row : ℕ) → AreLeft sets out count from word
    → IsWord sets from count (piece out count) row
    → AreLeft sets out (count + 1) from (bit_and word row)
left_more sets out count from word row left is k l =
    has_both word row k ∙ ap (λ b. b && has row k) (left k l) ∙ ap (λ b. agrees sets out (from + k) count && b) (is k l)
    ∙ ap (agrees sets out (from + k)) (sym (add-one count))

pub row_more : (sets : List ℕ) (out count : ℕ) (left row new : Row) → IsLeft sets out count left
    → IsRow sets count (piece out count) row
    → new.first ≡ bit_and left.first row.first → new.second ≡ bit_and left.second row.second
    → new.third ≡ bit_and left.third row.third → new.fourth ≡ bit_and left.fourth row.fourth
    → IsLeft sets out (count + 1) new
row_more sets out count left row new old is a b c d = record {
  first = λ k l. ap (λ w. has w k) a ∙ left_more sets out count 0 left.first row.first old.first is.first k l;
  second = λ k l. ap (λ w. has w k) b ∙ left_more sets out count 64 left.second row.second old.second is.second k l;
  third = λ k l. ap (λ w. has w k) c ∙ left_more sets out count 128 left.third row.third old.third is.third k l;
  fourth = λ k l. ap (λ w. has w k) d ∙ left_more sets out count 192 left.fourth row.fourth old.fourth is.fourth k l;
}

-- ---- what is left in the end
-- a set that keeps to all pieces is there, and keeps to each
agrees_each : (sets : List ℕ) (out place count : ℕ) → agrees sets out place count ≡ true → (number : ℕ) → number < count
    → keeps sets place number (piece out number) ≡ true
agrees_each sets out place zero all number l = absurd (omega (arith, l))
agrees_each sets out place (suc count) all number l =
    by (cases_lt number count) (agrees_each sets out place count both.0 number)
  where
    both : (agrees sets out place count ≡ true) × (keeps sets place count (piece out count) ≡ true)
    both = and_parts (agrees sets out place count) (keeps sets place count (piece out count)) all

    by : (number < count) ⊎ (count ≤ number) → (number < count → keeps sets place number (piece out number) ≡ true)
        → keeps sets place number (piece out number) ≡ true
    by (inl less) before = before less
    by (inr past) before =
        let same : number ≡ count = omega (arith, l, past) in ap (λ n. keeps sets place n (piece out n)) same ∙ both.1

-- a set that is within another agrees with it in all pieces
pub within_agrees : (sets : List ℕ) (out place set count : ℕ) → slice_get sets place ≡ Some set
    → is_within set out ≡ true → agrees sets out place count ≡ true
within_agrees sets out place set zero at within = refl
within_agrees sets out place set (suc count) at within =
    and_from (agrees sets out place count) (keeps sets place count (piece out count))
    (within_agrees sets out place set count at within)
    (ap (λ o. option_map_or (λ s. is_within (piece s count) (piece out count)) o false) at
    ∙ pieces_within set out count within)

-- a set that agrees in all pieces is within it
pub agrees_within : (sets : List ℕ) (out place : ℕ) → All (λ set. set < 2 ^ 64) sets → agrees sets out place 16 ≡ true
    → any_within sets out ≡ true
agrees_within sets out place small all = by (slice_get sets place) refl
  where
    by : (o : Option ℕ) → slice_get sets place ≡ o → any_within sets out ≡ true
    by None at =
        absurd (true≢false (sym (agrees_each sets out place 16 all 0 (omega arith))
        ∙ ap (λ o. option_map_or (λ s. is_within (piece s 0) (piece out 0)) o false) at))
    by (Some set) at =
        let within : place < length sets = slice_get_within sets place set at in
        let is : get_or sets place 0 ≡ set = get_or_from_slice_get sets place set 0 at in
        let fits : set < 2 ^ 64 = let f : get_or sets place 0 < 2 ^ 64 = small place 0 within in omega (arith, f, is) in
        list_any_at (λ s. is_within s out) sets place 0 within
        (ap (λ s. is_within s out) is ∙ within_pieces set out fits (λ number l.
        ap (λ o. option_map_or (λ s. is_within (piece s number) (piece out number)) o false) (sym at)
        ∙ agrees_each sets out place 16 all number l))

-- a word with a bit
pub word_hit : (sets : List ℕ) (out from word : ℕ) → All (λ set. set < 2 ^ 64) sets → AreLeft sets out 16 from word
    → word < 2 ^ 64 → (word ≡ 0 → ⊥) → any_within sets out ≡ true
word_hit sets out from word small left fits some =
    let low = lowest_has word (omega (arith, some)) fits in
    agrees_within sets out (from + trailing_zeros w64 word) small (sym (left (trailing_zeros w64 word) low.0) ∙ low.1)
