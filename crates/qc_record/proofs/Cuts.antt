-- Bytes that end within a spelling are refused at their end.
use Rattle.std.proofs.Common.{◌≡◌, ◌⊎◌, inl, inr, ℕ, ◌+◌, ◌-◌, ◌<◌, ◌≤◌, Bool, true, false, nat_lt, List, [], ◌∷◌, ◌++◌}
use Rattle.std.proofs.Common.{length, take, Option, Some, None, Result, Ok, Err, refl, ap, ◌∙◌, arith}
use Rattle.std.proofs.Math.Seq.{take-append-add}
use Rattle.std.proofs.lemmas.List.{take-append-le, length-append, length-take-le}
use Rattle.std.proofs.lemmas.Bool.Decides.{nat_tests}
use Rattle.byteorder.specs.Endian.{big_bytes}
use Rattle.byteorder.specs.Numbers.{length-bytes_high_first}
use Rattle.qc_record.specs.Vocabulary.{Form, both, counted, field, items_are_legal, items_at, items_spelled, number_at}
use Rattle.qc_record.specs.Vocabulary.{shaped, ◌>>=◌}
use Rattle.qc_list.proofs.Booleans.{and_parts}

-- what is spelled is read
abbrev pub Again : {A : Type 0} → Form A → Type 0
Again {A = A} form = (x : A) (rest : List ℕ) → form.is_legal x ≡ true
    → form.read (form.spelled x ++ rest) ≡ Ok (x, rest)

-- what is spelled and cut isn't, and nothing is left from the fault on
abbrev pub Cut : {A : Type 0} → Form A → Type 0
Cut {A = A} form = (x : A) (n : ℕ) → form.is_legal x ≡ true → n < length (form.spelled x)
    → form.read (take n (form.spelled x)) ≡ Err 0

-- the cut is in the first part, or behind it
abbrev Sides : List ℕ → List ℕ → ℕ → Type 0
Sides first second n = ((n < length first) × (take n (first ++ second) ≡ take n first))
    ⊎ ((m : ℕ) × (m < length second) × (take n (first ++ second) ≡ first ++ take m second))

side : (first second : List ℕ) (n : ℕ) → n < length (first ++ second) → Sides first second n
side first second n inside = by (nat_lt n (length first)) refl
  where
    by : (b : Bool) → nat_lt n (length first) ≡ b → Sides first second n
    by true e = let low : n < length first = grind (arith, nat_tests, e) in
        inl (low, take-append-le n first second (omega (arith, low)))
    by false e =
        let high : length first ≤ n = grind (arith, nat_tests, e) in
        let both = length-append first second in
        let m = n - length first in
        let at : n ≡ length first + m = omega (arith, high) in
        let below : m < length second = omega (arith, inside, both, high) in
        inr (m, below, ap (λ (k : ℕ). take k (first ++ second)) at ∙ take-append-add first second m)

-- an end in the first step is one of all
pub ends_first : {A B : Type 0} (r : Result A ℕ) (f : A → Result B ℕ) → r ≡ Err 0 → (r >>= f) ≡ Err 0
ends_first r f e = ap (λ r. r >>= f) e

pub ends_next : {A B : Type 0} (r : Result A ℕ) (f : A → Result B ℕ) (x : A) → r ≡ Ok x → f x ≡ Err 0
    → (r >>= f) ≡ Err 0
ends_next r f x e g = ap (λ r. r >>= f) e ∙ g

pub field_cut : (width : ℕ) (legal : ℕ → Bool) → Cut (field width legal)
unfolding number_at
field_cut width legal x n lawful inside =
    let bytes = big_bytes width x in
    let wide : length bytes ≡ width = length-bytes_high_first width x in
    let size : length (take n bytes) ≡ n = length-take-le n bytes (omega (arith, inside)) in
    let short : nat_lt (length (take n bytes)) width ≡ true = grind (arith, nat_tests, size, wide, inside) in
    rw short refl

pub both_cut : {A B : Type 0} (first : Form A) (second : A → Form B) → Again first → Cut first
    → ((x : A) → Cut (second x)) → Cut (both first second)
both_cut first second again one two x n legal inside =
    let l = and_parts _ _ legal in
    let a = first.spelled x.0 in
    let b = (second x.0).spelled x.1 in
    elim (side a b n inside) [
      | inl h ↦ ends_first (first.read (take n (a ++ b))) _ (ap first.read h.1 ∙ one x.0 n l.0 h.0)
      | inr h ↦
          ends_next (first.read (take n (a ++ b))) _ (x.0, take h.0 b) (ap first.read h.2 ∙ again x.0 (take h.0 b) l.0)
          (ends_first ((second x.0).read (take h.0 b)) _ (two x.0 x.1 h.0 l.1 h.1))
    ]

pub shaped_cut : {A B : Type 0} (shape : A → B) (parts : B → A) (has_parts : B → Bool) (form : Form A) → Cut form
    → Cut (shaped shape parts has_parts form)
shaped_cut shape parts has_parts form cut x n legal inside =
    let l = and_parts _ _ legal in
    ends_first (form.read (take n (form.spelled (parts x)))) _ (cut (parts x) n l.1 inside)

items_cut : {A : Type 0} (item : Option A → Form A) → ((before : Option A) → Again (item before))
    → ((before : Option A) → Cut (item before)) → (before : Option A) (xs : List A) (n : ℕ)
    → items_are_legal item before xs ≡ true
    → n < length (items_spelled item before xs)
    → items_at item before (length xs) (take n (items_spelled item before xs)) ≡ Err 0
unfolding items_at
items_cut item again cut before [] n legal inside = absurd (omega (arith, inside))
items_cut item again cut before (x ∷ xs) n legal inside =
    let l = and_parts _ _ legal in
    let a = (item before).spelled x in
    let b = items_spelled item (Some x) xs in
    elim (side a b n inside) [
      | inl h ↦ ends_first ((item before).read (take n (a ++ b))) _ (ap (item before).read h.1 ∙ cut before x n l.0 h.0)
      | inr h ↦
          ends_next ((item before).read (take n (a ++ b))) _ (x, take h.0 b)
          (ap (item before).read h.2 ∙ again before x (take h.0 b) l.0)
          (ends_first (items_at item (Some x) (length xs) (take h.0 b)) _
          (items_cut item again cut (Some x) xs h.0 l.1 h.1))
    ]

pub counted_cut : {A : Type 0} (width : ℕ) (is_count : ℕ → Bool) (item : Option A → Form A)
    → Again (field width is_count) → ((before : Option A) → Again (item before))
    → ((before : Option A) → Cut (item before)) → Cut (counted width is_count item)
counted_cut width is_count item counts again cut xs n legal inside =
    let l = and_parts _ _ legal in
    let a = big_bytes width (length xs) in
    let b = items_spelled item None xs in
    elim (side a b n inside) [
      | inl h ↦ ends_first (number_at width is_count (take n (a ++ b))) _
          (ap (number_at width is_count) h.1 ∙ field_cut width is_count (length xs) n l.0 h.0)
      | inr h ↦
          ends_next (number_at width is_count (take n (a ++ b))) _ (length xs, take h.0 b)
          (ap (number_at width is_count) h.2 ∙ counts (length xs) (take h.0 b) l.0)
          (items_cut item again cut None xs h.0 l.1 h.1)
    ]
