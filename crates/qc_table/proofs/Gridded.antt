-- A grid that was made of rows has what they give.
use Rattle.std.proofs.Common.{◌≡◌, ◌≢◌, ℕ, ◌+◌, ◌<◌, ◌≤◌, Bool, true, false, cond, ltb, Option, Some, None, List, []}
use Rattle.std.proofs.Common.{◌∷◌, length, take, get_or, refl, sym, ap, ◌∙◌, arith}
use Rattle.std.specs.Prelude.{◌==◌, ◌&&◌, IfSome, option_map, option_and_then, find, slice_get}
use Rattle.std.specs.Option.{option_or}
use Rattle.std.proofs.lemmas.Bool.{eqb-true, eq-eqb, ltb-true, ltb-false}
use Rattle.std.proofs.lemmas.List.{length-set, get_or-set_same, get_or-set_other, take_more}
use Rattle.std.proofs.lemmas.List.Folds.{find-append}
use Rattle.std.proofs.lemmas.List.Quantifiers.{position-Some}
use Rattle.qc_table.specs.declared.row.Row.{Row}
use Rattle.qc_table.specs.declared.row.Event.{Event}
use Rattle.qc_table.specs.Vocabulary.{event_number, event_of, grid_next, grid_place, is_row_of, next_in, same_event}
use Rattle.qc_table.specs.Vocabulary.{with_next, with_row}
use Rattle.qc_table.proofs.Numbered.{number_is}
use Rattle.qc_table.proofs.Distinct.{AreDistinct, is_number, number_tells}

-- the state after an event of this number, by these rows
abbrev pub step_by : List Row → List Event → ℕ → ℕ → Option ℕ
step_by rows events state number = option_and_then (next_in rows state) (slice_get events number)

or_map : (a b : Option Row) → option_map (λ (r : Row). r.next) (option_or a b) ≡ option_or
    (option_map (λ (r : Row). r.next) a) (option_map (λ (r : Row). r.next) b)
or_map None b = refl
or_map (Some r) b = refl

or_none : (o : Option ℕ) → o ≡ option_or o None
or_none None = refl
or_none (Some n) = refl

-- the next state by one more row: an earlier row's goes first
next_more : (rows : List Row) (n : ℕ) (d : Row) (state : ℕ) (e : Event) → n < length rows
    → next_in (take (n + 1) rows) state e ≡ option_or (next_in (take n rows) state e)
    (cond (is_row_of state e (get_or rows n d)) (Some (get_or rows n d).next) None)
next_more rows n d state e l =
    ap (λ (front : List Row). next_in front state e) (take_more rows n d l)
    ∙ ap (option_map (λ (r : Row). r.next)) (find-append (is_row_of state e) (take n rows) (get_or rows n d ∷ []))
    ∙ or_map (find (is_row_of state e) (take n rows)) (find (is_row_of state e) (get_or rows n d ∷ []))
    ∙ ap (option_or (next_in (take n rows) state e)) (by (is_row_of state e (get_or rows n d)))
  where
    by : (b : Bool) → option_map (λ (r : Row). r.next) (cond b (Some (get_or rows n d)) None) ≡ cond b
        (Some (get_or rows n d).next) None
    by true = refl
    by false = refl

-- a grid with a row, whose event has this number, has that row's next state there, where it had none
grid_with : (grid : List (Option ℕ)) (row : Row) (n state k : ℕ) → length grid ≡ 4096 → row.state < 64 → n < 64
    → grid_next (with_next grid row n) state k ≡ option_or (grid_next grid state k)
    (cond ((row.state == state) && (n == k)) (Some row.next) None)
grid_with grid row n state k size small few = by (ltb k 64) refl
  where
    by : (b : Bool) → ltb k 64 ≡ b
        → cond b (get_or (with_next grid row n) (grid_place state k) None) None ≡ option_or
        (cond b (get_or grid (grid_place state k) None) None)
        (cond ((row.state == state) && (n == k)) (Some row.next) None)
    by true is = within (row.state == state) (n == k) refl refl
      where
        l : k < 64
        l = ltb-true k 64 is

        place : ℕ
        place = grid_place row.state n

        other : grid_place state k ≢ place → get_or (with_next grid row n) (grid_place state k) None ≡ option_or
            (get_or grid (grid_place state k) None) None
        other ne = get_or-set_other grid place (grid_place state k)
            (option_or (get_or grid place None) (Some row.next)) None ne
            ∙ or_none (get_or grid (grid_place state k) None)

        within : (s t : Bool) → (row.state == state) ≡ s → (n == k) ≡ t
            → get_or (with_next grid row n) (grid_place state k) None ≡ option_or
            (get_or grid (grid_place state k) None) (cond (s && t) (Some row.next) None)
        within true true es et =
            let states : row.state ≡ state = eqb-true row.state state es in
            let numbers : n ≡ k = eqb-true n k et in
            let same : place ≡ grid_place state k = ap (λ s. grid_place s n) states ∙ ap (grid_place state) numbers in
            let low : k < 64 = l in let size_of : place < length grid = omega arith in
            ap (λ p. get_or (with_next grid row n) p None) (sym same)
            ∙ get_or-set_same grid place (option_or (get_or grid place None) (Some row.next)) None size_of
            ∙ ap (λ p. option_or (get_or grid p None) (Some row.next)) same
        within true false es et = other (λ (e : grid_place state k ≡ place). let low : k < 64 = l in
            let numbers : n ≡ k = omega arith in let t : (n == k) ≡ true = eq-eqb n k numbers in
            let never : true ≡ false = sym t ∙ et in cc)
        within false t es et = other (λ (e : grid_place state k ≡ place). let low : k < 64 = l in
            let states : row.state ≡ state = omega arith in
            let s : (row.state == state) ≡ true = eq-eqb row.state state states in let never : true ≡ false = sym s
            ∙ es in cc)
    by false is = past (row.state == state) (n == k) refl
      where
        past : (s t : Bool) → (n == k) ≡ t → None ≡ cond (s && t) (Some row.next) None
        past s true e = let l : 64 ≤ k = ltb-false k 64 is in let numbers : n ≡ k = eqb-true n k e in
            absurd (omega arith)
        past true false e = refl
        past false false e = refl

-- the same of a row whose event may have no number
grid_with_row : (grid : List (Option ℕ)) (row : Row) (o : Option ℕ) (state k : ℕ) → length grid ≡ 4096 → row.state < 64
    → IfSome o (λ n. n < 64)
    → grid_next (with_row grid row o) state k ≡ option_or (grid_next grid state k)
    (cond ((row.state == state) && is_number o k) (Some row.next) None)
grid_with_row grid row None state k size small few = or_none (grid_next grid state k)
    ∙ ap (option_or (grid_next grid state k)) (by (row.state == state))
  where
    by : (b : Bool) → None ≡ cond (b && false) (Some row.next) None
    by true = refl
    by false = refl
grid_with_row grid row (Some n) state k size small few = grid_with grid row n state k size small few

number_few : (events : List Event) (e : Event) (o : Option ℕ) → length events ≤ 64 → event_number events e ≡ o
    → IfSome o (λ n. n < 64)
number_few events e None few is = tt
number_few events e (Some n) few is = let within : n < length events =
    (position-Some (λ x. same_event x e) events n e is).0 in omega arith

-- no event is past the numbers
nowhere : (events : List Event) (e : Event) (k : ℕ) (o : Option ℕ) → event_number events e ≡ o
    → slice_get events k ≡ None → is_number o k ≡ false
nowhere events e k None is past = refl
nowhere events e k (Some n) is past = by (n == k) refl
  where
    by : (b : Bool) → (n == k) ≡ b → b ≡ false
    by true same =
        let at : slice_get events k ≡ Some e = ap (slice_get events) (sym (eqb-true n k same))
        ∙ number_is events e n is in
        let never : None ≡ Some e = sym past ∙ at in
        absurd (let none : ⊥ = cc in none)
    by false same = refl

-- one more row
pub grid_more : (grid : List (Option ℕ)) (rows : List Row) (events : List Event) (n : ℕ) (d : Row) (state k : ℕ)
    → length grid ≡ 4096 → n < length rows → (get_or rows n d).state < 64
    → length events ≤ 64 → AreDistinct events → grid_next grid state k ≡ step_by (take n rows) events state k
    → grid_next (with_row grid (get_or rows n d) (event_number events (event_of (get_or rows n d)))) state k ≡ step_by
    (take (n + 1) rows) events state k
grid_more grid rows events n d state k size l small few distinct ih =
    let row : Row = get_or rows n d in
    grid_with_row grid row (event_number events (event_of row)) state k size small
    (number_few events (event_of row) (event_number events (event_of row)) few refl)
    ∙ ap (λ o. option_or o (cond ((row.state == state) && is_number (event_number events (event_of row)) k)
    (Some row.next) None)) ih ∙ by (slice_get events k) refl
  where
    by : (o : Option Event) → slice_get events k ≡ o
        → option_or (option_and_then (next_in (take n rows) state) o)
        (cond (((get_or rows n d).state == state) && is_number (event_number events (event_of (get_or rows n d))) k)
        (Some (get_or rows n d).next) None)
        ≡ option_and_then (next_in (take (n + 1) rows) state) o
    by None at = ap (λ b. cond (((get_or rows n d).state == state) && b) (Some (get_or rows n d).next) None)
        (nowhere events (event_of (get_or rows n d)) k (event_number events (event_of (get_or rows n d))) refl at)
        ∙ last ((get_or rows n d).state == state)
      where
        last : (b : Bool) → cond (b && false) (Some (get_or rows n d).next) None ≡ None
        last true = refl
        last false = refl
    by (Some x) at =
        ap (λ b. option_or (next_in (take n rows) state x)
        (cond (((get_or rows n d).state == state) && b) (Some (get_or rows n d).next) None))
        (sym (number_tells events (event_of (get_or rows n d)) x k distinct at))
        ∙ sym (next_more rows n d state x l)

-- a grid stays as long as it is
pub length_row : (grid : List (Option ℕ)) (row : Row) (o : Option ℕ) → length (with_row grid row o) ≡ length grid
length_row grid row None = refl
length_row grid row (Some n) = length-set grid (grid_place row.state n)
    (option_or (get_or grid (grid_place row.state n) None) (Some row.next))
