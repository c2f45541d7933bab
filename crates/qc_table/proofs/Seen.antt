-- A set of cases has those of the rows that it was made of.
use Rattle.std.proofs.Common.{◌≡◌, ◌≢◌, ℕ, ◌+◌, ◌<◌, Bool, true, false, List, ◌∷◌, ◌++◌, [], Some, cond, length, take}
use Rattle.std.proofs.Common.{drop, drop-cons, get_or, refl, sym, ap, ◌∙◌, add-one, arith}
use Rattle.std.specs.Prelude.{◌==◌, ◌&&◌, ◌||◌, All}
use Rattle.std.specs.List.{list_any}
use Rattle.std.proofs.lemmas.Nat.Bits.{bit_at-zero}
use Rattle.std.proofs.lemmas.Bool.{eqb-true, eq-eqb}
use Rattle.std.proofs.lemmas.List.{get_or-set_same, get_or-set_other, take_more}
use Rattle.std.proofs.lemmas.List.Folds.{list_any_more}
use Rattle.qc_table.specs.declared.row.Row.{Row}
use Rattle.qc_table.specs.Vocabulary.{IsSmall, case_place, case_set, has, has_case, no_cases, repeat_after, same_case}
use Rattle.qc_table.specs.Vocabulary.{with_case, with_member}
use Rattle.qc_table.proofs.Related.{has_with, zeros}

-- where rows of one place are rows of one state and invocation
same_place : (a b : Row) → IsSmall a → IsSmall b → case_place a ≡ case_place b → (a.state ≡ b.state) × (a.inv ≡ b.inv)
same_place a b s t e = let si : a.inv < 32 = s.inv in let ti : b.inv < 32 = t.inv in
    let state : a.state ≡ b.state = omega arith in (state, omega arith)

-- rows of two places have two cases
apart : (a b : Row) → case_place a ≢ case_place b → same_case a b ≡ false
apart a b ne = by (a.state == b.state) (a.inv == b.inv) refl refl
  where
    by : (s i : Bool) → (a.state == b.state) ≡ s → (a.inv == b.inv) ≡ i → (s && (i && (a.resp == b.resp))) ≡ false
    by true true es ei = let state : a.state ≡ b.state = eqb-true a.state b.state es in
        let inv : a.inv ≡ b.inv = eqb-true a.inv b.inv ei in absurd (ne (omega arith))
    by true false es ei = refl
    by false i es ei = refl

-- a set with a row's case has that case and those it had
pub case_with : (cases : List ℕ) (a b : Row) → length cases ≡ 2048 → IsSmall a → IsSmall b
    → has_case (with_case cases a) b ≡ (has_case cases b || same_case a b)
case_with cases a b size small other = by (case_place a == case_place b) refl
  where
    or_false : (t u : Bool) → u ≡ false → t ≡ (t || u)
    or_false true u e = refl
    or_false false u e = sym e

    by : (t : Bool) → (case_place a == case_place b) ≡ t
        → has_case (with_case cases a) b ≡ (has_case cases b || same_case a b)
    by true is =
        let place : case_place a ≡ case_place b = eqb-true (case_place a) (case_place b) is in
        let same : (a.state ≡ b.state) × (a.inv ≡ b.inv) = same_place a b small other place in
        let within : case_place a < length cases = let s : a.state < 64 = small.state in
        let i : a.inv < 32 = small.inv in omega arith in
        let there : case_set (with_case cases a) a ≡ with_member (case_set cases a) a.resp =
        get_or-set_same cases (case_place a) (with_member (case_set cases a) a.resp) 0 within in
        let told : same_case a b ≡ (a.resp == b.resp) =
        ap (λ t. t && ((a.inv == b.inv) && (a.resp == b.resp))) (eq-eqb a.state b.state same.0)
        ∙ ap (λ t. t && (a.resp == b.resp)) (eq-eqb a.inv b.inv same.1) in
        ap (λ p. has (get_or (with_case cases a) p 0) b.resp) (sym place) ∙ ap (λ s. has s b.resp) there
        ∙ has_with (case_set cases a) a.resp b.resp
        ∙ ap (λ p. has (get_or cases p 0) b.resp || (a.resp == b.resp)) place
        ∙ ap (λ t. has_case cases b || t) (sym told)
    by false is =
        let ne : case_place b ≢ case_place a = λ e. let t : (case_place a == case_place b) ≡ true =
        eq-eqb (case_place a) (case_place b) (sym e) in let never : true ≡ false = sym t ∙ is in cc in
        let there : case_set (with_case cases a) b ≡ case_set cases b =
        get_or-set_other cases (case_place a) (case_place b) (with_member (case_set cases a) a.resp) 0 ne in
        ap (λ s. has s b.resp) there ∙ or_false (has_case cases b) (same_case a b) (apart a b (λ e. ne (sym e)))

-- no case is among none
pub none_seen : (row : Row) → has_case no_cases row ≡ false
none_seen row = ap (λ s. has s row.resp) (zeros 2048 (case_place row)) ∙ ap (λ b. b == 1) (bit_at-zero row.resp)

-- one more row
pub seen_more : (cases : List ℕ) (rows : List Row) (n : ℕ) (d row : Row) → length cases ≡ 2048 → All IsSmall rows
    → n < length rows → IsSmall row
    → has_case cases row ≡ list_any (λ r. same_case r row) (take n rows)
    → has_case (with_case cases (get_or rows n d)) row ≡ list_any (λ r. same_case r row) (take (n + 1) rows)
seen_more cases rows n d row size all l small seen =
    case_with cases (get_or rows n d) row size (all n d l) small ∙ ap (λ t. t || same_case (get_or rows n d) row) seen
    ∙ sym (list_any_more (λ r. same_case r row) rows n d l)

-- a row that repeats no earlier one leaves the first repeat to those behind it
pub repeat_later : (rows : List Row) (n : ℕ) (d : Row) → n < length rows
    → list_any (λ r. same_case r (get_or rows n d)) (take n rows) ≡ false
    → repeat_after (take n rows) (drop n rows) ≡ repeat_after (take (n + 1) rows) (drop (n + 1) rows)
repeat_later rows n d l none =
    let row : Row = get_or rows n d in
    let front : take (n + 1) rows ≡ take n rows ++ row ∷ [] = take_more rows n d l in
    let rest : drop n rows ≡ row ∷ drop (n + 1) rows = rw add-one (drop-cons rows n d l) in
    ap (repeat_after (take n rows)) rest ∙ ap
    (λ b. cond b (Some (length (take n rows))) (repeat_after (take n rows ++ row ∷ []) (drop (n + 1) rows))) none
    ∙ ap (λ (f : List Row). repeat_after f (drop (n + 1) rows)) (sym front)
