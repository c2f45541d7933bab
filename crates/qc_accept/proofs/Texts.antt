-- Where a text is cut, and whether it has a byte.
use Rattle.std.proofs.Common.{◌≡◌, ◌≢◌, ℕ, ◌+◌, ◌<◌, Bool, true, false, not, cond, List, [], ◌∷◌, Option, Some, None}
use Rattle.std.proofs.Common.{get_or, length, take, drop, refl, sym, ap, suc, ◌∙◌, arith}
use Rattle.std.specs.Prelude.{◌==◌, ◌&&◌, ◌||◌, ◌≤◌, if◌then◌else◌, option_map, option_and_then}
use Rattle.std.specs.Borrow.{Bor}
use Rattle.std.specs.Bool.{MatchBool}
use Rattle.std.specs.List.{list_any, list_all, position_or_len}
use Rattle.std.specs.Str.Pattern.{FindsChar}
use Rattle.std.proofs.lemmas.Bool.{eqb-true, eqb-false, eq-eqb, le-leb}
use Rattle.std.proofs.lemmas.List.Folds.{list_any_at}
use Rattle.std.proofs.lemmas.Str.Pattern.{IsSplitOnceResult, split_once_first, contains_char}
use Rattle.qc_decl.specs.Vocabulary.{is_between, is_name, is_name_byte, longest_name}
use Rattle.qc_accept.specs.Vocabulary.{cut, two}

-- a text with such a byte is cut around the first one
cut_around : (c : ℕ) (s : List ℕ) → position_or_len (λ b. b == c) s < length s
    → cut c s ≡ Some (take (position_or_len (λ b. b == c) s) s, drop (position_or_len (λ b. b == c) s + 1) s)
cut_around c [] l = absurd (omega arith)
cut_around c (b ∷ s) l = by (b == c) l (cut_around c s)
  where
    n : ℕ
    n = position_or_len (λ x. x == c) s

    before : suc n ≡ 1 + n
    before = omega arith

    behind : suc (n + 1) ≡ 1 + n + 1
    behind = omega arith

    by : (t : Bool) → cond (not t) (1 + n) 0 < suc (length s)
        → (n < length s → cut c s ≡ Some (take n s, drop (n + 1) s))
        → cond {A = Option (List ℕ × List ℕ)} t (Some ([], s)) (option_map (λ p. (b ∷ p.0, p.1)) (cut c s)) ≡ Some
        (take (cond (not t) (1 + n) 0) (b ∷ s), drop (cond (not t) (1 + n) 0 + 1) (b ∷ s))
    by true l more = refl
    by false l more =
        ap (option_map (λ (p : List ℕ × List ℕ). (b ∷ p.0, p.1))) (more (omega arith))
        ∙ (λ j. Some (take (before j) (b ∷ s), drop (behind j) (b ∷ s)))

-- and a text without is not cut
cut_nowhere : (c : ℕ) (s : List ℕ) → position_or_len (λ b. b == c) s ≡ length s → cut c s ≡ None
cut_nowhere c [] e = refl
cut_nowhere c (b ∷ s) e = by (b == c) e (cut_nowhere c s)
  where
    by : (t : Bool) → cond (not t) (1 + position_or_len (λ x. x == c) s) 0 ≡ suc (length s)
        → (position_or_len (λ x. x == c) s ≡ length s → cut c s ≡ None)
        → cond {A = Option (List ℕ × List ℕ)} t (Some ([], s)) (option_map (λ p. (b ∷ p.0, p.1)) (cut c s)) ≡ None
    by true e more = absurd (omega arith)
    by false e more = ap (option_map (λ (p : List ℕ × List ℕ). (b ∷ p.0, p.1))) (more (omega arith))

-- so `split_once` at an ASCII character is the cut
pub split_is_cut : (c : ℕ) (s : List ℕ) (r : Option (Bor (List ℕ) × Bor (List ℕ))) → IsSplitOnceResult c s r → c < 128
    → option_map (λ w. (w.0.now, w.1.now)) r ≡ cut c s
split_is_cut c s None h low = sym (cut_nowhere c s (split_once_first c s None h low))
split_is_cut c s (Some x) h low =
    let first = split_once_first c s (Some x) h low in
    (λ j. Some (first.1 j, first.2 j)) ∙ sym (cut_around c s first.0)

-- a test that an element passes finds one
pub any_place : {X : Type 0} (p : X → Bool) (s : List X) (d : X) → list_any p s ≡ true
    → (k : ℕ) × (k < length s) × (p (get_or s k d) ≡ true)
any_place p [] d e = absurd (let never : ⊥ = cc in never)
any_place p (x ∷ s) d e = by (p x) refl e (any_place p s d)
  where
    by : (t : Bool) → p x ≡ t → (t || list_any p s) ≡ true
        → (list_any p s ≡ true → (k : ℕ) × (k < length s) × (p (get_or s k d) ≡ true))
        → (k : ℕ) × (k < suc (length s)) × (p (get_or (x ∷ s) k d) ≡ true)
    by true is e more = (0, omega arith, is)
    by false is e more = let k = more e in (suc k.0, omega (arith, k.1), k.2)

-- `contains` at an ASCII character tests each byte
pub contains_is_any : (c : ℕ) (s : List ℕ) (r : Bool)
    → MatchBool r ((i : ℕ) × (j : ℕ) × FindsChar c s (Some (i, j)) × (i ≤ j) × (j ≤ length s)) (FindsChar c s None)
    → c < 128
    → list_any (λ b. b == c) s ≡ r
contains_is_any c s r h low = by r (list_any (λ b. b == c) s) refl (contains_char c s r h low)
  where
    by : (r t : Bool) → list_any (λ b. b == c) s ≡ t
        → (r ≡ true → (k : ℕ) × (k < length s) × (get_or s k 0 ≡ c))
        × ((k : ℕ) → k < length s → get_or s k 0 ≡ c → r ≡ true) → t ≡ r
    by true true is h = refl
    by false false is h = refl
    by true false is h =
        let k = h.0 refl in
        let found : list_any (λ b. b == c) s ≡ true = list_any_at (λ b. b == c) s k.0 0 k.1 (eq-eqb _ c k.2) in
        sym is ∙ found
    by false true is h =
        let k = any_place (λ b. b == c) s 0 is in
        sym (h.1 k.0 k.1 (eqb-true _ c k.2))

-- where a text is not cut there are no two words
pub two_uncut : (s : List ℕ) → None ≡ cut 32 s → None ≡ two s
two_uncut s e = ap (option_and_then (λ (p : List ℕ × List ℕ). if list_any (λ b. b == 32) p.1 then None else Some
    (p.0, p.1))) e

-- nor where a second space follows
pub two_more : (s first second : List ℕ) → Some (first, second) ≡ cut 32 s → list_any (λ b. b == 32) second ≡ true
    → None ≡ two s
two_more s first second e more =
    sym (ap (λ t. if t then None else Some (first, second)) more)
    ∙ ap (option_and_then (λ (p : List ℕ × List ℕ). if list_any (λ b. b == 32) p.1 then None else Some (p.0, p.1))) e

-- else they stand around the space
pub two_words : (s first second : List ℕ) → Some (first, second) ≡ cut 32 s → list_any (λ b. b == 32) second ≡ false
    → Some (first, second) ≡ two s
two_words s first second e none =
    sym (ap (λ t. if t then None else Some (first, second)) none)
    ∙ ap (option_and_then (λ (p : List ℕ × List ℕ). if list_any (λ b. b == 32) p.1 then None else Some (p.0, p.1))) e

-- a word more in front of what is read of the rest
pub word_more : {A B : Type 0} (read : List ℕ → Option A) (with : List ℕ → A → B) (s first rest : List ℕ) (o : Option A)
    → Some (first, rest) ≡ cut 32 s → o ≡ read rest
    → option_map (with first) o ≡ option_and_then (λ (p : List ℕ × List ℕ). option_map (with p.0) (read p.1)) (cut 32 s)
word_more read with s first rest o e is = ap (option_map (with first)) is
    ∙ ap (option_and_then (λ (p : List ℕ × List ℕ). option_map (with p.0) (read p.1))) e

-- and none where there is no space
pub word_none : {A B : Type 0} (read : List ℕ → Option A) (with : List ℕ → A → B) (s : List ℕ) → None ≡ cut 32 s
    → None ≡ option_and_then (λ (p : List ℕ × List ℕ). option_map (with p.0) (read p.1)) (cut 32 s)
word_none read with s e = ap (option_and_then (λ (p : List ℕ × List ℕ). option_map (with p.0) (read p.1))) e

-- a text of the length of a name is one where each byte may stand in a name
pub named : (text : List ℕ) → (length text == 0) ≡ false → length text ≤ longest_name
    → list_all is_name_byte text ≡ is_name text
named text some few = sym (ap (λ t. t && list_all is_name_byte text) long)
  where
    long : is_between 1 longest_name (length text) ≡ true
    long = rw (
      le-leb 1 (length text) (let n : length text ≢ 0 = eqb-false _ 0 some in omega arith),
      le-leb (length text) longest_name few,
    )
