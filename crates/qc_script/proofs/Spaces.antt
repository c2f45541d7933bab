-- A line's words, cut off at its first space.
use Rattle.std.proofs.Common.{◌≡◌, ℕ, ◌+◌, ◌-◌, ◌<◌, Bool, true, false, List, [], ◌∷◌, Option, Some, None, cond, length}
use Rattle.std.proofs.Common.{take, drop, ltb, refl, sym, ap, subst, ◌∙◌, arith}
use Rattle.std.specs.Prelude.{◌==◌, ◌||◌, position}
use Rattle.std.specs.List.{position_or_len, list_any, onto_first}
use Rattle.std.proofs.lemmas.List.{take_all, length-drop}
use Rattle.std.proofs.lemmas.List.Splits.{slice_split_first, slice_split-cons_no}
use Rattle.qc_table.proofs.Places.{position_none}
use Rattle.std.specs.Borrow.{Bor}
use Rattle.qc_script.specs.Vocabulary.{cut_off, words_behind, words_of}

-- a line that is cut at its first space
pub cut_at : (line : List ℕ) (place : ℕ) → place < length line → position (λ b. b == 32) line ≡ Some place
    → words_of line ≡ take place line ∷ words_of (take (length line - (place + 1)) (drop (place + 1) line))
cut_at line place within at =
    let here : position_or_len (λ b. b == 32) line ≡ place =
    place_is (ltb (position_or_len (λ b. b == 32) line) (length line)) at in
    let rest : take (length line - (place + 1)) (drop (place + 1) line) ≡ drop (place + 1) line =
    take_all (length line - (place + 1)) (drop (place + 1) line) (omega (arith, length-drop (place + 1) line)) in
    slice_split_first (λ b. b == 32) line 0 (subst (λ n. n < length line) (sym here) within)
    ∙ ap (λ n. take n line ∷ words_of (drop (n + 1) line)) here
    ∙ ap (λ (l : List ℕ). take place line ∷ words_of l) (sym rest)
  where
    place_is : (b : Bool) → cond b (Some (position_or_len (λ b. b == 32) line)) None ≡ Some place
        → position_or_len (λ b. b == 32) line ≡ place
    place_is true e = cc
    place_is false e = absurd (let never : ⊥ = cc in never)

whole : (line : List ℕ) → list_any (λ b. b == 32) line ≡ false → words_of line ≡ line ∷ []
whole [] none = refl
whole (b ∷ line) none = by (b == 32) refl none (whole line)
  where
    by : (t : Bool) → (b == 32) ≡ t → (t || list_any (λ b. b == 32) line) ≡ false
        → (list_any (λ b. b == 32) line ≡ false → words_of line ≡ line ∷ [])
        → words_of (b ∷ line) ≡ (b ∷ line) ∷ []
    by true is never more = absurd (let no : ⊥ = cc in no)
    by false is rest more = slice_split-cons_no (λ b. b == 32) b line is ∙ ap (onto_first b) (more rest)

-- a line without a space is one word
pub cut_nowhere : (line : List ℕ) → position (λ b. b == 32) line ≡ None → words_of line ≡ line ∷ []
cut_nowhere line none = whole line (position_none (λ b. b == 32) line none)

-- what the first word is, and what stands behind it
pub first_word : (words rest : List (List ℕ)) (left : Option (Bor (List ℕ))) (line : Bor (List ℕ)) (first : List ℕ)
    → words_behind left ≡ words → left ≡ Some line
    → words_of line.now ≡ first ∷ rest → Some (first, rest) ≡ cut_off words
first_word words rest left line first seen is cut = sym (ap cut_off (sym seen ∙ ap words_behind is ∙ cut))
