-- What others bring stands behind a list's lines, where both begin alike and the rest is above all of them.
use Rattle.std.proofs.Common.{◌≡◌, ℕ, zero, suc, Some, None, length, take, drop, ◌-◌, List, [], ◌∷◌, ◌++◌, sym, ap, ◌∙◌}
use Rattle.std.proofs.Common.{subst, append_assoc}
use Rattle.std.proofs.lemmas.List.{append-nil, take-append-drop}
use Rattle.std.specs.List.{AllByRecursion as Every, slice_get}
use Rattle.std.specs.declared.cmp.Ordering.TheVariants.{Less}
use Rattle.qc_entry.specs.declared.line.Line.{Line}
use Rattle.qc_entry.specs.Vocabulary.{line_cmp, union}
use Rattle.qc_entry.proofs.Union.{union-nil, union-after, union-shared}
use Rattle.qc_entry.proofs.Walks.{whole-rest}

every-rest : (P : Line → Type 0) (n : ℕ) (xs : List Line) → Every P xs → Every P (drop n xs)
every-rest P zero xs all = all
every-rest P (suc n) [] all = all
every-rest P (suc n) (x ∷ xs) all = every-rest P n xs all.1

-- the two lists, from their place on
pub from : (lines others : List Line) (n : ℕ) → take n lines ≡ take n others
    → union lines others ≡ take n lines ++ union (drop n lines) (drop n others)
from lines others n alike =
    let front : others ≡ take n lines ++ drop n others =
    sym (take-append-drop n others) ∙ ap (λ zs. zs ++ drop n others) (sym alike) in
    ap (λ zs. union zs others) (sym (take-append-drop n lines))
    ∙ ap (union (take n lines ++ drop n lines)) front
    ∙ union-shared (take n lines) (drop n lines) (drop n others)

rest-behind : (lines others : List Line) (n : ℕ) → take n lines ≡ take n others
    → union (drop n lines) (drop n others) ≡ drop n lines ++ drop n others → union lines others ≡ lines ++ drop n others
rest-behind lines others n alike rest =
    from lines others n alike
    ∙ ap (λ zs. take n lines ++ zs) rest
    ∙ sym (append_assoc (take n lines) (drop n lines) (drop n others))
    ∙ ap (λ zs. zs ++ drop n others) (take-append-drop n lines)

-- nothing is left
pub none-behind : (lines others : List Line) (n : ℕ) → take n lines ≡ take n others
    → None ≡ slice_get (take (length others - n) (drop n others)) 0
    → union lines others ≡ lines ++ take (length others - n) (drop n others)
none-behind lines others n alike none =
    let at : None ≡ slice_get (drop n others) 0 = none ∙ ap (λ zs. slice_get zs 0) (whole-rest others n) in
    rest-behind lines others n alike (ends (drop n lines) (drop n others) at)
    ∙ ap (λ zs. lines ++ zs) (sym (whole-rest others n)) where
      ends : (xs ys : List Line) → None ≡ slice_get ys 0 → union xs ys ≡ xs ++ ys
      ends xs [] at = union-nil xs ∙ sym (append-nil xs)
      ends xs (y ∷ ys) at = absurd (let never : ⊥ = cc in never)

-- all lines are before the first that is left
pub some-behind : (lines others : List Line) (n : ℕ) (first : Line) → take n lines ≡ take n others
    → Some first ≡ slice_get (take (length others - n) (drop n others)) 0
    → Every (λ l. line_cmp l first ≡ Less) lines
    → union lines others ≡ lines ++ take (length others - n) (drop n others)
some-behind lines others n first alike some low =
    let at : Some first ≡ slice_get (drop n others) 0 = some ∙ ap (λ zs. slice_get zs 0) (whole-rest others n) in
    rest-behind lines others n alike (after (drop n lines) (drop n others) at
    (every-rest (λ l. line_cmp l first ≡ Less) n lines low))
    ∙ ap (λ zs. lines ++ zs) (sym (whole-rest others n)) where
      after : (xs ys : List Line) → Some first ≡ slice_get ys 0 → Every (λ l. line_cmp l first ≡ Less) xs
          → union xs ys ≡ xs ++ ys
      after xs [] at low = absurd (let never : ⊥ = cc in never)
      after xs (y ∷ ys) at low =
          let same : first ≡ y = cc in
          union-after xs y ys (subst (λ l. Every (λ x. line_cmp x l ≡ Less) xs) same low)
