-- Lists of bytes that agree in a part.
use Rattle.std.proofs.Common.{◌≡◌, ◌≢◌, ℕ, suc, ◌+◌, ◌-◌, ◌<◌, ◌≤◌, List, [], ◌∷◌, ◌++◌, length, get_or, take, drop}
use Rattle.std.proofs.Common.{replicate, sym, ◌∙◌, ap, arith, append_assoc, length-append}
use Rattle.std.proofs.lemmas.List.{take_at, drop_at, ext_get_or}
use Rattle.qc_outside.specs.Vocabulary.{overwritten}

-- the same up to a byte and with it
pub same_front : (front : List ℕ) (x : ℕ) (rest c : List ℕ) → length front < length c
    → ((i : ℕ) → i ≤ length front → get_or c i 0 ≡ get_or (front ++ x ∷ rest) i 0)
    → (tail : List ℕ) × (c ≡ front ++ x ∷ tail)
same_front [] x rest [] long same = absurd (omega arith)
same_front [] x rest (a ∷ c) long same = (c, ap (λ (h : ℕ). h ∷ c) (same 0 (omega arith)))
same_front (f ∷ front) x rest [] long same = absurd (omega arith)
same_front (f ∷ front) x rest (a ∷ c) long same =
    let more = same_front front x rest c (omega arith) (λ i le. same (suc i) (omega arith)) in
    (more.0, ap (λ (h : ℕ). h ∷ c) (same 0 (omega arith)) ∙ ap (λ (l : List ℕ). f ∷ l) more.1)

-- the same but for one byte
pub same_but : (front : List ℕ) (x : ℕ) (more c : List ℕ) → length c ≡ length (front ++ x ∷ more)
    → ((i : ℕ) → i < length (front ++ x ∷ more) → i ≢ length front → get_or c i 0 ≡ get_or (front ++ x ∷ more) i 0)
    → (gate : ℕ) × (c ≡ front ++ gate ∷ more)
same_but [] x more [] long same = absurd (omega (arith, long))
same_but [] x more (a ∷ c) long same = (
  a,
  ap (λ (l : List ℕ). a ∷ l) (ext_get_or 0 c more (omega (arith, long))
      (λ i lt. same (suc i) (omega (arith, long)) (omega arith))),
)
same_but (f ∷ front) x more [] long same = absurd (omega (arith, long))
same_but (f ∷ front) x more (a ∷ c) long same =
    let rest = same_but front x more c (omega (arith, long))
    (λ i lt other. same (suc i) (omega arith) (λ e. other (omega (arith, e)))) in
    (rest.0, ap (λ (h : ℕ). h ∷ c) (same 0 (omega arith) (omega arith)) ∙ ap (λ (l : List ℕ). f ∷ l) rest.1)

-- a write behind a byte
pub written_behind : (front : List ℕ) (x : ℕ) (rest bytes : List ℕ) (at : ℕ) → at ≡ length front + 1
    → (tail : List ℕ) × (overwritten (front ++ x ∷ rest) (record { at = at; bytes = bytes }) ≡ front ++ x ∷
    (bytes ++ tail))
written_behind front x rest bytes at is =
    let pad : List ℕ = replicate (at - length (front ++ x ∷ rest)) 0 in
    let tail : List ℕ = drop (at + length bytes) (front ++ x ∷ rest) in
    let whole : (front ++ x ∷ rest) ++ pad ≡ (front ++ x ∷ []) ++ (rest ++ pad) =
    append_assoc front (x ∷ rest) pad ∙ sym (append_assoc front (x ∷ []) (rest ++ pad)) in
    let head : take at ((front ++ x ∷ rest) ++ pad) ≡ front ++ x ∷ [] =
    ap (λ (l : List ℕ). take at l) whole ∙ take_at (front ++ x ∷ []) (rest ++ pad) at
    (omega (arith, is, length-append front (x ∷ []))) in (
      tail,
      ap (λ (l : List ℕ). l ++ bytes ++ tail) head ∙ append_assoc (front ++ x ∷ []) bytes tail
          ∙ append_assoc front (x ∷ []) (bytes ++ tail),
    )

-- a write of that byte
pub written_byte : (front : List ℕ) (x y : ℕ) (rest : List ℕ) (at : ℕ) → at ≡ length front
    → overwritten (front ++ x ∷ rest) (record { at = at; bytes = y ∷ [] }) ≡ front ++ y ∷ rest
written_byte front x y rest at is =
    let pad : List ℕ = replicate (at - length (front ++ x ∷ rest)) 0 in
    let head : take at ((front ++ x ∷ rest) ++ pad) ≡ front =
    ap (λ (l : List ℕ). take at l) (append_assoc front (x ∷ rest) pad) ∙ take_at front (x ∷ rest ++ pad) at (sym is) in
    let tail : drop (at + 1) (front ++ x ∷ rest) ≡ rest =
    ap (λ (l : List ℕ). drop (at + 1) l) (sym (append_assoc front (x ∷ []) rest))
    ∙ drop_at (front ++ x ∷ []) rest (at + 1) (omega (arith, is, length-append front (x ∷ []))) in
    ap (λ (l : List ℕ). l ++ (y ∷ []) ++ drop (at + 1) (front ++ x ∷ rest)) head
    ∙ ap (λ (l : List ℕ). front ++ (y ∷ []) ++ l) tail ∙ append_assoc front (y ∷ []) rest
