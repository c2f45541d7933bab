-- What writes keep, and that what a read gives and what a fall leaves are images.
use Rattle.std.proofs.Common.{◌≡◌, ◌⊎◌, inl, inr, ℕ, ◌+◌, ◌-◌, ◌<◌, ◌≤◌, List, [], ◌∷◌, ◌++◌, length, take, drop, suc}
use Rattle.std.proofs.Common.{zero, replicate, get_or, refl, sym, ◌∙◌, ap, arith, length-append, length-take}
use Rattle.std.proofs.lemmas.List.{length-replicate, get_or_append_left, get_or-append_right, get_or-take, get_or-drop}
use Rattle.std.proofs.lemmas.List.{take-append-le}
use Rattle.qc_outside.specs.Vocabulary.{IsImage, IsOutside, Leaves, Stored, Write, all_torn, all_written, as_read}
use Rattle.qc_outside.specs.Vocabulary.{blotted, left_by, overwritten, settled, torn_by}
use Rattle.qc_outside.specs.declared.tear.Tear.{Tear}
use Rattle.qc_outside.specs.declared.tear.Tear.TheVariants.{Nothing, All, Fill}
use Rattle.qc_outside.proofs.Images.{length-overwritten}

take_twice : (n m : ℕ) (l : List ℕ) → n ≤ m → take n (take m l) ≡ take n l
take_twice zero m l le = refl
take_twice (suc n) m [] le = ap (take (suc n)) (take_none m)
  where
    take_none : (m : ℕ) → take {A = ℕ} m [] ≡ []
    take_none zero = refl
    take_none (suc m) = refl
take_twice (suc n) zero (x ∷ l) le = absurd (omega (arith, le))
take_twice (suc n) (suc m) (x ∷ l) le = ap (λ (t : List ℕ). x ∷ t) (take_twice n m l (omega (arith, le)))

-- a place outside the range keeps its byte
overwritten_keeps : (old : List ℕ) (w : Write) (i : ℕ) → i < length old → (i < w.at) ⊎ (w.at + length w.bytes ≤ i)
    → get_or (overwritten old w) i 0 ≡ get_or old i 0
overwritten_keeps old w i within (inl before) =
    let pad = replicate (w.at - length old) 0 in
    let front = take w.at (old ++ pad) in
    let tail = drop (w.at + length w.bytes) old in
    let long : i < length front = omega (arith, length-take w.at (old ++ pad), length-append old pad, before, within) in
    get_or_append_left (front ++ w.bytes) tail 0 i (omega (arith, long, length-append front w.bytes))
    ∙ get_or_append_left front w.bytes 0 i long
    ∙ get_or-take w.at (old ++ pad) i 0 before
    ∙ get_or_append_left old pad 0 i within
overwritten_keeps old w i within (inr behind) =
    let pad : List ℕ = replicate (w.at - length old) 0 in
    let front : List ℕ = take w.at (old ++ pad) in
    let tail : List ℕ = drop (w.at + length w.bytes) old in
    let long : length (front ++ w.bytes) ≡ w.at + length w.bytes =
    omega (arith, behind, within, length-append front w.bytes, length-take w.at (old ++ pad), length-append old pad) in
    let place : (w.at + length w.bytes) + (i - (w.at + length w.bytes)) ≡ i = omega (arith, behind) in
    get_or-append_right (front ++ w.bytes) tail (w.at + length w.bytes) i 0 long behind
    ∙ get_or-drop (w.at + length w.bytes) old (i - (w.at + length w.bytes)) 0
    ∙ ap (λ (k : ℕ). get_or old k 0) place

-- so do all before it
overwritten_front : (old : List ℕ) (w : Write) (n : ℕ) → n ≤ length old → n ≤ w.at
    → take n (overwritten old w) ≡ take n old
overwritten_front old w n within before =
    let pad : List ℕ = replicate (w.at - length old) 0 in
    let front : List ℕ = take w.at (old ++ pad) in
    let tail : List ℕ = drop (w.at + length w.bytes) old in
    let long : n ≤ length front = omega (arith, length-take w.at (old ++ pad), length-append old pad, before, within) in
    take-append-le n (front ++ w.bytes) tail (omega (arith, long, length-append front w.bytes))
    ∙ take-append-le n front w.bytes long
    ∙ take_twice n w.at (old ++ pad) before
    ∙ take-append-le n old pad within

torn_front : (tear : Tear) (left : List ℕ) (w : Write) (n : ℕ) → n ≤ length left → n ≤ w.at
    → take n (torn_by tear left w) ≡ take n left
torn_front Nothing left w n within before = refl
torn_front All left w n within before = overwritten_front left w n within before
torn_front (Fill byte) left w n within before = overwritten_front left (blotted byte w) n within before

-- what a read gives and what a fall leaves are the same as far as they were, up to a write
pub same_front : (tear : Tear) (left bytes : List ℕ) (w : Write) (same n : ℕ) → take same left ≡ take same bytes
    → same ≤ length left → length left ≤ length bytes → n ≤ same → n ≤ w.at
    → take n (torn_by tear left w) ≡ take n (overwritten bytes w)
same_front tear left bytes w same n is within shorter fewer before =
    torn_front tear left w n (omega (arith, within, fewer)) before
    ∙ sym (take_twice n same left fewer) ∙ ap (take n) is ∙ take_twice n same bytes fewer
    ∙ sym (overwritten_front bytes w n (omega (arith, within, shorter, fewer)) before)

all_keep : (synced : List ℕ) (writes : List Write) (i : ℕ) → i < length synced → IsOutside writes i
    → (length synced ≤ length (all_written synced writes))
    × (get_or (all_written synced writes) i 0 ≡ get_or synced i 0)
all_keep synced [] i within outside = (omega arith, refl)
all_keep synced (w ∷ writes) i within outside =
    let earlier = all_keep synced writes i within outside.1 in (
      omega (arith, earlier.0, length-overwritten (all_written synced writes) w),
      overwritten_keeps (all_written synced writes) w i (omega (arith, within, earlier.0)) outside.0 ∙ earlier.1,
    )

length_all : (synced : List ℕ) (writes : List Write) → length synced ≤ length (all_written synced writes)
length_all synced [] = omega arith
length_all synced (w ∷ writes) = omega (
  arith,
  length_all synced writes,
  length-overwritten (all_written synced writes) w,
)

-- what a read gives is an image
pub read_is_image : (s : Stored) → IsImage s (as_read s)
read_is_image s = record {
  no_shorter = length_all s.synced s.writes;
  no_longer = omega arith;
  same = λ i within outside. (all_keep s.synced s.writes i within outside).1;
}

-- what a fall leaves is between what lasts and what a read gives
torn_between : (tear : Tear) (synced : List ℕ) (writes : List Write)
    → (length synced ≤ length (all_torn tear synced writes))
    × (length (all_torn tear synced writes) ≤ length (all_written synced writes))
torn_between tear synced [] = (omega arith, omega arith)
torn_between Nothing synced (w ∷ writes) =
    let earlier = torn_between Nothing synced writes in
    (earlier.0, omega (arith, earlier.1, length-overwritten (all_written synced writes) w))
torn_between All synced (w ∷ writes) =
    let earlier = torn_between All synced writes in
    let read = length-overwritten (all_written synced writes) w in
    let torn = length-overwritten (all_torn All synced writes) w in
    (omega (arith, earlier.0, torn), omega (arith, earlier.1, read, torn))
torn_between (Fill byte) synced (w ∷ writes) =
    let earlier = torn_between (Fill byte) synced writes in
    let read = length-overwritten (all_written synced writes) w in
    let torn = length-overwritten (all_torn (Fill byte) synced writes) (blotted byte w) in
    let filled = length-replicate {A = ℕ} (length w.bytes) byte in
    (omega (arith, earlier.0, torn), omega (arith, earlier.1, read, torn, filled))

-- outside the written ranges a fall leaves what lasts
torn_keeps : (tear : Tear) (synced : List ℕ) (writes : List Write) (i : ℕ) → i < length synced → IsOutside writes i
    → get_or (all_torn tear synced writes) i 0 ≡ get_or synced i 0
torn_keeps tear synced [] i within outside = refl
torn_keeps Nothing synced (w ∷ writes) i within outside = torn_keeps Nothing synced writes i within outside.1
torn_keeps All synced (w ∷ writes) i within outside =
    let longer = (torn_between All synced writes).0 in
    overwritten_keeps (all_torn All synced writes) w i (omega (arith, within, longer)) outside.0
    ∙ torn_keeps All synced writes i within outside.1
torn_keeps (Fill byte) synced (w ∷ writes) i within outside =
    let longer = (torn_between (Fill byte) synced writes).0 in
    overwritten_keeps (all_torn (Fill byte) synced writes) (blotted byte w) i (omega (arith, within, longer))
    (blotted_outside byte w i outside.0)
    ∙ torn_keeps (Fill byte) synced writes i within outside.1
  where
    blotted_outside : (byte : ℕ) (w : Write) (i : ℕ) → (i < w.at) ⊎ (w.at + length w.bytes ≤ i)
        → (i < w.at) ⊎ (w.at + length (blotted byte w).bytes ≤ i)
    blotted_outside byte w i (inl before) = inl before
    blotted_outside byte w i (inr behind) = inr (omega (arith, behind, length-replicate {A = ℕ} (length w.bytes) byte))

-- what a fall leaves is an image
pub left_is_image : (tear : Tear) (s : Stored) → IsImage s (left_by tear s)
left_is_image tear s = record {
  no_shorter = (torn_between tear s.synced s.writes).0;
  no_longer = (torn_between tear s.synced s.writes).1;
  same = torn_keeps tear s.synced s.writes;
}

-- a stop at rest leaves what is there
pub settled_leaves : (s : Stored) (bytes : List ℕ) → IsImage s bytes → Leaves (IsImage s) (settled bytes)
settled_leaves s bytes is c image = record {
  no_shorter = omega (arith, is.no_shorter, image.no_shorter);
  no_longer = omega (arith, is.no_longer, image.no_longer);
  same = λ i within outside. image.same i (omega (arith, within, is.no_shorter)) tt ∙ is.same i within outside;
}
