-- Images and moments: from one write to the next, and from one call to the next.
use Rattle.std.proofs.Common.{◌≡◌, ℕ, ◌+◌, ◌-◌, max, List, [], ◌∷◌, ◌++◌, length, take, drop, replicate, Option, Some}
use Rattle.std.proofs.Common.{None, refl, sym, ◌∙◌, ap, subst, arith, append_assoc, length-append, length-take}
use Rattle.std.proofs.Common.{length-drop}
use Rattle.std.specs.List.{AllByRecursion}
use Rattle.std.proofs.lemmas.List.{length-replicate}
use Rattle.qc_outside.specs.Vocabulary.{IsImage, Leaves, Since, Stored, Tells, Told, Write, as_read, overwritten, wrote}

pub length-overwritten : (old : List ℕ) (w : Write)
    → length (overwritten old w) ≡ max (length old) (w.at + length w.bytes)
length-overwritten old w =
    omega (
      arith,
      length-append (take w.at (old ++ replicate (w.at - length old) 0) ++ w.bytes) (drop (w.at + length w.bytes) old),
      length-append (take w.at (old ++ replicate (w.at - length old) 0)) w.bytes,
      length-take w.at (old ++ replicate (w.at - length old) 0),
      length-append old (replicate (w.at - length old) 0),
      length-replicate {A = ℕ} (w.at - length old) 0,
      length-drop (w.at + length w.bytes) old,
    )

-- a stop after a write may leave what one before it might
pub image_wrote : (s : Stored) (w : Write) (c : List ℕ) → IsImage s c → IsImage (wrote s w) c
image_wrote s w c image = record {
  no_shorter = image.no_shorter;
  no_longer = omega (arith, image.no_longer, length-overwritten (as_read s) w);
  same = λ i within outside. image.same i within outside.1;
}

all_weaker : (P Q : List ℕ → Type 0) (later : List Stored) → ((c : List ℕ) → P c → Q c)
    → AllByRecursion (Leaves P) later → AllByRecursion (Leaves Q) later
all_weaker P Q [] f all = tt
all_weaker P Q (s ∷ later) f all = (λ c image. f c (all.0 c image), all_weaker P Q later f all.1)

pub since_weaker : (P Q : List ℕ → Type 0) (old new : Told) → ((c : List ℕ) → P c → Q c) → Since P old new
    → Since Q old new
since_weaker P Q old new f since = record {
  later = since.later;
  past = since.past;
  now = λ c image. f c (since.now c image);
  each = all_weaker P Q since.later f since.each;
}

all_joined : (P : List ℕ → Type 0) (xs ys : List Stored) → AllByRecursion (Leaves P) xs → AllByRecursion (Leaves P) ys
    → AllByRecursion (Leaves P) (xs ++ ys)
all_joined P [] ys a b = b
all_joined P (x ∷ xs) ys a b = (a.0, all_joined P xs ys a.1 b)

-- one call after another
pub since_then : (P : List ℕ → Type 0) (old mid new : Told) → Since P old mid → Since P mid new → Since P old new
since_then P old mid new first second = record {
  later = second.later ++ first.later;
  past = second.past ∙ ap (λ (l : List Stored). second.later ++ l) first.past
      ∙ sym (append_assoc second.later first.later old.past);
  now = second.now;
  each = all_joined P second.later first.later second.each first.each;
}

-- before any call
pub since_start : (P : List ℕ → Type 0) (t : Told) → Leaves P t.now → Since P t t
since_start P t here = record { later = []; past = refl; now = here; each = tt }

pub image_now : (t : Told) → Leaves (IsImage t.now) t.now
image_now t c image = image

-- what is told goes from call to call
pub tells_weaker : (a b : Option Told) (P Q : Told → Told → Type 0) → ((old new : Told) → P old new → Q old new)
    → Tells a b P → Tells a b Q
tells_weaker (Some o) (Some n) P Q f t = f o n t
tells_weaker None None P Q f t = tt
tells_weaker (Some o) None P Q f t = absurd t
tells_weaker None (Some n) P Q f t = absurd t

pub tells_same : (a b : Option Told) (Q : Told → Told → Type 0) → b ≡ a → ((t : Told) → Q t t) → Tells a b Q
tells_same (Some o) b Q e f = subst (λ b. Tells (Some o) b Q) (sym e) (f o)
tells_same None b Q e f = subst (λ b. Tells None b Q) (sym e) tt
