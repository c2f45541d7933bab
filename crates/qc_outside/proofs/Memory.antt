-- What a disk in memory tells after one change more.
use Rattle.std.proofs.Common.{◌≡◌, ℕ, ◌+◌, List, [], ◌∷◌, ◌++◌, length, take, drop, refl, sym, ◌∙◌, ap, subst, arith}
use Rattle.std.proofs.Common.{length-drop}
use Rattle.std.proofs.lemmas.List.{append-nil, take_all, take-append-le, drop-append-le}
use Rattle.qc_outside.specs.Vocabulary.{IsImage, Leaves, Since, Stored, Told, Write, count_of, counts, told_after}
use Rattle.qc_outside.specs.Vocabulary.{told_at_first, told_by, told_next, wrote}
use Rattle.qc_outside.specs.declared.tear.Tear.{Tear}
use Rattle.qc_outside.specs.declared.mem_disk.Change.{Change}
use Rattle.qc_outside.specs.declared.mem_disk.Change.TheVariants.{Wrote, Synced, Fell}
use Rattle.qc_outside.proofs.Images.{image_wrote, since_start}

told_push : (tear : Tear) (t : Told) (changes : List Change) (written : List ℕ) (change : Change) (bytes : List ℕ)
    → counts changes ≡ length written
    → told_after tear t (changes ++ change ∷ []) (written ++ bytes) ≡ told_next tear
    (told_after tear t changes written) change bytes
told_push tear t [] [] change bytes is = refl
told_push tear t [] (b ∷ written) change bytes is = absurd (omega (arith, is))
told_push tear t (Wrote at count ∷ changes) written change bytes is =
    let front : take count (written ++ bytes) ≡ take count written =
    take-append-le count written bytes (omega (arith, is)) in
    let back : drop count (written ++ bytes) ≡ drop count written ++ bytes =
    drop-append-le count written bytes (omega (arith, is)) in
    ap (λ (l : List ℕ). told_after tear (record
    { now = wrote t.now (record { at = at; bytes = l }); past = t.now ∷ t.past }) (changes ++ change ∷ [])
    (drop count (written ++ bytes))) front
    ∙ ap (λ (l : List ℕ). told_after tear (told_next tear t (Wrote at count) written) (changes ++ change ∷ []) l) back
    ∙ told_push tear (told_next tear t (Wrote at count) written) changes (drop count written) change bytes
    (omega (arith, is, length-drop count written))
told_push tear t (Synced ∷ changes) written change bytes is =
    told_push tear (told_next tear t Synced written) changes written change bytes (omega (arith, is))
told_push tear t (Fell ∷ changes) written change bytes is =
    told_push tear (told_next tear t Fell written) changes written change bytes (omega (arith, is))

pub counts_push : (changes : List Change) (change : Change)
    → counts (changes ++ change ∷ []) ≡ counts changes + count_of change
counts_push [] change = omega arith
counts_push (c ∷ changes) change = omega (arith, counts_push changes change)

after_items : (tear : Tear) (changes : List Change) (written : List ℕ) (more : List Change) (longer : List ℕ)
    (change : Change) (bytes : List ℕ) → counts changes ≡ length written → more ≡ changes ++ change ∷ []
    → longer ≡ written ++ bytes
    → told_by tear more longer ≡ told_next tear (told_by tear changes written) change bytes
after_items tear changes written more longer change bytes is items all =
    ap (λ (cs : List Change). told_by tear cs longer) items
    ∙ ap (λ (l : List ℕ). told_by tear (changes ++ change ∷ []) l) all
    ∙ told_push tear told_at_first changes written change bytes is

-- a sync or a fall more
pub told_change : (tear : Tear) (changes : List Change) (written : List ℕ) (more : List Change) (change : Change)
    → counts changes ≡ length written → more ≡ changes ++ change ∷ []
    → told_by tear more written ≡ told_next tear (told_by tear changes written) change []
told_change tear changes written more change is items =
    after_items tear changes written more written change [] is items (sym (append-nil written))

-- a write more
pub told_write : (tear : Tear) (changes : List Change) (written : List ℕ) (more : List Change) (longer : List ℕ)
    (at : ℕ) (bytes : List ℕ) → counts changes ≡ length written → more ≡ changes ++ Wrote at (length bytes) ∷ []
    → longer ≡ written ++ bytes
    → told_by tear more longer ≡ record {
      now =
          wrote (told_by tear changes written).now (record { at = at; bytes = bytes });
      past = (told_by tear changes written).now ∷ (told_by tear changes written).past;
    }
told_write tear changes written more longer at bytes is items all =
    after_items tear changes written more longer (Wrote at (length bytes)) bytes is items all
    ∙ ap (λ (l : List ℕ). record {
      now = wrote (told_by tear changes written).now (record { at = at; bytes = l });
      past = (told_by tear changes written).now ∷ (told_by tear changes written).past;
    })
    (take_all (length bytes) bytes (omega arith))

-- one moment more
pub since_step : (P : List ℕ → Type 0) (t u : Told) (s : Stored) → Leaves P t.now → Leaves P s
    → u ≡ record { now = s; past = t.now ∷ t.past } → Since P t u
since_step P t u s before now is = subst (Since P t) (sym is)
    (record { later = t.now ∷ []; past = refl; now = now; each = (before, tt) })

-- no moment more
pub since_same : (tear : Tear) (changes more : List Change) (written longer : List ℕ) (w : Write) → more ≡ changes
    → longer ≡ written → Since (IsImage (wrote (told_by tear changes written).now w)) (told_by tear changes written)
    (told_by tear more longer)
since_same tear changes more written longer w items all =
    let t = told_by tear changes written in
    let P = IsImage (wrote t.now w) in
    let same : t ≡ told_by tear more longer = ap (λ (cs : List Change). told_by tear cs written) (sym items)
    ∙ ap (λ (l : List ℕ). told_by tear more l) (sym all) in
    subst (Since P t) same (since_start P t (λ c image. image_wrote t.now w c image))
