-- The life that deeds end in begins at the last rise among them.
use Rattle.std.proofs.Common.{◌≡◌, ℕ, ◌+◌, ◌<◌, List, ◌∷◌, ◌++◌, Some, length, get_or, map, take, drop, sym, ap, ◌∙◌}
use Rattle.std.proofs.Common.{take-append-drop}
use Rattle.std.proofs.lemmas.List.{map-append}
use Rattle.qc_msg.specs.declared.record.Record.{Record}
use Rattle.qc_msg.specs.Vocabulary.{Deed, Falls, Rises, Sends, Takes, Tells, Writes, risen_in}
use Rattle.qc_promise.specs.Vocabulary.{lifetime}
use Rattle.qc_promise.proofs.Lifetimes.{AreNoRises, life_after}
use Rattle.qc_text.specs.Vocabulary.{deed_of}
use Rattle.qc_text.specs.declared.deeds.Deed.{Deed as Found}
use Rattle.qc_text.proofs.Found.{found_rest}

is_rise : (d : Deed) (rs : List Record) → Some rs ≡ risen_in d → d ≡ Rises rs
is_rise (Takes given) rs is = absurd (let never : ⊥ = cc in never)
is_rise (Writes written) rs is = absurd (let never : ⊥ = cc in never)
is_rise (Sends number to message) rs is = absurd (let never : ⊥ = cc in never)
is_rise (Tells reply) rs is = absurd (let never : ⊥ = cc in never)
is_rise (Falls cause pending) rs is = absurd (let never : ⊥ = cc in never)
is_rise (Rises kept) rs is = let same : kept ≡ rs = cc in ap Rises same

pub rose_at : (xs : List Found) (i : ℕ) (x d : Found) (rs : List Record) → i < length xs → x ≡ get_or xs i d
    → Some rs ≡ risen_in (deed_of x)
    → AreNoRises (map deed_of (drop (i + 1) xs))
    → lifetime (map deed_of xs) ≡ record { kept = rs; since = map deed_of (drop (i + 1) xs) }
rose_at xs i x d rs l e is none =
    ap lifetime (ap (map deed_of) (sym (take-append-drop i xs)) ∙ map-append deed_of (take i xs) (drop i xs)
    ∙ ap (λ (v : List Deed). map deed_of (take i xs) ++ v)
    (found_rest xs i x d l e ∙ ap (λ (v : Deed). v ∷ map deed_of (drop (i + 1) xs)) (is_rise (deed_of x) rs is)))
    ∙ life_after (map deed_of (take i xs)) rs (map deed_of (drop (i + 1) xs)) none
