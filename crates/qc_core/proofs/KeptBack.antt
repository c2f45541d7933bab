-- Where records are kept, each rise among an actor's deeds gives back what its journal holds then.
use Rattle.std.proofs.Common.{◌≡◌, ℕ, ◌==◌, Bool, true, false, cond, List, [], ◌∷◌, ◌++◌, filter, fold, map, Option}
use Rattle.std.proofs.Common.{Some, None, option_to_list, slice_get, refl, ap, ◌∙◌, subst, append_assoc, eqb-true}
use Rattle.std.proofs.lemmas.List.{map-append}
use Rattle.std.proofs.lemmas.List.Elements.{filter-append}
use Rattle.std.proofs.lemmas.List.Sums.{fold-append}
use Rattle.qc_core.specs.Vocabulary.{AreGivenBack, journal_at}
use Rattle.qc_msg.specs.declared.message.Envelope.{Envelope}
use Rattle.qc_msg.specs.declared.step.Step.{Step}
use Rattle.qc_msg.specs.declared.step.Step.TheVariants as steps
use Rattle.qc_msg.specs.Vocabulary.{Deed, Entry, deed_at, deeds, envelope_of, heard, own}
use Rattle.qc_promise.specs.Vocabulary.{IsKeptAt, Journal, Kept, journal_of, journal_with, no_journal}

step_back : (before : List Step) (ms : List Envelope) (step : Step) (later : List Deed) → IsKeptAt before step
    → AreGivenBack (journal_with (journal_of before) step) later
    → AreGivenBack (journal_of before) (deed_at ms step ++ later)
step_back before ms (steps.Phase k) later kept back = back
step_back before ms (steps.Cut x y) later kept back = back
step_back before ms (steps.Heal x y) later kept back = back
step_back before ms (steps.Armed x kind at) later kept back = back
step_back before ms (steps.Called command) later kept back = (tt, back)
step_back before ms (steps.Got n) later kept back = by (slice_get ms n)
  where
    by : (o : Option Envelope) → AreGivenBack (journal_of before) (heard o ++ later)
    by None = back
    by (Some e) = (tt, back)
step_back before ms (steps.Lost n) later kept back = (tt, back)
step_back before ms (steps.Wrote written) later kept back = (tt, back)
step_back before ms (steps.Sent n to message) later kept back = (tt, back)
step_back before ms (steps.Told reply) later kept back = (tt, back)
step_back before ms (steps.Fell cause pending) later kept back = (tt, back)
step_back before ms (steps.Rose records) later kept back = (kept, back)
step_back before ms (steps.Damaged offset) later kept back = absurd kept

own_more : (a : ℕ) (h : List Entry) (e : Entry) → own a (h ++ e ∷ []) ≡ own a h ++ cond (e.actor == a) (e.step ∷ []) []
own_more a h e =
    ap (λ (es : List Entry). map (λ (k : Entry). k.step) es) (filter-append (λ (k : Entry). k.actor == a) h (e ∷ []))
    ∙ map-append (λ (k : Entry). k.step) (filter (λ (k : Entry). k.actor == a) h)
    (filter (λ (k : Entry). k.actor == a) (e ∷ []))
    ∙ ap (λ (xs : List Step). own a h ++ xs) (by (e.actor == a))
  where
    by : (t : Bool) → map (λ (k : Entry). k.step) (cond t (e ∷ []) []) ≡ cond t (e.step ∷ []) []
    by true = refl
    by false = refl

journal_more : (a : ℕ) (h : List Entry) (e : Entry)
    → journal_of (own a (h ++ e ∷ [])) ≡ fold journal_with (journal_of (own a h)) (cond (e.actor == a) (e.step ∷ []) [])
journal_more a h e = ap journal_of (own_more a h e)
    ∙ fold-append journal_with no_journal (own a h) (cond (e.actor == a) (e.step ∷ []) [])

pub kept_back : (a : ℕ) (ms : List Envelope) (past rest h : List Entry) → past ++ rest ≡ h → Kept h
    → AreGivenBack (journal_of (own a past)) (deeds a ms rest)
kept_back a ms past [] h is kept = tt
kept_back a ms past (e ∷ rest) h is kept =
    by (e.actor == a) refl (subst (λ (j : Journal). AreGivenBack j
    (deeds a (ms ++ option_to_list (envelope_of e)) rest)) (journal_more a past e)
    (kept_back a (ms ++ option_to_list (envelope_of e)) (past ++ e ∷ []) rest h
    (append_assoc past (e ∷ []) rest ∙ is) kept))
  where
    later : List Deed
    later = deeds a (ms ++ option_to_list (envelope_of e)) rest

    by : (t : Bool) → (e.actor == a) ≡ t → AreGivenBack
        (fold journal_with (journal_of (own a past)) (cond (e.actor == a) (e.step ∷ []) [])) later
        → AreGivenBack (journal_of (own a past)) (cond t (deed_at ms e.step) [] ++ later)
    by true same back =
        step_back (own a past) ms e.step later (subst (λ (k : ℕ). IsKeptAt (own k past) e.step)
        (eqb-true e.actor a same) (kept past rest e is))
        (subst (λ (t : Bool). AreGivenBack (fold journal_with (journal_of (own a past)) (cond t (e.step ∷ []) []))
        later) same back)
    by false other back = subst (λ (t : Bool). AreGivenBack
        (fold journal_with (journal_of (own a past)) (cond t (e.step ∷ []) [])) later) other back

pub rises_give_back_journals_where_records_are_kept : (h : List Entry) → Kept h → (a : ℕ)
    → AreGivenBack no_journal (deeds a [] h)
rises_give_back_journals_where_records_are_kept h kept a = kept_back a [] [] h h refl kept

-- so it is of what comes first, and of what comes after

pub back_first : (j : Journal) (xs ys : List Deed) → AreGivenBack j (xs ++ ys) → AreGivenBack j xs
back_first j [] ys back = tt
back_first j (x ∷ xs) ys back = (back.0, back_first (journal_at j x) xs ys back.1)

pub back_second : (j : Journal) (xs ys : List Deed) → AreGivenBack j (xs ++ ys) → AreGivenBack (fold journal_at j xs) ys
back_second j [] ys back = back
back_second j (x ∷ xs) ys back = back_second (journal_at j x) xs ys back.1
