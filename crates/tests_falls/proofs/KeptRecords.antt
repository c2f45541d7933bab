-- A schedule loses no record: each rise gives back the actor's journal.
use Rattle.std.proofs.Common.{◌≡◌, ℕ, ◌+◌, Bool, true, false, List, [], ◌∷◌, ◌++◌, Option, Some, None, inl, inr, refl}
use Rattle.std.proofs.Common.{ap, sym, ◌∙◌, subst, append_assoc}
use Rattle.std.proofs.lemmas.List.{append-nil}
use Rattle.qc_msg.specs.declared.record.Record.{Record}
use Rattle.qc_msg.specs.declared.reply.Reply.{Reply}
use Rattle.qc_msg.specs.declared.step.Fall.{Fall}
use Rattle.qc_msg.specs.declared.step.Fall.TheVariants as causes
use Rattle.qc_msg.specs.declared.step.Step.{Step}
use Rattle.qc_msg.specs.declared.step.Step.TheVariants.{Rose}
use Rattle.qc_msg.specs.declared.turn.Appended.{Appended}
use Rattle.qc_msg.specs.declared.turn.Appended.TheVariants.{Done, Failed, Stopped}
use Rattle.qc_msg.specs.declared.turn.Posting.{Posting}
use Rattle.qc_msg.specs.declared.turn.Turn.{Turn}
use Rattle.qc_msg.specs.Vocabulary.{Entry, by, fell, own, posted_as, sents, told, wrote}
use Rattle.qc_msg.proofs.GrownMail.{by-append}
use Rattle.qc_promise.specs.Vocabulary.{IsGivenBack, IsKeptAt, Journal, Kept, journal_of}
use Rattle.tests_falls.specs.Perform.{given_back}

-- entries that keep what stands there before them

abbrev pub KeptFrom : List Entry → List Entry → Type 0
KeptFrom before [] = Unit {0}
KeptFrom before (e ∷ h) = IsKeptAt (own e.actor before) e.step × KeptFrom (before ++ e ∷ []) h

kept_at : (first h before later : List Entry) (e : Entry) → KeptFrom first h → before ++ e ∷ later ≡ h
    → IsKeptAt (own e.actor (first ++ before)) e.step
kept_at first [] [] later e kept is = absurd (let never : ⊥ = cc in never)
kept_at first [] (b ∷ before) later e kept is = absurd (let never : ⊥ = cc in never)
kept_at first (x ∷ h) [] later e kept is =
    let same : x ≡ e = cc in
    subst (λ (v : List Entry). IsKeptAt (own e.actor v) e.step) (sym (append-nil first))
    (subst (λ (v : Entry). IsKeptAt (own v.actor first) v.step) same kept.0)
kept_at first (x ∷ h) (b ∷ before) later e kept is =
    let rest : before ++ e ∷ later ≡ h = cc in
    let same : x ≡ b = cc in
    subst (λ (v : List Entry). IsKeptAt (own e.actor v) e.step)
    (append_assoc first (x ∷ []) before ∙ ap (λ (v : Entry). first ++ v ∷ before) same)
    (kept_at (first ++ x ∷ []) h before later e kept.1 rest)

pub all_kept : (h : List Entry) → KeptFrom [] h → Kept h
all_kept h kept before later e is = kept_at [] h before later e kept is

pub kept_both : (first h more : List Entry) → KeptFrom first h → KeptFrom (first ++ h) more → KeptFrom first (h ++ more)
kept_both first [] more kept then = subst (λ (v : List Entry). KeptFrom v more) (append-nil first) then
kept_both first (e ∷ h) more kept then = (
  kept.0,
  kept_both (first ++ e ∷ []) h more kept.1
      (subst (λ (v : List Entry). KeptFrom v more) (sym (append_assoc first (e ∷ []) h)) then),
)

-- the steps of a post

abbrev AreKept : List Step → Type 0
AreKept xs = (first : List Entry) (a : ℕ) → KeptFrom first (by a xs)

both_kept : (xs ys : List Step) → AreKept xs → AreKept ys → AreKept (xs ++ ys)
both_kept xs ys one two first a =
    subst (KeptFrom first) (sym (by-append a xs ys))
    (kept_both first (by a xs) (by a ys) (one first a) (two (first ++ by a xs) a))

wrote_kept : (write : Option Record) → AreKept (wrote write)
wrote_kept None first a = tt
wrote_kept (Some written) first a = (tt, tt)

sents_kept : (n : ℕ) (ps : List Posting) → AreKept (sents n ps)
sents_kept n [] first a = tt
sents_kept n (p ∷ ps) first a = (tt, sents_kept (n + 1) ps _ a)

told_kept : (reply : Option Reply) → AreKept (told reply)
told_kept None first a = tt
told_kept (Some reply) first a = (tt, tt)

fell_kept : (cause : Fall) (pending : Option Record) → AreKept (fell cause pending)
fell_kept cause pending first a = (tt, tt)

pub post_kept : (end : Appended) (n : ℕ) (turn : Turn) → AreKept (posted_as end n turn)
post_kept Done n turn =
    both_kept (wrote turn.write) (sents n turn.sends ++ told turn.told) (wrote_kept turn.write)
    (both_kept (sents n turn.sends) (told turn.told) (sents_kept n turn.sends) (told_kept turn.told))
post_kept Failed n turn =
    both_kept (sents n turn.failed_sends) (told turn.failed_told ++ fell causes.Disk turn.write)
    (sents_kept n turn.failed_sends)
    (both_kept (told turn.failed_told) (fell causes.Disk turn.write) (told_kept turn.failed_told)
    (fell_kept causes.Disk turn.write))
post_kept Stopped n turn =
    both_kept (told turn.failed_told) (fell causes.Stop turn.write) (told_kept turn.failed_told)
    (fell_kept causes.Stop turn.write)

-- a rise

given : (back : Bool) (j : Journal) → IsGivenBack j (given_back back j)
given true j = inr refl
given false j = inl refl

pub rise_kept : (h : List Entry) (a : ℕ) (back : Bool) (end : Appended) (n : ℕ) (turn : Turn)
    → KeptFrom h (by a (Rose (given_back back (journal_of (own a h))) ∷ posted_as end n turn))
rise_kept h a back end n turn = (given back (journal_of (own a h)), post_kept end n turn _ a)
