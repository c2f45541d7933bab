-- An actor's own steps in a history that goes on, and the records that they keep.
use Rattle.std.proofs.Common.{◌≡◌, ℕ, ◌+◌, ◌≤◌, List, [], ◌∷◌, ◌++◌, length, refl, sym, ◌∙◌, ap, subst, append-nil}
use Rattle.std.proofs.Common.{append_assoc, arith, length-append}
use Rattle.qc_decl.specs.declared.declaration.Declaration.{Declaration}
use Rattle.qc_msg.specs.Vocabulary.{Entry, by, own}
use Rattle.qc_msg.specs.declared.step.Step.{Step}
use Rattle.qc_msg.proofs.DeedsGrow.{own-append, own-by_same, length-by}
use Rattle.qc_promise.specs.Vocabulary.{IsKeptOrUnfit, IsOfOthers, journal_of}
use Rattle.qc_process.specs.Vocabulary.{AreKeptOrUnfit, Goes, journal_fits}
use Rattle.qc_promise.proofs.Posts.{own_others as own_none}
use Rattle.std.proofs.Common.{◌==◌, true, false}

pub own_cut : (a : ℕ) (before later : List Entry) (e : Entry) → (e.actor == a) ≡ true
    → own a (before ++ e ∷ later) ≡ own a before ++ e.step ∷ own a later
own_cut a before later e this =
    own-append a before (e ∷ later) ∙ ap (λ (l : List Step). own a before ++ l) (rw this refl)

pub own_other : (a : ℕ) (h : List Entry) (e : Entry) → (e.actor == a) ≡ false → own a (h ++ e ∷ []) ≡ own a h
own_other a h e other =
    own-append a h (e ∷ []) ∙ ap (λ (l : List Step). own a h ++ l) (rw other refl) ∙ append-nil (own a h)

-- where a list with one more at its end is cut: at that one, or before it

data CutAt {X : Type 0} (xs : List X) (x : X) (before : List X) (s : X) : Type 0 where
  at_end : before ≡ xs → s ≡ x → CutAt xs x before s
  inside : (rest : List X) → before ++ s ∷ rest ≡ xs → CutAt xs x before s

cut_at : {X : Type 0} (xs : List X) (x : X) (before later : List X) (s : X) → before ++ s ∷ later ≡ xs ++ x ∷ []
    → CutAt xs x before s
cut_at [] x [] later s is = at_end refl (cc is)
cut_at (y ∷ xs) x [] later s is = inside xs (ap (λ z. z ∷ xs) (cc is))
cut_at [] x (b ∷ []) later s is = absurd (cc is)
cut_at [] x (b ∷ c ∷ before) later s is = absurd (cc is)
cut_at {X = X} (y ∷ xs) x (b ∷ before) later s is = by_first (cc is) (cut_at xs x before later s (cc is))
  where
    by_first : b ≡ y → CutAt xs x before s → CutAt (y ∷ xs) x (b ∷ before) s
    by_first same (at_end whole this) =
        at_end (ap (λ z. z ∷ before) same ∙ ap (λ (l : List X). y ∷ l) whole) this
    by_first same (inside rest part) =
        inside rest (ap (λ z. z ∷ (before ++ s ∷ rest)) same ∙ ap (λ (l : List X). y ∷ l) part)

-- own steps

pub own_others : (a : ℕ) (h others : List Entry) → IsOfOthers a others → own a (h ++ others) ≡ own a h
own_others a h others none =
    own-append a h others ∙ ap (λ (l : List Step). own a h ++ l) (own_none a others none) ∙ append-nil (own a h)

pub own_goes : (a : ℕ) (h : List Entry) (steps : List Step) (now : List Entry) → Goes a h steps now
    → own a now ≡ own a h ++ steps
own_goes a h steps now goes =
    ap (own a) goes.now_is
    ∙ own-append a (h ++ goes.others) (by a steps)
    ∙ ap (λ (l : List Step). l ++ own a (by a steps)) (own_others a h goes.others goes.not_own)
    ∙ ap (λ (l : List Step). own a h ++ l) (own-by_same a steps)

pub longer : (a : ℕ) (h : List Entry) (steps : List Step) (now : List Entry) → Goes a h steps now
    → length h + length steps ≤ length now
longer a h steps now goes =
    let whole : length now ≡ length ((h ++ goes.others) ++ by a steps) = ap length goes.now_is in
    omega (
      arith,
      whole,
      length-append (h ++ goes.others) (by a steps),
      length-append h goes.others,
      length-by a steps,
    )

-- each of these steps, behind those, leaves its actor's records or finds one that doesn't fit
abbrev pub AreFine : Declaration → ℕ → List Step → List Step → Type 0
AreFine decl a own [] = Unit {0}
AreFine decl a own (s ∷ steps) =
    IsKeptOrUnfit (journal_fits decl a (journal_of own)) own s × AreFine decl a (own ++ s ∷ []) steps

kept_more : (decl : Declaration) (a : ℕ) (own : List Step) (s : Step) → AreKeptOrUnfit decl a own
    → IsKeptOrUnfit (journal_fits decl a (journal_of own)) own s → AreKeptOrUnfit decl a (own ++ s ∷ [])
kept_more decl a own s each now before later x is = by_cut (cut_at own s before later x is)
  where
    by_cut : CutAt own s before x → IsKeptOrUnfit (journal_fits decl a (journal_of before)) before x
    by_cut (at_end whole this) =
        subst (λ (b : List Step). IsKeptOrUnfit (journal_fits decl a (journal_of b)) b x) (sym whole)
        (subst (IsKeptOrUnfit (journal_fits decl a (journal_of own)) own) (sym this) now)
    by_cut (inside rest part) = each before rest x part

pub kept_on : (decl : Declaration) (a : ℕ) (own steps : List Step) → AreKeptOrUnfit decl a own
    → AreFine decl a own steps → AreKeptOrUnfit decl a (own ++ steps)
kept_on decl a own [] each fine = subst (AreKeptOrUnfit decl a) (sym (append-nil own)) each
kept_on decl a own (s ∷ steps) each fine =
    subst (AreKeptOrUnfit decl a) (append_assoc own (s ∷ []) steps)
    (kept_on decl a (own ++ s ∷ []) steps (kept_more decl a own s each fine.0) fine.1)

pub none_kept : (decl : Declaration) (a : ℕ) → AreKeptOrUnfit decl a []
none_kept decl a [] later s is = absurd (cc is)
none_kept decl a (b ∷ before) later s is = absurd (cc is)
