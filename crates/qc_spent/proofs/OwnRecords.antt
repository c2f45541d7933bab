-- Records are kept in a history just where each actor's own steps keep them.
use Rattle.std.proofs.Common.{◌≡◌, ℕ, ◌==◌, Bool, true, false, List, [], ◌∷◌, ◌++◌, refl, sym, ◌∙◌, ap, subst}
use Rattle.std.proofs.Common.{append_assoc, append-nil, if◌then◌else◌}
use Rattle.std.proofs.lemmas.Bool.{eq-eqb, eqb-true}
use Rattle.qc_msg.specs.Vocabulary.{Entry, marked, own}
use Rattle.qc_msg.specs.declared.step.Step.{Step}
use Rattle.qc_msg.proofs.DeedsGrow.{own-append}
use Rattle.qc_promise.specs.Vocabulary.{AreKept, IsKeptAt, Kept}
use Rattle.qc_spent.proofs.Ends.{CutAt, at_end, cut_at, inside}

-- an entry more, of this actor or of another

own_one : (a : ℕ) (e : Entry) (c : Bool) → (e.actor == a) ≡ c → own a (e ∷ []) ≡ (if c then e.step ∷ [] else [])
own_one a e true is = rw is refl
own_one a e false is = rw is refl

own_this : (a : ℕ) (h : List Entry) (e : Entry) → (e.actor == a) ≡ true → own a (h ++ e ∷ []) ≡ own a h ++ e.step ∷ []
own_this a h e this = own-append a h (e ∷ []) ∙ ap (λ (l : List Step). own a h ++ l) (own_one a e true this)

pub own_mine : (a : ℕ) (h : List Entry) (s : Step) → own a (h ++ marked a s ∷ []) ≡ own a h ++ s ∷ []
own_mine a h s = own_this a h (marked a s) (eq-eqb a a refl)

pub own_other : (a : ℕ) (h : List Entry) (e : Entry) → (e.actor == a) ≡ false → own a (h ++ e ∷ []) ≡ own a h
own_other a h e other =
    own-append a h (e ∷ []) ∙ ap (λ (l : List Step). own a h ++ l) (own_one a e false other) ∙ append-nil (own a h)

pub kept_more : (own : List Step) (s : Step) → AreKept own → IsKeptAt own s → AreKept (own ++ s ∷ [])
kept_more own s each now before later x is = by (cut_at own s before later x is)
  where
    by : CutAt own s before x → IsKeptAt before x
    by (at_end whole this) = subst (λ (b : List Step). IsKeptAt b x) (sym whole) (subst (IsKeptAt own) (sym this) now)
    by (inside rest part) = each before rest x part

-- from each actor's steps to the history

pub own_cut : (a : ℕ) (before later : List Entry) (e : Entry) → (e.actor == a) ≡ true
    → own a (before ++ e ∷ later) ≡ own a before ++ e.step ∷ own a later
own_cut a before later e this =
    own-append a before (e ∷ later) ∙ ap (λ (l : List Step). own a before ++ l) (rw this refl)

pub own_steps_make_kept : (h : List Entry) → ((a : ℕ) → AreKept (own a h)) → Kept h
own_steps_make_kept h each before later e is =
    each e.actor (own e.actor before) (own e.actor later) e.step
    (sym (own_cut e.actor before later e (eq-eqb e.actor e.actor refl)) ∙ ap (own e.actor) is)

-- and from the history to an actor's steps

none_kept : AreKept []
none_kept [] later s is = absurd (cc is)
none_kept (b ∷ before) later s is = absurd (cc is)

module _ (h : List Entry) (a : ℕ) (all : Kept h) where
  one_more : (before later : List Entry) (e : Entry) → before ++ e ∷ later ≡ h → AreKept (own a before) → (c : Bool)
      → (e.actor == a) ≡ c → AreKept (own a (before ++ e ∷ []))
  one_more before later e is own_steps_make_kept true this =
      subst AreKept (sym (own_this a before e this))
      (kept_more (own a before) e.step own_steps_make_kept
      (subst (λ (k : ℕ). IsKeptAt (own k before) e.step) (eqb-true e.actor a this) (all before later e is)))
  one_more before later e is own_steps_make_kept false other =
      subst AreKept (sym (own_other a before e other)) own_steps_make_kept

  go : (before later : List Entry) → before ++ later ≡ h → AreKept (own a before) → AreKept (own a h)
  go before [] is own_steps_make_kept =
      subst (λ (l : List Entry). AreKept (own a l)) (sym (append-nil before) ∙ is) own_steps_make_kept
  go before (e ∷ later) is own_steps_make_kept =
      go (before ++ e ∷ []) later (append_assoc before (e ∷ []) later ∙ is)
      (one_more before later e is own_steps_make_kept (e.actor == a) refl)

  pub kept_histories_keep_own_steps : AreKept (own a h)
  kept_histories_keep_own_steps = go [] h refl none_kept
