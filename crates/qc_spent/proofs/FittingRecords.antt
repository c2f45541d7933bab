-- Damage comes only where a record doesn't fit, and where records are kept so far, each fits: so they are kept.
use Rattle.std.proofs.Common.{◌≡◌, ℕ, Bool, true, List, [], ◌∷◌, ◌++◌, refl, sym, ◌∙◌, subst, append_assoc, append-nil}
use Rattle.qc_msg.specs.Vocabulary.{Entry, own}
use Rattle.qc_msg.specs.declared.step.Step.{Step}
use Rattle.qc_msg.specs.declared.step.Step.TheVariants as steps
use Rattle.qc_promise.specs.Vocabulary.{IsKeptAt, IsKeptOrUnfit, Kept}
use Rattle.qc_spent.proofs.Ends.{CutAt, at_end, cut_at, inside}

fit_kept : (fit : Bool) (before : List Step) (s : Step) → IsKeptOrUnfit fit before s → fit ≡ true → IsKeptAt before s
fit_kept fit before (steps.Phase number) is fits = tt
fit_kept fit before (steps.Cut x y) is fits = tt
fit_kept fit before (steps.Heal x y) is fits = tt
fit_kept fit before (steps.Armed b kind at) is fits = tt
fit_kept fit before (steps.Called command) is fits = tt
fit_kept fit before (steps.Got number) is fits = tt
fit_kept fit before (steps.Lost number) is fits = tt
fit_kept fit before (steps.Wrote written) is fits = tt
fit_kept fit before (steps.Sent number to message) is fits = tt
fit_kept fit before (steps.Told reply) is fits = tt
fit_kept fit before (steps.Fell cause pending) is fits = tt
fit_kept fit before (steps.Rose records) is fits = is
fit_kept fit before (steps.Damaged offset) is fits = absurd (cc (sym is ∙ fits))

pub kept_more : (h : List Entry) (e : Entry) → Kept h → IsKeptAt (own e.actor h) e.step → Kept (h ++ e ∷ [])
kept_more h e kept now before later x is = by (cut_at h e before later x is)
  where
    by : CutAt h e before x → IsKeptAt (own x.actor before) x.step
    by (at_end whole this) =
        subst (λ (y : Entry). IsKeptAt (own y.actor before) y.step) (sym this)
        (subst (λ (l : List Entry). IsKeptAt (own e.actor l) e.step) (sym whole) now)
    by (inside rest part) = kept before rest x part

kept_none : Kept []
kept_none [] later e is = absurd (cc is)
kept_none (b ∷ before) later e is = absurd (cc is)

module _ (h : List Entry) (fits : ℕ → List Entry → Bool)
    (each : (before later : List Entry) (e : Entry) → before ++ e ∷ later ≡ h → IsKeptOrUnfit (fits e.actor before)
    (own e.actor before) e.step)
    (fitting : (a : ℕ) (before later : List Entry) → before ++ later ≡ h → Kept before → fits a before ≡ true) where
  go : (before later : List Entry) → before ++ later ≡ h → Kept before → Kept h
  go before [] is kept = subst Kept (sym (append-nil before) ∙ is) kept
  go before (e ∷ later) is kept =
      go (before ++ e ∷ []) later (append_assoc before (e ∷ []) later ∙ is)
      (kept_more before e kept
      (fit_kept (fits e.actor before) (own e.actor before) e.step (each before later e is)
      (fitting e.actor before (e ∷ later) is kept)))

  pub fitting_records_are_kept : Kept h
  fitting_records_are_kept = go [] h refl kept_none
