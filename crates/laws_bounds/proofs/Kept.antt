-- A run whose journals are damaged only where a record doesn't fit keeps all records.
use Rattle.std.proofs.Common.{◌≡◌, ℕ, ◌<◌, ◌≤◌, ◌==◌, nat_lt, Bool, true, false, List, [], ◌∷◌, ◌++◌, refl, sym, ap}
use Rattle.std.proofs.Common.{◌∙◌, subst, arith, append_assoc, append-nil}
use Rattle.std.proofs.lemmas.Bool.{eq-eqb, ltb-true}
use Rattle.qc_core.specs.Vocabulary.{IsLawfulWithFalls}
use Rattle.qc_core.proofs.LivesLaws.{journal as journal_is}
use Rattle.qc_decl.specs.Vocabulary.{IsAccepted, actors, most_steps}
use Rattle.qc_decl.specs.declared.declaration.Declaration.{Declaration}
use Rattle.qc_msg.specs.declared.record.Record.{Record}
use Rattle.qc_msg.specs.declared.step.Step.{Step}
use Rattle.qc_msg.specs.declared.step.Step.TheVariants as steps
use Rattle.qc_msg.specs.Vocabulary.{Entry, own}
use Rattle.qc_msg.proofs.DeedsGrow.{own-append}
use Rattle.qc_promise.specs.Vocabulary.{IsKeptAt, Kept, journal_of, IsGivenBack}
use Rattle.qc_script.specs.Vocabulary.{IsScriptFor, RunWithFalls, RunsWithFalls}
use Rattle.qc_script.specs.declared.script.Script.{Script}
use Rattle.laws_bounds.specs.Vocabulary.{AreControlsBelow, AreFaultsBelow, AreKeptOrMisfits, IsDamagedWithin}
use Rattle.laws_bounds.specs.Vocabulary.{IsFaultBelow, IsKeptOrMisfit, JournalFits}
use Rattle.laws_bounds.proofs.RecordsFit.{journal_fits}
use Rattle.laws_bounds.proofs.Cuts.{CutIn, cut_in, every_at_cut, in_first, in_second, none_cut, the_one}
use Rattle.laws_bounds.proofs.RunFaults.{run_faults}
use Rattle.laws_bounds.proofs.Others.{at_least}
use Rattle.laws_bounds.proofs.Prefixes.{run_before}
use Rattle.laws_bounds.proofs.StepCases.{kept_cases}

-- a step keeps the records where its actor's journal fits as it finds damage
kept_where_fit : (decl : Declaration) (a : ℕ) (before : List Step) (s : Step)
    → IsKeptOrMisfit decl a (journal_of before) s
    → ((offset : ℕ) → s ≡ steps.Damaged offset → JournalFits decl a (journal_of before)) → IsKeptAt before s
kept_where_fit decl a before s is fit =
    kept_cases
    (λ (s : Step). IsKeptOrMisfit decl a (journal_of before) s
    × ((offset : ℕ) → s ≡ steps.Damaged offset → JournalFits decl a (journal_of before)))
    (IsGivenBack (journal_of before)) (λ (offset : ℕ). ⊥) (λ rs both. both.0)
    (λ offset both. both.0 (both.1 offset refl)) s (is, fit)

-- of a step that no actor beyond the number has
other_step : (decl : Declaration) (n a : ℕ) (before : List Step) (s : Step) → n ≤ a → IsFaultBelow n a s
    → IsKeptOrMisfit decl a (journal_of before) s
other_step decl n a before s high low =
    kept_cases (IsFaultBelow n a) (IsGivenBack (journal_of before))
    (λ (offset : ℕ). JournalFits decl a (journal_of before) → ⊥) (λ rs low. absurd (omega (arith, high, low)))
    (λ offset low. absurd (omega (arith, high, low))) s low

-- one entry more

kept_none : Kept []
kept_none before later e is = absurd (none_cut before later e is)

kept_more : (h : List Entry) (x : Entry) → Kept h → IsKeptAt (own x.actor h) x.step → Kept (h ++ x ∷ [])
kept_more h x kept now before later e is = from (cut_in h (x ∷ []) before later e is)
  where
    from : CutIn h (x ∷ []) before later e → IsKeptAt (own e.actor before) e.step
    from (in_first rest part) = kept before rest e part
    from (in_second front whole part) =
        let one = the_one x front later e part in
        let same : h ≡ before = sym (whole ∙ ap (λ (l : List Entry). h ++ l) one.before_is ∙ append-nil h) in
        subst (λ (y : Entry). IsKeptAt (own y.actor before) y.step) (sym one.this)
        (subst (λ (l : List Entry). IsKeptAt (own x.actor l) x.step) same now)

own_cut : (a : ℕ) (before later : List Entry) (e : Entry) → (e.actor == a) ≡ true
    → own a before ++ e.step ∷ own a later ≡ own a (before ++ e ∷ later)
own_cut a before later e this =
    sym (own-append a before (e ∷ later) ∙ ap (λ (l : List Step). own a before ++ l) (rw this refl))

module _ (decl : Declaration) (script : Script) (n : ℕ) (fits : ℕ → List Record → Type 0) (h : List Entry)
    (open_inputs : List Bool) (accepted : IsAccepted decl) (sound : IsScriptFor decl script) (few : actors decl ≤ n)
    (below : AreControlsBelow n script)
    (run : RunsWithFalls (IsLawfulWithFalls decl) fits decl script h open_inputs)
    (within : IsDamagedWithin most_steps h)
    (misfits : (a : ℕ) → a < n → AreKeptOrMisfits decl a (own a h)) where
  faults : AreFaultsBelow n h
  faults = run_faults (IsLawfulWithFalls decl) fits decl script n h open_inputs few below run

  step_is : (before later : List Entry) (e : Entry) → before ++ e ∷ later ≡ h
      → IsKeptOrMisfit decl e.actor (journal_of (own e.actor before)) e.step
  step_is before later e is = by (nat_lt e.actor n) refl
    where
      by : (t : Bool) → nat_lt e.actor n ≡ t
          → IsKeptOrMisfit decl e.actor (journal_of (own e.actor before)) e.step
      by true low =
          misfits e.actor (ltb-true e.actor n low) (own e.actor before) (own e.actor later) e.step
          (own_cut e.actor before later e (eq-eqb e.actor e.actor refl) ∙ ap (own e.actor) is)
      by false high =
          other_step decl n e.actor (own e.actor before) e.step (at_least n e.actor high)
          (every_at_cut (λ (x : Entry). IsFaultBelow n x.actor x.step) before later e
          (subst (AreFaultsBelow n) (sym is) faults))

  fits_there : (before later : List Entry) (e : Entry) → before ++ e ∷ later ≡ h → Kept before → (offset : ℕ)
      → e.step ≡ steps.Damaged offset → JournalFits decl e.actor (journal_of (own e.actor before))
  fits_there before later e is kept offset found =
      let earlier : RunWithFalls (IsLawfulWithFalls decl) fits decl script before =
      run_before (IsLawfulWithFalls decl) fits decl script before e offset found h open_inputs run later is in
      subst (JournalFits decl e.actor) (journal_is e.actor before)
      (journal_fits decl script fits before earlier.0 accepted sound earlier.1 kept
      (within before later e offset is found) e.actor)

  go : (before later : List Entry) → before ++ later ≡ h → Kept before → Kept h
  go before [] is kept = subst Kept (sym (append-nil before) ∙ is) kept
  go before (e ∷ later) is kept =
      go (before ++ e ∷ []) later (append_assoc before (e ∷ []) later ∙ is)
      (kept_more before e kept
      (kept_where_fit decl e.actor (own e.actor before) e.step (step_is before later e is)
      (fits_there before later e is kept)))

  pub run_kept : Kept h
  run_kept = go [] h refl kept_none
