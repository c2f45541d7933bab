-- Damage that is found where not all records fit is a misfit.
use Rattle.std.proofs.Common.{◌≡◌, ℕ, ◌+◌, true, false, List, [], ◌∷◌, ◌++◌, length, refl, sym, ◌∙◌, subst, arith}
use Rattle.std.specs.Prelude.{option_to_list}
use Rattle.laws_bounds.specs.Vocabulary.{AllFit, AreKeptOrMisfits, IsKeptOrMisfit, JournalFits}
use Rattle.qc_decl.specs.declared.declaration.Declaration.{Declaration}
use Rattle.qc_msg.specs.declared.record.Record.{Record}
use Rattle.qc_msg.specs.declared.step.Step.{Step}
use Rattle.qc_msg.specs.declared.step.Step.TheVariants as steps
use Rattle.qc_process.specs.Vocabulary.{AreKeptOrUnfit, all_fit, journal_fits}
use Rattle.qc_promise.specs.Vocabulary.{IsKeptOrUnfit, Journal, journal_of}

module _ (decl : Declaration) (a : ℕ) where
  all_fits : (n : ℕ) (rs : List Record) → AllFit decl a n rs → all_fit decl a n rs ≡ true
  all_fits n [] fit = refl
  all_fits n (r ∷ rs) fit = rw fit.0 (all_fits (n + 1) rs fit.1)

  both_fit : (n : ℕ) (rs ps : List Record) → AllFit decl a n rs → AllFit decl a (n + length rs) ps
      → all_fit decl a n (rs ++ ps) ≡ true
  both_fit n [] ps fit more =
      let same : n + 0 ≡ n = omega arith in
      all_fits n ps (subst (λ (k : ℕ). AllFit decl a k ps) same more)
  both_fit n (r ∷ rs) ps fit more =
      let same : n + length (r ∷ rs) ≡ (n + 1) + length rs = omega arith in
      rw fit.0 (both_fit (n + 1) rs ps fit.1 (subst (λ (k : ℕ). AllFit decl a k ps) same more))

  no_misfit : (j : Journal) → JournalFits decl a j → journal_fits decl a j ≡ true
  no_misfit j fit =
      let same : length j.records ≡ 0 + length j.records = omega arith in
      both_fit 0 j.records (option_to_list j.pending) fit.records
      (subst (λ (k : ℕ). AllFit decl a k (option_to_list j.pending)) same fit.pending)

  misfit_of : (before : List Step) (s : Step) → IsKeptOrUnfit (journal_fits decl a (journal_of before)) before s
      → IsKeptOrMisfit decl a (journal_of before) s
  misfit_of before (steps.Phase number) is = tt
  misfit_of before (steps.Cut x y) is = tt
  misfit_of before (steps.Heal x y) is = tt
  misfit_of before (steps.Armed b kind at) is = tt
  misfit_of before (steps.Called command) is = tt
  misfit_of before (steps.Got number) is = tt
  misfit_of before (steps.Lost number) is = tt
  misfit_of before (steps.Wrote written) is = tt
  misfit_of before (steps.Sent number to message) is = tt
  misfit_of before (steps.Told reply) is = tt
  misfit_of before (steps.Fell cause pending) is = tt
  misfit_of before (steps.Rose records) is = is
  misfit_of before (steps.Damaged offset) is = λ fit.
      let no : false ≡ true = sym is ∙ no_misfit (journal_of before) fit in absurd (cc no)

  pub misfits_of : (own : List Step) → AreKeptOrUnfit decl a own → AreKeptOrMisfits decl a own
  misfits_of own are before later s is = misfit_of before s (are before later s is)
