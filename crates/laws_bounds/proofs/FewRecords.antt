-- Where records are kept, an actor's journal, and what it rises with, has at most as many records as there are steps.
use Rattle.std.proofs.Common.{◌≡◌, ℕ, ◌+◌, ◌≤◌, ◌==◌, eqb-true, Bool, true, false, cond, List, [], ◌∷◌, ◌++◌, fold}
use Rattle.std.proofs.Common.{length, map, Option, Some, None, inl, inr, refl, sym, ap, ◌∙◌, subst, arith, append_assoc}
use Rattle.std.proofs.Common.{length-append}
use Rattle.std.specs.Prelude.{option_to_list, MatchOption, unwrap_or}
use Rattle.std.proofs.lemmas.List.{append-nil}
use Rattle.std.proofs.lemmas.List.Sums.{fold-append}
use Rattle.qc_msg.specs.declared.record.Record.{Record}
use Rattle.qc_msg.specs.declared.step.Step.{Step}
use Rattle.qc_msg.specs.Vocabulary.{Entry, own, damaged_in, rose_in}
use Rattle.qc_msg.proofs.DeedsGrow.{own-append}
use Rattle.qc_promise.specs.Vocabulary.{IsGivenBack, IsKeptAt, Journal, Kept, journal_of, journal_with, no_journal}
use Rattle.qc_promise.specs.Vocabulary.{pending_with}
use Rattle.laws_bounds.specs.Vocabulary.{RiseWithFew, risen_at}
use Rattle.laws_bounds.proofs.StepCases.{journal_cases}

abbrev pub HasFew : ℕ → Journal → Type 0
HasFew n j = length j.records + length (option_to_list j.pending) ≤ n

back_few : (n : ℕ) (j : Journal) (rs : List Record) → HasFew n j → IsGivenBack j rs → length rs ≤ n
back_few n j rs few (inl same) = (let is : length rs ≡ length j.records = ap length same in omega arith)
back_few n j rs few (inr more) =
    (let is : length rs ≡ length (j.records ++ option_to_list j.pending) = ap length more in
    let both : length (j.records ++ option_to_list j.pending) ≡ length j.records + length (option_to_list j.pending) =
    length-append j.records (option_to_list j.pending) in
    omega arith)

step_few : (n : ℕ) (before : List Step) (step : Step) → HasFew n (journal_of before) → IsKeptAt before step
    → HasFew (n + 1) (journal_with (journal_of before) step)
step_few n before step few kept =
    journal_cases (IsKeptAt before) (HasFew (n + 1)) (journal_of before) (omega arith)
    (λ written kept.
    (let longer : length ((journal_of before).records ++ written ∷ []) ≡ length
    (journal_of before).records + 1 = length-append (journal_of before).records (written ∷ []) in omega arith))
    (λ cause pending kept. by pending)
    (λ rs kept. (let less : length rs ≤ n = back_few n (journal_of before) rs few kept in omega arith)) step kept
  where
    by : (o : Option Record)
        → length (journal_of before).records + length
        (option_to_list (pending_with (journal_of before).pending o)) ≤ n + 1
    by None = omega arith
    by (Some written) = omega arith

-- an entry more, of whichever actor

entry_few : (n c : ℕ) (past : List Entry) (e : Entry) → ((a : ℕ) → HasFew n (journal_of (own a past)))
    → IsKeptAt (own e.actor past) e.step
    → HasFew (n + 1) (journal_of (own c (past ++ e ∷ [])))
entry_few n c past e few kept =
    subst (HasFew (n + 1))
    (sym
    (ap journal_of (own-append c past (e ∷ [])) ∙ fold-append journal_with no_journal (own c past) (own c (e ∷ []))))
    (by (e.actor == c) refl)
  where
    by : (t : Bool) → (e.actor == c) ≡ t
        → HasFew (n + 1)
        (fold journal_with (journal_of (own c past)) (map (λ (k : Entry). k.step) (cond t (e ∷ []) [])))
    by true same =
        subst (λ (k : ℕ). HasFew (n + 1) (journal_with (journal_of (own k past)) e.step)) (eqb-true e.actor c same)
        (step_few n (own e.actor past) e.step (few e.actor) kept)
    by false other = (let less : HasFew n (journal_of (own c past)) = few c in omega arith)

risen_few : (n : ℕ) (past : List Entry) (a : ℕ) (step : Step) → HasFew n (journal_of (own a past))
    → IsKeptAt (own a past) step → length (risen_at step) ≤ n
risen_few n past a step few kept = by (rose_in step) kept
  where
    by : (o : Option (List Record))
        → MatchOption o (MatchOption (damaged_in step) (Unit {0}) (λ (offset : ℕ). ⊥))
        (IsGivenBack (journal_of (own a past)))
        → length (unwrap_or o []) ≤ n
    by None kept = omega arith
    by (Some rs) kept = back_few n (journal_of (own a past)) rs few kept

record IsFew (n : ℕ) (h rest : List Entry) : Type 0 where
  journals : (a : ℕ) → HasFew n (journal_of (own a h))
  rises : RiseWithFew n rest

module _ (h : List Entry) (kept : Kept h) where
  goes_on : (past rest : List Entry) → past ++ rest ≡ h → ((a : ℕ) → HasFew (length past) (journal_of (own a past)))
      → IsFew (length h) h rest
  goes_on past [] is few = record {
    journals =
        λ a. subst (λ (k : List Entry). HasFew (length k) (journal_of (own a k))) (sym (append-nil past) ∙ is) (few a);
    rises = tt;
  }
  goes_on past (e ∷ rest) is few =
      let here : IsKeptAt (own e.actor past) e.step = kept past rest e is in
      let longer : length (past ++ e ∷ []) ≡ length past + 1 = length-append past (e ∷ []) in
      let whole : length h ≡ length past + length (e ∷ rest) = sym (ap length is) ∙ length-append past (e ∷ rest) in
      let later : IsFew (length h) h rest =
      goes_on (past ++ e ∷ []) rest (append_assoc past (e ∷ []) rest ∙ is)
      (λ a. subst (λ (n : ℕ). HasFew n (journal_of (own a (past ++ e ∷ [])))) (sym longer)
      (entry_few (length past) a past e few here)) in
      record {
        journals = later.journals;
        rises = (
          (let less : length (risen_at e.step) ≤ length past = risen_few (length past) past e.actor e.step
              (few e.actor) here in omega arith),
          later.rises,
        );
      }

  all_few : IsFew (length h) h h
  all_few = goes_on [] h refl (λ a. omega arith)

pub kept_journals_few : (h : List Entry) → Kept h → (a : ℕ) → HasFew (length h) (journal_of (own a h))
kept_journals_few h kept = (all_few h kept).journals

pub kept_rise_few : (h : List Entry) → Kept h → RiseWithFew (length h) h
kept_rise_few h kept = (all_few h kept).rises
