-- A commit record that an actor's journal knows at the end, written there or pending, it knew at an earlier moment, or
-- writes since, or is writing as it falls.
use Rattle.std.proofs.Common.{◌≡◌, ◌⊎◌, ℕ, ◌==◌, Bool, true, false, List, [], ◌∷◌, ◌++◌, inl, inr, Option, Some, None}
use Rattle.std.proofs.Common.{option_to_list, refl, sym, ap, ◌∙◌, subst, append_assoc, eqb-true}
use Rattle.std.proofs.lemmas.List.{append-nil}
use Rattle.qc_entry.specs.declared.record.Commit.{Commit as CommitRecord}
use Rattle.laws_votes.proofs.Recorded.{IsKnown}
use Rattle.qc_list.specs.Vocabulary.{In}
use Rattle.qc_list.proofs.Members.{In-more}
use Rattle.qc_msg.specs.Vocabulary.{Entry, marked, own}
use Rattle.qc_msg.specs.declared.record.Record.{Record}
use Rattle.qc_msg.specs.declared.record.Record.TheVariants.{Commit}
use Rattle.qc_msg.specs.declared.step.Fall.{Fall}
use Rattle.qc_msg.specs.declared.step.Step.{Step}
use Rattle.qc_msg.specs.declared.step.Step.TheVariants as steps
use Rattle.qc_promise.specs.Vocabulary.{IsGivenBack, IsKeptAt, Journal, Kept, journal_of, journal_with, pending_with}
use Rattle.laws_reach.proofs.Committing.{journal_next}

-- the step writes the record, or its actor falls as it writes it
abbrev pub IsWriting : CommitRecord → Step → Type 0
IsWriting c x = (x ≡ steps.Wrote (Commit c)) ⊎ ((cause : Fall) × (x ≡ steps.Fell cause (Some (Commit c))))

-- such a step among entries
pub record IsWrittenBy (h : List Entry) (a : ℕ) (c : CommitRecord) : Type 0 where
  pub before : List Entry
  pub step : Step
  pub after : List Entry
  pub stands : h ≡ before ++ marked a step ∷ after
  pub writing : IsWriting c step

fallen_known : (c : CommitRecord) (j : Journal) (cause : Fall) (pending : Option Record)
    → IsKnown c (record j { pending = pending_with j.pending pending })
    → IsKnown c j ⊎ IsWriting c (steps.Fell cause pending)
fallen_known c j cause None known = inl known
fallen_known c j cause (Some r) (inl among) = inl (inl among)
fallen_known c j cause (Some r) (inr is) = inr (inr (cause, ap (λ (o : Option Record). steps.Fell cause o) is))

back_known : (c : CommitRecord) (j : Journal) (given : List Record) → IsGivenBack j given
    → IsKnown c (record { records = given; pending = None }) → IsKnown c j
back_known c j given (inl same) (inl among) = inl (subst (In (Commit c)) same among)
back_known c j given (inr more) (inl among) = by j.pending (subst (In (Commit c)) more among) refl
  where
    by : (o : Option Record) → In (Commit c) (j.records ++ option_to_list o) → j.pending ≡ o → IsKnown c j
    by None here is = inl (subst (In (Commit c)) (append-nil j.records) here)
    by (Some r) here is = elim (In-more (Commit c) r j.records here)
        [ inl old ↦ inl old | inr new ↦ inr (is ∙ ap Some (sym new)) ]
back_known c j given back (inr is) = absurd (let never : ⊥ = cc in never)

step_known : (c : CommitRecord) (before : List Step) (x : Step) → IsKeptAt before x
    → IsKnown c (journal_with (journal_of before) x) → IsKnown c (journal_of before) ⊎ IsWriting c x
step_known c before (steps.Phase number) kept known = inl known
step_known c before (steps.Cut a b) kept known = inl known
step_known c before (steps.Heal a b) kept known = inl known
step_known c before (steps.Armed actor kind at) kept known = inl known
step_known c before (steps.Called command) kept known = inl known
step_known c before (steps.Got number) kept known = inl known
step_known c before (steps.Lost number) kept known = inl known
step_known c before (steps.Wrote r) kept (inl among) =
    elim (In-more (Commit c) r (journal_of before).records among)
    [ inl old ↦ inl (inl old) | inr new ↦ inr (inl (ap (λ (w : Record). steps.Wrote w) (sym new))) ]
step_known c before (steps.Wrote r) kept (inr is) = inl (inr is)
step_known c before (steps.Sent number to message) kept known = inl known
step_known c before (steps.Told reply) kept known = inl known
step_known c before (steps.Fell cause pending) kept known = fallen_known c (journal_of before) cause pending known
step_known c before (steps.Rose given) kept known = inl (back_known c (journal_of before) given kept known)
step_known c before (steps.Damaged offset) kept known = absurd kept

entry_known : (c : CommitRecord) (a : ℕ) (before : List Entry) (e : Entry) → IsKeptAt (own e.actor before) e.step
    → IsKnown c (journal_of (own a (before ++ e ∷ [])))
    → IsKnown c (journal_of (own a before)) ⊎ ((a ≡ e.actor) × IsWriting c e.step)
entry_known c a before e kept known = by (e.actor == a) refl
  where
    by : (t : Bool) → (e.actor == a) ≡ t → IsKnown c (journal_of (own a before)) ⊎ ((a ≡ e.actor) × IsWriting c e.step)
    by false other = inl (subst (IsKnown c) (journal_next a before e false other) known)
    by true same =
        let is : e.actor ≡ a = eqb-true e.actor a same in
        elim (step_known c (own a before) e.step (subst (λ (k : ℕ). IsKeptAt (own k before) e.step) is kept)
        (subst (IsKnown c) (journal_next a before e true same) known)) [
          | inl old ↦ inl old
          | inr new ↦ inr (sym is, new)
        ]

-- from first entries to more of them
pub known_since : (c : CommitRecord) (a : ℕ) (early rest h : List Entry) → early ++ rest ≡ h → Kept h
    → IsKnown c (journal_of (own a h)) → IsKnown c (journal_of (own a early)) ⊎ IsWrittenBy rest a c
known_since c a early [] h is kept known =
    inl (subst (λ (k : List Entry). IsKnown c (journal_of (own a k))) (sym is ∙ append-nil early) known)
known_since c a early (e ∷ rest) h is kept known =
    elim (known_since c a (early ++ e ∷ []) rest h (append_assoc early (e ∷ []) rest ∙ is) kept known) [
      | inl there ↦ elim (entry_known c a early e (kept early rest e is) there) [
        | inl old ↦ inl old
        | inr (same, writing) ↦ inr (record {
          before = [];
          step = e.step;
          after = rest;
          stands = λ i. marked (sym same i) e.step ∷ rest;
          writing = writing;
        })
      ]
      | inr later ↦ inr (record {
        before = e ∷ later.before;
        step = later.step;
        after = later.after;
        stands = ap (λ (k : List Entry). e ∷ k) later.stands;
        writing = later.writing;
      })
    ]
