-- How many records stand in a journal, and what a history that keeps them gives whoever rises.
use Rattle.std.proofs.Common.{◌≡◌, ◌≢◌, ◌≤◌, ◌<◌, ◌+◌, ℕ, List, [], ◌∷◌, ◌++◌, length, length-append, take, drop}
use Rattle.std.proofs.Common.{get_or, refl, sym, ◌∙◌, ap, subst, arith}
use Rattle.std.proofs.lemmas.Bool.{eq-eqb, ne_eqb}
use Rattle.std.proofs.lemmas.List.{drop_more, take-append-drop}
use Rattle.std.specs.Prelude.{fold}
use Rattle.qc_msg.specs.Vocabulary.{Entry, own, standing_after}
use Rattle.qc_msg.specs.declared.step.Step.{Step}
use Rattle.qc_msg.specs.declared.step.Step.TheVariants as steps
use Rattle.qc_promise.specs.Vocabulary.{IsKeptAt, Journal, Kept, journal_of, journal_with, no_journal}

standing_with : (j : Journal) (s : Step) → standing_after (length j.records) s ≡ length (journal_with j s).records
standing_with j (steps.Phase number) = refl
standing_with j (steps.Cut a b) = refl
standing_with j (steps.Heal a b) = refl
standing_with j (steps.Armed actor kind at) = refl
standing_with j (steps.Called command) = refl
standing_with j (steps.Got number) = refl
standing_with j (steps.Lost number) = refl
standing_with j (steps.Wrote written) = sym (length-append j.records (written ∷ []))
standing_with j (steps.Sent number to message) = refl
standing_with j (steps.Told reply) = refl
standing_with j (steps.Fell cause pending) = refl
standing_with j (steps.Rose records) = refl
standing_with j (steps.Damaged offset) = refl

own_mine : (a : ℕ) (e : Entry) (later : List Entry) → e.actor ≡ a → own a (e ∷ later) ≡ e.step ∷ own a later
own_mine a e later mine = rw (eq-eqb e.actor a mine) refl

own_other : (a : ℕ) (e : Entry) (later : List Entry) → e.actor ≢ a → own a (e ∷ later) ≡ own a later
own_other a e later other = rw (ne_eqb e.actor a other) refl

-- so many records stand, or more, in a journal of which the actor's later steps make the one of the whole history
pub record StandIn (count a : ℕ) (later all : List Entry) : Type 0 where
  pub journal : Journal
  pub stand : count ≤ length journal.records
  pub whole : fold journal_with journal (own a later) ≡ journal_of (own a all)

pub stand_first : (a : ℕ) (all : List Entry) → StandIn 0 a all all
stand_first a all = record { journal = no_journal; stand = omega (arith); whole = refl }

pub stand_next : (count a i : ℕ) (e : Entry) (all : List Entry) → i < length all → e ≡ get_or all i e
    → StandIn count a (drop i all) all → StandIn count a (e ∷ drop (i + 1) all) all
stand_next count a i e all low is its = subst (λ (later : List Entry). StandIn count a later all)
    (drop_more all i e low ∙ ap (λ (x : Entry). x ∷ drop (i + 1) all) (sym is)) its

pub stand_mine : (count now a : ℕ) (e : Entry) (later all : List Entry) → StandIn count a (e ∷ later) all
    → e.actor ≡ a → ((n : ℕ) → count ≤ n → now ≤ standing_after n e.step) → StandIn now a later all
stand_mine count now a e later all its mine step = record {
  journal = journal_with its.journal e.step;
  stand = subst (λ (n : ℕ). now ≤ n) (standing_with its.journal e.step) (step (length its.journal.records) its.stand);
  whole = sym (ap (fold journal_with its.journal) (own_mine a e later mine)) ∙ its.whole;
}

pub stand_other : (count a : ℕ) (e : Entry) (later all : List Entry) → StandIn count a (e ∷ later) all
    → e.actor ≢ a → StandIn count a later all
stand_other count a e later all its other = record {
  journal = its.journal;
  stand = its.stand;
  whole = sym (ap (fold journal_with its.journal) (own_other a e later other)) ∙ its.whole;
}

pub kept_there : (i : ℕ) (e : Entry) (all : List Entry) → i < length all → e ≡ get_or all i e → Kept all
    → IsKeptAt (own e.actor (take i all)) e.step
kept_there i e all low is kept = kept (take i all) (drop (i + 1) all) e
    (ap (λ (rest : List Entry). take i all ++ rest)
    (ap (λ (x : Entry). x ∷ drop (i + 1) all) is ∙ sym (drop_more all i e low)) ∙ take-append-drop i all)
