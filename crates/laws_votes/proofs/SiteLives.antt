-- The life that a site's records give it only grows, where records are kept.
use Rattle.std.proofs.Common.{◌≡◌, ◌≤◌, ℕ, ◌==◌, Bool, true, false, List, [], ◌∷◌, ◌++◌, inl, inr, option_to_list, refl}
use Rattle.std.proofs.Common.{sym, ◌∙◌, subst, arith, eqb-true, append_assoc}
use Rattle.std.proofs.lemmas.List.{append-nil}
use Rattle.std.proofs.lemmas.List.Sums.{fold-append}
use Rattle.laws_votes.specs.Vocabulary.{life_at}
use Rattle.qc_list.specs.Vocabulary.{In}
use Rattle.laws_reach.specs.Vocabulary.{records_of}
use Rattle.qc_msg.specs.Vocabulary.{Entry, own}
use Rattle.qc_msg.specs.declared.record.Record.{Record}
use Rattle.qc_msg.specs.declared.step.Step.{Step}
use Rattle.qc_msg.specs.declared.step.Step.TheVariants as steps
use Rattle.qc_promise.specs.Vocabulary.{IsGivenBack, IsKeptAt, Journal, Kept, journal_of, journal_with}
use Rattle.qc_recover.specs.Vocabulary.{Kept as SiteKept, keeps, kept_by, nothing_kept}
use Rattle.laws_reach.proofs.Committing.{stays_by, journal_next}
use Rattle.laws_refinement.proofs.LivesOfVotes.{life_more}

abbrev pub life_of : List Record → ℕ
life_of rs = (kept_by rs).life

pub life_append : (rs more : List Record) → life_of rs ≤ life_of (rs ++ more)
life_append rs more = subst (λ (k : SiteKept). life_of rs ≤ k.life) (sym (fold-append keeps nothing_kept rs more))
    (life_more (kept_by rs) more)

same_life : (rs : List Record) → life_of rs ≤ life_of rs
same_life rs = omega arith

life_back : (j : Journal) (given : List Record) → IsGivenBack j given → life_of j.records ≤ life_of given
life_back j given (inl same) = subst (λ (rs : List Record). life_of j.records ≤ life_of rs) (sym same)
    (same_life j.records)
life_back j given (inr more) = subst (λ (rs : List Record). life_of j.records ≤ life_of rs) (sym more)
    (life_append j.records (option_to_list j.pending))

life_step : (before : List Step) (x : Step) → IsKeptAt before x
    → life_of (journal_of before).records ≤ life_of (journal_with (journal_of before) x).records
life_step before (steps.Phase number) kept = same_life (journal_of before).records
life_step before (steps.Cut a b) kept = same_life (journal_of before).records
life_step before (steps.Heal a b) kept = same_life (journal_of before).records
life_step before (steps.Armed actor kind at) kept = same_life (journal_of before).records
life_step before (steps.Called command) kept = same_life (journal_of before).records
life_step before (steps.Got number) kept = same_life (journal_of before).records
life_step before (steps.Lost number) kept = same_life (journal_of before).records
life_step before (steps.Wrote written) kept = life_append (journal_of before).records (written ∷ [])
life_step before (steps.Sent number to message) kept = same_life (journal_of before).records
life_step before (steps.Told reply) kept = same_life (journal_of before).records
life_step before (steps.Fell cause pending) kept = same_life (journal_of before).records
life_step before (steps.Rose given) kept = life_back (journal_of before) given kept
life_step before (steps.Damaged offset) kept = absurd kept

entry_life : (a : ℕ) (before : List Entry) (e : Entry) → IsKeptAt (own e.actor before) e.step
    → life_at before a ≤ life_at (before ++ e ∷ []) a
entry_life a before e kept = by (e.actor == a) refl
  where
    by : (t : Bool) → (e.actor == a) ≡ t → life_at before a ≤ life_at (before ++ e ∷ []) a
    by true same = subst (λ (j : Journal). life_at before a ≤ life_of j.records)
        (sym (journal_next a before e true same))
        (life_step (own a before) e.step (subst (λ (k : ℕ). IsKeptAt (own k before) e.step)
        (eqb-true e.actor a same) kept))
    by false other = subst (λ (j : Journal). life_at before a ≤ life_of j.records)
        (sym (journal_next a before e false other)) (same_life (journal_of (own a before)).records)

-- from first entries to more of them
pub life_grows : (a : ℕ) (early later h : List Entry) → early ++ later ≡ h → Kept h → life_at early a ≤ life_at h a
life_grows a early [] h is kept = subst (λ (k : List Entry). life_at early a ≤ life_at k a)
    (sym (append-nil early) ∙ is) (same_life (journal_of (own a early)).records)
life_grows a early (e ∷ later) h is kept =
    let one : life_at early a ≤ life_at (early ++ e ∷ []) a = entry_life a early e (kept early later e is) in
    let more : life_at (early ++ e ∷ []) a ≤ life_at h a =
    life_grows a (early ++ e ∷ []) later h (append_assoc early (e ∷ []) later ∙ is) kept in
    omega arith

-- a record stays in its journal

entry_stays : (r : Record) (a : ℕ) (before : List Entry) (e : Entry) → IsKeptAt (own e.actor before) e.step
    → In r (records_of before a) → In r (records_of (before ++ e ∷ []) a)
entry_stays r a before e kept among = by (e.actor == a) refl
  where
    by : (t : Bool) → (e.actor == a) ≡ t → In r (records_of (before ++ e ∷ []) a)
    by true same = subst (λ (j : Journal). In r j.records) (sym (journal_next a before e true same))
        (stays_by r (own a before) e.step (subst (λ (k : ℕ). IsKeptAt (own k before) e.step)
        (eqb-true e.actor a same) kept) among)
    by false other = subst (λ (j : Journal). In r j.records) (sym (journal_next a before e false other)) among

pub record_stays : (r : Record) (a : ℕ) (early later h : List Entry) → early ++ later ≡ h → Kept h
    → In r (records_of early a) → In r (records_of h a)
record_stays r a early [] h is kept among =
    subst (λ (k : List Entry). In r (records_of k a)) (sym (append-nil early) ∙ is) among
record_stays r a early (e ∷ later) h is kept among =
    record_stays r a (early ++ e ∷ []) later h (append_assoc early (e ∷ []) later ∙ is) kept
    (entry_stays r a early e (kept early later e is) among)
