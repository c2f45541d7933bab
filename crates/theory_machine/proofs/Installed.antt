-- Installs at a site are of decided epochs that rise, and a decision is known to be made from what it was made from.
use Rattle.std.proofs.Common.{◌≡◌, ℕ, ◌<◌, inl, inr, List, [], ◌∷◌, ◌++◌, Option, Some, None, sym, subst, arith}
use Rattle.qc_stamp.specs.declared.stamp.Stamp.{Stamp}
use Rattle.qc_stamp.specs.declared.stamp.TxId.{TxId}
use Rattle.qc_entry.specs.declared.line.Line.{Line}
use Rattle.qc_decl.specs.declared.declaration.Declaration.{Declaration}
use Rattle.qc_list.specs.Vocabulary.{In}
use Rattle.theory_machine.specs.Vocabulary.{Closes, Decision, Deed, Grants, HasDecision, HasRisingEpochs, Installs}
use Rattle.theory_machine.specs.Vocabulary.{IsDecisionFrom, IsResolved, LearnsAbort, LearnsCommit, Prepares, Promise}
use Rattle.theory_machine.specs.Vocabulary.{Rises, Snapshot, Verdict, deed_of_outcome, epoch_from}

-- a deed that a site may do: an Install is of a decided, greater epoch
abbrev pub IsNew : List Decision → List Deed → Deed → Type 0
IsNew decided ds (Installs k c log) = HasDecision decided k c log × (epoch_from 1 ds < k)
IsNew decided ds _ = Unit {0}

pub one_rising : (decided : List Decision) (e : ℕ) (ds : List Deed) (d : Deed) → IsNew decided ds d
    → epoch_from 1 ds ≡ e → HasRisingEpochs e (d ∷ [])
one_rising decided e ds (Grants t items view) n f = tt
one_rising decided e ds (Prepares t) n f = tt
one_rising decided e ds (LearnsCommit t stamp) n f = tt
one_rising decided e ds (LearnsAbort t) n f = tt
one_rising decided e ds Closes n f = tt
one_rising decided e ds (Installs k c log) n f = ((let x : epoch_from 1 ds < k = n.1 in omega arith), tt)
one_rising decided e ds Rises n f = tt

pub rising-append : (ds es : List Deed) (e : ℕ) → HasRisingEpochs e ds → HasRisingEpochs (epoch_from e ds) es
    → HasRisingEpochs e (ds ++ es)
rising-append [] es e a b = b
rising-append (Grants t items view ∷ ds) es e a b = rising-append ds es e a b
rising-append (Prepares t ∷ ds) es e a b = rising-append ds es e a b
rising-append (LearnsCommit t stamp ∷ ds) es e a b = rising-append ds es e a b
rising-append (LearnsAbort t ∷ ds) es e a b = rising-append ds es e a b
rising-append (Closes ∷ ds) es e a b = rising-append ds es e a b
rising-append (Installs k c log ∷ ds) es e a b = (a.0, rising-append ds es k a.1 b)
rising-append (Rises ∷ ds) es e a b = rising-append ds es e a b

pub outcome_new : (decided : List Decision) (ds : List Deed) (tx : TxId) (o : Option Stamp)
    → IsNew decided ds (deed_of_outcome tx o)
outcome_new decided ds tx None = tt
outcome_new decided ds tx (Some c) = tt

pub one_installed : (decided : List Decision) (ds : List Deed) (d : Deed) (k c : ℕ) (log : List Line)
    → IsNew decided ds d → Installs k c log ≡ d → HasDecision decided k c log
one_installed decided ds (Grants t items view) k c log n e = absurd (let never : ⊥ = cc in never)
one_installed decided ds (Prepares t) k c log n e = absurd (let never : ⊥ = cc in never)
one_installed decided ds (LearnsCommit t stamp) k c log n e = absurd (let never : ⊥ = cc in never)
one_installed decided ds (LearnsAbort t) k c log n e = absurd (let never : ⊥ = cc in never)
one_installed decided ds Closes k c log n e = absurd (let never : ⊥ = cc in never)
one_installed decided ds (Installs k2 c2 log2) k c log n e =
    let x : k ≡ k2 = cc in
    let y : c ≡ c2 = cc in
    let z : log ≡ log2 = cc in
    subst (λ (m : List Line). HasDecision decided k c m) (sym z)
    (subst (λ (m : ℕ). HasDecision decided k m log2) (sym y)
    (subst (λ (m : ℕ). HasDecision decided m c2 log2) (sym x) n.0))
one_installed decided ds Rises k c log n e = absurd (let never : ⊥ = cc in never)

resolved_more : (verdicts more : List Verdict) (d : Decision) (p : Promise)
    → ((v : Verdict) → In v verdicts → In v more) → IsResolved verdicts d p → IsResolved more d p
resolved_more verdicts more d p sub (inl r) = inl (r.0, sub _ r.1, r.2, r.3)
resolved_more verdicts more d p sub (inr r) = inr (sub _ r)

pub made_more : (decl : Declaration) (snapshots : List Snapshot) (verdicts : List Verdict) (snapshots2 : List Snapshot)
    (verdicts2 : List Verdict) (d : Decision) → ((s : Snapshot) → In s snapshots → In s snapshots2)
    → ((v : Verdict) → In v verdicts → In v verdicts2) → IsDecisionFrom decl snapshots verdicts d
    → IsDecisionFrom decl snapshots2 verdicts2 d
made_more decl snapshots verdicts snapshots2 verdicts2 d more_snapshots more_verdicts m = record {
  plan = m.plan;
  planned = m.planned;
  epochs = λ s h. (more_snapshots s (m.epochs s h).0, (m.epochs s h).1);
  sites = m.sites;
  closes = m.closes;
  each = m.each;
  resolved = λ s p h i. resolved_more verdicts verdicts2 d p more_verdicts (m.resolved s p h i);
  logs = m.logs;
  clocks = m.clocks;
}
