-- A decided clock has passed the stamps of the decided log. Of what was written in the epoch before: the sites that
-- closed it share one with each quorum. Of what that one began with: by the Install of a site that told what it has.
use Rattle.std.proofs.Common.{◌≡◌, ℕ, zero, suc, ◌+◌, ◌<◌, ◌≤◌, Bool, inl, inr, List, [], Option, Some, None, refl, sym}
use Rattle.std.proofs.Common.{ap, ◌∙◌, subst, arith}
use Rattle.std.specs.Option.{option_map_or}
use Rattle.qc_stamp.specs.declared.stamp.Stamp.{Stamp}
use Rattle.qc_entry.specs.declared.line.Line.{Line}
use Rattle.qc_entry.specs.declared.record.Commit.{Commit as CommitRecord}
use Rattle.qc_plan.specs.Vocabulary.{Closes, IsShared, need_of, total, weight}
use Rattle.qc_plan.specs.declared.plan.Plan.{Plan}
use Rattle.qc_plan.proofs.Meet.{meet}
use Rattle.qc_decl.specs.declared.declaration.Declaration.{Declaration}
use Rattle.qc_decl.specs.Vocabulary.{IsAccepted, append_need_of, plan_in}
use Rattle.qc_list.specs.Vocabulary.{In}
use Rattle.theory_onecopy.specs.Vocabulary.{own_line}
use Rattle.theory_machine.specs.Vocabulary.{Act, Committed, Decision, IsOutcome, IsResolved, IsRun, LogLaws, Own}
use Rattle.theory_machine.specs.Vocabulary.{Promise, Snapshot, StateLaws, Status, epoch_from, state, weights_of}
use Rattle.theory_machine.proofs.Decided.{of_epoch}
use Rattle.theory_machine.proofs.Keeps.{laws}
use Rattle.theory_machine.proofs.LogKeeps.{log_laws}
use Rattle.theory_bases.specs.Vocabulary.{AreDisciplined, EpochLawsOf, IsWrittenIn}
use Rattle.theory_bases.proofs.Closings.{tells_end}
use Rattle.theory_bases.proofs.Keeps.{epoch_laws}

-- sites that closed an epoch share one with each set that meets a final threshold above 0
common_site : (decl : Declaration) (k object event : ℕ) (plan : Plan) (a b : ℕ → Bool) → plan_in decl k ≡ Some plan
    → 0 < append_need_of decl k object event → Closes plan (weight a plan.weights)
    → append_need_of decl k object event ≤ weight b (weights_of decl k) → IsShared plan.weights a b
common_site decl k object event plan a b is some closes meets =
    let weights : weights_of decl k ≡ plan.weights =
    ap (λ (o : Option Plan). option_map_or (λ (p : Plan). p.weights) o []) is in
    let need : append_need_of decl k object event ≡ need_of plan.last object event =
    ap (λ (o : Option Plan). option_map_or (λ (p : Plan). need_of p.last object event) o 0) is in
    let above : 0 < need_of plan.last object event = subst (λ (x : ℕ). 0 < x) need some in
    let enough : need_of plan.last object event ≤ weight b plan.weights =
    subst (λ (ws : List ℕ). need_of plan.last object event ≤ weight b ws) weights
    (subst (λ (x : ℕ). x ≤ weight b (weights_of decl k)) need meets) in
    let most : total plan.weights < weight a plan.weights + need_of plan.last object event =
    closes.last object event above in
    meet plan.weights a b (omega arith)

-- the epoch before
before : (e : ℕ) → 1 < e → (k : ℕ) × (e ≡ suc k)
before zero l = absurd (omega arith)
before (suc k) l = (k, refl)

module _ (decl : Declaration) (accepted : IsAccepted decl) (acts : List Act) (run : IsRun decl acts)
    (disciplined : AreDisciplined decl acts) where
  state_laws : StateLaws decl (state acts)
  state_laws = laws decl acts run

  logs : LogLaws decl (state acts)
  logs = log_laws decl accepted acts run

  epochs : EpochLawsOf decl (state acts)
  epochs = epoch_laws decl accepted acts run disciplined

  -- a prepared transaction that committed: its verdict told the stamp
  of_verdict : (d : Decision) (c : CommitRecord) (p : Promise) → (state acts).status p.tx ≡ Committed c
      → IsResolved (state acts).verdicts d p → c.stamp.clock ≤ d.clock
  of_verdict d c p committed (inl r) =
      let same : c.stamp ≡ r.0 = subst (λ (x : Status). IsOutcome x (Some r.0)) committed
      (state_laws.verdicts (record { tx = p.tx; stamp = Some r.0 }) r.1) in
      subst (λ (x : Stamp). x.clock ≤ d.clock) (sym same) r.3
  of_verdict d c p committed (inr r) = absurd
      (subst (λ (x : Status). IsOutcome x None) committed (state_laws.verdicts (record { tx = p.tx; stamp = None }) r))

  -- a line that was written in the epoch before
  passes_written : (d : Decision) → In d (state acts).decided → (k : ℕ) → d.epoch ≡ suc k → (l : Line) → In l d.log
      → IsWrittenIn decl (state acts).status (state acts).epoch k l → l.stamp.clock ≤ d.clock
  passes_written d stands k next l listed x =
      let made = state_laws.made d stands in
      let c = logs.decided d l stands listed in
      let q = logs.written l.tx c.operation c.listed c.some in
      let object : l.object ≡ c.operation.op.object = ap (λ (y : Line). y.object) c.is in
      let event : l.event ≡ c.operation.event = ap (λ (y : Line). y.event) c.is in
      let clock : l.stamp.clock ≡ c.commit.stamp.clock = ap (λ (y : Line). y.stamp.clock) c.is in
      let some : 0 < append_need_of decl k c.operation.op.object c.operation.event =
      subst (λ (y : ℕ). 0 < append_need_of decl k c.operation.op.object y) event
      (subst (λ (y : ℕ). 0 < append_need_of decl k y l.event) object x.weighs) in
      let enough : append_need_of decl k c.operation.op.object c.operation.event ≤ weight q.sites (weights_of decl k) =
      subst (λ (y : ℕ). append_need_of decl y c.operation.op.object c.operation.event ≤ weight q.sites
      (weights_of decl y)) x.writer q.enough in
      let site = common_site decl k c.operation.op.object c.operation.event made.plan made.sites q.sites
      (made.planned k next) some made.closes enough in
      let g = q.each site.site site.second in
      let s = made.each site.site site.first in
      let of = made.epochs s.0 s.1 in
      let at : epoch_from 1 s.0.before ≡ k = (let e : d.epoch ≡ suc (epoch_from 1 s.0.before) = of.1 in
      let f : d.epoch ≡ suc k = next in omega arith) in
      let committed : (state acts).status g.grant.tx ≡ Committed c.commit = ap (state acts).status g.its
      ∙ c.committed in
      let epoch : g.grant.epoch ≡ k = state_laws.counts_epoch g.grant g.counts ∙ ap (state acts).epoch g.its
      ∙ x.writer in
      let passed : c.commit.stamp.clock ≤ d.clock =
      elim (tells_end decl accepted acts run g.grant c.commit s.0
      (Own (own_line c.operation)) g.counts g.has committed of.0 (s.2 ∙ sym g.from) (at ∙ sym epoch)) [
        | inl p ↦ of_verdict d c.commit p.0 (ap (state acts).status p.2 ∙ committed) (made.resolved s.0 p.0 s.1 p.1)
        | inr done_ ↦
            let low : c.commit.stamp.clock ≤ s.0.clock =
            (state_laws.answers s.0 of.0).passes_done g.grant.tx c.commit.stamp done_ in
            let high : s.0.clock ≤ d.clock = made.clocks s.0 s.1 in
            let both : c.commit.stamp.clock ≤ d.clock = omega arith in
            both
      ] in
      omega arith

  -- the decision of the epoch before, where some site told what it has
  passes_earlier : (d e : Decision) (s : Snapshot) → In d (state acts).decided → In e (state acts).decided
      → d.epoch ≡ suc e.epoch → 1 < e.epoch → In s d.snapshots → e.clock ≤ d.clock
  passes_earlier d e s stands earlier next after_first counts =
      let made = state_laws.made d stands in
      let of = made.epochs s counts in
      let at : epoch_from 1 s.before ≡ e.epoch =
      (let x : d.epoch ≡ suc (epoch_from 1 s.before) = of.1 in let y : d.epoch ≡ suc e.epoch = next in omega arith)
      in
      let split = state_laws.snapped s of.0 in
      let o = of_epoch decl accepted acts run s.site e.epoch s.before split.0 split.1 at after_first in
      let one : o.by ≡ e = epochs.one o.by e o.stands earlier o.epoch in
      let clock : e.clock ≡ o.clock = sym (ap (λ (y : Decision). y.clock) one) ∙ o.clock_is in
      let low : o.clock ≤ s.clock = (state_laws.answers s of.0).passes_installs e.epoch o.clock o.log o.deed in
      let high : s.clock ≤ d.clock = made.clocks s counts in
      omega arith

  passes_from : (n : ℕ) (d : Decision) → d.epoch ≤ n → In d (state acts).decided → (l : Line) → In l d.log
      → l.stamp.clock ≤ d.clock
  passes_from zero d small stands l listed = let line = epochs.decisions d l stands listed in
      let f : 1 < d.epoch = line.after_first in absurd (omega arith)
  passes_from (suc n) d small stands l listed =
      by (before d.epoch (epochs.decisions d l stands listed).after_first) (passes_from n)
    where
      by : ((k : ℕ) × (d.epoch ≡ suc k)) → ((e : Decision) → e.epoch ≤ n → In e (state acts).decided → (l : Line)
          → In l e.log → l.stamp.clock ≤ e.clock) → l.stamp.clock ≤ d.clock
      by (k, next) ih =
          let line = epochs.decisions d l stands listed in
          elim (line.belonged k next) [
            | inl x ↦ passes_written d stands k next l listed x
            | inr x ↦
                let is : x.decision.epoch ≡ k = x.epoch in
                let low : l.stamp.clock ≤ x.decision.clock = ih x.decision (omega arith) x.stands l x.merged in
                let high : x.decision.clock ≤ d.clock = passes_earlier d x.decision line.source.0 stands x.stands
                (next ∙ ap suc (sym is)) (epochs.decisions x.decision l x.stands x.merged).after_first line.source.1
                in
                let both : l.stamp.clock ≤ d.clock = omega arith in
                both
          ]

  pub passes : (d : Decision) (l : Line) → In d (state acts).decided → In l d.log → l.stamp.clock ≤ d.clock
  passes d l stands listed = passes_from d.epoch d (omega arith) stands l listed
