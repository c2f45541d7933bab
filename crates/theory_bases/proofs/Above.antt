-- Lines of an epoch are above all lines that it began with.
use Rattle.std.proofs.Common.{◌≡◌, ◌⊎◌, inl, inr, ℕ, suc, ◌<◌, ◌≤◌, List, [], ◌∷◌, ◌++◌, refl, sym, ap, ◌∙◌, subst}
use Rattle.std.proofs.Common.{arith, append-nil}
use Rattle.qc_stamp.specs.declared.stamp.TxId.{TxId}
use Rattle.qc_entry.specs.declared.line.Line.{Line}
use Rattle.qc_decl.specs.declared.declaration.Declaration.{Declaration}
use Rattle.qc_decl.specs.Vocabulary.{IsAccepted, append_need_of}
use Rattle.qc_plan.specs.Vocabulary.{weight}
use Rattle.qc_list.specs.Vocabulary.{In}
use Rattle.theory_onecopy.specs.Vocabulary.{Executed, own_line}
use Rattle.theory_machine.specs.Vocabulary.{Act, Decision, Deed, Granted, Grants, HasQuorum, HasRecord, IsClosedAt}
use Rattle.theory_machine.specs.Vocabulary.{IsRun, Own, Snapshot, Status, epoch_from, site_after, state, weights_of}
use Rattle.theory_machine.proofs.Decided.{of_epoch}
use Rattle.theory_machine.proofs.Keeps.{laws}
use Rattle.theory_machine.proofs.LogKeeps.{log_laws}
use Rattle.theory_machine.proofs.Quorums.{some_site}
use Rattle.theory_bases.specs.Vocabulary.{AreDisciplined, BelongsTo}
use Rattle.theory_bases.proofs.Keeps.{epoch_laws}
use Rattle.theory_bases.proofs.Passing.{passes}

module _ (decl : Declaration) (accepted : IsAccepted decl) (acts : List Act) (run : IsRun decl acts)
    (disciplined : AreDisciplined decl acts) where
  -- a grant of an epoch after the first was given by a site that had installed its one decision, whose clock the
  -- grant's has passed
  grant_passes : (g : Granted) → In g (state acts).granted → (d : Decision) → In d (state acts).decided
      → d.epoch ≡ g.epoch → 1 < d.epoch → d.clock ≤ g.clock
  grant_passes g i d stands same later =
      let l = laws decl acts run in
      let law = l.granted g i in
      let facts = l.facts g i in
      let o = of_epoch decl accepted acts run g.site d.epoch g.before (Grants g.tx g.items g.view ∷ law.post) law.split
      (facts.current ∙ sym same) later in
      let one : o.by ≡ d = (epoch_laws decl accepted acts run disciplined).one o.by d o.stands stands o.epoch in
      let clock : d.clock ≡ o.clock = sym (ap (λ (y : Decision). y.clock) one) ∙ o.clock_is in
      let passed : o.clock ≤ g.clock = facts.passes_installs d.epoch o.clock o.log o.deed in
      omega arith

  -- a committed operation of the epoch, with a final threshold, was granted by some site of the epoch
  stamp_passes : (k : ℕ) (l : Line) (log : List Line) → IsClosedAt decl (state acts).status (state acts).executed log l
      → (state acts).epoch l.tx ≡ k → 0 < append_need_of decl k l.object l.event
      → (d : Decision) → In d (state acts).decided → d.epoch ≡ k → 1 < d.epoch → d.clock < l.stamp.clock
  stamp_passes k l log c of weighs d stands same later =
      let w = laws decl acts run in
      let logs = log_laws decl accepted acts run in
      let q : HasQuorum decl ((state acts).epoch l.tx) (state acts).counted l.tx (Own (own_line c.operation))
      (append_need_of decl ((state acts).epoch l.tx) c.operation.op.object c.operation.event) =
      logs.written l.tx c.operation c.listed c.some in
      let object : l.object ≡ c.operation.op.object = ap (λ (x : Line). x.object) c.is in
      let event : l.event ≡ c.operation.event = ap (λ (x : Line). x.event) c.is in
      let need : 0 < append_need_of decl ((state acts).epoch l.tx) c.operation.op.object c.operation.event =
      subst (λ (x : ℕ). 0 < append_need_of decl x c.operation.op.object c.operation.event) (sym of)
      (subst (λ (x : ℕ). 0 < append_need_of decl k c.operation.op.object x) event
      (subst (λ (x : ℕ). 0 < append_need_of decl k x l.event) object weighs)) in
      let heavy : 0 < weight q.sites (weights_of decl ((state acts).epoch l.tx)) =
      let enough : append_need_of decl ((state acts).epoch l.tx) c.operation.op.object c.operation.event ≤ weight
      q.sites (weights_of decl ((state acts).epoch l.tx)) = q.enough in omega arith in
      let s = some_site decl accepted (weights_of decl ((state acts).epoch l.tx)) q.sites heavy in
      let h = q.each s.0 s.1 in
      let g : Granted = h.grant in
      let epoch : d.epoch ≡ h.grant.epoch = same ∙ sym of ∙ sym (ap (state acts).epoch h.its)
      ∙ sym (w.counts_epoch h.grant h.counts) in
      let passed : d.clock ≤ h.grant.clock = grant_passes h.grant (w.known h.grant h.counts) d stands epoch later in
      let agreed : h.grant.clock < c.commit.stamp.clock =
      ((w.record_of l.tx c.commit (subst (λ (x : Status). HasRecord x c.commit) (sym c.committed) refl)).agreed
      h.grant h.counts h.its).1 in
      let is : l.stamp.clock ≡ c.commit.stamp.clock = ap (λ (x : Line). x.stamp.clock) c.is in
      omega arith

  -- a site that was in an epoch had the whole log that this began with
  began_with : (site : ℕ) (before later : List Deed) → (state acts).deeds site ≡ before ++ later → (d : Decision)
      → In d (state acts).decided → epoch_from 1 before ≡ d.epoch → 1 < d.epoch → (m : Line) → In m d.log
      → In m (site_after before).volatile
  began_with site before later split d stands is less m i =
      let o = of_epoch decl accepted acts run site d.epoch before later split is less in
      o.log_stays m (subst (λ (y : Decision). In m y.log)
      (sym ((epoch_laws decl accepted acts run disciplined).one o.by d o.stands stands o.epoch)) i)

  pub sites_have_what_their_epoch_began_with : (site : ℕ) (d : Decision) (m : Line) → In d (state acts).decided
      → epoch_from 1 ((state acts).deeds site) ≡ d.epoch → In m d.log
      → In m (site_after ((state acts).deeds site)).volatile
  sites_have_what_their_epoch_began_with site d m stands is i =
      began_with site ((state acts).deeds site) [] (sym (append-nil ((state acts).deeds site))) d stands is
      ((epoch_laws decl accepted acts run disciplined).decisions d m stands i).after_first m i

  -- a line of a site's log is of the site's epoch, or of the log that this began with
  pub logs_are_split_by_epochs : (site : ℕ) (l : Line) → In l (site_after ((state acts).deeds site)).volatile
      → BelongsTo decl (state acts).status (state acts).epoch (state acts).decided
      (epoch_from 1 ((state acts).deeds site)) l
  logs_are_split_by_epochs site l i = ((epoch_laws decl accepted acts run disciplined).sites site).lines l i

  -- and where it is of the epoch, it is above all of that log
  pub later_lines_are_above : (site : ℕ) (l m : Line) (d : Decision)
      → In l (site_after ((state acts).deeds site)).volatile → In d (state acts).decided
      → epoch_from 1 ((state acts).deeds site) ≡ d.epoch → In m d.log
      → In l d.log ⊎ (((state acts).epoch l.tx ≡ d.epoch) × (m.stamp.clock < l.stamp.clock))
  later_lines_are_above site l m d i stands is j =
      let e = epoch_laws decl accepted acts run disciplined in
      let below = e.decisions d m stands j in
      elim (logs_are_split_by_epochs site l i) [
        | inr x ↦ inl (subst (λ (y : Decision). In l y.log)
            (e.one x.decision d x.stands stands (x.epoch ∙ is)) x.merged)
        | inl x ↦
            let of : (state acts).epoch l.tx ≡ d.epoch = x.writer ∙ is in
            let weighs : 0 < append_need_of decl d.epoch l.object l.event =
            subst (λ (k : ℕ). 0 < append_need_of decl k l.object l.event) is x.weighs in
            let up : d.clock < l.stamp.clock = stamp_passes d.epoch l (site_after ((state acts).deeds site)).volatile
            (((log_laws decl accepted acts run).sites site).volatile l i) of weighs d stands refl below.after_first
            in
            let low : m.stamp.clock ≤ d.clock = passes decl accepted acts run disciplined d m stands j in
            inr (of, let both : m.stamp.clock < l.stamp.clock = omega arith in both)
      ]

  -- the log that the next epoch begins with is this one's, and then lines of this epoch, which are above it
  pub next_logs_stand_behind : (d e : Decision) (l m : Line) → In d (state acts).decided → In e (state acts).decided
      → e.epoch ≡ suc d.epoch → In l e.log → In m d.log
      → In l d.log ⊎ (((state acts).epoch l.tx ≡ d.epoch) × (m.stamp.clock < l.stamp.clock))
  next_logs_stand_behind d e l m stands next is i j =
      let h = epoch_laws decl accepted acts run disciplined in
      let below = h.decisions d m stands j in
      elim ((h.decisions e l next i).belonged d.epoch is) [
        | inr x ↦ inl (subst (λ (y : Decision). In l y.log) (h.one x.decision d x.stands stands x.epoch) x.merged)
        | inl x ↦
            let up : d.clock < l.stamp.clock = stamp_passes d.epoch l e.log
            ((log_laws decl accepted acts run).decided e l next i) x.writer x.weighs d stands refl below.after_first
            in
            let low : m.stamp.clock ≤ d.clock = passes decl accepted acts run disciplined d m stands j in
            inr (x.writer, let both : m.stamp.clock < l.stamp.clock = omega arith in both)
      ]

  -- and it has all of this one's, where some site answered
  pub next_logs_keep_what_was : (d e : Decision) (s : Snapshot) (m : Line) → In d (state acts).decided
      → In e (state acts).decided → e.epoch ≡ suc d.epoch → In s e.snapshots → In m d.log → In m e.log
  next_logs_keep_what_was d e s m stands next is shut i =
      let l = laws decl acts run in
      let made = l.made e next in
      let at = made.epochs s shut in
      let split = l.snapped s at.0 in
      let epoch : epoch_from 1 s.before ≡ d.epoch =
      (let a : e.epoch ≡ suc (epoch_from 1 s.before) = at.1 in let b : e.epoch ≡ suc d.epoch = is in omega arith) in
      made.logs s m shut
      (began_with s.site s.before split.0 split.1 d stands epoch
      ((epoch_laws decl accepted acts run disciplined).decisions d m stands i).after_first m i)

  pub decided_logs_are_of_earlier_epochs : (d : Decision) (l : Line) → In d (state acts).decided → In l d.log
      → ((state acts).epoch l.tx < d.epoch) × (l.stamp.clock ≤ d.clock)
  decided_logs_are_of_earlier_epochs d l i j =
      let x = (epoch_laws decl accepted acts run disciplined).decisions d l i j in
      (x.earlier, passes decl accepted acts run disciplined d l i j)

  pub epochs_are_decided_once : (d e : Decision) → In d (state acts).decided → In e (state acts).decided
      → d.epoch ≡ e.epoch
      → d ≡ e
  epochs_are_decided_once = (epoch_laws decl accepted acts run disciplined).one

  -- and so are all lines that an operation saw: a counted grant showed them, of its transaction's epoch
  pub views_have_no_later_lines : (tx : TxId) (b : Executed) (l : Line) → In b ((state acts).executed tx) → In l b.view
      → (state acts).epoch l.tx ≤ (state acts).epoch tx
  views_have_no_later_lines tx b l i j =
      let w = laws decl acts run in
      let s = (((log_laws decl accepted acts run).right tx b (inl i)).shown l j).1 in
      let k : s.grant.epoch ≡ (state acts).epoch tx = w.counts_epoch s.grant s.counts ∙ ap (state acts).epoch s.its in
      by s.grant.epoch k ((epoch_laws decl accepted acts run disciplined).grants s.grant l (w.known s.grant s.counts)
      (s.shows).stands)
    where
      by : (k : ℕ) → k ≡ (state acts).epoch tx
          → BelongsTo decl (state acts).status (state acts).epoch (state acts).decided k l
          → (state acts).epoch l.tx ≤ (state acts).epoch tx
      by k e (inl x) = let w : (state acts).epoch l.tx ≡ k = x.writer in omega arith
      by k e (inr x) = let less : (state acts).epoch l.tx < x.decision.epoch =
          (decided_logs_are_of_earlier_epochs x.decision l x.stands x.merged).0 in let same : x.decision.epoch ≡ k =
          x.epoch in omega arith
