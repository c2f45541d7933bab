-- A decision's log has lines of the epoch before: written in it, or of what it began with.
use Rattle.std.proofs.Common.{◌≡◌, inl, inr, ℕ, suc, ◌<◌, ◌≤◌, sym, subst, arith}
use Rattle.qc_stamp.specs.declared.stamp.Stamp.{Stamp}
use Rattle.qc_entry.specs.declared.line.Line.{Line}
use Rattle.qc_entry.specs.declared.line.OwnLine.{OwnLine}
use Rattle.qc_decl.specs.declared.declaration.Declaration.{Declaration}
use Rattle.qc_list.specs.Vocabulary.{In}
use Rattle.theory_onecopy.specs.Vocabulary.{committed_line}
use Rattle.theory_machine.specs.Vocabulary.{Decision, IsMerged, MayDecide, Own, Promise, State, epoch_from, site_after}
use Rattle.theory_machine.proofs.Grants.{site_laws}
use Rattle.theory_bases.specs.Vocabulary.{BelongsNow, EpochLawsOf, IsLineOfDecision, IsSnapshotOfEpoch, IsWrittenIn}

module _ (decl : Declaration) (now : State) (d : Decision) (ok : MayDecide decl now d) (epochs : EpochLawsOf decl now)
    (l : Line) (m : IsMerged now.verdicts d l) where
  -- the site that the snapshot shows, in the epoch before the decided one
  site_then : IsSnapshotOfEpoch decl now.status now.epoch now.decided m.snapshot
  site_then = epochs.closings m.snapshot (ok.epochs m.snapshot m.counts).0

  next : d.epoch ≡ suc (epoch_from 1 m.snapshot.before)
  next = (ok.epochs m.snapshot m.counts).1

  -- so what belongs to the snapshot's epoch belongs to that
  before : (k : ℕ) → BelongsNow decl now (epoch_from 1 m.snapshot.before) l → d.epoch ≡ suc k → BelongsNow decl now k l
  before k b same = let n : d.epoch ≡ suc (epoch_from 1 m.snapshot.before) = next in
      let e : epoch_from 1 m.snapshot.before ≡ k = omega arith in subst (λ (i : ℕ). BelongsNow decl now i l) e b

  after_first : 1 < d.epoch
  after_first = let n : d.epoch ≡ suc (epoch_from 1 m.snapshot.before) = next in
      let f : 1 ≤ epoch_from 1 m.snapshot.before = site_then.from_first in omega arith

  -- it was in the log of the snapshot's site
  from_log : BelongsNow decl now (epoch_from 1 m.snapshot.before) l
      → IsLineOfDecision decl now.status now.epoch now.decided d l
  from_log (inl x) = record {
    begun = x.begun;
    after_first = after_first;
    earlier = let n : d.epoch ≡ suc (epoch_from 1 m.snapshot.before) = next in
        let e : now.epoch l.tx ≡ epoch_from 1 m.snapshot.before = x.writer in omega arith;
    belonged = λ k same. before k (inl x) same;
    source = (m.snapshot, m.counts);
  }
  from_log (inr x) = let z = epochs.decisions x.decision l x.stands x.merged in record {
    begun = z.begun;
    after_first = after_first;
    earlier = let n : d.epoch ≡ suc (epoch_from 1 m.snapshot.before) = next in
        let e : now.epoch l.tx < x.decision.epoch = z.earlier in
        let f : x.decision.epoch ≡ epoch_from 1 m.snapshot.before = x.epoch in omega arith;
    belonged = λ k same. before k (inr x) same;
    source = (m.snapshot, m.counts);
  }

  -- it was prepared there, and its transaction committed
  from_promise : (p : Promise) (o : OwnLine) (stamp : Stamp) → In p (site_after m.snapshot.before).prepared
      → In (Own o) p.items → l ≡ committed_line stamp p.tx o
      → IsLineOfDecision decl now.status now.epoch now.decided d l
  from_promise p o stamp prepared item is =
      let own = site_then.site.promised p o ((site_laws m.snapshot.before).prepared p prepared) item in
      let line : IsWrittenIn decl now.status now.epoch (epoch_from 1 m.snapshot.before) l =
      subst (λ (y : Line). IsWrittenIn decl now.status now.epoch (epoch_from 1 m.snapshot.before) y) (sym is)
      (record { begun = own.begun; writer = own.writer; weighs = own.weighs }) in
      from_log (inl line)

pub decision_is : (decl : Declaration) (now : State) (d : Decision) → MayDecide decl now d → EpochLawsOf decl now
    → (l : Line) → In l d.log → IsLineOfDecision decl now.status now.epoch now.decided d l
decision_is decl now d ok epochs l i = by (ok.merged l i)
  where
    by : IsMerged now.verdicts d l → IsLineOfDecision decl now.status now.epoch now.decided d l
    by m = elim m.from [
      | inl h ↦ from_log decl now d ok epochs l m
          ((epochs.closings m.snapshot (ok.epochs m.snapshot m.counts).0).site.lines l h)
      | inr b ↦ from_promise decl now d ok epochs l m b.0 b.1 b.2 b.3 b.4 b.6
    ]
