-- What may be decided may be decided later too, and what is backed stays so.
use Rattle.std.proofs.Common.{inl, inr}
use Rattle.qc_list.specs.Vocabulary.{In}
use Rattle.qc_entry.specs.declared.line.Line.{Line}
use Rattle.qc_decl.specs.declared.declaration.Declaration.{Declaration}
use Rattle.theory_machine.specs.Vocabulary.{Decision, IsMerged, IsResolved, MayDecide, Promise, Snapshot, State}
use Rattle.theory_machine.specs.Vocabulary.{Verdict}

pub decisions_may_wait : (decl : Declaration) (w v : State) (d : Decision)
    → ((s : Snapshot) → In s w.snapshots → In s v.snapshots) → ((x : Verdict) → In x w.verdicts → In x v.verdicts)
    → MayDecide decl w d → MayDecide decl v d
decisions_may_wait decl w v d snapshots verdicts m = record {
  plan = m.plan;
  planned = m.planned;
  epochs = λ s counts. (snapshots s (m.epochs s counts).0, (m.epochs s counts).1);
  sites = m.sites;
  closes = m.closes;
  each = m.each;
  resolved = λ s p counts stands. resolves p (m.resolved s p counts stands);
  logs = m.logs;
  merged = λ l among. merges l (m.merged l among);
  clocks = m.clocks;
}
  where
    resolves : (p : Promise) → IsResolved w.verdicts d p → IsResolved v.verdicts d p
    resolves p (inl r) = inl (r.0, verdicts _ r.1, r.2, r.3)
    resolves p (inr r) = inr (verdicts _ r)

    merges : (l : Line) → IsMerged w.verdicts d l → IsMerged v.verdicts d l
    merges l k = record {
      snapshot = k.snapshot;
      counts = k.counts;
      from = elim k.from [ inl h ↦ inl h | inr r ↦ inr (r.0, r.1, r.2, r.3, r.4, verdicts _ r.5, r.6) ];
    }
