-- The log of a decision is closed: it has all that the snapshots have, and all own lines of committed prepared
-- transactions.
use Rattle.std.proofs.Common.{◌≡◌, ◌≢◌, ℕ, Bool, true, false, inl, inr, List, [], ◌∷◌, Option, Some, None, IsSome, sym}
use Rattle.std.proofs.Common.{ap, ◌∙◌, ◌⊎◌, subst}
use Rattle.qc_stamp.specs.declared.stamp.Stamp.{Stamp}
use Rattle.qc_stamp.specs.declared.stamp.TxId.{TxId}
use Rattle.qc_entry.specs.declared.line.Line.{Line}
use Rattle.qc_entry.specs.declared.line.OwnLine.{OwnLine}
use Rattle.qc_entry.specs.declared.record.Commit.{Commit as CommitRecord}
use Rattle.qc_decl.specs.declared.declaration.Declaration.{Declaration}
use Rattle.qc_list.specs.Vocabulary.{In}
use Rattle.theory_onecopy.specs.Vocabulary.{Executed, committed_line}
use Rattle.theory_machine.specs.Vocabulary.{Aborted, Committed, Decision, Granted, IsAppendClosed, IsClosedAt}
use Rattle.theory_machine.specs.Vocabulary.{IsExecutedOrChosen, IsMerged, IsOutcome, IsRequested, IsResolved}
use Rattle.theory_machine.specs.Vocabulary.{IsShare, WasLogOfSite}
use Rattle.theory_machine.specs.Vocabulary.{IsSiteClosed, Item, Lock, LogLaws, MayDecide, NotBegun, Own, Pending}
use Rattle.theory_machine.specs.Vocabulary.{Promise, State, StateLaws, Status, deed_of_outcome, recover_status}
use Rattle.theory_machine.specs.Vocabulary.{site_after}
use Rattle.theory_machine.proofs.Sound.{IsReady, wider}
use Rattle.theory_machine.proofs.Outcomes.{committed_record, outcome_aborted, outcome_commit}
use Rattle.theory_machine.proofs.Grows.{same}

module _ (decl : Declaration) where
  pub grant_ready : (w : State) (g : Granted) → IsRequested w.appends g ⊎ IsShare w g → LogLaws decl w
      → IsAppendClosed decl w.status w.executed w.chosen g.tx g.items g.view
  grant_ready w g (inl (inl read)) l = record {
    closed_at = λ m h. absurd (subst (λ (v : List Line). In m v) read.2 h);
    own_closed = λ o h. absurd (none o (subst (λ (xs : List Item). In (Own o) xs) read.1 h));
  }
    where
      none : (o : OwnLine) → In (Own o) (Lock read.0 ∷ []) → ⊥
      none o (inl same) = let never : ⊥ = cc in never
      none o (inr h) = h
  grant_ready w g (inl (inr preparing)) l =
      l.appends (record { tx = g.tx; items = g.items; view = g.view }) preparing
  grant_ready w g (inr share) l = record {
    closed_at = closed share.1;
    own_closed = λ o h. absurd (subst (λ (xs : List Item). In (Own o) xs) share.0 h);
  }
    where
      IsClosed : List Line → Type 0
      IsClosed log = (m : Line) → In m log → IsClosedAt decl w.status w.executed log m

      closed : (g.view ≡ []) ⊎ WasLogOfSite w g.view → IsClosed g.view
      closed (inl none) = λ m i. absurd (subst (λ (v : List Line). In m v) none i)
      closed (inr (inl x)) = subst IsClosed (sym x.2) (l.granted x.0 x.1).volatile
      closed (inr (inr x)) = subst IsClosed (sym x.2) (l.snapshots x.0 x.1).volatile

  pub verdict_ready : (w : State) (tx : TxId) (o : Option Stamp) → IsOutcome (w.status tx) o → StateLaws decl w
      → IsReady decl w.status w.executed w.chosen (deed_of_outcome tx o)
  verdict_ready w tx None h wl = tt
  verdict_ready w tx (Some stamp) h wl = let r = outcome_commit (w.status tx) stamp h in
      (r.0, r.1, r.2, (wl.record_of tx r.0 (committed_record (w.status tx) r.0 r.1)).none_chosen)

  pub not_committed : (w : State) (tx : TxId) (s new : Status) (c : CommitRecord) → w.status tx ≡ s
      → w.status tx ≡ Committed c → ((d : CommitRecord) → s ≡ Committed d → ⊥) → new ≡ Committed c
  not_committed w tx s new c is e no_record = absurd (no_record c (sym is ∙ e))

  pub recovered_begun : (with_record : Bool) (c : CommitRecord) → recover_status with_record (Pending c) ≢ NotBegun
  recovered_begun true c = λ x. cc
  recovered_begun false c = λ x. cc

  -- a decided log is closed
  pub merged : (w : State) (d : Decision) → MayDecide decl w d → StateLaws decl w → LogLaws decl w → (m : Line)
      → In m d.log → IsClosedAt decl w.status w.executed d.log m
  merged w d ok wl l m h = by (ok.merged m h)
    where
      one : (g : IsMerged w.verdicts d m) → IsSiteClosed decl w.status w.executed w.chosen
          (site_after g.snapshot.before)
      one g = l.snapshots g.snapshot (ok.epochs g.snapshot g.counts).0

      by : IsMerged w.verdicts d m → IsClosedAt decl w.status w.executed d.log m
      by g = elim g.from [
        | inl there ↦ wider decl w.status w.executed w.chosen (site_after g.snapshot.before).volatile d.log m
            (λ x i. ok.logs g.snapshot x g.counts i) ((one g).volatile m there)
        | inr own ↦
            let p : Promise = own.0 in
            let r = outcome_commit (w.status own.0.tx) own.2
            (wl.verdicts (record { tx = own.0.tx; stamp = Some own.2 }) own.5) in
            let f = (one g).promised own.0 own.1 ((one g).prepared own.0 own.3) own.4 in
            let none_chosen = (wl.record_of own.0.tx r.0 (committed_record (w.status own.0.tx) r.0 r.1)).none_chosen in
            let stamps : own.2 ≡ r.0.stamp = sym r.2 in
            subst (λ (x : Line). IsClosedAt decl w.status w.executed d.log x) (sym own.6) (record {
              commit = r.0;
              committed = r.1;
              operation = f.operation;
              listed = was_executed own.0.tx f.operation none_chosen f.known;
              some = f.some;
              is = ap (λ (x : Stamp). committed_line x own.0.tx own.1) stamps
                  ∙ ap (λ (x : OwnLine). committed_line r.0.stamp own.0.tx x) f.is;
              view = λ x i. ok.logs g.snapshot x g.counts ((one g).less x (f.view x i));
              own = λ q i dep. resolved own.0 own.2 r.0 r.1 r.2 q (f.own q i dep)
                  (ok.resolved g.snapshot own.0 g.counts own.3);
            })
      ]
        where
          was_executed : (tx : TxId) (e : Executed) → w.chosen tx ≡ None
              → IsExecutedOrChosen (w.executed tx) (w.chosen tx) e → In e (w.executed tx)
          was_executed tx e n (inl k) = k
          was_executed tx e n (inr k) = let x : None ≡ Some e = sym n ∙ k in absurd (let never : ⊥ = cc in never)

          resolved : (p : Promise) (stamp : Stamp) (c : CommitRecord) → w.status p.tx ≡ Committed c → c.stamp ≡ stamp
              → (q : OwnLine) → In (Own q) p.items → IsResolved w.verdicts d p → In (committed_line stamp p.tx q) d.log
          resolved p stamp c e s q i (inl r) =
              let k = outcome_commit (w.status p.tx) r.0 (wl.verdicts (record { tx = p.tx; stamp = Some r.0 }) r.1) in
              let same_commit : Committed c ≡ Committed k.0 = sym e ∙ k.1 in
              let same_c : c ≡ k.0 = cc in
              subst (λ (x : Stamp). In (committed_line x p.tx q) d.log)
              (sym k.2 ∙ ap (λ (x : CommitRecord). x.stamp) (sym same_c) ∙ s) (r.2 q i)
          resolved p stamp c e s q i (inr gone) =
              let dead = outcome_aborted (w.status p.tx) (wl.verdicts (record { tx = p.tx; stamp = None }) gone) in
              let x : Committed c ≡ Aborted = sym e ∙ dead in absurd (let never : ⊥ = cc in never)

  pub none_some : (o : Option ℕ) → o ≡ None → IsSome o → ⊥
  none_some None e s = let never : ⊥ = cc in never
  none_some (Some x) e s = let never : ⊥ = cc in never
