-- Records, logs and verdicts of every run: records are apart, logs hold just their operations and are closed, verdicts
-- agree, and a record follows what its client had seen.
use Rattle.std.proofs.Common.{◌≡◌, ◌≢◌, ℕ, ◌<◌, ◌≤◌, false, IsTrue, ◌⊎◌, ◌↔◌, inl, inr, List, Option, Some, None, sym}
use Rattle.std.proofs.Common.{ap, ◌∙◌, subst, arith}
use Rattle.std.specs.Option.{option_map_or}
use Rattle.std.specs.declared.cmp.Ordering.TheVariants.{Less}
use Rattle.qc_stamp.specs.declared.stamp.Stamp.{Stamp}
use Rattle.qc_stamp.specs.declared.stamp.TxId.{TxId}
use Rattle.qc_stamp.specs.Vocabulary.{stamp_cmp}
use Rattle.qc_entry.specs.declared.line.Line.{Line}
use Rattle.qc_entry.specs.declared.record.Commit.{Commit as CommitRecord}
use Rattle.qc_table.specs.declared.kind.Kind.{Kind}
use Rattle.qc_table.specs.Vocabulary.{depends}
use Rattle.qc_cert.specs.Vocabulary.{inv_of}
use Rattle.qc_decl.specs.declared.declaration.Declaration.{Declaration}
use Rattle.qc_decl.specs.Vocabulary.{IsAccepted}
use Rattle.theory_onecopy.specs.Vocabulary.{AreApart, IsAnswered, IsClosedLog, IsEarlier, IsLineBefore, IsLogged}
use Rattle.theory_onecopy.specs.Vocabulary.{IsNext, IsOrdered, IsStampedBefore, OneCopy, Placed, committed_line}
use Rattle.theory_onecopy.specs.Vocabulary.{depends_at, line_depends, line_of, own_line, sorted}
use Rattle.qc_list.specs.Vocabulary.{In}
use Rattle.theory_onecopy.proofs.Committed.{records_are_sorted}
use Rattle.theory_onecopy.proofs.Lists.{compared}
use Rattle.theory_onecopy.proofs.Orders.{earlier_line, line_clocks, line_trans, not_stamp_less}
use Rattle.qc_entry.proofs.Members.{not_below}
use Rattle.theory_onecopy.proofs.Runs.{inv_is}
use Rattle.theory_machine.specs.Vocabulary.{Aborted, Act, Committed, FollowsSeen, Granted, HasEarlier, IsClosedAt}
use Rattle.theory_machine.specs.Vocabulary.{IsDependedOn, IsLogOf, IsOutcome, IsRun, IsVerdictOf, LogLaws, MayCommit}
use Rattle.theory_machine.specs.Vocabulary.{Shows, StateLaws, Verdict, place, placed, state}
use Rattle.theory_machine.proofs.Names.{tx_cases}
use Rattle.theory_machine.proofs.Outcomes.{committed_record, outcome_commit, outcome_aborted}
use Rattle.theory_machine.proofs.Keeps.{laws}
use Rattle.theory_machine.proofs.LogKeeps.{log_laws}
use Rattle.theory_machine.proofs.CommittedViews.{depended, own_all, whose}
use Rattle.theory_machine.proofs.Ordering.{ordered}
use Rattle.theory_machine.proofs.PlacedOperations.{placed_of, placed_ordered, some_resp}
use Rattle.theory_machine.proofs.OneCopyLaw.{records_in_order_are_one_copy}
use Rattle.theory_machine.proofs.LoggedOperations.{IsOperationOf, closed_at, logged, operation_of}

module _ (decl : Declaration) (accepted : IsAccepted decl) where
  module _ (acts : List Act) (run : IsRun decl acts) where
    wl : StateLaws decl (state acts)
    wl = laws decl acts run

    ll : LogLaws decl (state acts)
    ll = log_laws decl accepted acts run

    pub records_are_apart : AreApart (state acts).records
    records_are_apart = record {
      stamps = λ c d hc hd same. by c d hc hd same;
      transactions =
          λ c d hc hd same.
          let x : Committed c ≡ Committed d =
          sym (wl.written c hc) ∙ ap (state acts).status same ∙ wl.written d hd in
          cc;
    }
      where
        by : (c d : CommitRecord) → In c (state acts).records → In d (state acts).records → c.stamp ≡ d.stamp → c ≡ d
        by c d hc hd same = elim (tx_cases c.tx d.tx) [
          | inl e ↦
              let x : Committed c ≡ Committed d = sym (wl.written c hc) ∙ ap (state acts).status e ∙ wl.written d hd in
              cc
          | inr ne ↦
              absurd (wl.apart c.tx d.tx c d (committed_record ((state acts).status c.tx) c (wl.written c hc))
              (committed_record ((state acts).status d.tx) d (wl.written d hd)) ne same)
        ]

    pub logs_hold_operations : (log : List Line) → IsLogOf (state acts) log → (l : Line) → In l log
        → IsLogged decl (state acts).records l
    logs_hold_operations log is l h =
        logged decl accepted acts run log l (closed_at decl accepted acts run log is l h)

    -- a verdict that was sent agrees with the records
    pub verdicts_agree : (v : Verdict) → In v (state acts).verdicts → IsVerdictOf (state acts).records v.tx v.stamp
    verdicts_agree v h = by v.stamp (wl.verdicts v h)
      where
        by : (o : Option Stamp) → IsOutcome ((state acts).status v.tx) o → IsVerdictOf (state acts).records v.tx o
        by (Some stamp) r =
            let k = outcome_commit ((state acts).status v.tx) stamp r in (
              k.0,
              wl.writes v.tx k.0 k.1,
              (wl.record_of v.tx k.0 (committed_record ((state acts).status v.tx) k.0 k.1)).named,
              k.2,
            )
        by None r =
            λ c i e.
            let x : Committed c ≡ Aborted =
            sym (wl.written c i) ∙ ap (state acts).status e ∙ outcome_aborted ((state acts).status v.tx) r in
            let never : ⊥ = cc in never

    -- a record that may be written follows all that its client learned
    pub follows : (c : CommitRecord) → MayCommit (state acts) c → FollowsSeen (state acts) c
    follows c may = record { seen_by = seen_by; own = own }
      where
        seen_by : (g : Granted) (l : Line) → In g ((state acts).seen_by c.tx.client) → Shows g l
            → HasEarlier (state acts).records l.tx l.stamp c.stamp.clock
        seen_by g l h s =
            let k = wl.seen_by c.tx.client g h in
            let f = (ll.granted g k.0).volatile l s.stands in
            let r = wl.record_of l.tx f.commit (committed_record ((state acts).status l.tx) f.commit f.committed) in
            let is : l.stamp ≡ f.commit.stamp = ap (λ (x : Line). x.stamp) f.is in
            let clocks : l.stamp.clock ≡ f.commit.stamp.clock = ap (λ (x : Stamp). x.clock) is in
            let low : l.stamp.clock ≤ g.clock = (wl.facts g k.0).passes_lines l s.stands in
            let mid : g.clock ≤ (state acts).clock c.tx.client = k.1 in
            let high : (state acts).clock c.tx.client < c.stamp.clock = may.above in
            record {
              commit = f.commit;
              listed = wl.writes l.tx f.commit f.committed;
              named = r.named;
              stamped = sym is;
              before = (omega arith);
            }

        own : (d : CommitRecord) → In d (state acts).records → d.tx.client ≡ c.tx.client → d.stamp.clock < c.stamp.clock
        own d h e =
            let r = wl.record_of d.tx d (committed_record ((state acts).status d.tx) d (wl.written d h)) in
            let low : d.stamp.clock ≤ (state acts).clock d.tx.client = r.low in
            let same : (state acts).clock d.tx.client ≡ (state acts).clock c.tx.client = ap (state acts).clock e in
            let high : (state acts).clock c.tx.client < c.stamp.clock = may.above in
            omega arith

    pub runs_are_one_copy : OneCopy decl (sorted (state acts).records)
    runs_are_one_copy =
        let s = records_are_sorted (state acts).records records_are_apart.stamps in
        records_in_order_are_one_copy decl accepted acts run (sorted (state acts).records) s.0 s.1

    pub logs_are_closed : (log : List Line) → IsLogOf (state acts) log → IsClosedLog decl (state acts).records log
    logs_are_closed log is l m h g on before dep =
        subst (λ (x : Line). In x log) (sym dm.is)
        (by (compared IsEarlier (placed (state acts).executed L) order p q hp hq))
      where
        L : List CommitRecord
        L = sorted (state acts).records

        s : IsOrdered IsStampedBefore (sorted (state acts).records)
            × ((d : CommitRecord) → In d (sorted (state acts).records) ↔ In d (state acts).records)
        s = records_are_sorted (state acts).records records_are_apart.stamps

        dm : IsOperationOf decl accepted acts run m
        dm = operation_of decl accepted acts run m g

        f : IsClosedAt decl (state acts).status (state acts).executed log l
        f = closed_at decl accepted acts run log is l h

        named : f.commit.tx ≡ l.tx
        named = (wl.record_of l.tx f.commit (committed_record ((state acts).status l.tx) f.commit f.committed)).named

        p : Placed
        p = place dm.commit dm.operation

        q : Placed
        q = place f.commit f.operation

        hp : In (place dm.commit dm.operation) (placed (state acts).executed (sorted (state acts).records))
        hp =
            placed_of (state acts).executed (sorted (state acts).records) dm.commit dm.operation
            ((s.1 dm.commit).1 dm.listed) dm.executed_in

        hq : In (place f.commit f.operation) (placed (state acts).executed (sorted (state acts).records))
        hq =
            placed_of (state acts).executed (sorted (state acts).records) f.commit f.operation
            ((s.1 f.commit).1 (wl.writes l.tx f.commit f.committed))
            (subst (λ (x : TxId). In f.operation ((state acts).executed x)) (sym named) f.listed)

        order : IsOrdered IsEarlier (placed (state acts).executed (sorted (state acts).records))
        order = placed_ordered (state acts).executed (sorted (state acts).records) ll.order s.0

        line_is : l ≡ line_of (place f.commit f.operation)
        line_is = f.is ∙ ap (λ (x : TxId). committed_line f.commit.stamp x (own_line f.operation)) (sym named)

        lines : IsLineBefore (line_of (place dm.commit dm.operation)) (line_of (place f.commit f.operation))
        lines =
            subst (λ (x : Line). IsLineBefore x (line_of (place f.commit f.operation))) dm.is
            (subst (λ (x : Line). IsLineBefore m x) line_is before)

        object : dm.operation.op.object ≡ f.operation.op.object
        object = ap (λ (x : Line). x.object) (sym dm.is) ∙ on ∙ ap (λ (x : Line). x.object) f.is

        answered : IsAnswered decl f.operation
        answered = (ll.right l.tx f.operation (inl f.listed)).answered

        depend : IsTrue (depends_at decl f.operation.op.object f.operation.op.inv dm.operation.event)
        depend =
            let r = some_resp f.operation.op.resp f.some in
            let inv : inv_of answered.kind f.operation.event ≡ f.operation.op.inv =
            inv_is answered.kind f.operation.op.inv r.0 f.operation.event (answered.numbered r.0 r.1) in
            let a : IsTrue (line_depends decl (line_of (place f.commit f.operation)) m.event) =
            subst (λ (x : Line). IsTrue (line_depends decl x m.event)) line_is dep in
            let b : IsTrue (depends answered.kind.relation (inv_of answered.kind f.operation.event) m.event) =
            subst (λ (o : Option Kind). IsTrue (option_map_or (λ (k : Kind). depends k.relation
            (inv_of k f.operation.event) m.event) o false)) answered.typed a in
            let c : IsTrue (depends answered.kind.relation f.operation.op.inv m.event) =
            subst (λ (x : ℕ). IsTrue (depends answered.kind.relation x m.event)) inv b in
            let d : IsTrue (depends_at decl f.operation.op.object f.operation.op.inv m.event) =
            subst (λ (o : Option Kind). IsTrue (option_map_or (λ (k : Kind). depends k.relation
            f.operation.op.inv m.event) o false)) (sym answered.typed) c in
            subst (λ (x : Line). IsTrue (depends_at decl f.operation.op.object f.operation.op.inv x.event)) dm.is d

        mine : IsNext (place dm.commit dm.operation) (place f.commit f.operation)
            → In (line_of (place dm.commit dm.operation)) log
        mine n =
            let need =
            depended decl accepted acts run (sorted (state acts).records) s.0 s.1 (place dm.commit dm.operation)
            (place f.commit f.operation)
            (whose decl accepted acts run (sorted (state acts).records) s.0 s.1 (place dm.commit dm.operation)
            hp)
            (whose decl accepted acts run (sorted (state acts).records) s.0 s.1 (place f.commit f.operation)
            hq) object dm.some depend in
            let there =
            f.own (own_line dm.operation)
            (own_all decl accepted acts run (sorted (state acts).records) s.0 s.1
            (place dm.commit dm.operation) (place f.commit f.operation) hp hq n dm.some)
            (subst (λ (o : ℕ). IsDependedOn decl o dm.operation.event) (sym object) need) in
            subst (λ (x : Line). In x log)
            (ap (λ (x : Stamp). committed_line x l.tx (own_line dm.operation))
            (ap (λ (x : Line). x.stamp) line_is ∙ sym n.stamp)
            ∙ ap (λ (x : TxId). committed_line dm.commit.stamp x (own_line dm.operation))
            (ap (λ (x : Line). x.tx) line_is ∙ sym n.tx)) there

        apart_from : (dm.commit.stamp ≢ f.commit.stamp) → In (line_of (place dm.commit dm.operation)) log
        apart_from ne =
            elim (ordered decl accepted acts run (sorted (state acts).records) s.0 s.1 (place dm.commit dm.operation)
            (place f.commit f.operation) hp hq ne object dm.some depend) [
              | inl seen ↦ f.view (line_of (place dm.commit dm.operation)) seen
              | inr late ↦
                  let le : dm.commit.stamp.clock ≤ f.commit.stamp.clock =
                  line_clocks (line_of (place dm.commit dm.operation)) (line_of (place f.commit f.operation)) lines in
                  absurd (omega arith)
            ]

        by : (place dm.commit dm.operation ≡ place f.commit f.operation)
            ⊎ (IsEarlier (place dm.commit dm.operation) (place f.commit f.operation)
            ⊎ IsEarlier (place f.commit f.operation) (place dm.commit dm.operation))
            → In (line_of (place dm.commit dm.operation)) log
        by (inl same) =
            absurd (not_below (line_of (place f.commit f.operation))
            (subst (λ (x : Placed). IsLineBefore (line_of x) (line_of (place f.commit f.operation))) same lines))
        by (inr (inl (inl less))) =
            apart_from (λ same. not_stamp_less f.commit.stamp
            (subst (λ (x : Stamp). stamp_cmp x f.commit.stamp ≡ Less) same less))
        by (inr (inl (inr later))) = mine (record { stamp = later.0; tx = later.1; number = later.2; object = object })
        by (inr (inr back)) =
            absurd (not_below (line_of (place dm.commit dm.operation))
            (line_trans (line_of (place dm.commit dm.operation)) (line_of (place f.commit f.operation))
            (line_of (place dm.commit dm.operation)) lines
            (earlier_line (place f.commit f.operation) (place dm.commit dm.operation) back)))
