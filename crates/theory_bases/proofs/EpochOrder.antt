-- Across epochs: who depends on what an earlier epoch wrote was shown it, and who depends on what a later one writes
-- has a smaller stamp. A site that grants in the later epoch has installed its decision: the log has the earlier line,
-- and the clock has passed the earlier stamp.
use Rattle.std.proofs.Common.{◌≡◌, ℕ, ◌<◌, ◌≤◌, IsTrue, ◌↔◌, inl, List, ◌∷◌, IsSome, sym, ap, ◌∙◌, subst, arith}
use Rattle.qc_entry.specs.declared.line.Line.{Line}
use Rattle.qc_entry.specs.declared.record.Commit.{Commit as CommitRecord}
use Rattle.qc_plan.specs.Vocabulary.{weight}
use Rattle.qc_decl.specs.declared.declaration.Declaration.{Declaration}
use Rattle.qc_decl.specs.Vocabulary.{IsAccepted, append_need_of, read_need_of}
use Rattle.qc_list.specs.Vocabulary.{In}
use Rattle.theory_onecopy.specs.Vocabulary.{Executed, IsOrdered, IsStampedBefore, committed_line, depends_at, own_line}
use Rattle.theory_onecopy.specs.Vocabulary.{sorted}
use Rattle.theory_onecopy.proofs.Committed.{records_are_sorted}
use Rattle.theory_machine.specs.Vocabulary.{Act, Decision, Granted, Grants, IsDependedOn, IsRun, LogLaws, StateLaws}
use Rattle.theory_machine.specs.Vocabulary.{place, placed, read_lock, site_after, state, weights_of}
use Rattle.theory_machine.proofs.ClaimLaws.{records_are_apart}
use Rattle.theory_machine.proofs.CommittedViews.{clock_below, depended, plan_of, smaller, whose}
use Rattle.theory_machine.proofs.Decided.{kept_lines, of_epoch, passed_stamps, positive}
use Rattle.theory_machine.proofs.Keeps.{laws}
use Rattle.theory_machine.proofs.LogKeeps.{log_laws}
use Rattle.theory_machine.proofs.PlacedOperations.{IsOf, placed_of}
use Rattle.theory_machine.proofs.Quorums.{heavy, needed, read_needed, some_site}

module _ (decl : Declaration) (accepted : IsAccepted decl) (acts : List Act) (run : IsRun decl acts) where
  state_laws : StateLaws decl (state acts)
  state_laws = laws decl acts run

  log_laws_now : LogLaws decl (state acts)
  log_laws_now = log_laws decl accepted acts run

  -- what a counted grant has of the decision of its transaction's epoch: its site has the log, and its clock has passed
  -- the decided one
  record IsFromDecision (g : Granted) : Type 0 where
    by : Decision
    stands : In by (state acts).decided
    epoch : by.epoch ≡ (state acts).epoch g.tx
    shown : (l : Line) → In l by.log → In l (site_after g.before).volatile
    passed : by.clock ≤ g.clock

  from_decision : (g : Granted) → In g (state acts).counted → 1 < (state acts).epoch g.tx → IsFromDecision g
  from_decision g h less =
      let law = state_laws.counted g h in
      let facts = state_laws.facts g (state_laws.known g h) in
      let o = of_epoch decl accepted acts run g.site ((state acts).epoch g.tx) g.before
      (Grants g.tx g.items g.view ∷ law.post) law.split (facts.current ∙ state_laws.counts_epoch g h) less in
      let is : o.by.clock ≡ o.clock = o.clock_is in
      let passed : o.clock ≤ g.clock = facts.passes_installs ((state acts).epoch g.tx) o.clock o.log o.deed in
      record { by = o.by; stands = o.stands; epoch = o.epoch; shown = o.log_stays; passed = (omega arith) }

  -- the invocation of d's operation b depends on the event of c's operation a
  module _ (L : List CommitRecord) (rising : IsOrdered IsStampedBefore L)
      (all : (x : CommitRecord) → In x L ↔ In x (state acts).records) (c d : CommitRecord) (a b : Executed)
      (hc : In c L) (hd : In d L)
      (ha : In a ((state acts).executed c.tx)) (hb : In b ((state acts).executed d.tx))
      (object : a.op.object ≡ b.op.object) (some : IsSome a.op.resp)
      (dep : IsTrue (depends_at decl b.op.object b.op.inv a.event)) where
    pa : In (place c a) (placed (state acts).executed L)
    pa = placed_of (state acts).executed L c a hc ha

    pb : In (place d b) (placed (state acts).executed L)
    pb = placed_of (state acts).executed L d b hd hb

    ka : IsOf (state acts).executed L (place c a)
    ka = whose decl accepted acts run L rising all (place c a) pa

    kb : IsOf (state acts).executed L (place d b)
    kb = whose decl accepted acts run L rising all (place d b) pb

    on : IsDependedOn decl b.op.object a.event
    unfolding depended
    on = depended decl accepted acts run L rising all (place c a) (place d b) ka kb object some dep

    -- a line in the view has a smaller stamp
    below : In (committed_line c.stamp c.tx (own_line a)) b.view → c.stamp.clock < d.stamp.clock
    below h =
        let r = smaller decl accepted acts run L rising all (place d b)
        (committed_line c.stamp c.tx (own_line a)) pb h in
        let is : c.stamp.clock ≡ r.by.stamp.clock = ap (λ (x : Line). x.stamp.clock) r.is in
        let less : r.by.stamp.clock < d.stamp.clock = r.before in
        omega arith

    -- c's epoch is before d's: a site that granted d's read lock has installed a log that has c's line
    later_reader : (state acts).epoch c.tx < (state acts).epoch d.tx
        → In (committed_line c.stamp c.tx (own_line a)) b.view
    unfolding depended on
    later_reader less =
        let p = plan_of decl accepted acts run L rising all (place d b) kb in
        let h = heavy decl accepted ((state acts).epoch d.tx) b.op.object b.op.inv a.event on.kind p.0 p.1 on.typed
        on.low on.within dep in
        let reads = (log_laws_now.right d.tx b (inl hb)).met in
        let need : 0 < read_need_of decl ((state acts).epoch d.tx) b.op.object b.op.inv =
        read_needed decl accepted ((state acts).epoch d.tx) b.op.object b.op.inv a.event h in
        let enough : read_need_of decl ((state acts).epoch d.tx) b.op.object b.op.inv ≤ weight reads.sites
        (weights_of decl ((state acts).epoch d.tx)) = reads.enough in
        let site = some_site decl accepted (weights_of decl ((state acts).epoch d.tx)) reads.sites (omega arith) in
        let v = reads.each site.0 site.1 in
        let some_epoch : 0 < (state acts).epoch c.tx =
        positive decl accepted acts run c.tx (log_laws_now.begun c.tx a (inl ha)) in
        let its : (state acts).epoch v.grant.tx ≡ (state acts).epoch d.tx = ap (state acts).epoch v.its in
        let i = from_decision v.grant v.counts (omega arith) in
        let at : i.by.epoch ≡ (state acts).epoch v.grant.tx = i.epoch in
        let line = kept_lines decl accepted acts run i.by.epoch i.by (omega arith) i.stands c.tx c a
        (state_laws.written c ((all c).0 hc)) ha some
        (subst (λ (x : ℕ). IsDependedOn decl x a.event) (sym object) on) (omega arith) in
        v.seen (committed_line c.stamp c.tx (own_line a))
        (record {
          stands = i.shown (committed_line c.stamp c.tx (own_line a)) line;
          lock = read_lock b.op;
          granted = v.has;
          on = sym object;
        }) object

    -- d's epoch is before c's: a site that granted c's line has installed a clock that has passed d's stamp
    later_writer : (state acts).epoch d.tx < (state acts).epoch c.tx → d.stamp.clock < c.stamp.clock
    unfolding depended on
    later_writer less =
        let p = plan_of decl accepted acts run L rising all (place c a) ka in
        let h = heavy decl accepted ((state acts).epoch c.tx) b.op.object b.op.inv a.event on.kind p.0 p.1 on.typed
        on.low on.within dep in
        let writes = log_laws_now.written c.tx a ha some in
        let need : 0 < append_need_of decl ((state acts).epoch c.tx) a.op.object a.event =
        subst (λ (x : ℕ). 0 < append_need_of decl ((state acts).epoch c.tx) x a.event) (sym object)
        (needed decl accepted ((state acts).epoch c.tx) b.op.object b.op.inv a.event h) in
        let enough : append_need_of decl ((state acts).epoch c.tx) a.op.object a.event ≤ weight writes.sites
        (weights_of decl ((state acts).epoch c.tx)) = writes.enough in
        let site = some_site decl accepted (weights_of decl ((state acts).epoch c.tx)) writes.sites (omega arith) in
        let u = writes.each site.0 site.1 in
        let some_epoch : 0 < (state acts).epoch d.tx =
        positive decl accepted acts run d.tx (log_laws_now.begun d.tx b (inl hb)) in
        let its : (state acts).epoch u.grant.tx ≡ (state acts).epoch c.tx = ap (state acts).epoch u.its in
        let i = from_decision u.grant u.counts (omega arith) in
        let at : i.by.epoch ≡ (state acts).epoch u.grant.tx = i.epoch in
        let stamped : d.stamp.clock ≤ i.by.clock =
        passed_stamps decl accepted acts run i.by.epoch i.by (omega arith) i.stands d.tx d b a.event on.kind
        (state_laws.written d ((all d).0 hd)) hb on.typed on.low on.within dep (omega arith) in
        let granted : i.by.clock ≤ u.grant.clock = i.passed in
        let last : u.grant.clock < c.stamp.clock =
        clock_below decl accepted acts run L rising all (place c a) ka u.grant u.counts u.its in
        omega arith

    pub readers : (state acts).epoch c.tx < (state acts).epoch d.tx
        → In (committed_line c.stamp c.tx (own_line a)) b.view × (c.stamp.clock < d.stamp.clock)
    readers less = let h = later_reader less in (h, below h)

    pub writers : (state acts).epoch d.tx < (state acts).epoch c.tx
        → (In (committed_line c.stamp c.tx (own_line a)) b.view → ⊥) × (d.stamp.clock < c.stamp.clock)
    writers less = let above = later_writer less in
        (λ h. (let under : c.stamp.clock < d.stamp.clock = below h in omega arith), above)

module _ (decl : Declaration) (accepted : IsAccepted decl) (acts : List Act) (run : IsRun decl acts)
    (c d : CommitRecord) (a b : Executed) (hc : In c (state acts).records) (hd : In d (state acts).records)
    (ha : In a ((state acts).executed c.tx)) (hb : In b ((state acts).executed d.tx))
    (object : a.op.object ≡ b.op.object) (some : IsSome a.op.resp)
    (dep : IsTrue (depends_at decl b.op.object b.op.inv a.event)) where
  -- the records in the order of their stamps
  rising : IsOrdered IsStampedBefore (sorted (state acts).records)
      × ((x : CommitRecord) → In x (sorted (state acts).records) ↔ In x (state acts).records)
  rising = records_are_sorted (state acts).records (records_are_apart decl accepted acts run).stamps

  pub later_readers : (state acts).epoch c.tx < (state acts).epoch d.tx
      → In (committed_line c.stamp c.tx (own_line a)) b.view × (c.stamp.clock < d.stamp.clock)
  later_readers less = readers decl accepted acts run (sorted (state acts).records) rising.0 rising.1 c d a b
      ((rising.1 c).1 hc) ((rising.1 d).1 hd) ha hb object some dep less

  pub later_writers : (state acts).epoch d.tx < (state acts).epoch c.tx
      → (In (committed_line c.stamp c.tx (own_line a)) b.view → ⊥) × (d.stamp.clock < c.stamp.clock)
  later_writers less = writers decl accepted acts run (sorted (state acts).records) rising.0 rising.1 c d a b
      ((rising.1 c).1 hc) ((rising.1 d).1 hd) ha hb object some dep less
