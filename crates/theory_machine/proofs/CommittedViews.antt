-- What is known of a committed operation: its own lines, and the lines of its view, which are of smaller clocks and
-- closed.
use Rattle.std.proofs.Common.{◌≡◌, ℕ, ◌<◌, ◌≤◌, IsTrue, ◌↔◌, inl, List, [], length, Some, IsSome, sym, ap, ◌∙◌, subst}
use Rattle.std.proofs.Common.{arith}
use Rattle.qc_plan.specs.declared.plan.Plan.{Plan}
use Rattle.qc_stamp.specs.declared.stamp.Stamp.{Stamp}
use Rattle.qc_stamp.specs.declared.stamp.TxId.{TxId}
use Rattle.qc_entry.specs.declared.line.Line.{Line}
use Rattle.qc_entry.specs.declared.line.OwnLine.{OwnLine}
use Rattle.qc_entry.specs.declared.record.Commit.{Commit as CommitRecord}
use Rattle.qc_table.specs.declared.kind.Kind.{Kind}
use Rattle.qc_table.specs.Vocabulary.{events_of}
use Rattle.qc_decl.specs.declared.declaration.Declaration.{Declaration}
use Rattle.qc_decl.specs.Vocabulary.{IsAccepted, plan_in}
use Rattle.theory_onecopy.specs.Vocabulary.{Executed, HasLine, HasOwn, IsNext, IsOrdered, IsOwnBefore, IsStampedBefore}
use Rattle.theory_onecopy.specs.Vocabulary.{Placed, committed_line, depends_at, kind_at, line_of, own_line}
use Rattle.qc_list.specs.Vocabulary.{In}
use Rattle.theory_machine.specs.Vocabulary.{Act, Committed, Granted, IsAnsweredFromQuorum, IsClosedAt, IsDependedOn}
use Rattle.theory_machine.specs.Vocabulary.{IsRun, LogLaws, StateLaws, place, placed, state}
use Rattle.theory_machine.proofs.Outcomes.{committed_record}
use Rattle.theory_machine.proofs.Keeps.{laws}
use Rattle.theory_machine.proofs.LogKeeps.{log_laws}
use Rattle.theory_machine.proofs.OwnLines.{own_of}
use Rattle.theory_machine.proofs.Order.{committed_yes}
use Rattle.theory_machine.proofs.Places.{IsAt, at, own_in}
use Rattle.theory_machine.proofs.Quorums.{number_within}
use Rattle.theory_machine.proofs.PlacedOperations.{IsOf, of_placed, placed_of, own_ordered, some_resp}

module _ (decl : Declaration) (accepted : IsAccepted decl) (acts : List Act) (run : IsRun decl acts)
    (L : List CommitRecord) (rising : IsOrdered IsStampedBefore L)
    (all : (c : CommitRecord) → In c L ↔ In c (state acts).records) where
  pub wl : StateLaws decl (state acts)
  wl = laws decl acts run

  pub ll : LogLaws decl (state acts)
  ll = log_laws decl accepted acts run

  abbrev pub ops : List Placed
  ops = placed (state acts).executed L

  abbrev pub Its : Placed → Type 0
  Its p = IsOf (state acts).executed L p

  pub whose : (p : Placed) → In p (placed (state acts).executed L) → IsOf (state acts).executed L p
  whose p h = of_placed (state acts).executed L p h

  pub status_is : (p : Placed) (k : IsOf (state acts).executed L p) → (state acts).status p.tx ≡ Committed k.commit
  status_is p k = ap (state acts).status k.tx ∙ wl.written k.commit ((all k.commit).0 k.listed)

  -- records of one transaction are one
  same_commit : (p q : Placed) (k : IsOf (state acts).executed L p) (m : IsOf (state acts).executed L q) → p.tx ≡ q.tx
      → k.commit ≡ m.commit
  same_commit p q k m e = let x : Committed k.commit ≡ Committed m.commit = sym (status_is p k)
      ∙ ap (state acts).status e ∙ status_is q m in cc

  pub same_stamp : (p q : Placed) (k : IsOf (state acts).executed L p) (m : IsOf (state acts).executed L q)
      → p.tx ≡ q.tx → p.stamp ≡ q.stamp
  same_stamp p q k m e = k.stamp ∙ ap (λ (c : CommitRecord). c.stamp) (same_commit p q k m e) ∙ sym m.stamp

  pub right : (p : Placed) (k : IsOf (state acts).executed L p)
      → IsAnsweredFromQuorum decl ((state acts).epoch p.tx) (state acts).counted p.tx p.operation
  right p k = ll.right p.tx p.operation (inl k.operation)

  place_at : (p : Placed) (k : IsOf (state acts).executed L p) → IsAt ((state acts).executed p.tx) p.operation
  place_at p k = at ((state acts).executed p.tx) (ll.order p.tx) p.operation k.operation

  pub own : (b : Placed) (o : OwnLine) → In b (placed (state acts).executed L) → In o b.operation.own
      → HasOwn (placed (state acts).executed L) b o
  own b o hb ho =
      let k = whose b hb in
      let t = place_at b k in
      let f = own_of decl t.before b.operation.op.object o (subst (λ (os : List OwnLine). In o os) t.next.own ho) in
      let i = t.listed f.operation f.listed in
      record {
        by = place k.commit f.operation;
        listed = placed_of (state acts).executed L k.commit f.operation k.listed
            (subst (λ (x : TxId). In f.operation ((state acts).executed x)) k.tx i.0);
        next = record { stamp = sym k.stamp; tx = sym k.tx; number = i.1; object = f.object_is };
        some = f.some;
        is = f.is;
      }

  pub own_sorted : (b : Placed) → In b (placed (state acts).executed L) → IsOrdered IsOwnBefore b.operation.own
  own_sorted b h =
      let t = place_at b (whose b h) in
      subst (λ (os : List OwnLine). IsOrdered IsOwnBefore os) (sym t.next.own)
      (own_ordered decl t.before [] b.operation.op.object t.order)

  before : (a b : Placed) (ka : IsOf (state acts).executed L a) (kb : IsOf (state acts).executed L b) → IsNext a b
      → In a.operation (place_at b kb).before
  before a b ka kb n = (place_at b kb).all a.operation
      (subst (λ (x : TxId). In a.operation ((state acts).executed x)) n.tx ka.operation) n.number

  pub own_all : (a b : Placed) → In a (placed (state acts).executed L) → In b (placed (state acts).executed L)
      → IsNext a b → IsSome a.operation.op.resp → In (own_line a.operation) b.operation.own
  own_all a b ha hb n s =
      let kb = whose b hb in
      subst (λ (os : List OwnLine). In (own_line a.operation) os) (sym (place_at b kb).next.own)
      (own_in (place_at b kb).before a.operation b.operation.op.object (before a b (whose a ha) kb n) n.object s)

  pub grows : (a b : Placed) (l : Line) → In a (placed (state acts).executed L) → In b (placed (state acts).executed L)
      → IsNext a b → In l a.operation.view → In l b.operation.view
  grows a b l ha hb n h = let kb = whose b hb in
      (place_at b kb).next.grows a.operation l (before a b (whose a ha) kb n) n.object h

  -- the clock of a counted grant is below the stamp
  pub clock_below : (b : Placed) (k : IsOf (state acts).executed L b) (g : Granted) → In g (state acts).counted
      → g.tx ≡ b.tx → g.clock < b.stamp.clock
  clock_below b k g h e =
      let y = committed_yes decl acts run b.tx k.commit (status_is b k) g h e in
      subst (λ (s : Stamp). g.clock < s.clock) (sym k.stamp) y.1

  pub smaller : (b : Placed) (l : Line) → In b (placed (state acts).executed L) → In l b.operation.view
      → HasLine (placed (state acts).executed L) b l
  smaller b l hb h =
      let k = whose b hb in
      let s = (right b k).shown l h in
      let f = (ll.granted s.1.grant (wl.known s.1.grant s.1.counts)).volatile l s.1.shows.stands in
      let r = wl.record_of l.tx f.commit (committed_record ((state acts).status l.tx) f.commit f.committed) in
      let low : l.stamp.clock ≤ s.1.grant.clock =
      (wl.facts s.1.grant (wl.known s.1.grant s.1.counts)).passes_lines l s.1.shows.stands in
      let high : s.1.grant.clock < b.stamp.clock = clock_below b k s.1.grant s.1.counts s.1.its in
      let clock : l.stamp.clock ≡ f.commit.stamp.clock = ap (λ (x : Line). x.stamp.clock) f.is in
      record {
        by = place f.commit f.operation;
        listed = placed_of (state acts).executed L f.commit f.operation
            ((all f.commit).1 (wl.writes l.tx f.commit f.committed))
            (subst (λ (x : TxId). In f.operation ((state acts).executed x)) (sym r.named) f.listed);
        some = f.some;
        object = ap (λ (x : Line). x.object) (sym f.is) ∙ s.0;
        before = (omega arith);
        is = f.is ∙ ap (λ (x : TxId). committed_line f.commit.stamp x (own_line f.operation)) (sym r.named);
      }

  -- a view is closed at each of its lines
  closed_at : (a b : Placed) (ka : IsOf (state acts).executed L a) (kb : IsOf (state acts).executed L b)
      → In (line_of a) b.operation.view → (f : IsClosedAt decl (state acts).status
      (state acts).executed b.operation.view (line_of a)) × (f.operation ≡ a.operation)
  closed_at a b ka kb h =
      let f = ll.views b.tx b.operation (line_of a) (inl kb.operation) h in
      let number : f.operation.number ≡ a.operation.number = ap (λ (x : Line). x.op) (sym f.is) in
      (f, (place_at a ka).one f.operation f.listed number)

  pub closed : (a b : Placed) (l : Line) → In a (placed (state acts).executed L) → In b (placed (state acts).executed L)
      → In (line_of a) b.operation.view → In l a.operation.view → In l b.operation.view
  closed a b l ha hb h i = let r = closed_at a b (whose a ha) (whose b hb) h in
      r.0.view l (subst (λ (d : Executed). In l d.view) (sym r.1) i)

  -- an operation with a response on a declared object: its event's number is one of the type's
  pub event_low : (a : Placed) (k : IsOf (state acts).executed L a) → IsSome a.operation.op.resp
      → a.operation.event < length (events_of (right a k).answered.kind.table.rows)
  event_low a k s = let r = some_resp a.operation.op.resp s in
      number_within (right a k).answered.kind a.operation.op.inv a.operation.event a.operation.op.resp r.0 r.1
      (right a k).answered.numbered

  -- a depends on what b reads
  unfoldable pub depended : (a b : Placed) (ka : IsOf (state acts).executed L a) (kb : IsOf (state acts).executed L b)
      → a.operation.op.object ≡ b.operation.op.object → IsSome a.operation.op.resp
      → IsTrue (depends_at decl b.operation.op.object b.operation.op.inv a.operation.event)
      → IsDependedOn decl b.operation.op.object a.operation.event
  depended a b ka kb object s dep =
      let ra = right a ka in
      let rb = right b kb in
      let kinds : Some ra.answered.kind ≡ Some rb.answered.kind = sym ra.answered.typed ∙ ap (kind_at decl) object
      ∙ rb.answered.typed in
      let kind : ra.answered.kind ≡ rb.answered.kind = cc in
      record {
        inv = b.operation.op.inv;
        kind = rb.answered.kind;
        typed = rb.answered.typed;
        low = rb.known rb.answered.kind rb.answered.typed;
        within = subst (λ (k : Kind). a.operation.event < length (events_of k.table.rows)) kind (event_low a ka s);
        depends = dep;
      }

  pub plan_of : (p : Placed) (k : IsOf (state acts).executed L p)
      → (plan : Plan) × (plan_in decl ((state acts).epoch p.tx) ≡ Some plan)
  plan_of p k = wl.planned p.tx (ll.begun p.tx p.operation (inl k.operation))

  pub closed_own : (c a b : Placed) → In c (placed (state acts).executed L) → In a (placed (state acts).executed L)
      → In b (placed (state acts).executed L) → In (line_of a) b.operation.view → IsNext c a
      → IsSome c.operation.op.resp
      → IsTrue (depends_at decl a.operation.op.object a.operation.op.inv c.operation.event)
      → In (line_of c) b.operation.view
  closed_own c a b hc ha hb h n s dep =
      let r = closed_at a b (whose a ha) (whose b hb) h in
      let need = depended c a (whose c hc) (whose a ha) n.object s dep in
      let there = r.0.own (own_line c.operation)
      (subst (λ (d : Executed). In (own_line c.operation) d.own) (sym r.1) (own_all c a hc ha n s))
      (subst (λ (o : ℕ). IsDependedOn decl o c.operation.event) (sym n.object) need) in
      subst (λ (l : Line). In l b.operation.view)
      (ap (λ (x : Stamp). committed_line x a.tx (own_line c.operation)) (sym n.stamp)
      ∙ ap (λ (x : TxId). committed_line c.stamp x (own_line c.operation)) (sym n.tx)) there
