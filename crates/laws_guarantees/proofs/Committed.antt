-- Of a live transaction and one that has committed, and of two live ones: what the machine says of their operations,
-- one of which depends on the other.
use Rattle.std.proofs.Common.{◌≡◌, ◌≢◌, ◌⊎◌, ◌≤◌, ◌+◌, ℕ, zero, suc, IsTrue, List, [], ◌∷◌, ◌++◌, inl, inr, length, map}
use Rattle.std.proofs.Common.{Option, Some, IsSome, slice_get, refl, sym, ap, ◌∙◌, subst, arith}
use Rattle.std.specs.Prelude.{option_and_then}
use Rattle.std.proofs.lemmas.List.{length-append}
use Rattle.qc_stamp.specs.declared.stamp.Stamp.{Stamp}
use Rattle.qc_stamp.specs.declared.stamp.TxId.{TxId}
use Rattle.qc_list.specs.Vocabulary.{In}
use Rattle.qc_entry.specs.declared.line.Line.{Line}
use Rattle.qc_entry.specs.declared.line.Op.{Op}
use Rattle.qc_entry.specs.declared.record.Commit.{Commit as CommitRecord}
use Rattle.qc_table.specs.Vocabulary.{Rules, event, event_number, events_of}
use Rattle.qc_decl.specs.declared.declaration.Declaration.{Declaration}
use Rattle.qc_decl.specs.Vocabulary.{IsAccepted}
use Rattle.theory_onecopy.specs.Vocabulary.{Executed, IsOperation, committed_line, depends_at, event_at, own_line}
use Rattle.theory_onecopy.proofs.Lists.{Mapped, map_in}
use Rattle.theory_onecopy.proofs.Runs.{table_is}
use Rattle.qc_promise.specs.Vocabulary.{Current, view_of}
use Rattle.theory_machine.specs.Vocabulary.{Aborted, Act, Active, AreInOrder, Committed, IsLive, IsOutcome}
use Rattle.theory_machine.specs.Vocabulary.{IsRun, LogLaws, StateLaws, Status, YesVote, op_of, state}
use Rattle.theory_machine.specs.State as machine
use Rattle.theory_machine.proofs.Keeps.{laws}
use Rattle.theory_machine.proofs.LogKeeps.{log_laws}
use Rattle.theory_machine.proofs.Outcomes.{committed_record}
use Rattle.laws_guarantees.proofs.Live.{Live, no_outcome, not_aborted}
use Rattle.laws_guarantees.proofs.Machine.{ordered_now}
use Rattle.laws_guarantees.proofs.Paired.{IsPassed, IsSeen}
use Rattle.laws_guarantees.proofs.Settled.{IsSafe}

-- the operation at a place
record IsNth (ds : List Executed) (from at : ℕ) (op : Op) : Type 0 where
  pub operation : Executed
  pub listed : In operation ds
  pub numbered : operation.number ≡ from + at + 1
  pub is : operation.op ≡ op

nth : (ds earlier : List Executed) → AreInOrder earlier ds → (at : ℕ) (op : Op) → slice_get (map op_of ds) at ≡ Some op
    → IsNth ds (length earlier) at op
nth [] earlier o at op h = absurd (let never : ⊥ = cc in never)
nth (e ∷ es) earlier o zero op h = record {
  operation = e;
  listed = inl refl;
  numbered =
      (let n : e.number ≡ suc (length earlier) = o.0.numbered in omega arith);
  is = cc;
}
nth (e ∷ es) earlier o (suc at) op h =
    let r = nth es (earlier ++ e ∷ []) o.1 at op h in
    let l = length-append earlier (e ∷ []) in
    let n : r.operation.number ≡ length (earlier ++ e ∷ []) + at + 1 = r.numbered in
    record { operation = r.operation; listed = inr r.listed; numbered = (omega arith); is = r.is }

live_guard : (s : Status) → (s ≡ Active) ⊎ (s ≡ machine.Voting) → IsLive s
live_guard s (inl a) = subst IsLive (sym a) tt
live_guard s (inr v) = subst IsLive (sym v) tt

module _ (decl : Declaration) (accepted : IsAccepted decl) (acts : List Act) (run : IsRun decl acts) where
  wl : StateLaws decl (state acts)
  wl = laws decl acts run

  ll : LogLaws decl (state acts)
  ll = log_laws decl accepted acts run

  -- the operation of a line of these operations
  pub record IsOperationOf (tx : TxId) (number object number_of_event : ℕ) : Type 0 where
    pub operation : Executed
    pub listed : In operation ((state acts).executed tx)
    pub some : IsSome operation.op.resp
    pub op : number ≡ operation.number
    pub object_is : object ≡ operation.op.object
    pub event_is : number_of_event ≡ operation.event

  pub operation_of : (tx : TxId) (ops : List Op) (number object number_of_event : ℕ)
      → ops ≡ map op_of ((state acts).executed tx) → IsOperation decl ops number object number_of_event
      → IsOperationOf tx number object number_of_event
  operation_of tx ops number object number_of_event are o =
      let k = nth ((state acts).executed tx) [] (ll.order tx) o.place o.operation
      (ap (λ (os : List Op). slice_get os o.place) (sym are) ∙ o.found) in
      let a = (ll.right tx k.operation (inl k.listed)).answered in
      let responded : k.operation.op.resp ≡ Some o.resp = ap (λ (x : Op). x.resp) k.is ∙ o.responded in
      let at_table : event_at decl k.operation.op.object k.operation.op.inv o.resp ≡ Some k.operation.event =
      ap (option_and_then (λ (rules : Rules). event_number (events_of rules.rows) (event k.operation.op.inv o.resp)))
      (table_is decl k.operation.op.object a.kind a.typed) ∙ a.numbered o.resp responded in
      let at_line : event_at decl k.operation.op.object k.operation.op.inv o.resp ≡ Some number_of_event =
      ap (λ (x : Op). event_at decl x.object x.inv o.resp) k.is ∙ o.is_event in
      let events : Some number_of_event ≡ Some k.operation.event = sym at_line ∙ at_table in
      let n : k.operation.number ≡ 0 + o.place + 1 = k.numbered in
      let m : number ≡ o.place + 1 = o.numbered in
      record {
        operation = k.operation;
        listed = k.listed;
        some = subst (λ (x : Option ℕ). IsSome x) (sym responded) refl;
        op = omega arith;
        object_is = sym (ap (λ (x : Op). x.object) k.is ∙ o.on);
        event_is = cc;
      }

  -- a record that stands: its transaction committed by it, with its operations
  pub committed_ops : (c : CommitRecord) → In c (state acts).records → c.ops ≡ map op_of ((state acts).executed c.tx)
  committed_ops c h = (wl.record_of c.tx c (committed_record ((state acts).status c.tx) c (wl.written c h))).ops

  alive : (c : CommitRecord) → In c (state acts).records → (state acts).status c.tx ≢ Aborted
  alive c h e = let same : Committed c ≡ Aborted = sym (wl.written c h) ∙ e in let never : ⊥ = cc in never

  its_stamp : (c : CommitRecord) → In c (state acts).records → (stamp : Stamp)
      → IsOutcome ((state acts).status c.tx) (Some stamp) → c.stamp ≡ stamp
  its_stamp c h stamp o = subst (λ (s : Status). IsOutcome s (Some stamp)) (wl.written c h) o

  -- it is safe: all sites whose grants it counted have voted for it
  pub committed_safe : (c : CommitRecord) → In c (state acts).records → IsSafe acts c.tx
  committed_safe c h g counts its =
      inr (subst (λ (x : TxId). In {X = YesVote} (record { tx = x; site = g.site }) (state acts).votes) (sym its)
      ((wl.record_of c.tx c (committed_record ((state acts).status c.tx) c (wl.written c h))).agreed g counts
      its).0)

  -- two live transactions that are safe don't depend on each other
  pub both_live : (t u : Current) (m n : ℕ) → Live (state acts) t m → Live (state acts) u n → IsSafe acts t.tx
      → IsSafe acts u.tx → u.tx ≢ t.tx → (op : Op) (number object number_of_event : ℕ) → In op t.ops
      → IsOperation decl u.ops number object number_of_event → object ≡ op.object
      → IsTrue (depends_at decl op.object op.inv number_of_event) → ⊥
  both_live t u m n lt lu st su ne op number object number_of_event among operation on depends =
      elim (ordered_now decl accepted acts run t.tx u.tx v.from o.operation v.listed o.listed o.some
      (sym o.object_is ∙ on ∙ ap (λ (x : Op). x.object) v.is) ne
      (not_aborted ((state acts).status t.tx) lt.active) (not_aborted ((state acts).status u.tx) lu.active) st su
      (subst (λ (x : Op). IsTrue (depends_at decl x.object x.inv o.operation.event)) v.is
      (subst (λ (k : ℕ). IsTrue (depends_at decl op.object op.inv k)) o.event_is depends))) [
        | inl s ↦ no_outcome ((state acts).status u.tx) lu.active (Some s.stamp) s.outcome
        | inr p ↦ no_outcome ((state acts).status t.tx) lt.active (Some p.stamp) p.outcome
      ]
    where
      v : Mapped op_of op ((state acts).executed t.tx)
      v = map_in op_of op ((state acts).executed t.tx) (subst (In op) lt.ops among)

      o : IsOperationOf u.tx number object number_of_event
      o = operation_of u.tx u.ops number object number_of_event lu.ops operation

  module _ (t : Current) (clock : ℕ) (l : Live (state acts) t clock) (safe : IsSafe acts t.tx) (d : CommitRecord)
      (hd : In d (state acts).records) (ne : d.tx ≢ t.tx) where
    -- the reader is live, and the writer has committed
    pub reader_sees : (op : Op) (line : Line) → In op t.ops → line.stamp ≡ d.stamp → line.tx ≡ d.tx
        → IsOperation decl d.ops line.op line.object line.event → line.object ≡ op.object
        → IsTrue (depends_at decl op.object op.inv line.event)
        → In line (view_of t op.object) × (line.stamp.clock ≤ clock)
    reader_sees op line among stamped named operation on depends =
        elim (ordered_now decl accepted acts run t.tx d.tx v.from u.operation v.listed u.listed u.some objects ne
        (not_aborted ((state acts).status t.tx) l.active) (alive d hd) safe (committed_safe d hd)
        (subst (λ (x : Op). IsTrue (depends_at decl x.object x.inv u.operation.event)) v.is
        (subst (λ (n : ℕ). IsTrue (depends_at decl op.object op.inv n)) u.event_is depends))) [
          | inl s ↦ seen s
          | inr p ↦ absurd (no_outcome ((state acts).status t.tx) l.active (Some p.stamp) p.outcome)
        ]
      where
        v : Mapped op_of op ((state acts).executed t.tx)
        v = map_in op_of op ((state acts).executed t.tx) (subst (In op) l.ops among)

        u : IsOperationOf d.tx line.op line.object line.event
        u = operation_of d.tx d.ops line.op line.object line.event (committed_ops d hd) operation

        objects : u.operation.op.object ≡ v.from.op.object
        objects = sym u.object_is ∙ on ∙ ap (λ (x : Op). x.object) v.is

        seen : IsSeen decl accepted acts run t.tx d.tx v.from u.operation
            → In line (view_of t op.object) × (line.stamp.clock ≤ clock)
        seen s =
            let stamp : line.stamp ≡ s.stamp = stamped ∙ its_stamp d hd s.stamp s.outcome in
            let line_is : line ≡ committed_line s.stamp d.tx (own_line u.operation) =
            (λ i. record {
              stamp = stamp i;
              tx = named i;
              op = u.op i;
              object = u.object_is i;
              event = u.event_is i;
            }) in
            let shown = (ll.right t.tx v.from (inl v.listed)).shown
            (committed_line s.stamp d.tx (own_line u.operation)) s.line in
            let there : In (committed_line s.stamp d.tx (own_line u.operation)) (view_of t u.operation.op.object) =
            l.view (committed_line s.stamp d.tx (own_line u.operation)) shown.1 in
            let counted : s.grant.clock ≤ (state acts).clock s.grant.tx.client =
            wl.passed s.grant s.counts (subst (λ (x : TxId). IsLive ((state acts).status x)) (sym s.its)
            (live_guard ((state acts).status t.tx) l.active)) in
            let client : (state acts).clock s.grant.tx.client ≡ (state acts).clock t.tx.client =
            ap (λ (x : TxId). (state acts).clock x.client) s.its in
            let low : s.stamp.clock ≤ s.grant.clock = s.low in
            let high : (state acts).clock t.tx.client ≤ clock = l.passed in
            let clocks : line.stamp.clock ≡ s.stamp.clock = ap (λ (x : Stamp). x.clock) stamp in (
              subst (λ (x : Line). In x (view_of t op.object)) (sym line_is)
                  (subst (λ (n : ℕ). In (committed_line s.stamp d.tx (own_line u.operation)) (view_of t n))
                  (sym u.object_is ∙ on) there),
              omega arith,
            )

    -- the writer is live, and the reader has committed
    pub writer_passes : (op : Op) (number object number_of_event : ℕ) → In op d.ops
        → IsOperation decl t.ops number object number_of_event → object ≡ op.object
        → IsTrue (depends_at decl op.object op.inv number_of_event) → d.stamp.clock ≤ clock
    writer_passes op number object number_of_event among operation on depends =
        elim (ordered_now decl accepted acts run d.tx t.tx v.from u.operation v.listed u.listed u.some objects
        (λ x. ne (sym x)) (alive d hd) (not_aborted ((state acts).status t.tx) l.active) (committed_safe d hd) safe
        (subst (λ (x : Op). IsTrue (depends_at decl x.object x.inv u.operation.event)) v.is
        (subst (λ (n : ℕ). IsTrue (depends_at decl op.object op.inv n)) u.event_is depends))) [
          | inl s ↦ absurd (no_outcome ((state acts).status t.tx) l.active (Some s.stamp) s.outcome)
          | inr p ↦ passed p
        ]
      where
        v : Mapped op_of op ((state acts).executed d.tx)
        v = map_in op_of op ((state acts).executed d.tx) (subst (In op) (committed_ops d hd) among)

        u : IsOperationOf t.tx number object number_of_event
        u = operation_of t.tx t.ops number object number_of_event l.ops operation

        objects : u.operation.op.object ≡ v.from.op.object
        objects = sym u.object_is ∙ on ∙ ap (λ (x : Op). x.object) v.is

        passed : IsPassed decl accepted acts run d.tx t.tx → d.stamp.clock ≤ clock
        passed p =
            let stamp : d.stamp.clock ≡ p.stamp.clock =
            ap (λ (x : Stamp). x.clock) (its_stamp d hd p.stamp p.outcome) in
            let counted : p.grant.clock ≤ (state acts).clock p.grant.tx.client =
            wl.passed p.grant p.counts (subst (λ (x : TxId). IsLive ((state acts).status x)) (sym p.its)
            (live_guard ((state acts).status t.tx) l.active)) in
            let client : (state acts).clock p.grant.tx.client ≡ (state acts).clock t.tx.client =
            ap (λ (x : TxId). (state acts).clock x.client) p.its in
            let low : p.stamp.clock ≤ p.grant.clock = p.low in
            let high : (state acts).clock t.tx.client ≤ clock = l.passed in
            omega arith
