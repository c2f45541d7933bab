-- Each log of a run is closed at each of its lines, and each of its lines is an operation of a record.
use Rattle.std.proofs.Common.{◌≡◌, ℕ, zero, suc, ◌+◌, inl, inr, List, [], ◌∷◌, ◌++◌, map, length, slice_get, Option}
use Rattle.std.proofs.Common.{Some, None, IsSome, refl, sym, ap, ◌∙◌, subst, arith}
use Rattle.std.specs.Prelude.{option_and_then}
use Rattle.std.proofs.lemmas.List.{length-append}
use Rattle.qc_entry.specs.declared.line.Line.{Line}
use Rattle.qc_entry.specs.declared.line.Op.{Op}
use Rattle.qc_entry.specs.declared.record.Commit.{Commit as CommitRecord}
use Rattle.qc_table.specs.Vocabulary.{Rules, event, event_number, events_of}
use Rattle.qc_decl.specs.declared.declaration.Declaration.{Declaration}
use Rattle.qc_decl.specs.Vocabulary.{IsAccepted}
use Rattle.theory_onecopy.specs.Vocabulary.{Executed, IsLogged, committed_line, event_at, own_line}
use Rattle.qc_list.specs.Vocabulary.{In}
use Rattle.theory_onecopy.proofs.Runs.{table_is}
use Rattle.theory_machine.specs.Vocabulary.{Act, AreInOrder, IsClosedAt, IsLogOf, IsRun, LogLaws, OfAppend, OfDecision}
use Rattle.theory_machine.specs.Vocabulary.{OfGrant, OfSite, OfSnapshot, StateLaws, op_of, state}
use Rattle.theory_machine.proofs.Outcomes.{committed_record}
use Rattle.theory_machine.proofs.Keeps.{laws}
use Rattle.theory_machine.proofs.LogKeeps.{log_laws}

-- the place of an operation is its number
pub record IsThere (ds : List Executed) (d : Executed) (from : ℕ) : Type 0 where
  pub at : ℕ
  pub numbered : d.number ≡ from + at + 1
  pub found : slice_get (map op_of ds) at ≡ Some d.op

there : (ds earlier : List Executed) → AreInOrder earlier ds → (d : Executed) → In d ds → IsThere ds d (length earlier)
there [] earlier o d h = absurd h
there (e ∷ es) earlier o d (inl same) =
    record {
      at = 0;
      numbered = (let n : e.number ≡ suc (length earlier) = o.0.numbered in
          let m : d.number ≡ e.number = ap (λ (x : Executed). x.number) same in omega arith);
      found = ap (λ (x : Executed). Some x.op) (sym same);
    }
there (e ∷ es) earlier o d (inr h) =
    let r = there es (earlier ++ e ∷ []) o.1 d h in
    let l = length-append earlier (e ∷ []) in
    let n : d.number ≡ length (earlier ++ e ∷ []) + r.at + 1 = r.numbered in
    record { at = suc r.at; numbered = (omega arith); found = r.found }

module _ (decl : Declaration) (accepted : IsAccepted decl) where
  module _ (acts : List Act) (run : IsRun decl acts) where
    wl : StateLaws decl (state acts)
    wl = laws decl acts run

    ll : LogLaws decl (state acts)
    ll = log_laws decl accepted acts run

    -- a line that is closed at is an operation of a record
    pub logged : (log : List Line) (l : Line) → IsClosedAt decl (state acts).status (state acts).executed log l
        → IsLogged decl (state acts).records l
    logged log l f =
        let r = wl.record_of l.tx f.commit (committed_record ((state acts).status l.tx) f.commit f.committed) in
        let t = there ((state acts).executed l.tx) [] (ll.order l.tx) f.operation f.listed in
        let a = (ll.right l.tx f.operation (inl f.listed)).answered in
        let s = resp_of f.operation.op.resp f.some in
        let number : l.op ≡ f.operation.number = ap (λ (x : Line). x.op) f.is in
        let object : l.object ≡ f.operation.op.object = ap (λ (x : Line). x.object) f.is in
        let event_is : l.event ≡ f.operation.event = ap (λ (x : Line). x.event) f.is in
        let n : f.operation.number ≡ 0 + t.at + 1 = t.numbered in
        let place_is : l.op ≡ t.at + 1 = (omega arith) in
        record {
          commit = f.commit;
          listed = wl.writes l.tx f.commit f.committed;
          stamped = ap (λ (x : Line). x.stamp) f.is;
          named = sym r.named;
          operation = record {
            place = t.at;
            numbered = place_is;
            operation = f.operation.op;
            found = ap (λ (os : List Op). slice_get os t.at) r.ops ∙ t.found;
            on = sym object;
            resp = s.0;
            responded = s.1;
            is_event =
                ap (option_and_then (λ (rules : Rules). event_number (events_of rules.rows)
                (event f.operation.op.inv s.0))) (table_is decl f.operation.op.object a.kind a.typed)
                ∙ a.numbered s.0 s.1 ∙ ap (λ (x : ℕ). Some x) (sym event_is);
          };
        }
      where
        resp_of : (o : Option ℕ) → IsSome o → (r : ℕ) × (o ≡ Some r)
        resp_of None h = absurd (let never : ⊥ = cc in never)
        resp_of (Some r) h = (r, refl)

    -- a log that is one of these
    on_log : {log known : List Line} → log ≡ known
        → ((l : Line) → In l known → IsClosedAt decl (state acts).status (state acts).executed known l)
        → (l : Line) → In l log → IsClosedAt decl (state acts).status (state acts).executed log l
    on_log is each l h =
        subst (λ (x : List Line). IsClosedAt decl (state acts).status (state acts).executed x l) (sym is)
        (each l (subst (λ (x : List Line). In l x) is h))

    -- a log is closed at each of its lines
    pub closed_at : (log : List Line) → IsLogOf (state acts) log → (l : Line) → In l log
        → IsClosedAt decl (state acts).status (state acts).executed log l
    closed_at log (OfSite site is) l h = on_log is ((ll.sites site).volatile) l h
    closed_at log (OfGrant g i is) l h = on_log is ((ll.granted g i).volatile) l h
    closed_at log (OfSnapshot s i is) l h = on_log is ((ll.snapshots s i).volatile) l h
    closed_at log (OfAppend s i is) l h = on_log is ((ll.appends s i).closed_at) l h
    closed_at log (OfDecision d i is) l h = on_log is (λ m k. ll.decided d m i k) l h

    -- the operation of a logged line
    pub record IsOperationOf (m : Line) : Type 0 where
      pub commit : CommitRecord
      pub listed : In commit (state acts).records
      pub operation : Executed
      pub executed_in : In operation ((state acts).executed commit.tx)
      pub some : IsSome operation.op.resp
      pub is : m ≡ committed_line commit.stamp commit.tx (own_line operation)

    pub record IsNth (ds : List Executed) (from at : ℕ) (op : Op) : Type 0 where
      pub operation : Executed
      pub listed : In operation ds
      pub numbered : operation.number ≡ from + at + 1
      pub is : operation.op ≡ op

    nth : (ds earlier : List Executed) → AreInOrder earlier ds → (at : ℕ) (op : Op)
        → slice_get (map op_of ds) at ≡ Some op → IsNth ds (length earlier) at op
    nth [] earlier o at op h = absurd (let never : ⊥ = cc in never)
    nth (e ∷ es) earlier o zero op h =
        record {
          operation = e;
          listed = inl refl;
          numbered = (let n : e.number ≡ suc (length earlier) = o.0.numbered in omega arith);
          is = cc;
        }
    nth (e ∷ es) earlier o (suc at) op h =
        let r = nth es (earlier ++ e ∷ []) o.1 at op h in
        let l = length-append earlier (e ∷ []) in
        let n : r.operation.number ≡ length (earlier ++ e ∷ []) + at + 1 = r.numbered in
        record { operation = r.operation; listed = inr r.listed; numbered = (omega arith); is = r.is }

    pub operation_of : (m : Line) → IsLogged decl (state acts).records m → IsOperationOf m
    operation_of m g =
        let o = g.operation in
        let r =
        wl.record_of g.commit.tx g.commit
        (committed_record ((state acts).status g.commit.tx) g.commit (wl.written g.commit g.listed)) in
        let k =
        nth ((state acts).executed g.commit.tx) [] (ll.order g.commit.tx) o.place o.operation
        (ap (λ (os : List Op). slice_get os o.place) (sym r.ops) ∙ o.found) in
        let a = (ll.right g.commit.tx k.operation (inl k.listed)).answered in
        let responded : k.operation.op.resp ≡ Some o.resp = ap (λ (x : Op). x.resp) k.is ∙ o.responded in
        let at_table : event_at decl k.operation.op.object k.operation.op.inv o.resp ≡ Some k.operation.event =
        ap (option_and_then (λ (rules : Rules). event_number (events_of rules.rows) (event k.operation.op.inv o.resp)))
        (table_is decl k.operation.op.object a.kind a.typed) ∙ a.numbered o.resp responded in
        let at_line : event_at decl k.operation.op.object k.operation.op.inv o.resp ≡ Some m.event =
        ap (λ (x : Op). event_at decl x.object x.inv o.resp) k.is ∙ o.is_event in
        let events : Some m.event ≡ Some k.operation.event = sym at_line ∙ at_table in
        let event_is : m.event ≡ k.operation.event = cc in
        let object_is : m.object ≡ k.operation.op.object = sym (ap (λ (x : Op). x.object) k.is ∙ o.on) in
        let n : k.operation.number ≡ 0 + o.place + 1 = k.numbered in
        let n' : m.op ≡ o.place + 1 = o.numbered in
        let number : m.op ≡ k.operation.number = (omega arith) in
        record {
          commit = g.commit;
          listed = g.listed;
          operation = k.operation;
          executed_in = k.listed;
          some = subst (λ (x : Option ℕ). IsSome x) (sym responded) refl;
          is =
              λ i. record {
                stamp = g.stamped i;
                tx = g.named i;
                op = number i;
                object = object_is i;
                event = event_is i;
              };
        }
