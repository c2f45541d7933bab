-- The ordering lemma of every run. If the writer's record was there at the moment, the reader was live in the machine
-- of that moment and the writer had committed: so the line was in the view. It wasn't written between the moment and
-- the reader's record: both would have been live. If it was written later, its client's clock had passed the reader's
-- stamp.
use Rattle.std.proofs.Common.{[], ◌≡◌, ◌≢◌, ◌≤◌, ◌+◌, ◌-◌, Bool, true, List, ◌∷◌, ◌++◌, inl, inr, Some, slice_get, refl}
use Rattle.std.proofs.Common.{sym, ap, ◌∙◌, subst, arith, append_assoc}
use Rattle.std.specs.Prelude.{fold}
use Rattle.std.proofs.lemmas.List.{append-nil}
use Rattle.std.proofs.lemmas.List.Sums.{fold-append}
use Rattle.std.proofs.lemmas.List.Elements.{filter_map-append}
use Rattle.qc_stamp.specs.declared.stamp.Stamp.{Stamp}
use Rattle.qc_list.specs.Vocabulary.{In}
use Rattle.qc_list.proofs.Members.{In-second, In-either}
use Rattle.qc_entry.specs.declared.line.Line.{Line}
use Rattle.qc_entry.specs.declared.line.Op.{Op}
use Rattle.qc_entry.specs.declared.record.Commit.{Commit as CommitRecord}
use Rattle.qc_core.specs.Vocabulary.{IsLawful}
use Rattle.qc_decl.specs.declared.declaration.Declaration.{Declaration}
use Rattle.qc_decl.specs.Vocabulary.{IsAccepted, is_client}
use Rattle.qc_msg.specs.Vocabulary.{Deed, Entry, commit_in, deeds, mail, written}
use Rattle.qc_msg.proofs.DeedsGrow.{deeds-append}
use Rattle.theory_onecopy.specs.Vocabulary.{IsOperation}
use Rattle.qc_promise.specs.Vocabulary.{Account, Current, account, account_at, new_account, view_of}
use Rattle.laws_due.specs.Vocabulary.{AreByRows}
use Rattle.qc_script.specs.Vocabulary.{IsScriptFor, Runs}
use Rattle.qc_script.specs.declared.script.Script.{Script}
use Rattle.laws_turns.proofs.Acted.{has_entry}
use Rattle.laws_refinement.specs.Vocabulary.{Refines}
use Rattle.laws_guarantees.proofs.ClockLaw.{clock_rises}
use Rattle.laws_guarantees.specs.Vocabulary.{DependsOn, IsOrdered, IsToldBy}
use Rattle.laws_guarantees.proofs.Committed.{both_live, reader_sees, writer_passes}
use Rattle.laws_guarantees.proofs.Live.{live, mirror, stood}
use Rattle.laws_guarantees.proofs.Persists.{due_back, persists}
use Rattle.laws_guarantees.proofs.Safe.{safe_in_first_lives}
use Rattle.laws_guarantees.proofs.Moments.{IsWrittenIn, Moment, moment, wrote, writer, written_in}
use Rattle.laws_guarantees.proofs.RecordsDue.{within, IsDueThere, due_there, at_record}

module _ (decl : Declaration) (script : Script) (accepted : IsAccepted decl) (sound : IsScriptFor decl script)
    (h : List Entry) (open_inputs : List Bool) (run : Runs (IsLawful decl) decl script h open_inputs) where
  module _ (c : CommitRecord) (op : Op) (t : Current) (k : IsToldBy decl script h c op t) (line : Line)
      (d : DependsOn decl h c op line) where
    abbrev before : List Entry
    before = k.early ++ k.middle

    client : is_client decl k.actor ≡ true
    client =
        writer decl script accepted sound before k.actor c
        (moment decl script h open_inputs run before k.actor c k.after k.stands)

    at : IsDueThere decl script accepted sound h open_inputs run before k.actor c
    at = due_there decl script accepted sound h open_inputs run before k.actor c k.after k.stands client

    other : d.logged.commit.tx ≢ c.tx
    other x = d.apart (d.logged.named ∙ x)

    -- a moment's slot
    slot_at : (e : List Entry) (slots : List Bool) → Runs (IsLawful decl) decl script e slots
        → (t : Bool) × (slice_get slots k.actor ≡ Some t)
    slot_at e slots r =
        has_entry (IsLawful decl) decl script e slots r k.actor
        (within decl script accepted sound h open_inputs run k.actor client)

    -- the deeds until the record: those until the moment, and later ones
    grows : (x y : List Entry) → k.middle ≡ x ++ y
        → deeds k.actor [] before
        ≡ deeds k.actor [] k.early ++ (deeds k.actor (mail k.early) x ++ deeds k.actor (mail k.early ++ mail x) y)
    grows x y is =
        deeds-append k.actor [] k.early k.middle
        ∙ ap (λ (ds : List Deed). deeds k.actor [] k.early ++ ds)
        (ap (deeds k.actor (mail k.early)) is ∙ deeds-append k.actor (mail k.early) x y)

    -- the writer's record was there at the moment

    abbrev then : Refines decl (stood decl script accepted sound k.early k.open_inputs k.run).net
    then = mirror decl script accepted sound k.early k.open_inputs k.run

    seen : In d.logged.commit (written k.early)
        → In line (view_of t op.object) × (line.stamp.clock ≤ (account decl k.actor k.early).clock)
    seen among = reader_sees decl accepted then.acts then.run t (account decl k.actor k.early).clock
        (live decl script accepted sound k.early k.open_inputs k.run k.actor client
        (slot_at k.early k.open_inputs k.run) t k.begun)
        (safe_in_first_lives decl script accepted sound k.early k.open_inputs k.run t.tx)
        d.logged.commit (then.agrees.records d.logged.commit
        (subst (In d.logged.commit) (sym (stood decl script accepted sound k.early k.open_inputs k.run).written_is)
        among))
        (λ x. other (x ∙ k.its)) op line k.told d.logged.stamped d.logged.named d.logged.operation d.on d.depends

    rises : (account decl k.actor k.early).clock ≤ (account decl k.actor before).clock
    rises =
        let whole : deeds k.actor [] before ≡ deeds k.actor [] k.early ++ deeds k.actor (mail k.early) k.middle =
        deeds-append k.actor [] k.early k.middle in
        let due : AreByRows decl (account decl k.actor k.early) (deeds k.actor (mail k.early) k.middle) =
        due_back decl (deeds k.actor [] k.early) (deeds k.actor (mail k.early) k.middle)
        (new_account (k.actor - decl.sites))
        (subst (AreByRows decl (new_account (k.actor - decl.sites))) whole at.due) in
        let rest : (account decl k.actor k.early).clock
        ≤ (fold (account_at decl) (account decl k.actor k.early) (deeds k.actor (mail k.early) k.middle)).clock =
        clock_rises decl (deeds k.actor (mail k.early) k.middle) (account decl k.actor k.early) due in
        let same : (account decl k.actor before).clock
        ≡ (fold (account_at decl) (account decl k.actor k.early) (deeds k.actor (mail k.early) k.middle)).clock =
        ap (λ (a : Account). a.clock)
        (ap (fold (account_at decl) (new_account (k.actor - decl.sites))) whole
        ∙ fold-append (account_at decl) (new_account (k.actor - decl.sites)) (deeds k.actor [] k.early)
        (deeds k.actor (mail k.early) k.middle)) in
        omega arith

    was_there : In d.logged.commit (written k.early) → IsOrdered (view_of t op.object) line c.stamp
    was_there among =
        let r : In line (view_of t op.object) × (line.stamp.clock ≤ (account decl k.actor k.early).clock) =
        seen among in
        let low : line.stamp.clock ≤ (account decl k.actor k.early).clock = r.1 in
        let mid : (account decl k.actor k.early).clock ≤ (account decl k.actor before).clock = rises in
        let next : c.stamp.clock ≡ (account decl k.actor before).clock + 1 = at.stamp in
        inl (record { seen = r.0; before = omega arith })

    -- it can't have been written between the moment and the reader's record

    module _ (w : IsWrittenIn k.middle d.logged.commit) where
      abbrev between : List Entry
      between = k.early ++ w.before

      amid : h ≡ between ++ wrote w.actor d.logged.commit ∷ (w.after ++ wrote k.actor c ∷ k.after)
      amid = k.stands ∙ append_assoc k.early k.middle (wrote k.actor c ∷ k.after)
          ∙ ap (λ (x : List Entry). k.early ++ (x ++ wrote k.actor c ∷ k.after)) w.stands
          ∙ ap (λ (x : List Entry). k.early ++ x)
          (append_assoc w.before (wrote w.actor d.logged.commit ∷ w.after) (wrote k.actor c ∷ k.after))
          ∙ sym (append_assoc k.early w.before (wrote w.actor d.logged.commit ∷ (w.after ++ wrote k.actor c ∷ k.after)))

      n : Moment decl script between w.actor d.logged.commit
      n =
          moment decl script h open_inputs run between w.actor d.logged.commit (w.after ++ wrote k.actor c ∷ k.after)
          amid

      writing : is_client decl w.actor ≡ true
      writing = writer decl script accepted sound between w.actor d.logged.commit n

      there : IsDueThere decl script accepted sound h open_inputs run between w.actor d.logged.commit
      there =
          due_there decl script accepted sound h open_inputs run between w.actor d.logged.commit
          (w.after ++ wrote k.actor c ∷ k.after) amid writing

      -- the reader's transaction is begun then, with the operation
      still : (s : Current) × ((account decl k.actor between).current ≡ Some s) × (s.tx ≡ t.tx) × In op s.ops
      still =
          let whole = grows w.before (wrote w.actor d.logged.commit ∷ w.after) w.stands in
          let p = persists decl (k.actor - decl.sites) (deeds k.actor [] k.early)
          (deeds k.actor (mail k.early) w.before)
          (deeds k.actor (mail k.early ++ mail w.before) (wrote w.actor d.logged.commit ∷ w.after)) t at.t op
          (subst (AreByRows decl (new_account (k.actor - decl.sites))) whole at.due) k.begun k.told
          (subst (λ (ds : List Deed). (fold (account_at decl) (new_account (k.actor - decl.sites)) ds).current
          ≡ Some at.t) whole at.begun) (sym at.tx ∙ sym k.its) in (
            p.0,
            subst (λ (ds : List Deed). (fold (account_at decl) (new_account (k.actor - decl.sites)) ds).current
                ≡ Some p.0) (sym (deeds-append k.actor [] k.early w.before)) p.1,
            p.2,
            p.3,
          )

      abbrev amidst : Refines decl (stood decl script accepted sound between n.open_inputs n.run).net
      amidst = mirror decl script accepted sound between n.open_inputs n.run

      pub never_between : ⊥
      never_between =
          both_live decl accepted amidst.acts amidst.run still.0 there.t (account decl k.actor between).clock
          (account decl w.actor between).clock
          (live decl script accepted sound between n.open_inputs n.run k.actor client
          (slot_at between n.open_inputs n.run) still.0 still.1)
          (live decl script accepted sound between n.open_inputs n.run w.actor writing (true, n.taken) there.t
          there.begun)
          (safe_in_first_lives decl script accepted sound between n.open_inputs n.run still.0.tx)
          (safe_in_first_lives decl script accepted sound between n.open_inputs n.run there.t.tx)
          (λ x. other (there.tx ∙ x ∙ still.2 ∙ k.its)) op line.op line.object line.event still.3
          (subst (λ (os : List Op). IsOperation decl os line.op line.object line.event) there.ops d.logged.operation)
          d.on d.depends

    -- it was written later

    module _ (w : IsWrittenIn k.after d.logged.commit) where
      abbrev until : List Entry
      until = before ++ wrote k.actor c ∷ w.before

      stands : h ≡ until ++ wrote w.actor d.logged.commit ∷ w.after
      stands =
          k.stands ∙ ap (λ (x : List Entry). before ++ wrote k.actor c ∷ x) w.stands
          ∙ sym (append_assoc before (wrote k.actor c ∷ w.before) (wrote w.actor d.logged.commit ∷ w.after))

      last : Moment decl script until w.actor d.logged.commit
      last = moment decl script h open_inputs run until w.actor d.logged.commit w.after stands

      its_writer : is_client decl w.actor ≡ true
      its_writer = writer decl script accepted sound until w.actor d.logged.commit last

      due_last : IsDueThere decl script accepted sound h open_inputs run until w.actor d.logged.commit
      due_last =
          due_there decl script accepted sound h open_inputs run until w.actor d.logged.commit w.after stands its_writer

      abbrev late : Refines decl (stood decl script accepted sound until last.open_inputs last.run).net
      late = mirror decl script accepted sound until last.open_inputs last.run

      written_before : In c (written until)
      written_before =
          subst (In c) (sym (filter_map-append (λ (e : Entry). commit_in e.step) before (wrote k.actor c ∷ w.before)))
          (In-second c (written before) (c ∷ written w.before) (inl refl))

      passes : c.stamp.clock ≤ (account decl w.actor until).clock
      passes = writer_passes decl accepted late.acts late.run due_last.t (account decl w.actor until).clock
          (live decl script accepted sound until last.open_inputs last.run w.actor its_writer (true, last.taken)
          due_last.t due_last.begun)
          (safe_in_first_lives decl script accepted sound until last.open_inputs last.run due_last.t.tx)
          c (late.agrees.records c
          (subst (In c) (sym (stood decl script accepted sound until last.open_inputs last.run).written_is)
          written_before))
          (λ x. other (due_last.tx ∙ sym x))
          op line.op line.object line.event d.operation
          (subst (λ (os : List Op). IsOperation decl os line.op line.object line.event) due_last.ops
          d.logged.operation) d.on d.depends

      pub came_later : IsOrdered (view_of t op.object) line c.stamp
      came_later =
          let low : c.stamp.clock ≤ (account decl w.actor until).clock = passes in
          let next : d.logged.commit.stamp.clock ≡ (account decl w.actor until).clock + 1 = due_last.stamp in
          let clocks : line.stamp.clock ≡ d.logged.commit.stamp.clock = ap (λ (s : Stamp). s.clock) d.logged.stamped in
          inr (omega arith)

    places : written h ≡ (written k.early ++ written k.middle) ++ c ∷ written k.after
    places =
        ap written k.stands ∙ filter_map-append (λ (e : Entry). commit_in e.step) before (wrote k.actor c ∷ k.after)
        ∙ ap (λ (cs : List CommitRecord). cs ++ c ∷ written k.after)
        (filter_map-append (λ (e : Entry). commit_in e.step) k.early k.middle)

    pub dependent_operations_are_ordered : IsOrdered (view_of t op.object) line c.stamp
    dependent_operations_are_ordered =
        elim (In-either d.logged.commit (written k.early ++ written k.middle) (c ∷ written k.after)
        (subst (In d.logged.commit) places d.logged.listed)) [
          | inl old ↦ elim (In-either d.logged.commit (written k.early) (written k.middle) old) [
            | inl there_then ↦ was_there there_then
            | inr amid_them ↦ absurd (never_between (written_in k.middle d.logged.commit amid_them))
          ]
          | inr (inl same) ↦ absurd (other (ap (λ (x : CommitRecord). x.tx) same))
          | inr (inr more) ↦ came_later (written_in k.after d.logged.commit more)
        ]

  -- each operation of a record had been told by the moment of the record
  pub operations_of_records_were_told : (c : CommitRecord) (op : Op) → In c (written h) → In op c.ops
      → (t : Current) × IsToldBy decl script h c op t
  operations_of_records_were_told c op among listed =
      let w : IsWrittenIn h c = written_in h c among in
      let m : Moment decl script w.before w.actor c =
      moment decl script h open_inputs run w.before w.actor c w.after w.stands in
      let at : IsDueThere decl script accepted sound h open_inputs run w.before w.actor c =
      at_record decl script accepted sound h open_inputs run w.before w.actor c w.after w.stands in (
        at.t,
        record {
          early = w.before;
          middle = [];
          open_inputs = m.open_inputs;
          run = m.run;
          actor = w.actor;
          after = w.after;
          stands = w.stands ∙ ap (λ (x : List Entry). x ++ wrote w.actor c ∷ w.after) (sym (append-nil w.before));
          begun = at.begun;
          its = sym at.tx;
          told = subst (In op) at.ops listed;
        },
      )
