-- Epochs through falls: a transaction's requests name the machine's epoch of it, and by that epoch the machine stamps
-- dependent operations. The administrator decides epochs one after another.
use Rattle.std.proofs.Common.{◌≡◌, ℕ, ◌<◌, Bool, true, IsTrue, List, Some, inl, inr, sym, ap, ◌∙◌, subst, arith}
use Rattle.theory_bases.proofs.EpochOrder.{later_readers, later_writers}
use Rattle.qc_core.specs.Vocabulary.{IsLawfulWithFalls}
use Rattle.qc_decl.specs.Vocabulary.{IsAccepted, administrator, is_client}
use Rattle.qc_decl.specs.declared.declaration.Declaration.{Declaration}
use Rattle.qc_entry.specs.declared.line.Line.{Line}
use Rattle.qc_entry.specs.declared.line.Op.{Op}
use Rattle.qc_entry.specs.declared.record.Commit.{Commit as CommitRecord}
use Rattle.laws_guarantees.proofs.Committed.{IsOperationOf, committed_ops, operation_of}
use Rattle.laws_guarantees.specs.Vocabulary.{IsSeenBefore}
use Rattle.qc_list.specs.Vocabulary.{In}
use Rattle.qc_msg.specs.Vocabulary.{Entry, first_epoch}
use Rattle.qc_msg.specs.declared.message.Message.TheVariants.{Request}
use Rattle.qc_msg.specs.declared.record.Record.{Record}
use Rattle.laws_refinement.proofs.RulesInTurn.{epochs_are_decided_in_turn}
use Rattle.laws_refinement.specs.Vocabulary.{AreInTurn}
use Rattle.theory_onecopy.proofs.Lists.{Mapped, map_in}
use Rattle.theory_onecopy.specs.Vocabulary.{IsOperation, depends_at}
use Rattle.qc_promise.specs.Vocabulary.{Current, Kept, account, view_of}
use Rattle.theory_machine.specs.Vocabulary.{Act, IsRun, State, op_of, state}
use Rattle.laws_reach.specs.Vocabulary.{records_of}
use Rattle.qc_script.specs.Vocabulary.{IsScriptFor, RunsWithFalls}
use Rattle.qc_script.specs.declared.script.Script.{Script}
use Rattle.qc_stamp.specs.declared.stamp.Stamp.{Stamp}
use Rattle.qc_stamp.specs.declared.stamp.TxId.{TxId}
use Rattle.laws_votes.proofs.Law.{dependent_operations_are_ordered_through_falls}
use Rattle.laws_votes.proofs.Live.{epoch_named}
use Rattle.laws_votes.proofs.Nets.{backed, net, now, of_machine, reached, refined}
use Rattle.laws_votes.specs.Vocabulary.{AsksIn, DependsOn, IsToldBy}

-- two records of the machine, of which an operation of the one depends on the event of an operation of the other

module _ (decl : Declaration) (accepted : IsAccepted decl) (acts : List Act) (run : IsRun decl acts)
    (c d : CommitRecord) (hc : In c (state acts).records) (hd : In d (state acts).records) (op : Op)
    (among : In op c.ops) (line : Line) where
  module _ (operation : IsOperation decl d.ops line.op line.object line.event) (on : line.object ≡ op.object)
      (depends : IsTrue (depends_at decl op.object op.inv line.event)) where
    reader : Mapped op_of op ((state acts).executed c.tx)
    reader = map_in op_of op ((state acts).executed c.tx)
        (subst (In op) (committed_ops decl accepted acts run c hc) among)

    writer : IsOperationOf decl accepted acts run d.tx line.op line.object line.event
    writer = operation_of decl accepted acts run d.tx d.ops line.op line.object line.event
        (committed_ops decl accepted acts run d hd) operation

    objects : writer.operation.op.object ≡ reader.from.op.object
    objects = sym writer.object_is ∙ on ∙ ap (λ (x : Op). x.object) reader.is

    depends_there : IsTrue (depends_at decl reader.from.op.object reader.from.op.inv writer.operation.event)
    depends_there = subst (λ (x : Op). IsTrue (depends_at decl x.object x.inv writer.operation.event)) reader.is
        (subst (λ (n : ℕ). IsTrue (depends_at decl op.object op.inv n)) writer.event_is depends)

    later_reader : (state acts).epoch d.tx < (state acts).epoch c.tx → d.stamp.clock < c.stamp.clock
    later_reader less = (later_readers decl accepted acts run d c writer.operation reader.from hd hc writer.listed
        reader.listed objects writer.some depends_there less).1

    later_writer : (state acts).epoch c.tx < (state acts).epoch d.tx → c.stamp.clock < d.stamp.clock
    later_writer less = (later_writers decl accepted acts run d c writer.operation reader.from hd hc writer.listed
        reader.listed objects writer.some depends_there less).1

-- a run with falls

module _ (fits : ℕ → List Record → Type 0) (decl : Declaration) (script : Script) (h : List Entry)
    (open_inputs : List Bool) (accepted : IsAccepted decl) (sound : IsScriptFor decl script)
    (run : RunsWithFalls (IsLawfulWithFalls decl) fits decl script h open_inputs) (kept : Kept h) where
  abbrev machine : State
  machine = now fits decl script h open_inputs accepted sound run kept

  asked : (tx : TxId) (e : ℕ) → AsksIn h tx e → e ≡ machine.epoch tx
  asked tx e k = (backed fits decl script h open_inputs accepted sound run kept k.request
      (Request tx e k.life k.want) k.sent k.is).2

  pub one_epoch : (tx : TxId) (e f : ℕ) → AsksIn h tx e → AsksIn h tx f → e ≡ f
  one_epoch tx e f first second = asked tx e first ∙ sym (asked tx f second)

  pub begun_in : (a : ℕ) (t : Current) → is_client decl a ≡ true → (account decl a h).current ≡ Some t → (e : ℕ)
      → AsksIn h t.tx e → e ≡ t.epoch
  begun_in a t client begun e k = asked t.tx e k
      ∙ sym (epoch_named fits decl script h open_inputs accepted sound run kept a client t begun)

  module _ (c : CommitRecord) (op : Op) (t : Current) (k : IsToldBy fits decl script h c op t) (line : Line)
      (d : DependsOn decl h c op line) (e f : ℕ) (writer_asks : AsksIn h line.tx e)
      (reader_asks : AsksIn h c.tx f) where
    writer_epoch : e ≡ machine.epoch d.logged.commit.tx
    writer_epoch = asked line.tx e writer_asks ∙ ap machine.epoch d.logged.named

    clocks : line.stamp.clock ≡ d.logged.commit.stamp.clock
    clocks = ap (λ (s : Stamp). s.clock) d.logged.stamped

    pub sees_earlier : e < f → IsSeenBefore (view_of t op.object) line c.stamp
    sees_earlier less = elim (dependent_operations_are_ordered_through_falls fits decl script h open_inputs accepted
        sound run kept c op t k line d) [
          | inl seen ↦ seen
          | inr late ↦ absurd (
              let one = writer_epoch in
              let two : f ≡ machine.epoch c.tx = asked c.tx f reader_asks in
              let before : d.logged.commit.stamp.clock < c.stamp.clock =
              later_reader decl accepted (refined fits decl script h open_inputs accepted sound run kept).acts
              (refined fits decl script h open_inputs accepted sound run kept).run c d.logged.commit
              (of_machine fits decl script h open_inputs accepted sound run kept c k.commits)
              (of_machine fits decl script h open_inputs accepted sound run kept d.logged.commit d.logged.listed) op
              d.operation line d.logged.operation d.on d.depends
              (omega arith) in
              let same = clocks in
              let never : ⊥ = omega arith in
              never)
        ]

    pub stamped_before_later : f < e → c.stamp.clock < line.stamp.clock
    stamped_before_later less =
        let one = writer_epoch in
        let two : f ≡ machine.epoch c.tx = asked c.tx f reader_asks in
        let before : c.stamp.clock < d.logged.commit.stamp.clock =
        later_writer decl accepted (refined fits decl script h open_inputs accepted sound run kept).acts
        (refined fits decl script h open_inputs accepted sound run kept).run c d.logged.commit
        (of_machine fits decl script h open_inputs accepted sound run kept c k.commits)
        (of_machine fits decl script h open_inputs accepted sound run kept d.logged.commit d.logged.listed) op
        d.operation line d.logged.operation d.on d.depends
        (omega arith) in
        let same = clocks in
        omega arith

  pub decisions_are_in_turn_through_falls : AreInTurn first_epoch (records_of h (administrator decl))
  decisions_are_in_turn_through_falls = subst (AreInTurn first_epoch)
      ((reached fits decl script h open_inputs accepted sound run kept).records_are (administrator decl)
      (inr (inr (λ i. administrator decl)))) (epochs_are_decided_in_turn decl accepted
      (net fits decl script h open_inputs accepted sound run kept)
      (reached fits decl script h open_inputs accepted sound run kept).reached)
