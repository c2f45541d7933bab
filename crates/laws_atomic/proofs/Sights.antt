-- What a client takes, sends and writes keeps its sight and the account of its deeds in agreement.
use Rattle.std.proofs.Common.{[], ◌≡◌, ◌≢◌, ◌<◌, ℕ, ◌+◌, Bool, true, false, cond, List, ◌∷◌, ◌++◌, inl, inr, Option}
use Rattle.std.proofs.Common.{Some, None, option_map, refl, sym, ap, ◌∙◌, subst, arith}
use Rattle.std.specs.List.{cons_option}
use Rattle.qc_stamp.specs.declared.stamp.Stamp.{Stamp}
use Rattle.qc_stamp.specs.declared.stamp.TxId.{TxId}
use Rattle.qc_stamp.specs.Vocabulary.{same_tx}
use Rattle.qc_stamp.proofs.Orders.{same_tx_itself}
use Rattle.qc_list.specs.Vocabulary.{In}
use Rattle.qc_list.proofs.Members.{In-first, In-last, In-more}
use Rattle.qc_decl.specs.declared.declaration.Declaration.{Declaration}
use Rattle.qc_entry.specs.declared.record.Commit.{Commit}
use Rattle.qc_msg.specs.declared.message.Message.{Message}
use Rattle.qc_msg.specs.declared.message.Message.TheVariants as messages
use Rattle.qc_msg.specs.declared.message.Outcome.TheVariants as outcomes
use Rattle.qc_msg.specs.declared.record.Record.{Record}
use Rattle.qc_msg.specs.declared.record.Record.TheVariants as records
use Rattle.qc_msg.specs.Vocabulary.{commit_of as commit_in}
use Rattle.qc_promise.specs.Vocabulary.{Account, ClientRequest, Current, HasBefore, IsRecordDue, Sight, Status}
use Rattle.qc_promise.specs.Vocabulary.{account_sent, account_written, given_up, is_begun, running_row, sight_sent}
use Rattle.qc_promise.specs.Vocabulary.{status_sent, status_written}
use Rattle.qc_promise.specs.Status as statuses
use Rattle.laws_due.specs.Vocabulary.{IsSendDue}
use Rattle.laws_atomic.proofs.Counted.{IsOpen, name_of}
use Rattle.laws_atomic.proofs.Seeing.{HasCommitted, Sees, is_before, stays_committed}
use Rattle.laws_atomic.proofs.Stamps.{due_stamp}

module _ (commits : List Commit) (tx : TxId) (d : Account) (s : Sight) (wrote : List Commit) (st : Status)
    (w : Sees commits tx d s wrote st) where
  -- a request is sent, which the command asks for, or another message

  sent_status : (st : Status) (message : Message) → HasCommitted st → HasCommitted (status_sent tx st message)
  sent_status st (messages.Request other epoch life want) is = is
  sent_status st (messages.Answer to answer) is = is
  sent_status st (messages.Decision other (outcomes.Committed stamp)) is = is
  sent_status st (messages.Decision other outcomes.Aborted) is = by (same_tx other tx)
    where
      by : (b : Bool) → HasCommitted (cond b (given_up st) st)
      by true = stays_committed st is
      by false = is
  sent_status st (messages.Decision other outcomes.Active) is = is
  sent_status st (messages.Inquiry other) is = is
  sent_status st (messages.Ask other) is = is
  sent_status st (messages.Close epoch) is = is
  sent_status st (messages.Install start) is = is

  unasked_sees : (message : Message) → Sees commits tx d s wrote (status_sent tx st message)
  unasked_sees message = record {
    begun = w.begun;
    waiting = w.waiting;
    shown = w.shown;
    committed = w.committed;
    seen = w.seen;
    before = w.before;
    ended = λ r among its. sent_status st message (w.ended r among its);
    stands = w.stands;
    listed = w.listed;
  }

  pub sent_sees : (decl : Declaration) (number to : ℕ) (message : Message) → IsSendDue decl d to message
      → Sees commits tx (account_sent decl d number to message) (sight_sent s number message) wrote
      (status_sent tx st message)
  sent_sees decl number to (messages.Request other epoch life want) is =
      subst (λ (b : Bool). Sees commits tx
      (cond b
      (record d {
        requests =
            d.requests ++ record { number = number; site = to; life = life; want = want; taken = None } ∷ [];
      }) d) (record s { waiting = s.waiting ++ number ∷ [] }) wrote st) (sym is)
      (record {
        begun = w.begun;
        waiting = λ n among. elim (In-more n number s.waiting among) [
          | inl old ↦
              (let o : IsOpen n d.requests = w.waiting n old in
              record {
                request = o.request;
                among = In-first o.request d.requests (new ∷ []) o.among;
                number = o.number;
                untaken = o.untaken;
              })
          | inr same ↦ record { request = new; among = In-last new d.requests; number = sym same; untaken = refl }
        ];
        shown = w.shown;
        committed = w.committed;
        seen = w.seen;
        before = w.before;
        ended = w.ended;
        stands = w.stands;
        listed = w.listed;
      })
    where
      new : ClientRequest
      new = record { number = number; site = to; life = life; want = want; taken = None }
  sent_sees decl number to (messages.Answer request answer) is = unasked_sees (messages.Answer request answer)
  sent_sees decl number to (messages.Decision other verdict) is = unasked_sees (messages.Decision other verdict)
  sent_sees decl number to (messages.Inquiry other) is = unasked_sees (messages.Inquiry other)
  sent_sees decl number to (messages.Ask other) is = unasked_sees (messages.Ask other)
  sent_sees decl number to (messages.Close epoch) is = unasked_sees (messages.Close epoch)
  sent_sees decl number to (messages.Install start) is = unasked_sees (messages.Install start)

  -- a record is written, which is due

  named_by : (stamp : Stamp) (c : Commit) (o : Option Current)
      → option_map (λ (t : Current). record { stamp = stamp; tx = t.tx; ops = t.ops }) o ≡ Some c
      → name_of o ≡ Some c.tx
  named_by stamp c None is = absurd (let never : ⊥ = cc in never)
  named_by stamp c (Some t) is =
      (let same : record { stamp = stamp; tx = t.tx; ops = t.ops } ≡ c = cc in ap (λ (x : Commit). Some x.tx) same)

  commit_sees : (decl : Declaration) (c : Commit) → In c commits
      → IsRecordDue d (running_row decl d false) (records.Commit c)
      → Sees commits tx (record d { written = Some c }) s (c ∷ wrote)
      (cond (same_tx c.tx tx) (statuses.Committed c.stamp) st)
  commit_sees decl c there due_is = record {
    begun = w.begun;
    waiting = w.waiting;
    shown = w.shown;
    committed = w.committed;
    seen = w.seen;
    before = before_one;
    ended = ended_one;
    stands = stands_one;
    listed = λ r is. (let same : c ≡ r = cc in subst (λ (x : Commit). In x commits) same there);
  }
    where
      above : d.clock < c.stamp.clock
      above =
          let e : c.stamp.clock ≡ d.clock + 1 = ap (λ (x : Stamp). x.clock) (due_stamp decl d c.stamp due_is.0) in
          omega arith

      begins : c.tx ≡ tx → is_begun tx s.begun ≡ true
      begins its =
          ap (is_begun tx) (w.begun ∙ named_by c.stamp c d.current due_is.1)
          ∙ subst (λ (x : TxId). same_tx c.tx x ≡ true) its (same_tx_itself c.tx)

      before_one : (r : Commit) → In r (c ∷ wrote) → r.tx ≡ tx → (t : TxId) → In t s.seen → t ≢ tx
          → HasBefore commits t r.stamp
      before_one r (inl same) its t among other =
          subst (λ (x : Commit). HasBefore commits t x.stamp) (sym same)
          (is_before commits t d.clock c.stamp above
          (w.seen (begins (sym (ap (λ (x : Commit). x.tx) same) ∙ its)) t among))
      before_one r (inr old) its t among other = w.before r old its t among other

      ended_one : (r : Commit) → In r (c ∷ wrote) → r.tx ≡ tx
          → HasCommitted (cond (same_tx c.tx tx) (statuses.Committed c.stamp) st)
      ended_one r (inl same) its =
          subst (λ (b : Bool). HasCommitted (cond b (statuses.Committed c.stamp) st))
          (sym (subst (λ (x : TxId). same_tx c.tx x ≡ true) (sym (ap (λ (x : Commit). x.tx) same) ∙ its)
          (same_tx_itself c.tx))) tt
      ended_one r (inr old) its = by (same_tx c.tx tx)
        where
          by : (b : Bool) → HasCommitted (cond b (statuses.Committed c.stamp) st)
          by true = tt
          by false = w.ended r old its

      stands_one : (r : Commit) → In r (c ∷ wrote) → r.tx ≡ tx → is_begun tx s.begun ≡ true → Some c ≡ Some r
      stands_one r (inl same) its is = ap (λ (x : Commit). Some x) (sym same)
      stands_one r (inr old) its is =
          absurd (let wrote_it : d.written ≡ Some r = w.stands r old its is in
          let none : d.written ≡ None = due_is.2 in let never : ⊥ = cc in never)

  pub wrote_sees : (decl : Declaration) (written : Record) → ((c : Commit) → written ≡ records.Commit c → In c commits)
      → IsRecordDue d (running_row decl d false) written
      → Sees commits tx (account_written d written) s (cons_option (commit_in written) wrote)
      (status_written tx st written)
  wrote_sees decl records.Life there is = record {
    begun = w.begun;
    waiting = w.waiting;
    shown = w.shown;
    committed = w.committed;
    seen = w.seen;
    before = w.before;
    ended = w.ended;
    stands = w.stands;
    listed = w.listed;
  }
  wrote_sees decl (records.Prepare prepared) there is = w
  wrote_sees decl (records.Done other clock) there is = w
  wrote_sees decl (records.Close epoch) there is = w
  wrote_sees decl (records.Install start) there is = w
  wrote_sees decl (records.Commit c) there is = commit_sees decl c (there c refl) is
  wrote_sees decl (records.Decide start) there is = w
