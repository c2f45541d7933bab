-- In every run records are apart, and just what their clients were clients_are_told.
use Rattle.std.proofs.Common.{◌≡◌, ◌≢◌, ℕ, ◌+◌, ◌-◌, ◌<◌, ◌↔◌, inl, nat_le, nat_lt, Bool, true, List, [], refl, sym, ap}
use Rattle.std.proofs.Common.{◌∙◌, subst, arith}
use Rattle.std.specs.List.{AllPairs}
use Rattle.std.proofs.lemmas.Bool.{le-leb, lt-ltb}
use Rattle.qc_list.specs.Vocabulary.{In}
use Rattle.qc_decl.specs.Vocabulary.{IsAccepted, client_actor, is_client}
use Rattle.qc_decl.specs.declared.declaration.Declaration.{Declaration}
use Rattle.qc_stamp.specs.declared.stamp.Stamp.{Stamp}
use Rattle.qc_stamp.specs.declared.stamp.TxId.{TxId}
use Rattle.qc_entry.specs.declared.record.Commit.{Commit}
use Rattle.qc_msg.specs.declared.reply.Reply.{Reply}
use Rattle.qc_msg.specs.declared.reply.Reply.TheVariants as replies
use Rattle.qc_msg.specs.Vocabulary.{Entry, deeds}
use Rattle.theory_onecopy.specs.Vocabulary.{AreApart, IsOrdered, IsStampedBefore}
use Rattle.theory_onecopy.proofs.Committed.{records_are_sorted}
use Rattle.qc_script.specs.Vocabulary.{Runs}
use Rattle.qc_script.specs.declared.script.Script.{Script}
use Rattle.qc_core.specs.Vocabulary.{IsLawful}
use Rattle.qc_promise.specs.Vocabulary.{AreDealt, AreTold, HasCommit, committed, endings, records}
use Rattle.laws_turns.specs.Vocabulary.{written_in}
use Rattle.laws_turns.proofs.DealingParts.{HasRecord, IsAbort}
use Rattle.laws_turns.proofs.InRuns.{IsKept, client_number, run_kept}
use Rattle.laws_turns.proofs.Up.{run_up}
use Rattle.laws_turns.proofs.WrittenDeeds.{IsWritten, listed_written, written_listed}

module _ (decl : Declaration) (script : Script) (h : List Entry) (open_inputs : List Bool) (accepted : IsAccepted decl)
    (run : Runs (IsLawful decl) decl script h open_inputs) where
  -- what the client of this actor keeps
  kept : (a : ℕ) → is_client decl a ≡ true → (tx : TxId) → IsKept (a - decl.sites) tx (deeds a [] h)
  kept = run_kept decl script h open_inputs accepted run

  -- a record is its client's own

  record IsOwn (c : Commit) : Type 0 where
    actor : ℕ
    named : is_client decl actor ≡ true
    own : actor ≡ client_actor decl c.tx.client
    among : (tx : TxId) → In c (kept actor named tx).client.desk.commits

  owned : (c : Commit) → In c (records decl h) → IsOwn c
  owned c listed =
      let w : IsWritten decl [] h c = listed_written decl [] h c
      (λ a. run_up (IsLawful decl) decl script h open_inputs run a) listed in
      let member : (tx : TxId) → In c (kept w.actor w.named tx).client.desk.commits =
      λ tx. subst (In c) (sym (kept w.actor w.named tx).written) w.wrote in
      let mine : c.tx.client ≡ w.actor - decl.sites = ((kept w.actor w.named c.tx).keeps.book.past c (member c.tx)).0
      ∙ (kept w.actor w.named c.tx).keeps.own in
      let back : decl.sites + (w.actor - decl.sites) ≡ w.actor = client_number decl w.actor w.named in
      record { actor = w.actor; named = w.named; own = omega arith; among = member }

  -- the client of a number
  client_is : (n : ℕ) → n < decl.clients → is_client decl (client_actor decl n) ≡ true
  client_is n low =
      let x : nat_le decl.sites (decl.sites + n) ≡ true = le-leb decl.sites (decl.sites + n) (omega arith) in
      let y : nat_lt (decl.sites + n) (decl.sites + decl.clients) ≡ true =
      lt-ltb (decl.sites + n) (decl.sites + decl.clients) (omega arith) in
      rw (x, y) refl

  -- a record's client, by the record
  its_client : (c : Commit) → In c (records decl h) → is_client decl (client_actor decl c.tx.client) ≡ true
  its_client c listed = let o : IsOwn c = owned c listed in subst (λ (a : ℕ). is_client decl a ≡ true) o.own o.named

  its_record : (c : Commit) (listed : In c (records decl h)) (tx : TxId)
      → In c (kept (client_actor decl c.tx.client) (its_client c listed) tx).client.desk.commits
  its_record c listed tx =
      let o : IsOwn c = owned c listed in
      let k : IsKept (o.actor - decl.sites) tx (deeds o.actor [] h) = kept o.actor o.named tx in
      let there : In c (written_in (deeds o.actor [] h)) = subst (In c) k.written (o.among tx) in
      let here : In c (written_in (deeds (client_actor decl c.tx.client) [] h)) =
      subst (λ (a : ℕ). In c (written_in (deeds a [] h))) o.own there in
      subst (In c) (sym (kept (client_actor decl c.tx.client) (its_client c listed) tx).written) here

  stamps_apart : (c d : Commit) → In c (records decl h) → In d (records decl h) → c.stamp ≡ d.stamp → c ≡ d
  stamps_apart c d hc hd same =
      let kc : IsKept (client_actor decl c.tx.client - decl.sites) c.tx (deeds (client_actor decl c.tx.client) [] h) =
      kept (client_actor decl c.tx.client) (its_client c hc) c.tx in
      let kd : IsKept (client_actor decl d.tx.client - decl.sites) c.tx (deeds (client_actor decl d.tx.client) [] h) =
      kept (client_actor decl d.tx.client) (its_client d hd) c.tx in
      let oc : c.stamp.client ≡ client_actor decl c.tx.client - decl.sites = kc.keeps.book.own c (its_record c hc c.tx)
      ∙ kc.keeps.own in
      let od : d.stamp.client ≡ client_actor decl d.tx.client - decl.sites = kd.keeps.book.own d (its_record d hd c.tx)
      ∙ kd.keeps.own in
      let e : c.stamp.client ≡ d.stamp.client = ap (λ (s : Stamp). s.client) same in
      let clients : d.tx.client ≡ c.tx.client = omega arith in
      let there : In d (written_in (deeds (client_actor decl d.tx.client) [] h)) =
      subst (In d) kd.written (its_record d hd c.tx) in
      let here : In d (written_in (deeds (client_actor decl c.tx.client) [] h)) =
      subst (λ (n : ℕ). In d (written_in (deeds (client_actor decl n) [] h))) clients there in
      kc.keeps.book.stamps c d (its_record c hc c.tx) (subst (In d) (sym kc.written) here) same

  names_apart : (c d : Commit) → In c (records decl h) → In d (records decl h) → c.tx ≡ d.tx → c ≡ d
  names_apart c d hc hd same =
      let kc : IsKept (client_actor decl c.tx.client - decl.sites) c.tx (deeds (client_actor decl c.tx.client) [] h) =
      kept (client_actor decl c.tx.client) (its_client c hc) c.tx in
      let kd : IsKept (client_actor decl d.tx.client - decl.sites) c.tx (deeds (client_actor decl d.tx.client) [] h) =
      kept (client_actor decl d.tx.client) (its_client d hd) c.tx in
      let there : In d (written_in (deeds (client_actor decl d.tx.client) [] h)) =
      subst (In d) kd.written (its_record d hd c.tx) in
      let here : In d (written_in (deeds (client_actor decl c.tx.client) [] h)) =
      subst (λ (t : TxId). In d (written_in (deeds (client_actor decl t.client) [] h))) (sym same) there in
      kc.keeps.book.transactions c d (its_record c hc c.tx) (subst (In d) (sym kc.written) here) same

  -- the records in order

  in_order : IsOrdered IsStampedBefore (committed decl h)
      × ((d : Commit) → In d (committed decl h) ↔ In d (records decl h))
  in_order = records_are_sorted (records decl h) stamps_apart

  pub listed_in : (c : Commit) → In c (committed decl h) → In c (records decl h)
  listed_in c = (in_order.1 c).0

  pub in_listed : (c : Commit) → In c (records decl h) → In c (committed decl h)
  in_listed c = (in_order.1 c).1

  -- a record is among those that its own client wrote
  pub wrote_own : (c : Commit) → In c (committed decl h)
      → In c (written_in (deeds (client_actor decl c.tx.client) [] h))
  wrote_own c among =
      let listed : In c (records decl h) = listed_in c among in
      subst (In c) (kept (client_actor decl c.tx.client) (its_client c listed) c.tx).written (its_record c listed c.tx)

  -- the stamps of one client rise
  pub stamps_rise : (a : ℕ) → is_client decl a ≡ true
      → AllPairs (λ (c d : Commit). c.stamp.clock < d.stamp.clock) (written_in (deeds a [] h))
  stamps_rise a named = let k : IsKept (a - decl.sites) no_tx (deeds a [] h) = kept a named no_tx in
      subst (AllPairs (λ (c d : Commit). c.stamp.clock < d.stamp.clock)) k.written k.keeps.book.rising where
        no_tx : TxId
        no_tx = record { client = 0; life = 0; number = 0 }

  pub apart : AreApart (committed decl h)
  apart = record {
    stamps = λ c d hc hd same. stamps_apart c d (listed_in c hc) (listed_in d hd) same;
    transactions = λ c d hc hd same. names_apart c d (listed_in c hc) (listed_in d hd) same;
  }

  pub ordered : IsOrdered IsStampedBefore (committed decl h)
  ordered = in_order.0

  pub records_are_what_was_told : AreDealt decl (committed decl h) h
  records_are_what_was_told c among =
      let listed : In c (records decl h) = listed_in c among in
      sym ((kept (client_actor decl c.tx.client) (its_client c listed) c.tx).keeps.dealing.done c
      (its_record c listed c.tx) refl).0

  -- what a client was clients_are_told that its transaction ended with
  ends_in : (n : ℕ) (low : n < decl.clients) (tx : TxId) (stamp : Stamp)
      → In (replies.Committed stamp) (endings decl h n tx) → HasCommit (committed decl h) tx stamp
  ends_in n low tx stamp among =
      let k : IsKept (client_actor decl n - decl.sites) tx (deeds (client_actor decl n) [] h) =
      kept (client_actor decl n) (client_is n low) tx in
      let r : HasRecord k.client.desk.commits tx stamp = k.keeps.dealing.told stamp among in
      let wrote : In r.commit (written_in (deeds (client_actor decl n) [] h)) =
      subst (In r.commit) k.written r.listed in
      record {
        commit = r.commit;
        listed = in_listed r.commit
            (written_listed decl [] h r.commit (client_actor decl n) (client_is n low) wrote);
        named = r.named;
        stamped = r.stamped;
      }

  no_abort : (n : ℕ) (tx : TxId) (r : Reply) (c : Commit) → n < decl.clients → In r (endings decl h n tx) → IsAbort r
      → In c (committed decl h) → c.tx ≢ tx
  no_abort n tx r c low among abort listed_c same =
      let listed : In c (records decl h) = listed_in c listed_c in
      let k : IsKept (client_actor decl n - decl.sites) tx (deeds (client_actor decl n) [] h) =
      kept (client_actor decl n) (client_is n low) tx in
      let mine : tx.client ≡ client_actor decl n - decl.sites = k.keeps.dealing.mine r among ∙ k.keeps.own in
      let e : c.tx.client ≡ tx.client = ap (λ (t : TxId). t.client) same in
      let here : c.tx.client ≡ n = omega arith in
      let wrote : In c (written_in (deeds (client_actor decl c.tx.client) [] h)) =
      subst (In c) (kept (client_actor decl c.tx.client) (its_client c listed) tx).written
      (its_record c listed tx) in
      let there : In c (written_in (deeds (client_actor decl n) [] h)) =
      subst (λ (x : ℕ). In c (written_in (deeds (client_actor decl x) [] h))) here wrote in
      k.keeps.dealing.others r among abort c (subst (In c) (sym k.written) there) same

  pub clients_are_told : AreTold decl (committed decl h) h
  clients_are_told = record {
    committed = λ n tx stamp low among. ends_in n low tx stamp among;
    aborted = λ n tx why c low among listed_c. no_abort n tx (replies.Aborted why) c low among tt listed_c;
    dropped = λ n tx c low among listed_c. no_abort n tx replies.Dropped c low among tt listed_c;
    each = λ c among. inl (let listed : In c (records decl h) = listed_in c among in
        ((kept (client_actor decl c.tx.client) (its_client c listed) c.tx).keeps.dealing.done c
        (its_record c listed c.tx) refl).1);
  }
