-- What clients were told agrees with the records, in every run with falls whose records are kept.
use Rattle.std.proofs.Common.{◌≡◌, ◌≢◌, ◌↔◌, ◌⊎◌, ◌<◌, ℕ, ◌-◌, Bool, List, [], sym, ap, ◌∙◌, subst}
use Rattle.qc_core.specs.Vocabulary.{IsLawfulWithFalls, journal_after}
use Rattle.qc_core.proofs.LivesLaws.{journal}
use Rattle.laws_reach.specs.Vocabulary.{AreCommitsTold, AreStanding, HasRecord, IsOfClient, records_of}
use Rattle.laws_reach.proofs.Deeds.{records_have_what_deeds_told}
use Rattle.laws_reach.proofs.EndLaws.{ends_aborted, ends_committed, ends_dropped, ends_own, records_own, records_told}
use Rattle.qc_decl.specs.Vocabulary.{IsAccepted, client_actor}
use Rattle.qc_decl.specs.declared.declaration.Declaration.{Declaration}
use Rattle.qc_entry.specs.declared.record.Commit.{Commit as CommitRecord}
use Rattle.qc_list.specs.Vocabulary.{In}
use Rattle.qc_msg.specs.declared.record.Record.{Record}
use Rattle.qc_msg.specs.declared.record.Record.TheVariants.{Commit}
use Rattle.qc_msg.specs.declared.reply.Reply.{Reply}
use Rattle.qc_msg.specs.declared.reply.Reply.TheVariants as replies
use Rattle.qc_msg.specs.declared.reply.AbortCause.{AbortCause}
use Rattle.qc_msg.specs.Vocabulary.{Deed, Entry, deeds}
use Rattle.theory_onecopy.proofs.Committed.{records_are_sorted}
use Rattle.qc_promise.specs.Vocabulary.{AreDealt, AreTold, HasCommit, Journal, Kept, committed, endings, records}
use Rattle.laws_reach.proofs.Committing.{committed_records_stand}
use Rattle.laws_reach.proofs.RunLaws.{apart}
use Rattle.qc_script.specs.Vocabulary.{IsScriptFor, RunsWithFalls}
use Rattle.qc_script.specs.declared.script.Script.{Script}
use Rattle.qc_stamp.specs.declared.stamp.Stamp.{Stamp}
use Rattle.qc_stamp.specs.declared.stamp.TxId.{TxId}
use Rattle.laws_reach.proofs.Clients.{AreDone, IsNumbered, all_done, client_is, numbered}

module _ (fits : ℕ → List Record → Type 0) (decl : Declaration) (script : Script) (h : List Entry)
    (open_inputs : List Bool) (accepted : IsAccepted decl) (sound : IsScriptFor decl script)
    (run : RunsWithFalls (IsLawfulWithFalls decl) fits decl script h open_inputs) (kept : Kept h) where
  done : (n : ℕ) → n < decl.clients → AreDone decl n (deeds (client_actor decl n) [] h)
  done n low = all_done fits decl script h open_inputs accepted sound run kept n low

  pub commits_are_told_in_their_posts : (n : ℕ) → n < decl.clients → AreCommitsTold (deeds (client_actor decl n) [] h)
  commits_are_told_in_their_posts n low = (done n low).told

  -- the committed records are just those in the clients' journals

  stand : AreStanding decl h (records decl h)
  stand = committed_records_stand decl h kept

  same : (c : CommitRecord) → In c (committed decl h) ↔ In c (records decl h)
  same c = (records_are_sorted (records decl h)
      (apart fits decl script h open_inputs accepted sound run kept (records decl h) stand).stamps).1 c

  abbrev recorded : ℕ → List Record
  recorded n = (journal_after (deeds (client_actor decl n) [] h)).records

  is_committed : (n : ℕ) → n < decl.clients → (c : CommitRecord) → In (Commit c) (recorded n) → In c (committed decl h)
  is_committed n low c among = (same c).1 (stand.all c (record {
    actor = client_actor decl n;
    client = client_is decl n low;
    listed = subst (λ (j : Journal). In (Commit c) j.records) (journal (client_actor decl n) h) among;
  }))

  -- and each stands in that of its own client

  record IsOwn (c : CommitRecord) : Type 0 where
    low : c.tx.client < decl.clients
    among : In (Commit c) (recorded c.tx.client)

  owned : (c : CommitRecord) → In c (committed decl h) → IsOwn c
  owned c listed = record {
    low = subst (λ (n : ℕ). n < decl.clients) (sym mine) its.low;
    among = subst (λ (n : ℕ). In (Commit c) (recorded n)) (sym mine) here;
  }
    where
      is : IsOfClient decl (records_of h) c
      is = stand.each c ((same c).0 listed)

      its : IsNumbered decl is.actor
      its = numbered decl is.actor is.client

      here : In (Commit c) (recorded (is.actor - decl.sites))
      here = subst (λ (a : ℕ). In (Commit c) (journal_after (deeds a [] h)).records) its.is
          (subst (λ (j : Journal). In (Commit c) j.records) (sym (journal is.actor h)) is.listed)

      mine : c.tx.client ≡ is.actor - decl.sites
      mine =
          let d : AreDone decl (is.actor - decl.sites) (deeds (client_actor decl (is.actor - decl.sites)) [] h) =
          done (is.actor - decl.sites) its.low in
          records_own decl (is.actor - decl.sites)
          (deeds (client_actor decl (is.actor - decl.sites)) [] h) d.turns d.replies d.back d.told c here

  pub dealt : AreDealt decl (committed decl h) h
  dealt c listed =
      let o : IsOwn c = owned c listed in
      let d : AreDone decl c.tx.client (deeds (client_actor decl c.tx.client) [] h) = done c.tx.client o.low in
      records_have_what_deeds_told decl c c.tx.client (deeds (client_actor decl c.tx.client) [] h) d.turns d.replies
      d.back o.among

  module _ (n : ℕ) (low : n < decl.clients) (tx : TxId) where
    abbrev its : List Deed
    its = deeds (client_actor decl n) [] h

    d : AreDone decl n its
    d = done n low

    -- where a client was told of an end, the transaction is its own, and so is its record
    own_record : (r : Reply) (c : CommitRecord) → In r (endings decl h n tx) → c.tx ≡ tx → In c (committed decl h)
        → In (Commit c) (recorded n)
    own_record r c among named listed =
        subst (λ (k : ℕ). In (Commit c) (recorded k))
        (ap (λ (t : TxId). t.client) named ∙ ends_own decl n its d.turns d.replies d.back d.told tx r among)
        (owned c listed).among

    pub told_committed : (stamp : Stamp) → In (replies.Committed stamp) (endings decl h n tx)
        → HasCommit (committed decl h) tx stamp
    told_committed stamp among =
        let r : HasRecord (recorded n) tx stamp =
        ends_committed decl n its d.turns d.replies d.back d.told tx stamp among in
        record {
          commit = r.commit;
          listed = is_committed n low r.commit r.listed;
          named = r.named;
          stamped = r.stamped;
        }

    told_aborted : (why : AbortCause) (c : CommitRecord) → In (replies.Aborted why) (endings decl h n tx)
        → In c (committed decl h) → c.tx ≢ tx
    told_aborted why c among listed named = ends_aborted decl n its d.turns d.replies d.back d.told tx why c among
        (own_record (replies.Aborted why) c among named listed) named

    told_dropped : (c : CommitRecord) → In replies.Dropped (endings decl h n tx) → In c (committed decl h) → c.tx ≢ tx
    told_dropped c among listed named = ends_dropped decl n its d.turns d.replies d.back d.told tx c among
        (own_record replies.Dropped c among named listed) named

  record_told : (c : CommitRecord) → In c (committed decl h)
      → (In (replies.Committed c.stamp) (endings decl h c.tx.client c.tx))
      ⊎ (In replies.Unknown (endings decl h c.tx.client c.tx))
  record_told c listed =
      let o : IsOwn c = owned c listed in
      let d : AreDone decl c.tx.client (deeds (client_actor decl c.tx.client) [] h) = done c.tx.client o.low in
      records_told decl c.tx.client (deeds (client_actor decl c.tx.client) [] h) d.turns d.replies d.back d.told c
      o.among

  pub told : AreTold decl (committed decl h) h
  told = record {
    committed = λ n tx stamp low among. told_committed n low tx stamp among;
    aborted = λ n tx why c low among listed. told_aborted n low tx why c among listed;
    dropped = λ n tx c low among listed. told_dropped n low tx c among listed;
    each = record_told;
  }
