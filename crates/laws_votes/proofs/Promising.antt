-- As a commit record is written, or is being written, each site with a grant that counted has voted for the
-- transaction, asked for it in the life of that grant, and has the record of its promise, which it keeps.
use Rattle.std.proofs.Common.{◌≡◌, ◌+◌, ◌-◌, ◌∷◌, ◌++◌, ℕ, Bool, true, List, [], inl, Option, Some, option_map}
use Rattle.std.proofs.Common.{slice_get, refl, sym, ap, ◌∙◌, subst, ltb-true}
use Rattle.laws_due.proofs.Standing.{account_is, account_more}
use Rattle.qc_core.specs.Vocabulary.{IsLawfulWithFalls}
use Rattle.qc_decl.specs.Vocabulary.{IsAccepted, is_client, is_site}
use Rattle.qc_decl.specs.declared.declaration.Declaration.{Declaration}
use Rattle.qc_entry.specs.declared.record.Commit.{Commit as CommitRecord}
use Rattle.laws_guarantees.proofs.Accounts.{HasGrounds, WasGranted, WasSent, WasTaken}
use Rattle.laws_guarantees.proofs.DueStamps.{due_stamp}
use Rattle.laws_guarantees.proofs.RequestGrounds.{has_grounds}
use Rattle.laws_guarantees.proofs.Mailed.{sent_as, sent_mail}
use Rattle.laws_votes.specs.Vocabulary.{HasPromised, HaveAllPromised, IsRecorded}
use Rattle.laws_votes.proofs.VotesFor.{IsVotedFor, due_votes}
use Rattle.laws_votes.proofs.CommitDue.{IsAskedAndFor, asked_for}
use Rattle.laws_votes.proofs.Clients.{IsCommitting}
use Rattle.laws_votes.proofs.Nets.{at_number, backed, listed, net, now, one_request, reached}
use Rattle.laws_votes.proofs.Recording.{Moment, all_recorded}
use Rattle.laws_votes.proofs.SiteLives.{record_stays}
use Rattle.qc_list.specs.Vocabulary.{In}
use Rattle.qc_list.proofs.Members.{In-first}
use Rattle.qc_msg.proofs.GrownMail.{mail-append}
use Rattle.qc_msg.specs.Vocabulary.{Deed, Entry, Sends, Takes, by, deeds, has_granted, mail}
use Rattle.qc_msg.specs.declared.message.Answer.TheVariants as answers
use Rattle.qc_msg.specs.declared.message.Envelope.{Envelope}
use Rattle.qc_msg.specs.declared.message.Message.TheVariants as messages
use Rattle.qc_msg.specs.declared.message.Want.{Want}
use Rattle.qc_msg.specs.declared.message.Want.TheVariants.{Prepare}
use Rattle.qc_msg.specs.declared.record.Record.{Record}
use Rattle.qc_msg.specs.declared.record.Record.TheVariants as records
use Rattle.laws_refinement.specs.Vocabulary.{IsGrantTo, IsRequest, IsVoteTo}
use Rattle.qc_promise.specs.Vocabulary.{Account, Current, Kept, account, account_taken, committed}
use Rattle.laws_reach.proofs.RunLaws.{votes_of_runs_stand_on_records}
use Rattle.laws_reach.proofs.Committing.{committed_records_stand}
use Rattle.laws_reach.specs.Vocabulary.{IsOfClient, IsPromiseRecorded, records_of}
use Rattle.qc_script.specs.Vocabulary.{IsScriptFor, RunsWithFalls}
use Rattle.qc_script.specs.declared.script.Script.{Script}
use Rattle.qc_stamp.specs.declared.stamp.Stamp.{Stamp}
use Rattle.qc_stamp.specs.declared.stamp.TxId.{TxId}
use Rattle.laws_atomic.proofs.Heard.{took_sent}

same_commit : (o : Option Current) (t : Current) (stamp : Stamp) (c : CommitRecord) → o ≡ Some t
    → option_map (λ (x : Current). record { stamp = stamp; tx = x.tx; ops = x.ops }) o ≡ Some c
    → record { stamp = stamp; tx = t.tx; ops = t.ops } ≡ c
same_commit o t stamp c at is = let both : Some (record { stamp = stamp; tx = t.tx; ops = t.ops }) ≡ Some c =
    ap (option_map (λ (x : Current). record { stamp = stamp; tx = x.tx; ops = x.ops })) (sym at) ∙ is in cc

module _ (fits : ℕ → List Record → Type 0) (decl : Declaration) (script : Script) (h : List Entry)
    (open_inputs : List Bool) (accepted : IsAccepted decl) (sound : IsScriptFor decl script)
    (run : RunsWithFalls (IsLawfulWithFalls decl) fits decl script h open_inputs) (kept : Kept h) (a : ℕ) (d0 : Account)
    (t : Current) where
  abbrev ds : List Deed
  ds = deeds a [] h

  grounds : HasGrounds ds (account decl a h)
  grounds = has_grounds decl (a - decl.sites) ds

  abbrev IsAsked : ℕ → ℕ → TxId → Want → Type 0
  IsAsked n to tx want = IsRequest (mail h) n to tx want

  sent_request : (n to : ℕ) (tx : TxId) (epoch life : ℕ) (want : Want)
      → In (Sends n to (messages.Request tx epoch life want)) ds → IsAsked n to tx want
  sent_request n to tx epoch life want among = record {
    epoch = epoch;
    life = life;
    is = (
      sent_as a n to (messages.Request tx epoch life want),
      at_number fits decl script h open_inputs accepted sound run kept
          (sent_as a n to (messages.Request tx epoch life want))
          (sent_mail a [] h n to (messages.Request tx epoch life want) among),
      refl,
      refl,
    );
  }

  to_history : (n to : ℕ) (tx : TxId) (want : Want)
      → IsRequest (net fits decl script h open_inputs accepted sound run kept).mail n to tx want → IsAsked n to tx want
  to_history n to tx want r = subst (λ (ms : List Envelope). IsRequest ms n to tx want)
      (reached fits decl script h open_inputs accepted sound run kept).mail_is r

  same_asked : (n s u : ℕ) (tx other : TxId) (want wish : Want) → IsAsked n s tx want → IsAsked n u other wish
      → (s ≡ u) × (tx ≡ other) × (want ≡ wish)
  same_asked n s u tx other want wish r k =
      one_request fits decl script h open_inputs accepted sound run kept n s u tx other want wish r k

  -- a site with a grant that counted is a site
  pub granted_site : (site : ℕ) → (account decl a h).current ≡ Some t → has_granted t.lives site ≡ true
      → is_site decl site ≡ true
  granted_site site current has = by (backed fits decl script h open_inputs accepted sound run kept g.taken.envelope
      (messages.Answer g.number (answers.Granted g.grant)) (took_sent a [] h g.taken.envelope g.taken.taken) g.taken.is)
    where
      g : WasGranted ds t.tx site
      g = grounds.granted t site current has

      by : IsGrantTo decl (now fits decl script h open_inputs accepted sound run kept)
          (net fits decl script h open_inputs accepted sound run kept).mail g.taken.envelope.from g.number g.grant
          → is_site decl site ≡ true
      by b =
          let one = same_asked g.number g.taken.envelope.from site b.tx t.tx b.want g.want
          (to_history g.number g.taken.envelope.from b.tx b.want
          (record { epoch = b.epoch; life = b.named; is = b.request }))
          (sent_request g.number site t.tx g.epoch g.named g.want g.asked) in
          subst (λ (n : ℕ). is_site decl n ≡ true) one.0 b.grant.place

  module _ (site : ℕ) (k : IsAskedAndFor (account decl a h) t site) (current : (account decl a h).current ≡ Some t)
      (there : is_site decl site ≡ true) where
    sent : WasSent ds k.q t.tx
    sent =
        let s : (u : Current) × ((account decl a h).current ≡ Some u)
        × WasSent ds k.q u.tx = grounds.sent k.q k.among in
        let same : s.0 ≡ t = (let both : Some s.0 ≡ Some t = sym s.1 ∙ current in cc) in
        subst (λ (u : Current). WasSent ds k.q u.tx) same s.2

    taken : WasTaken ds k.q.number (answers.Yes k.clock)
    taken = grounds.taken k.q (answers.Yes k.clock) k.among k.taken

    vote_sent : In taken.envelope (mail h)
    vote_sent = took_sent a [] h taken.envelope taken.taken

    its_request : IsAsked k.q.number k.q.site t.tx k.q.want
    its_request = sent_request k.q.number k.q.site t.tx sent.epoch k.q.life k.q.want sent.is

    from_site : taken.envelope.from ≡ site
    from_site = by (backed fits decl script h open_inputs accepted sound run kept taken.envelope
        (messages.Answer k.q.number (answers.Yes k.clock)) vote_sent taken.is)
      where
        by : IsVoteTo (now fits decl script h open_inputs accepted sound run kept).votes
            (net fits decl script h open_inputs accepted sound run kept).mail taken.envelope.from k.q.number
            → taken.envelope.from ≡ site
        by v = (same_asked k.q.number taken.envelope.from k.q.site v.tx t.tx Prepare k.q.want
            (to_history k.q.number taken.envelope.from v.tx Prepare v.request) its_request).0 ∙ k.at

    stands : IsPromiseRecorded h taken.envelope.from k.q.number
    stands = votes_of_runs_stand_on_records fits decl script h open_inputs accepted sound run kept taken.envelope
        k.q.number k.clock vote_sent (subst (λ (n : ℕ). is_site decl n ≡ true) (sym from_site) there) taken.is

    promise_its : stands.promise.tx ≡ t.tx
    promise_its = (same_asked k.q.number stands.request.to k.q.site stands.promise.tx t.tx Prepare k.q.want (record {
      epoch = stands.epoch;
      life = stands.life;
      is = (
        stands.request,
        ap (λ (n : ℕ). slice_get (mail h) n) (sym stands.numbered)
            ∙ at_number fits decl script h open_inputs accepted sound run kept stands.request stands.sent,
        refl,
        stands.named,
      );
    }) its_request).1

    pub promised_there : HasPromised h t site
    promised_there = record {
      vote = taken.envelope;
      sent = vote_sent;
      from = from_site;
      number = k.q.number;
      clock = k.clock;
      is = taken.is;
      request = sent_as a k.q.number k.q.site (messages.Request t.tx sent.epoch k.q.life k.q.want);
      asked = sent_mail a [] h k.q.number k.q.site (messages.Request t.tx sent.epoch k.q.life k.q.want) sent.is;
      numbered = refl;
      epoch = sent.epoch;
      named = λ i. messages.Request t.tx sent.epoch (k.life i) (k.want i);
      promise = stands.promise;
      its = promise_its;
      stands = subst (λ (n : ℕ). In (records.Prepare stands.promise) (records_of h n)) from_site stands.stands;
    }

-- it is so in later histories
pub promised_later : (early later h : List Entry) (t : Current) (site : ℕ) → early ++ later ≡ h → Kept h
    → HasPromised early t site → HasPromised h t site
promised_later early later h t site is kept p = record {
  vote = p.vote;
  sent = more p.vote p.sent;
  from = p.from;
  number = p.number;
  clock = p.clock;
  is = p.is;
  request = p.request;
  asked = more p.request p.asked;
  numbered = p.numbered;
  epoch = p.epoch;
  named = p.named;
  promise = p.promise;
  its = p.its;
  stands = record_stays (records.Prepare p.promise) site early later h is kept p.stands;
}
  where
    more : (e : Envelope) → In e (mail early) → In e (mail h)
    more e there = subst (λ (k : List Entry). In e (mail k)) is
        (subst (In e) (sym (mail-append early later)) (In-first e (mail early) (mail later) there))

-- a client that has an open input is about to write this record: it is that of the transaction that it has begun, and
-- all participants have promised
pub record IsRecording (decl : Declaration) (h : List Entry) (a : ℕ) (c : CommitRecord) : Type 0 where
  pub t : Current
  pub begun : (account decl a h).current ≡ Some t
  pub its : c.tx ≡ t.tx
  pub ops : c.ops ≡ t.ops
  pub stamp : c.stamp.clock ≡ (account decl a h).clock + 1
  pub promised : HaveAllPromised h t

module _ (fits : ℕ → List Record → Type 0) (decl : Declaration) (script : Script) (h : List Entry)
    (open_inputs : List Bool) (accepted : IsAccepted decl) (sound : IsScriptFor decl script)
    (run : RunsWithFalls (IsLawfulWithFalls decl) fits decl script h open_inputs) (kept : Kept h) (a : ℕ)
    (c : CommitRecord) (k : IsCommitting decl a (deeds a [] h) c) where
  abbrev d : Account
  d = account decl a h

  votes : (t : Current) × IsVotedFor decl d t
  votes = due_votes decl d c.stamp k.due.0

  same : record { stamp = c.stamp; tx = votes.0.tx; ops = votes.0.ops } ≡ c
  same = same_commit d.current votes.0 c.stamp c votes.1.current k.due.1

  account_now : d ≡ account_taken (account_is decl a k.before) k.input
  account_now = ap (account_is decl a) k.is ∙ account_more decl a k.before (Takes k.input ∷ [])

  promised_now : HaveAllPromised h votes.0
  promised_now site has =
      let there : is_site decl site ≡ true = granted_site fits decl script h open_inputs accepted sound run kept a d
      votes.0 site votes.1.current has in
      let q : IsAskedAndFor (account_taken (account_is decl a k.before) k.input) votes.0 site =
      asked_for decl (account_is decl a k.before) k.tied.state k.tied.ties k.input votes.0
      (subst (λ (x : Account). IsVotedFor decl x votes.0) account_now votes.1) site
      (ltb-true site decl.sites there) has in
      promised_there fits decl script h open_inputs accepted sound run kept a d votes.0 site
      (subst (λ (x : Account). IsAskedAndFor x votes.0 site) (sym account_now) q) votes.1.current there

  pub recording : IsRecording decl h a c
  recording = record {
    t = votes.0;
    begun = votes.1.current;
    its = sym (ap (λ (x : CommitRecord). x.tx) same);
    ops = sym (ap (λ (x : CommitRecord). x.ops) same);
    stamp = ap (λ (s : Stamp). s.clock) (due_stamp decl d c.stamp k.due.0);
    promised = promised_now;
  }

module _ (fits : ℕ → List Record → Type 0) (decl : Declaration) (script : Script) (accepted : IsAccepted decl)
    (sound : IsScriptFor decl script) (h : List Entry) (kept : Kept h) (a : ℕ) (c : CommitRecord)
    (client : is_client decl a ≡ true)
    (m : Moment fits decl script accepted sound h a c) where
  pub now_recording : IsRecording decl m.before a c
  now_recording = recording fits decl script m.before m.open_inputs accepted sound m.run m.kept a c m.commits

  abbrev pub recorded_at : IsRecorded decl h c
  recorded_at = record {
    before = m.before;
    actor = a;
    steps = m.steps;
    after = m.after;
    stands = m.stands;
    writing = m.writing;
    client = client;
    t = now_recording.t;
    begun = now_recording.begun;
    its = now_recording.its;
    ops = now_recording.ops;
    stamp = now_recording.stamp;
  }

  pub all_promised : HaveAllPromised h recorded_at.t
  all_promised site has = promised_later m.before (by a m.steps ++ m.after) h recorded_at.t site (sym m.stands) kept
      (now_recording.promised site has)

module _ (fits : ℕ → List Record → Type 0) (decl : Declaration) (script : Script) (h : List Entry)
    (open_inputs : List Bool) (accepted : IsAccepted decl) (sound : IsScriptFor decl script)
    (run : RunsWithFalls (IsLawfulWithFalls decl) fits decl script h open_inputs) (kept : Kept h) (c : CommitRecord)
    (committed_is : In c (committed decl h)) where
  pub its_client : IsOfClient decl (records_of h) c
  its_client = (committed_records_stand decl h kept).each c
      ((listed fits decl script h open_inputs accepted sound run kept c).0 committed_is)

  pub its_moment : Moment fits decl script accepted sound h its_client.actor c
  its_moment = all_recorded fits decl script accepted sound h open_inputs run kept its_client.actor c its_client.client
      (inl its_client.listed)

  pub participants_of_committed_transactions_have_promised : (r : IsRecorded decl h c) × HaveAllPromised h r.t
  participants_of_committed_transactions_have_promised = (
    recorded_at fits decl script accepted sound h kept its_client.actor c its_client.client its_moment,
    all_promised fits decl script accepted sound h kept its_client.actor c its_client.client its_moment,
  )
