-- Where a client without an open input waits for a promise, the site that it asked holds something of its transaction,
-- and what it would promise fits a record.
use Rattle.std.proofs.Common.{◌*◌, ◌≡◌, ◌⊎◌, ◌≤◌, ◌-◌, ℕ, nat_le, Bool, true, false, List, [], inl, inr, map, Option}
use Rattle.std.proofs.Common.{Some, None, is_none, slice_get, refl, sym, ap, ◌∙◌, subst, lt-ltb}
use Rattle.std.specs.Prelude.{sum_by}
use Rattle.qc_stamp.specs.declared.stamp.TxId.{TxId}
use Rattle.qc_list.specs.Vocabulary.{In}
use Rattle.qc_list.proofs.Members.{In-passes, every-In, In-map}
use Rattle.qc_entry.specs.declared.record.Commit.{Commit as CommitRecord}
use Rattle.qc_core.specs.Vocabulary.{IsLawful}
use Rattle.qc_decl.specs.declared.declaration.Declaration.{Declaration}
use Rattle.qc_decl.specs.Vocabulary.{IsAccepted, first_site, is_client, is_site, most_committed_operations}
use Rattle.qc_decl.specs.Vocabulary.{most_record_bytes}
use Rattle.qc_lock.specs.Vocabulary.{is_held}
use Rattle.qc_msg.specs.declared.message.Envelope.{Envelope}
use Rattle.qc_msg.specs.declared.message.Message.{Message}
use Rattle.qc_msg.specs.declared.message.Message.TheVariants as messages
use Rattle.qc_msg.specs.declared.message.Outcome.{Outcome}
use Rattle.qc_msg.specs.declared.message.Outcome.TheVariants as outcomes
use Rattle.qc_msg.specs.declared.message.Want.{Want}
use Rattle.qc_msg.specs.declared.message.Want.TheVariants.{Read, Prepare}
use Rattle.qc_msg.specs.Vocabulary.{Entry, Sends, answered, deeds, first_epoch, has_granted, mail, operations_of}
use Rattle.qc_msg.specs.Vocabulary.{first_read}
use Rattle.qc_plan.specs.Vocabulary.{cyclic}
use Rattle.qc_promise.specs.Vocabulary.{Account, ClientRequest, Current, account, is_append}
use Rattle.theory_machine.specs.Vocabulary.{IsOutcome, Status, Voting as IsVoting, state}
use Rattle.theory_machine.proofs.Keeps.{laws}
use Rattle.qc_script.specs.Vocabulary.{IsScriptFor, Runs}
use Rattle.qc_script.specs.declared.script.Script.{Script}
use Rattle.qc_commit.specs.declared.desk.Desk.{Desk}
use Rattle.qc_commit.specs.declared.desk.Voting.{Voting}
use Rattle.qc_front.specs.declared.front.Front.{Front}
use Rattle.qc_front.specs.declared.transaction.Transaction.{Transaction}
use Rattle.qc_client.specs.Vocabulary.{client_after}
use Rattle.qc_client.specs.declared.client.Client.{Client}
use Rattle.qc_site.specs.Vocabulary.{is_final, prepare_length, promise_of}
use Rattle.laws_turns.proofs.Acted.{actors_take_and_post_by_turns}
use Rattle.laws_turns.proofs.Proper.{run_proper}
use Rattle.laws_turns.proofs.SiteReplies.{IsProperFrom}
use Rattle.laws_turns.specs.Vocabulary.{ActsIn}
use Rattle.laws_due.specs.Vocabulary.{IsOpenIn, Ties, Votes, appends, ballot_of, calls_in, reads, rests, votes}
use Rattle.laws_due.proofs.Courses.{accounts_are_their_clients}
use Rattle.laws_due.proofs.AccountDeclared.{scripts_ask_what_is_declared}
use Rattle.laws_refinement.specs.Vocabulary.{Backed, IsGrantTo, IsRequest, IsVerdictBacked, Refines}
use Rattle.laws_atomic.proofs.CalmGrants.{is_of_first_epoch}
use Rattle.laws_atomic.proofs.RunsStand.{runs_stand}
use Rattle.laws_atomic.proofs.Stood.{Stood}
use Rattle.laws_guarantees.specs.Vocabulary.{IsOpenVote}
use Rattle.laws_guarantees.proofs.Accounts.{HasGrounds, WasGranted, WasSent}
use Rattle.laws_guarantees.proofs.RequestGrounds.{has_grounds}
use Rattle.laws_guarantees.proofs.NeverRisen.{operations_written}
use Rattle.laws_guarantees.proofs.Mailed.{sent_as, sent_mail}
use Rattle.laws_guarantees.proofs.NetMessages.{AreFullMessages, IsGrantedBy, WasEnded, same_request}
use Rattle.laws_guarantees.proofs.NetHolds.{granted_or_ended}
use Rattle.laws_guarantees.proofs.Rightful.{mail_full, mail_named}
use Rattle.laws_guarantees.proofs.Room.{m as refined, promise_fits, votes_of, AreNamedMessages}
use Rattle.laws_atomic.proofs.Heard.{took_sent}

module _ (decl : Declaration) (d : Account) (c : Client) (q : ClientRequest) (k : IsOpenVote d q) where
  -- its client waits for votes
  pub voting_tie : Ties decl d c → Votes decl d c
  voting_tie (rests r) = absurd (subst (λ (qs : List ClientRequest). In q qs) r.requests k.among)
  voting_tie (reads r) = absurd (let read : q.want ≡ Read (first_read r.object r.inv) =
      every-In (λ (x : ClientRequest). x.want ≡ Read (first_read r.object r.inv)) q d.requests r.reads k.among in
      let p : q.want ≡ Prepare = k.want in let never : ⊥ = cc in never)
  voting_tie (appends r) = absurd (
      let half : is_append q.want ≡ true = every-In (IsOpenIn is_append) q d.requests r.appends k.among
      (ap (λ (o : Option (Option _)). is_none o) k.untaken) in
      let none : is_append q.want ≡ false = ap is_append k.want in
      let never : ⊥ = cc in never)
  voting_tie (votes v) = v

module _ (decl : Declaration) (script : Script) (accepted : IsAccepted decl) (sound : IsScriptFor decl script)
    (h : List Entry) (open_inputs : List Bool) (run : Runs (IsLawful decl) decl script h open_inputs) where
  pub stood : Stood decl h open_inputs
  stood = runs_stand decl script accepted sound h open_inputs run

  abbrev pub mirror : Refines decl stood.net
  mirror = refined decl accepted stood.net stood.calm

  -- a message of the run stands at its number
  pub at_number : (e : Envelope) → In e (mail h) → slice_get (mail h) e.number ≡ Some e
  at_number e sent = subst (λ (ms : List Envelope). In e ms → slice_get ms e.number ≡ Some e) stood.mail_is
      (mirror.agrees.numbered e) sent

  pub request_sent : (a n to : ℕ) (tx : TxId) (epoch life : ℕ) (want : Want)
      → In (Sends n to (messages.Request tx epoch life want)) (deeds a [] h) → IsRequest (mail h) n to tx want
  request_sent a n to tx epoch life want among = record {
    epoch = epoch;
    life = life;
    is = (
      sent_as a n to (messages.Request tx epoch life want),
      at_number (sent_as a n to (messages.Request tx epoch life want))
          (sent_mail a [] h n to (messages.Request tx epoch life want) among),
      refl,
      refl,
    );
  }

  -- two requests of one number are one
  pub one_request : (n s t : ℕ) (tx u : TxId) (want wish : Want) → IsRequest (mail h) n s tx want
      → IsRequest (mail h) n t u wish → (s ≡ t) × (tx ≡ u) × (want ≡ wish)
  one_request n s t tx u want wish r k =
      let same : r.is.0 ≡ k.is.0 = (let both_are : Some r.is.0 ≡ Some k.is.0 = sym r.is.1 ∙ k.is.1 in cc) in
      let parts : (tx ≡ u) × (want ≡ wish) = same_request tx u r.epoch r.life k.epoch k.life want wish
      (sym r.is.3 ∙ ap (λ (e : Envelope). e.message) same ∙ k.is.3) in
      (sym r.is.2 ∙ ap (λ (e : Envelope). e.to) same ∙ k.is.2, parts.0, parts.1)

  -- what an account says was granted, its site granted
  pub granted_by : (a : ℕ) (tx : TxId) (site : ℕ) → WasGranted (deeds a [] h) tx site
      → IsGrantedBy stood.net.mail site tx
  granted_by a tx site w =
      let sent : In w.taken.envelope (mail h) = took_sent a [] h w.taken.envelope w.taken.taken in
      let here : In w.taken.envelope stood.net.mail =
      subst (λ (ms : List Envelope). In w.taken.envelope ms) (sym stood.mail_is) sent in
      let b : IsGrantTo decl (state mirror.acts) stood.net.mail w.taken.envelope.from w.number w.grant =
      subst (λ (x : Message). Backed decl (state mirror.acts) stood.net.mail w.taken.envelope.from w.taken.envelope.to
      x) w.taken.is (mirror.agrees.mail w.taken.envelope here) in
      let asked : IsRequest (mail h) w.number site tx w.want =
      request_sent a w.number site tx w.epoch w.named w.want w.asked in
      let from : (w.taken.envelope.from ≡ site) × (b.tx ≡ tx)
      × (b.want ≡ w.want) = one_request w.number w.taken.envelope.from site b.tx tx b.want w.want
      (subst (λ (ms : List Envelope). IsRequest ms w.number w.taken.envelope.from b.tx b.want) stood.mail_is
      (record { epoch = b.epoch; life = b.named; is = b.request })) asked in
      record {
        answer = w.taken.envelope;
        sent = here;
        from = from.0;
        number = w.number;
        grant = w.grant;
        grants = w.taken.is;
        want = w.want;
        asked = subst (λ (ms : List Envelope). IsRequest ms w.number site tx w.want) (sym stood.mail_is) asked;
      }

  -- a transaction for which a site granted something is of the first epoch
  pub granted_first : (site : ℕ) (tx : TxId) → IsGrantedBy stood.net.mail site tx
      → (state mirror.acts).epoch tx ≡ first_epoch
  granted_first site tx g =
      let b : IsGrantTo decl (state mirror.acts) stood.net.mail g.answer.from g.number g.grant =
      subst (λ (x : Message). Backed decl (state mirror.acts) stood.net.mail g.answer.from g.answer.to x) g.grants
      (mirror.agrees.mail g.answer g.sent) in
      let same : b.request.0 ≡ g.asked.is.0 = (let both_are : Some b.request.0 ≡ Some g.asked.is.0 = sym b.request.1
      ∙ g.asked.is.1 in cc) in
      let its : b.tx ≡ tx = (same_request b.tx tx b.epoch b.named g.asked.epoch g.asked.life b.want g.want
      (sym b.request.3 ∙ ap (λ (e : Envelope). e.message) same ∙ g.asked.is.3)).0 in
      ap (state mirror.acts).epoch (sym its) ∙ sym b.grant.epoch_is
      ∙ is_of_first_epoch decl stood.net stood.calm mirror.acts mirror.run mirror.agrees b.grant.grant b.grant.given

  -- an open request was sent to a site
  pub asked_site : (a : ℕ) (n to : ℕ) (tx : TxId) (epoch life : ℕ) (want : Want)
      → In (Sends n to (messages.Request tx epoch life want)) (deeds a [] h) → is_site decl to ≡ true
  asked_site a n to tx epoch life want among =
      let p : IsProperFrom decl a to (messages.Request tx epoch life want) =
      every-In (λ (x : Envelope). IsProperFrom decl x.from x.to x.message)
      (sent_as a n to (messages.Request tx epoch life want)) (mail h)
      (run_proper decl script accepted (scripts_ask_what_is_declared decl script accepted sound) h open_inputs run)
      (sent_mail a [] h n to (messages.Request tx epoch life want) among) in
      lt-ltb to decl.sites p.1.0

  module _ (a : ℕ) (client : is_client decl a ≡ true) (free : slice_get open_inputs a ≡ Some false) (q : ClientRequest)
      (k : IsOpenVote (account decl a h) q) where
    acts : ActsIn decl a h false
    acts = actors_take_and_post_by_turns decl script h open_inputs run a false free

    pub tie : Votes decl (account decl a h) (client_after decl (a - decl.sites) (deeds a [] h)).client
    tie = voting_tie decl (account decl a h) (client_after decl (a - decl.sites) (deeds a [] h)).client q k
        (accounts_are_their_clients decl a client (deeds a [] h) acts.above acts.acts)

    here : stood.net.clients a ≡ (client_after decl (a - decl.sites) (deeds a [] h)).client
    here = (stood.clients_are a client).closed free

    pub transaction_is : (stood.net.clients a).front.transaction ≡ Some tie.x
    transaction_is = ap (λ (c : Client). c.front.transaction) here ∙ ap (λ (f : Front). f.transaction) tie.front

    v : Voting
    v = record {
      begun = tie.x.begun;
      calls = calls_in (account decl a h).requests;
      ballots = map (ballot_of tie.x.begun) (account decl a h).requests;
    }

    voting_is : (stood.net.clients a).desk.voting ≡ Some v
    unfolding v
    voting_is = ap (λ (c : Client). c.desk.voting) here ∙ ap (λ (f : Desk). f.voting) tie.desk

    name_is : tie.x.begun.tx ≡ tie.t.tx
    name_is = ap (λ (x : Transaction). x.begun.tx) tie.begun.is

    grounds : HasGrounds (deeds a [] h) (account decl a h)
    grounds = has_grounds decl (a - decl.sites) (deeds a [] h)

    -- the site is a participant
    pub site_granted : has_granted tie.t.lives q.site ≡ true
    site_granted = In-passes (has_granted tie.t.lives) q.site
        (cyclic decl.sites (first_site decl (account decl a h).client))
        (subst (λ (sites : List ℕ). In q.site sites) tie.sites
        (In-map (λ (x : ClientRequest). x.site) q (account decl a h).requests k.among))

    not_final : (verdict : Outcome) → is_final verdict ≡ true
        → IsVerdictBacked (state mirror.acts) tie.x.begun.tx verdict
        → (state mirror.acts).status tie.x.begun.tx ≡ IsVoting → ⊥
    not_final (outcomes.Committed stamp) final backed voting =
        subst (λ (s : Status). IsOutcome s (Some stamp)) voting
        ((laws decl mirror.acts mirror.run).verdicts (record { tx = tie.x.begun.tx; stamp = Some stamp }) backed)
    not_final outcomes.Aborted final backed voting =
        subst (λ (s : Status). IsOutcome s None) voting
        ((laws decl mirror.acts mirror.run).verdicts (record { tx = tie.x.begun.tx; stamp = None }) backed)
    not_final outcomes.Active final backed voting = let never : ⊥ = cc in never

    status_is : (state mirror.acts).status tie.x.begun.tx ≡ IsVoting
    status_is = (votes_of decl accepted stood.net stood.calm a tie.x v client transaction_is voting_is).1

    sent : WasSent (deeds a [] h) q tie.t.tx
    sent =
        let s : (t : Current) × ((account decl a h).current ≡ Some t)
        × WasSent (deeds a [] h) q t.tx = grounds.sent q k.among in
        let same : s.0 ≡ tie.t = (let both_are : Some s.0 ≡ Some tie.t = sym s.1 ∙ tie.current in cc) in
        subst (λ (t : Current). WasSent (deeds a [] h) q t.tx) same s.2

    pub asked : IsRequest (mail h) q.number q.site tie.t.tx Prepare
    asked = subst (λ (w : Want). IsRequest (mail h) q.number q.site tie.t.tx w) k.want
        (request_sent a q.number q.site tie.t.tx sent.epoch q.life q.want sent.is)

    pub place : is_site decl q.site ≡ true
    place = asked_site a q.number q.site tie.t.tx sent.epoch q.life q.want sent.is

    -- no final Decision on the transaction was sent
    not_ended : WasEnded stood.net.mail tie.x.begun.tx → ⊥
    not_ended e = not_final e.ends.0 e.ends.2
        (subst (λ (m : Message). Backed decl (state mirror.acts) stood.net.mail e.envelope.from e.envelope.to m)
        e.ends.1 (mirror.agrees.mail e.envelope e.sent)) status_is

    -- it granted
    pub granted : IsGrantedBy stood.net.mail q.site tie.t.tx
    granted = granted_by a tie.t.tx q.site (grounds.granted tie.t q.site tie.current site_granted)

    -- so it holds something
    pub site_holds : is_held (stood.net.sites q.site).held tie.t.tx ≡ true
    site_holds = by (granted_or_ended decl accepted stood.net stood.calm
        (subst AreFullMessages (sym stood.mail_is) (mail_full decl script accepted sound h open_inputs run)) q.site
        tie.t.tx place granted)
      where
        by : (is_held (stood.net.sites q.site).held tie.t.tx ≡ true) ⊎ WasEnded stood.net.mail tie.t.tx
            → is_held (stood.net.sites q.site).held tie.t.tx ≡ true
        by (inl held) = held
        by (inr ended) = absurd (not_ended (subst (WasEnded stood.net.mail) (sym name_is) ended))

    -- and its promise fits a record
    pub site_has_room : operations_of h ≤ 2 * most_committed_operations
        → nat_le (prepare_length (promise_of (stood.net.sites q.site) tie.t.tx)) most_record_bytes ≡ true
    site_has_room few =
        subst (λ (tx : TxId). nat_le (prepare_length (promise_of (stood.net.sites q.site) tx)) most_record_bytes ≡ true)
        name_is
        (promise_fits decl accepted stood.net stood.calm a tie.x v client transaction_is voting_is q.site place
        (subst (AreNamedMessages decl) (sym stood.mail_is)
        (mail_named decl script accepted sound h open_inputs run))
        (subst (λ (cs : List CommitRecord). sum_by
        (λ (c : CommitRecord). answered c.ops) cs ≤ 2 * most_committed_operations) (sym stood.written_is)
        (subst (λ (n : ℕ). n ≤ 2 * most_committed_operations)
        (operations_written (IsLawful decl) decl script h open_inputs run) few)))
