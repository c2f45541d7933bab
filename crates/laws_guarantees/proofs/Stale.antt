-- No site that a client waits for has forgotten what it is asked to promise, and so no vote says so.
use Rattle.std.proofs.Common.{◌*◌, ◌≡◌, ◌≤◌, ◌-◌, ◌==◌, ℕ, nat_le, Bool, true, false, cond, List, [], ◌++◌, length}
use Rattle.std.proofs.Common.{Some, None, slice_get, refl, sym, ap, ◌∙◌, subst, eqb-true, eq-eqb}
use Rattle.std.specs.Prelude.{fold, slice_set, sum_by}
use Rattle.std.proofs.lemmas.List.{append-nil}
use Rattle.qc_decl.proofs.Clients.{client_within}
use Rattle.qc_stamp.specs.declared.stamp.TxId.{TxId}
use Rattle.qc_list.specs.Vocabulary.{In}
use Rattle.qc_list.proofs.Members.{In-at}
use Rattle.qc_entry.specs.declared.record.Commit.{Commit as CommitRecord}
use Rattle.qc_core.specs.Vocabulary.{IsLawful}
use Rattle.qc_decl.specs.declared.declaration.Declaration.{Declaration}
use Rattle.qc_decl.specs.Vocabulary.{IsAccepted, is_client, is_site, most_committed_operations, most_record_bytes}
use Rattle.qc_lock.specs.Vocabulary.{is_held}
use Rattle.qc_msg.specs.declared.message.Answer.{Answer}
use Rattle.qc_msg.specs.declared.message.Envelope.{Envelope}
use Rattle.qc_msg.specs.declared.message.Message.{Message}
use Rattle.qc_msg.specs.declared.message.Message.TheVariants as messages
use Rattle.qc_msg.specs.declared.message.Want.{Want}
use Rattle.qc_msg.specs.declared.message.Want.TheVariants.{Prepare}
use Rattle.qc_msg.specs.declared.step.Input.{Input}
use Rattle.qc_msg.specs.declared.turn.Posting.{Posting}
use Rattle.qc_msg.specs.declared.turn.Turn.{Turn}
use Rattle.qc_msg.specs.Vocabulary.{Deed, Entry, WasSentTo, answered, by as by_actor, deeds, first_epoch, mail}
use Rattle.qc_msg.specs.Vocabulary.{operations_of, posted, written}
use Rattle.qc_msg.proofs.DeedsGrow.{deeds-other}
use Rattle.qc_msg.proofs.Growth.{deeds-posted}
use Rattle.qc_promise.specs.Vocabulary.{ClientRequest, account, account_at, new_account}
use Rattle.theory_machine.specs.Vocabulary.{state}
use Rattle.qc_script.specs.Vocabulary.{IsScriptFor, Runs}
use Rattle.qc_script.specs.Runs.{posts}
use Rattle.qc_script.specs.declared.script.Script.{Script}
use Rattle.qc_client.specs.Vocabulary.{client_after}
use Rattle.qc_site.specs.Vocabulary.{SiteMove, passed, prepare_length, promise_of, site_after, site_at, site_takes}
use Rattle.laws_turns.proofs.Acted.{has_entry, actors_take_and_post_by_turns}
use Rattle.laws_turns.specs.Vocabulary.{ActsIn}
use Rattle.laws_refinement.specs.Vocabulary.{Backed, IsRequest}
use Rattle.laws_atomic.proofs.Calm.{all_first}
use Rattle.laws_atomic.proofs.Posted.{written_posted}
use Rattle.laws_atomic.proofs.Stood.{OpenSite}
use Rattle.laws_guarantees.specs.Vocabulary.{IsOpenVote}
use Rattle.laws_guarantees.proofs.NeverRisen.{operations_written}
use Rattle.laws_guarantees.proofs.ForgettingAnswers.{Forgets}
use Rattle.laws_guarantees.proofs.AnswersToInputs.{IsAnswering, IsAnsweringTo, answers_inputs, answers_request}
use Rattle.laws_guarantees.proofs.SiteMoves.{prepares_remembered}
use Rattle.laws_guarantees.proofs.Voted.{asked, granted, granted_first, mirror, one_request, site_has_room, site_holds}
use Rattle.laws_guarantees.proofs.Voted.{stood, tie}
use Rattle.laws_guarantees.proofs.Waiting.{still_open, writes_no_commit}
use Rattle.laws_refinement.proofs.Kepts.{no_client}
use Rattle.qc_list.proofs.Places.{slice_get-set_other, slice_get-set_same}

module _ (decl : Declaration) (script : Script) (accepted : IsAccepted decl) (sound : IsScriptFor decl script) where
  -- an answer of a site with an open input doesn't say that it has forgotten what a client waits for, which has none

  module _ (h : List Entry) (open_inputs : List Bool) (run : Runs (IsLawful decl) decl script h open_inputs)
      (few : operations_of h ≤ 2 * most_committed_operations) (a : ℕ) (client : is_client decl a ≡ true)
      (free : slice_get open_inputs a ≡ Some false)
      (q : ClientRequest) (k : IsOpenVote (account decl a h) q) (b : ℕ) (site : is_site decl b ≡ true)
      (taken : slice_get open_inputs b ≡ Some true) where
    pub says_remembered : (p : Posting) (n : ℕ) (x : Answer) → In p (site_after decl b (deeds b [] h)).turn.sends
        → p.message ≡ messages.Answer n x → Forgets x → q.number ≡ n → ⊥
    says_remembered p n x among is forgets same =
        by (answers_request o.given n first (tie decl script accepted sound h open_inputs run a client free q k).t.tx
        question.epoch question.life Prepare content)
      where
        o : OpenSite decl ((stood decl script accepted sound h open_inputs run).net.sites b) b h
        o = ((stood decl script accepted sound h open_inputs run).sites_are b site).opened taken

        posted_here : In p (site_takes decl ((stood decl script accepted sound h open_inputs run).net.sites b)
            o.given).turn.sends
        posted_here = subst (λ (m : SiteMove). In p m.turn.sends) o.is among

        question : IsRequest (mail h) q.number q.site
            (tie decl script accepted sound h open_inputs run a client free q k).t.tx Prepare
        question = asked decl script accepted sound h open_inputs run a client free q k

        first : IsAnswering o.given n
        first = answers_inputs decl ((stood decl script accepted sound h open_inputs run).net.sites b) o.given p n x
            posted_here is

        content : first.envelope.message ≡ messages.Request
            (tie decl script accepted sound h open_inputs run a client free q k).t.tx question.epoch question.life
            Prepare
        content =
            let came : (slice_get (mail h) first.envelope.number ≡ Some first.envelope)
            × (first.envelope.to ≡ b) = subst (WasSentTo b (mail h)) first.is o.sent in
            let one : question.is.0 ≡ first.envelope =
            (let no_client : Some question.is.0 ≡ Some first.envelope = sym question.is.1
            ∙ ap (slice_get (mail h)) (sym (first.numbered ∙ sym same)) ∙ came.0 in cc) in
            sym (ap (λ (e : Envelope). e.message) one) ∙ question.is.3

        by : IsAnsweringTo o.given n → ⊥
        by r = prepares_remembered decl (passed ((stood decl script accepted sound h open_inputs run).net.sites b)
            r.envelope.message) r.envelope.from r.envelope.number r.tx r.epoch r.life
            (backed.2 ∙ of_first ∙ sym (all_first decl (stood decl script accepted sound h open_inputs run).net
            (stood decl script accepted sound h open_inputs run).calm b).epoch_is) held fits p n x at_site is
            forgets
          where
            sent : (slice_get (mail h) r.envelope.number ≡ Some r.envelope) × (r.envelope.to ≡ b)
            sent = subst (WasSentTo b (mail h)) r.is o.sent

            number_is : r.envelope.number ≡ q.number
            number_is = r.numbered ∙ sym same

            here : IsRequest (mail h) q.number b r.tx r.want
            here = record {
              epoch = r.epoch;
              life = r.life;
              is = (r.envelope, ap (slice_get (mail h)) (sym number_is) ∙ sent.0, sent.1, r.content);
            }

            one : (q.site ≡ b) × ((tie decl script accepted sound h open_inputs run a client free q k).t.tx ≡ r.tx)
                × (Prepare ≡ r.want)
            one = one_request decl script accepted sound h open_inputs run q.number q.site b
                (tie decl script accepted sound h open_inputs run a client free q k).t.tx r.tx Prepare r.want
                (asked decl script accepted sound h open_inputs run a client free q k) here

            among_net : In r.envelope (stood decl script accepted sound h open_inputs run).net.mail
            among_net = subst (λ (ms : List Envelope). In r.envelope ms)
                (sym (stood decl script accepted sound h open_inputs run).mail_is)
                (In-at (mail h) r.envelope.number r.envelope sent.0)

            -- the transaction is of the first epoch, since a site granted for it
            of_first : (state (mirror decl script accepted sound h open_inputs run).acts).epoch r.tx ≡ first_epoch
            of_first = subst (λ (tx : TxId). (state (mirror decl script accepted sound h open_inputs run).acts).epoch tx
                ≡ first_epoch) one.1 (granted_first decl script accepted sound h open_inputs run q.site
                (tie decl script accepted sound h open_inputs run a client free q k).t.tx
                (granted decl script accepted sound h open_inputs run a client free q k))

            backed : Backed decl (state (mirror decl script accepted sound h open_inputs run).acts)
                (stood decl script accepted sound h open_inputs run).net.mail r.envelope.from r.envelope.to
                (messages.Request r.tx r.epoch r.life r.want)
            backed = subst (λ (m : Message). Backed decl
                (state (mirror decl script accepted sound h open_inputs run).acts)
                (stood decl script accepted sound h open_inputs run).net.mail r.envelope.from r.envelope.to m) r.content
                ((mirror decl script accepted sound h open_inputs run).agrees.mail r.envelope among_net)

            held : is_held ((stood decl script accepted sound h open_inputs run).net.sites b).held r.tx ≡ true
            held = subst (λ (t : ℕ). is_held ((stood decl script accepted sound h open_inputs run).net.sites t).held
                r.tx ≡ true) one.0
                (subst (λ (tx : TxId). is_held ((stood decl script accepted sound h open_inputs run).net.sites
                q.site).held tx ≡ true) one.1 (site_holds decl script accepted sound h open_inputs run a client free
                q k))

            fits : nat_le (prepare_length (promise_of
                ((stood decl script accepted sound h open_inputs run).net.sites b) r.tx)) most_record_bytes ≡ true
            fits = subst (λ (t : ℕ). nat_le (prepare_length
                (promise_of ((stood decl script accepted sound h open_inputs run).net.sites t) r.tx)) most_record_bytes
                ≡ true) one.0
                (subst (λ (tx : TxId). nat_le (prepare_length
                (promise_of ((stood decl script accepted sound h open_inputs run).net.sites q.site) tx))
                most_record_bytes ≡ true) one.1 (site_has_room decl script accepted sound h open_inputs run a client
                free q k few))

            content : r.envelope.message ≡ messages.Request r.tx r.epoch r.life Prepare
            content = r.content ∙ ap (λ (w : Want). messages.Request r.tx r.epoch r.life w) (sym one.2)

            at_site : In p (site_at decl (passed ((stood decl script accepted sound h open_inputs run).net.sites b)
                r.envelope.message) r.envelope.from r.envelope.number
                (messages.Request r.tx r.epoch r.life Prepare)).turn.sends
            at_site = subst (λ (m : Message). In p (site_at decl
                (passed ((stood decl script accepted sound h open_inputs run).net.sites b) r.envelope.message)
                r.envelope.from r.envelope.number m).turn.sends) content
                (subst (λ (g : Input). In p (site_takes decl
                ((stood decl script accepted sound h open_inputs run).net.sites b) g).turn.sends) r.is posted_here)

  -- where the client has an open input, its turn tells nothing, and it waits still after it
  module _ (h : List Entry) (open_inputs : List Bool) (run : Runs (IsLawful decl) decl script h open_inputs) (a : ℕ)
      (client : is_client decl a ≡ true)
      (q : ClientRequest) (k : IsOpenVote (account decl a h) q) (opened : slice_get open_inputs a ≡ Some true) where
    no_site : is_site decl a ≡ false
    no_site = at (is_site decl a) refl
      where
        at : (t : Bool) → is_site decl a ≡ t → t ≡ false
        at true here = absurd (no_client decl a here client)
        at false other = refl

    abbrev pub turn : Turn
    turn = (client_after decl (a - decl.sites) (deeds a [] h)).turn

    pub law : IsLawful decl a (deeds a [] h) turn
    law = lawful (is_site decl a) (is_client decl a) no_site client
      where
        lawful : (s c : Bool) → s ≡ false → c ≡ true
            → cond s (Some (site_after decl a (deeds a [] h)).turn)
            (cond c (Some (client_after decl (a - decl.sites) (deeds a [] h)).turn) None) ≡ Some
            (client_after decl (a - decl.sites) (deeds a [] h)).turn
        lawful true c none is = absurd (let never : ⊥ = cc in never)
        lawful false true none is = refl
        lawful false false none is = absurd (let never : ⊥ = cc in never)

    acts : ActsIn decl a h true
    acts = actors_take_and_post_by_turns decl script h open_inputs run a true opened

    abbrev pub later : List Entry
    later = h ++ by_actor a (posted (length (mail h)) turn)

    pub later_run : Runs (IsLawful decl) decl script later (slice_set open_inputs a false)
    later_run = posts a turn open_inputs h run opened law

    pub still : IsOpenVote (account decl a later) q
    still = subst (λ (ds : List Deed). IsOpenVote (fold (account_at decl) (new_account (a - decl.sites)) ds) q)
        (sym (deeds-posted a (length (mail h)) h turn))
        (still_open decl a client (deeds a [] h) acts.above acts.acts q k turn (length (mail h)) acts.within law)

    same_written : written later ≡ written h
    same_written = written_posted h a (length (mail h)) turn
        ∙ ap (λ (cs : List CommitRecord). written h ++ cs)
        (writes_no_commit decl a client (deeds a [] h) acts.above acts.acts q k turn (length (mail h)) acts.within law)
        ∙ append-nil (written h)

    pub later_few : operations_of h ≤ 2 * most_committed_operations
        → operations_of later ≤ 2 * most_committed_operations
    later_few few = subst (λ (n : ℕ). n ≤ 2 * most_committed_operations)
        (operations_written (IsLawful decl) decl script h open_inputs run
        ∙ ap (sum_by (λ (c : CommitRecord). answered c.ops)) (sym same_written)
        ∙ sym (operations_written (IsLawful decl) decl script later (slice_set open_inputs a false) later_run)) few

    pub later_closed : slice_get (slice_set open_inputs a false) a ≡ Some false
    later_closed = slice_get-set_same open_inputs a false true opened

    module _ (b : ℕ) (site : is_site decl b ≡ true) where
      apart : (a == b) ≡ false
      apart = at (a == b) refl
        where
          at : (t : Bool) → (a == b) ≡ t → t ≡ false
          at true same = absurd (no_client decl b site (subst (λ (n : ℕ). is_client decl n ≡ true)
              (eqb-true a b same) client))
          at false other = refl

      pub same_deeds : deeds b [] later ≡ deeds b [] h
      same_deeds = deeds-other a b [] h (posted (length (mail h)) turn) apart

      pub same_slot : slice_get (slice_set open_inputs a false) b ≡ slice_get open_inputs b
      same_slot = slice_get-set_other open_inputs a b false
          (λ e. (let t : (a == b) ≡ true = eq-eqb a b e in let f : (a == b) ≡ false = apart in let never : ⊥ = cc in
          never))

  pub client_slot : (h : List Entry) (open_inputs : List Bool) → Runs (IsLawful decl) decl script h open_inputs
      → (a : ℕ) → is_client decl a ≡ true → (t : Bool) × (slice_get open_inputs a ≡ Some t)
  client_slot h open_inputs run a client =
      has_entry (IsLawful decl) decl script h open_inputs run a (client_within decl a client)

  -- so a site doesn't say either way that it has forgotten
  module _ (h : List Entry) (open_inputs : List Bool) (run : Runs (IsLawful decl) decl script h open_inputs)
      (few : operations_of h ≤ 2 * most_committed_operations) (a : ℕ) (client : is_client decl a ≡ true)
      (q : ClientRequest) (k : IsOpenVote (account decl a h) q) (b : ℕ) (site : is_site decl b ≡ true)
      (taken : slice_get open_inputs b ≡ Some true) where
    later_remembered : (opened : slice_get open_inputs a ≡ Some true) (p : Posting) (n : ℕ) (x : Answer)
        → In p (site_after decl b (deeds b [] h)).turn.sends → p.message ≡ messages.Answer n x → Forgets x
        → q.number ≡ n → ⊥
    later_remembered opened p n x among is forgets same =
        says_remembered (later h open_inputs run a client q k opened) (slice_set open_inputs a false)
        (later_run h open_inputs run a client q k opened)
        (later_few h open_inputs run a client q k opened few) a client
        (later_closed h open_inputs run a client q k opened) q (still h open_inputs run a client q k opened) b site
        (same_slot h open_inputs run a client q k opened b site ∙ taken)
        p n x (subst (λ (ds : List Deed). In p (site_after decl b ds).turn.sends)
        (sym (same_deeds h open_inputs run a client q k opened b site)) among) is forgets same

    pub remembered : (p : Posting) (n : ℕ) (x : Answer) → In p (site_after decl b (deeds b [] h)).turn.sends
        → p.message ≡ messages.Answer n x → Forgets x → q.number ≡ n → ⊥
    remembered = by (client_slot h open_inputs run a client)
      where
        by : (t : Bool) × (slice_get open_inputs a ≡ Some t) → (p : Posting) (n : ℕ) (x : Answer)
            → In p (site_after decl b (deeds b [] h)).turn.sends → p.message ≡ messages.Answer n x → Forgets x
            → q.number ≡ n → ⊥
        by (true, opened) = later_remembered opened
        by (false, free) = says_remembered h open_inputs run few a client free q k b site taken
