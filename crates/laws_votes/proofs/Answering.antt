-- A site that answers a Prepare for which a client waits doesn't say that it has forgotten, if what it would promise
-- fits a record: it is in a later epoch than the transaction's or in another life than the request names, and says so,
-- or it holds something.
use Rattle.std.proofs.Common.{◌≡◌, ◌≢◌, ◌⊎◌, ◌<◌, ◌≤◌, ◌-◌, nat_le, ℕ, Bool, true, false, List, [], ◌∷◌, ◌++◌, inl, inr}
use Rattle.std.proofs.Common.{Some, slice_get, refl, sym, ap, ◌∙◌, subst, arith, ltb-true}
use Rattle.std.specs.List.{AllByRecursion as Every}
use Rattle.qc_core.proofs.SiteLaws.{sites_are_read_off_their_steps}
use Rattle.qc_core.proofs.SiteLives.{sites_that_live_serve}
use Rattle.qc_core.specs.Vocabulary.{ActorMove, IsLawfulWithFalls, IsShown, IsSiteDeed, Lives, Serves, actor_after}
use Rattle.qc_core.specs.Vocabulary.{actor_takes, is_up, up_at}
use Rattle.std.proofs.lemmas.Bool.{cases_eq}
use Rattle.std.proofs.lemmas.List.Sums.{fold-append}
use Rattle.laws_due.proofs.Standing.{actor_more}
use Rattle.qc_core.specs.declared.actor.Actor.{Actor}
use Rattle.qc_entry.specs.Vocabulary.{without}
use Rattle.qc_entry.specs.declared.record.Prepared.{Prepared}
use Rattle.qc_core.specs.declared.actor.Actor.TheVariants as actor
use Rattle.qc_decl.specs.Vocabulary.{IsAccepted, actors, is_client, is_site, most_record_bytes}
use Rattle.qc_decl.specs.declared.declaration.Declaration.{Declaration}
use Rattle.laws_guarantees.proofs.Accounts.{HasGrounds, WasSent}
use Rattle.laws_guarantees.proofs.RequestGrounds.{has_grounds}
use Rattle.laws_guarantees.proofs.Mailed.{sent_as, sent_mail}
use Rattle.laws_guarantees.proofs.ForgettingAnswers.{Forgets}
use Rattle.laws_guarantees.proofs.AnswersToInputs.{IsAnswering, IsAnsweringTo, answers_inputs, answers_request}
use Rattle.laws_guarantees.proofs.SiteMoves.{prepares_remembered}
use Rattle.laws_guarantees.specs.Vocabulary.{IsOpenVote}
use Rattle.laws_votes.proofs.Nets.{at_number, backed, net, now, reached, refined}
use Rattle.qc_link.specs.Vocabulary.{most_actors}
use Rattle.qc_list.specs.Vocabulary.{In}
use Rattle.laws_turns.proofs.FallKept.{clients_rise_with_own_stamps_where_records_are_kept}
use Rattle.laws_turns.proofs.FallServed.{sites_take_site_inputs_with_falls}
use Rattle.laws_turns.proofs.Lived.{actors_live_in_runs_with_falls}
use Rattle.laws_turns.specs.Vocabulary.{LivesIn}
use Rattle.qc_lock.specs.Vocabulary.{held_of, is_held}
use Rattle.qc_msg.specs.Vocabulary.{Deed, Entry, Takes, WasSentTo, deeds, has_granted, life_of, mail, prepare_length}
use Rattle.qc_msg.specs.declared.message.Answer.{Answer}
use Rattle.qc_msg.specs.declared.message.Envelope.{Envelope}
use Rattle.qc_msg.specs.declared.message.Message.{Message}
use Rattle.qc_msg.specs.declared.message.Message.TheVariants as messages
use Rattle.qc_msg.specs.declared.message.Want.{Want}
use Rattle.qc_msg.specs.declared.message.Want.TheVariants.{Prepare}
use Rattle.qc_msg.specs.declared.record.Record.{Record}
use Rattle.qc_msg.specs.declared.step.Input.{Input}
use Rattle.qc_msg.specs.declared.turn.Posting.{Posting}
use Rattle.qc_msg.specs.declared.turn.Turn.{Turn}
use Rattle.laws_refinement.specs.Vocabulary.{Backed, SiteMirrors}
use Rattle.laws_votes.proofs.Live.{live}
use Rattle.laws_votes.proofs.Splits.{snoc_same}
use Rattle.qc_promise.specs.Vocabulary.{ClientRequest, Current, Kept, account, fits_record, promise_due}
use Rattle.theory_machine.specs.Vocabulary.{Active, State, Voting, epoch_from, items_of, site_after}
use Rattle.laws_reach.proofs.Stood.{in_site}
use Rattle.laws_reach.specs.Vocabulary.{HasTaken}
use Rattle.qc_script.specs.Vocabulary.{IsScriptFor, RunsWithFalls}
use Rattle.qc_script.specs.declared.script.Script.{Script}
use Rattle.qc_site.specs.Vocabulary.{SiteState, passed, promise_of, site_at, site_takes}
use Rattle.qc_stamp.specs.declared.stamp.TxId.{TxId}
use Rattle.laws_votes.proofs.Holding.{IsGrantedIn, granted, granted_below, is_held_with, still_held}
use Rattle.laws_votes.proofs.LifeGrounds.{has_life_grounds}
use Rattle.laws_votes.proofs.LivesAdded.{HasParticipant}
use Rattle.laws_votes.proofs.RefusedRequests.{other_life, life_before}
use Rattle.qc_core.proofs.PostsByTurns.{called_turn}
use Rattle.laws_reach.proofs.RunLaws.{same_site}
use Rattle.qc_list.proofs.Members.{every-front}

module _ (fits : ℕ → List Record → Type 0) (decl : Declaration) (script : Script) (h : List Entry)
    (open_inputs : List Bool) (accepted : IsAccepted decl) (sound : IsScriptFor decl script)
    (run : RunsWithFalls (IsLawfulWithFalls decl) fits decl script h open_inputs) (kept : Kept h)
    (a : ℕ) (client : is_client decl a ≡ true) (t : Current) (begun : (account decl a h).current ≡ Some t)
    (q : ClientRequest) (k : IsOpenVote (account decl a h) q)
    (b : ℕ) (site : is_site decl b ≡ true) (taken : slice_get open_inputs b ≡ Some true)
    (up : is_up (deeds b [] h) ≡ true) (before : List Deed) (input : Input)
    (deeds_are : deeds b [] h ≡ before ++ Takes input ∷ []) where
  few : actors decl ≤ most_actors
  few = let s = accepted.sites in let c = accepted.clients in omega arith

  abbrev machine : State
  machine = now fits decl script h open_inputs accepted sound run kept

  abbrev s : SiteState
  s = (net fits decl script h open_inputs accepted sound run kept).sites b

  x : HasTaken decl (net fits decl script h open_inputs accepted sound run kept) b h
  x = (reached fits decl script h open_inputs accepted sound run kept).actors_were b (inl site) up taken

  split : (x.before ≡ before) × (Takes x.given ≡ Takes input)
  split = snoc_same x.before before (Takes x.given) (Takes input) (sym x.deeds_are ∙ deeds_are)

  input_is : x.given ≡ input
  input_is = let both : Takes x.given ≡ Takes input = split.1 in cc

  was : (actor_after decl b before).actor ≡ actor.Site s
  was = ap (λ (v : List Deed). (actor_after decl b v).actor) (sym split.0) ∙ x.was
      ∙ in_site decl (net fits decl script h open_inputs accepted sound run kept) b site

  -- so it was what its deeds up to the input show

  served : Serves decl b before true
  served = at b_slot
    where
      b_slot : LivesIn decl b h true
      b_slot = actors_live_in_runs_with_falls decl script fits few h open_inputs run b true taken

      inputs : Every IsSiteDeed before
      inputs = every-front IsSiteDeed before (Takes input ∷ [])
          (subst (Every IsSiteDeed) deeds_are (sites_take_site_inputs_with_falls decl script fits few h open_inputs run
          (clients_rise_with_own_stamps_where_records_are_kept decl script fits few h open_inputs run kept) b
          (ltb-true b decl.sites site)))

      up_before : is_up before ≡ true
      up_before = sym (fold-append up_at true before (Takes input ∷ [])) ∙ sym (ap is_up deeds_are) ∙ up

      at : LivesIn decl b h true → Serves decl b before true
      at l =
          let o = life_before decl b (deeds b [] h) true l.above l.lives refl in
          let same = snoc_same o.0 before (Takes o.1) (Takes input) (sym o.3.0 ∙ deeds_are) in
          subst (Serves decl b before) up_before (sites_that_live_serve decl b before o.2
          (subst (λ (v : List Deed). Lives decl b v false o.2) same.0 o.3.1) inputs)

  sh : IsShown before s
  sh =
      let v = sites_are_read_off_their_steps decl b before (ltb-true b decl.sites site) served in
      subst (IsShown before) (same_site v.0 s (sym v.1 ∙ was)) v.2

  mir : SiteMirrors decl s (machine.deeds b) (machine.life b)
  mir = (refined fits decl script h open_inputs accepted sound run kept).agrees.sites b site
      ((reached fits decl script h open_inputs accepted sound run kept).up_is b (inl site) ∙ up)

  module _ (turn : Turn) (law : IsLawfulWithFalls decl b (deeds b [] h) turn)
      (fit : fits_record (promise_due before t.tx) ≡ true) (p : Posting) (y : Answer) (among : In p turn.sends)
      (is : p.message ≡ messages.Answer q.number y) (forgets : Forgets y) where
    posted_here : In p (site_takes decl s input).turn.sends
    posted_here = subst (λ (m : Turn). In p m.sends)
        (sym (ap (λ (m : ActorMove). m.turn) (sym
        (ap (actor_after decl b) deeds_are ∙ actor_more decl b before (Takes input ∷ [])
        ∙ ap (λ (v : Actor). actor_takes decl v input) was)) ∙ called_turn decl b (deeds b [] h) turn law)) among

    first : IsAnswering input q.number
    first = answers_inputs decl s input p q.number y posted_here is

    participant : HasParticipant (account decl a h).current q
    participant = (has_life_grounds decl (a - decl.sites) (deeds a [] h)).votes q k.among k.want

    its : participant.0 ≡ t
    its = let both : Some participant.0 ≡ Some t = sym participant.1 ∙ begun in cc

    has : has_granted t.lives q.site ≡ true
    has = subst (λ (u : Current). has_granted u.lives q.site ≡ true) its participant.2

    q_life : q.life ≡ life_of t.lives q.site
    q_life = participant.3 ∙ ap (λ (u : Current). life_of u.lives q.site) its

    grounds : HasGrounds (deeds a [] h) (account decl a h)
    grounds = has_grounds decl (a - decl.sites) (deeds a [] h)

    sent : WasSent (deeds a [] h) q t.tx
    sent =
        let w : (u : Current) × ((account decl a h).current ≡ Some u)
        × WasSent (deeds a [] h) q u.tx = grounds.sent q k.among in
        let same : w.0 ≡ t = (let both : Some w.0 ≡ Some t = sym w.1 ∙ begun in cc) in
        subst (λ (u : Current). WasSent (deeds a [] h) q u.tx) same w.2

    abbrev request : Envelope
    request = sent_as a q.number q.site (messages.Request t.tx sent.epoch q.life q.want)

    request_in : In request (mail h)
    request_in = sent_mail a [] h q.number q.site (messages.Request t.tx sent.epoch q.life q.want) sent.is

    first_is : first.envelope ≡ request
    first_is =
        let sent_there : (slice_get (mail h) first.envelope.number ≡ Some first.envelope)
        × (first.envelope.to ≡ b) = subst (WasSentTo b (mail h)) (input_is ∙ first.is) x.sent in
        let both : Some first.envelope ≡ Some request = sym sent_there.0
        ∙ ap (λ (n : ℕ). slice_get (mail h) n) first.numbered
        ∙ at_number fits decl script h open_inputs accepted sound run kept request request_in in
        cc

    r : IsAnsweringTo input q.number
    r = answers_request input q.number first t.tx sent.epoch q.life q.want (ap (λ (e : Envelope). e.message) first_is)

    came : (slice_get (mail h) r.envelope.number ≡ Some r.envelope) × (r.envelope.to ≡ b)
    came = subst (WasSentTo b (mail h)) (input_is ∙ r.is) x.sent

    one : r.envelope ≡ request
    one = let both : Some r.envelope ≡ Some request = sym came.0 ∙ ap (λ (n : ℕ). slice_get (mail h) n) r.numbered
        ∙ at_number fits decl script h open_inputs accepted sound run kept request request_in in cc

    here : q.site ≡ b
    here = sym (ap (λ (e : Envelope). e.to) one) ∙ came.1

    content : messages.Request r.tx r.epoch r.life r.want ≡ messages.Request t.tx sent.epoch q.life q.want
    content = sym r.content ∙ ap (λ (e : Envelope). e.message) one

    g : IsGrantedIn fits decl script h open_inputs accepted sound run kept a client t begun q.site has
    g = granted fits decl script h open_inputs accepted sound run kept a client t begun q.site has

    epoch_asked : sent.epoch ≡ g.grant.epoch
    epoch_asked =
        let asked : Backed decl machine (net fits decl script h open_inputs accepted sound run kept).mail request.from
        request.to (messages.Request t.tx sent.epoch q.life q.want) =
        backed fits decl script h open_inputs accepted sound run kept request
        (messages.Request t.tx sent.epoch q.life q.want) request_in refl in
        asked.2 ∙ ap machine.epoch (sym g.its) ∙ sym g.epoch

    epoch_there : epoch_from 1 (machine.deeds g.grant.site) ≡ s.epoch
    epoch_there = ap (λ (n : ℕ). epoch_from 1 (machine.deeds n)) (g.by ∙ here) ∙ mir.epoch

    epoch_low : sent.epoch ≤ s.epoch
    epoch_low = let low : g.grant.epoch ≤ epoch_from 1 (machine.deeds g.grant.site) =
        granted_below fits decl script h open_inputs accepted sound run kept g.grant g.known in let one = epoch_asked in
        let two = epoch_there in omega arith

    some : q.life ≢ 0
    some none = let low : 0 < life_of t.lives q.site = g.some in let zero : q.life ≡ 0 = none in
        let life : q.life ≡ life_of t.lives q.site = q_life in let never : ⊥ = omega arith in never

    at_site : In p (site_at decl (passed s r.envelope.message) r.envelope.from r.envelope.number
        (messages.Request t.tx sent.epoch q.life Prepare)).turn.sends
    at_site =
        subst (λ (w : Want). In p (site_at decl (passed s r.envelope.message) r.envelope.from r.envelope.number
        (messages.Request t.tx sent.epoch q.life w)).turn.sends) k.want
        (subst (λ (m : Message). In p (site_at decl
        (passed s r.envelope.message) r.envelope.from r.envelope.number m).turn.sends) (r.content ∙ content)
        (subst (λ (i : Input). In p (site_takes decl s i).turn.sends) r.is posted_here))

    refused_there : (sent.epoch < s.epoch) ⊎ (q.life ≢ s.life) → ⊥
    refused_there apart = other_life decl (passed s r.envelope.message) r.envelope.from r.envelope.number t.tx
        sent.epoch q.life epoch_low apart some p q.number y at_site is forgets

    fits_here : nat_le (prepare_length (promise_of s t.tx)) most_record_bytes ≡ true
    fits_here = subst (λ (v : Prepared). nat_le (prepare_length v) most_record_bytes ≡ true) promise_shown fit
      where
        promise_shown : promise_due before t.tx ≡ promise_of s t.tx
        promise_shown = λ i. record {
          tx = t.tx;
          epoch = sym sh.epoch i;
          locks = (held_of (sym sh.held i) t.tx).locks;
          own = (held_of (sym sh.held i) t.tx).own;
          lines = without (sym sh.log i) (sym sh.recorded i);
        }

    in_this_life : sent.epoch ≡ s.epoch → q.life ≡ s.life → ⊥
    in_this_life epoch same = prepares_remembered decl
        (passed s r.envelope.message) r.envelope.from r.envelope.number t.tx sent.epoch q.life epoch held fits_here p
        q.number y at_site is forgets
      where
        same_life : machine.life g.grant.site ≡ g.grant.life
        same_life = ap machine.life (g.by ∙ here) ∙ sym mir.life ∙ sym same ∙ q_life ∙ sym g.life

        running : (machine.status g.grant.tx ≡ Active) ⊎ (machine.status g.grant.tx ≡ Voting)
        running = subst (λ (tx : TxId). (machine.status tx ≡ Active) ⊎ (machine.status tx ≡ Voting)) (sym g.its)
            (live fits decl script h open_inputs accepted sound run kept a client t begun).active

        in_machine : In g.item (items_of t.tx (site_after (machine.deeds b)).held)
        in_machine =
            subst (λ (n : ℕ). In g.item (items_of t.tx (site_after (machine.deeds n)).held)) (g.by ∙ here)
            (subst (λ (tx : TxId). In g.item (items_of tx (site_after (machine.deeds g.grant.site)).held)) g.its
            (still_held fits decl script h open_inputs accepted sound run kept g.grant g.known same_life
            (epoch_there ∙ sym epoch ∙ epoch_asked) running g.item g.among))

        held : is_held s.held t.tx ≡ true
        held = is_held_with s.held t.tx g.item (mir.held t.tx g.item in_machine)

    pub never_forgotten : ⊥
    never_forgotten = elim (cases_eq sent.epoch s.epoch) [
      | inr apart ↦ refused_there (inl (let n = apart in let low = epoch_low in omega arith))
      | inl epoch ↦ elim (cases_eq q.life s.life) [
        | inl same ↦ in_this_life epoch same
        | inr other ↦ refused_there (inr other)
      ]
    ]
