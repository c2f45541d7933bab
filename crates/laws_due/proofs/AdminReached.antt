-- Who gets a request of the administrator answers it at once: a site a Close or an Install, and a client an Ask, where
-- it is of a declared client. So an unanswered request of his is at its receiver.
use Rattle.std.proofs.Common.{◌≡◌, ℕ, ◌+◌, ◌<◌, ◌≤◌, ◌&&◌, Bool, true, List, [], ◌∷◌, ◌++◌, length, refl, sym, subst}
use Rattle.std.proofs.Common.{arith}
use Rattle.std.specs.List.{AllByRecursion as Every}
use Rattle.std.proofs.lemmas.Bool.{le-leb, lt-ltb}
use Rattle.qc_list.specs.Vocabulary.{In}
use Rattle.qc_list.proofs.Members.{every-In}
use Rattle.qc_core.specs.declared.actor.Actor.{Actor}
use Rattle.qc_core.specs.declared.actor.Actor.TheVariants as kinds
use Rattle.qc_client.specs.Vocabulary.{heard}
use Rattle.qc_core.specs.Vocabulary.{IsLawfulWithFalls, actor_after, actor_takes}
use Rattle.qc_core.specs.Lives as lives
use Rattle.qc_decl.specs.Vocabulary.{IsAccepted, actors, administrator, client_actor, is_client}
use Rattle.qc_decl.specs.declared.declaration.Declaration.{Declaration}
use Rattle.laws_turns.specs.Vocabulary.{IsAtReceiver}
use Rattle.qc_link.specs.Vocabulary.{most_actors}
use Rattle.qc_msg.specs.Vocabulary.{Deed, Entry, by, envelopes, mail, posted_as, sends_as}
use Rattle.qc_msg.specs.declared.message.Envelope.{Envelope}
use Rattle.qc_msg.specs.declared.message.Message.{Message}
use Rattle.qc_msg.specs.declared.message.Message.TheVariants as messages
use Rattle.qc_msg.specs.declared.record.Record.{Record}
use Rattle.qc_msg.specs.declared.step.Input.TheVariants as inputs
use Rattle.qc_msg.specs.declared.step.Step.TheVariants as steps
use Rattle.qc_msg.specs.declared.turn.Posting.{Posting}
use Rattle.qc_msg.proofs.GrownMail.{mail-append}
use Rattle.qc_msg.proofs.Growth.{mail-posted_as}
use Rattle.qc_script.specs.Vocabulary.{RunsWithFalls, inbox, is_request, request_numbers}
use Rattle.qc_script.specs.declared.script.Script.{Script}
use Rattle.qc_site.proofs.RequestCases.{close_cases}
use Rattle.qc_site.proofs.Cases.{install_cases}
use Rattle.qc_site.specs.Vocabulary.{SiteMove, SiteState, passed, site_at}
use Rattle.laws_due.specs.Vocabulary.{AsksKnown, IsKnown}
use Rattle.laws_due.proofs.AdminSends.{GoesHis, post_goes, rise_goes, run_goes}
use Rattle.laws_due.proofs.AdminSited.{GoWell, GoesWell}
use Rattle.laws_due.proofs.Taken.{AreReplied, IsReplied, RepliesTo}
use Rattle.laws_due.proofs.Reached.{unanswered_at_receiver}
use Rattle.laws_due.proofs.SiteTurns.{IsSomeClient, IsSomeSite, client_up, site_up}
use Rattle.laws_due.proofs.Somewhere.{AreToOthers, IsOther}
use Rattle.laws_due.proofs.AskingCases.{asking_cases}
use Rattle.qc_list.proofs.Numbers.{numbers_apart}
use Rattle.qc_script.proofs.Actors.{few_actors}

known_posts : (decl : Declaration) (b n : ℕ) (ps : List Posting)
    → Every (λ (e : Envelope). IsKnown decl e.message) (envelopes b n ps)
    → Every (λ (p : Posting). IsKnown decl p.message) ps
known_posts decl b n [] are = tt
known_posts decl b n (p ∷ ps) are = (are.0, known_posts decl b (n + 1) ps are.1)

known_last : (decl : Declaration) (xs ys : List Envelope) → Every (λ (e : Envelope). IsKnown decl e.message) (xs ++ ys)
    → Every (λ (e : Envelope). IsKnown decl e.message) ys
known_last decl [] ys are = are
known_last decl (x ∷ xs) ys are = known_last decl xs ys are.1

module _ (decl : Declaration) (script : Script) (accepted : IsAccepted decl) (fits : ℕ → List Record → Type 0)
    (known : AsksKnown fits decl script) where
  few : actors decl ≤ most_actors
  few = few_actors decl accepted

  low : administrator decl < most_actors
  low = let all : decl.sites + decl.clients + 1 ≤ most_actors = few in omega arith

  -- he sends to others

  to_site : (to : ℕ) → to < decl.sites → IsOther (administrator decl) to
  to_site to is = (
    (let all : decl.sites + decl.clients + 1 ≤ most_actors = few in omega arith),
    numbers_apart to (administrator decl) (λ same. (let less : to < decl.sites = is in
        let equal : to ≡ decl.sites + decl.clients = same in omega arith)),
  )

  to_client : (to client : ℕ) → to ≡ client_actor decl client → client < decl.clients → IsOther (administrator decl) to
  to_client to client is less = (
    (let all : decl.sites + decl.clients + 1 ≤ most_actors = few in let at : to ≡ decl.sites + client = is in
        omega arith),
    numbers_apart to (administrator decl) (λ same. (let at : to ≡ decl.sites + client = is in
        let equal : to ≡ decl.sites + decl.clients = same in omega arith)),
  )

  to_other : (to : ℕ) (m : Message) → GoesWell decl to m → IsKnown decl m → is_request m ≡ true
      → IsOther (administrator decl) to
  to_other to m goes is request =
      asking_cases (λ (x : Message). GoesWell decl to x → IsKnown decl x → IsOther (administrator decl) to)
      (λ q never known_x. absurd never) (λ tx place known_x. to_client to tx.client place known_x)
      (λ epoch place known_x. to_site to place) (λ start place known_x. to_site to place) m request goes is

  to_others : (ps : List Posting) → GoWell decl ps → Every (λ (p : Posting). IsKnown decl p.message) ps
      → AreToOthers (administrator decl) ps
  to_others [] go are = tt
  to_others (p ∷ ps) go are = (to_other p.to p.message go.0 are.0, to_others ps go.1 are.1)

  -- who gets it answers

  site_replies : (e : Envelope) → e.to < decl.sites
      → ((s : SiteState) → RepliesTo e (actor_takes decl (kinds.Site s) (inputs.Got e)).turn)
      → IsReplied decl (administrator decl) e
  site_replies e is answers = record {
    other = to_site e.to is;
    replies = λ ds up.
        (let state : IsSomeSite (actor_after decl e.to ds).actor =
        site_up decl e.to (lt-ltb e.to decl.sites is) ds up in
        subst (λ (v : Actor). RepliesTo e (actor_takes decl v (inputs.Got e)).turn) (sym state.1) (answers state.0));
  }

  replied : (e : Envelope) (m : Message) → e.message ≡ m → GoesWell decl e.to m → IsKnown decl m → is_request m ≡ true
      → IsReplied decl (administrator decl) e
  replied e (messages.Request tx epoch life want) message goes is request = absurd goes
  replied e (messages.Answer number answer) message goes is request = absurd (let never : ⊥ = cc in never)
  replied e (messages.Decision tx verdict) message goes is request = absurd (let never : ⊥ = cc in never)
  replied e (messages.Inquiry tx) message goes is request = absurd (let never : ⊥ = cc in never)
  replied e (messages.Ask tx) message goes is request =
      record { other = to_client e.to tx.client goes is; replies = at }
    where
      client : is_client decl e.to ≡ true
      client =
          let place : e.to ≡ decl.sites + tx.client = goes in let less : tx.client < decl.clients = is in
          λ i. le-leb decl.sites e.to (omega arith) i && lt-ltb e.to (decl.sites + decl.clients) (omega arith) i

      at : (ds : List Deed) → lives.is_up ds ≡ true
          → RepliesTo e (actor_takes decl (actor_after decl e.to ds).actor (inputs.Got e)).turn
      at ds up =
          let state : IsSomeClient (actor_after decl e.to ds).actor = client_up decl e.to client ds up in
          subst (λ (v : Actor). RepliesTo e (actor_takes decl v (inputs.Got e)).turn) (sym state.1)
          (subst (λ (x : Message). RepliesTo e (heard decl state.0 e.from e.number x).turn) (sym message)
          (record { answer = _; rest = []; sends = refl }))
  replied e (messages.Close epoch) message goes is request =
      site_replies e goes (λ s. subst (λ (x : Message). RepliesTo e (site_at decl (passed s x) e.from e.number x).turn)
      (sym message)
      (close_cases (λ (m : SiteMove). RepliesTo e m.turn) (passed s (messages.Close epoch)) e.from e.number epoch
      (λ answer. record { answer = answer; rest = []; sends = refl })
      (λ near later. record { answer = _; rest = []; sends = refl })))
  replied e (messages.Install start) message goes is request =
      site_replies e goes (λ s. subst (λ (x : Message). RepliesTo e (site_at decl (passed s x) e.from e.number x).turn)
      (sym message)
      (install_cases (λ (m : SiteMove). RepliesTo e m.turn)
      (passed s (messages.Install start)) e.from e.number start.epoch start.clock start.lines
      (λ answer. record { answer = answer; rest = []; sends = refl })
      (λ later fits. record { answer = _; rest = []; sends = refl })))

  are_replied : AreReplied decl script fits (administrator decl)
  are_replied = record {
    replied = λ h open_inputs run e member from request.
        replied e e.message refl (every-In (GoesHis decl accepted) e (mail h)
        (run_goes decl accepted script fits h open_inputs run) member from)
        (every-In (λ (x : Envelope). IsKnown decl x.message) e (mail h) (known h open_inputs run) member) request;
    posts = λ older before after run b turn whole law is.
        to_others (sends_as turn.append turn) (post_goes decl accepted older b turn law is)
        (known_posts decl b (length (mail older)) (sends_as turn.append turn)
        (subst (Every (λ (x : Envelope). IsKnown decl x.message))
        (mail-posted_as turn.append b (length (mail older)) turn)
        (known_last decl (mail older) (mail (by b (posted_as turn.append (length (mail older)) turn)))
        (subst (Every (λ (x : Envelope). IsKnown decl x.message))
        (mail-append older (by b (posted_as turn.append (length (mail older)) turn)))
        (known (older ++ by b (posted_as turn.append (length (mail older)) turn)) after whole)))));
    rises = λ older before after run b kept turn whole law is.
        to_others (sends_as turn.append turn) (rise_goes decl accepted older b kept turn law is)
        (known_posts decl b (length (mail older)) (sends_as turn.append turn)
        (subst (Every (λ (x : Envelope). IsKnown decl x.message))
        (mail-posted_as turn.append b (length (mail older)) turn)
        (known_last decl (mail older) (mail (by b (steps.Rose kept ∷ posted_as turn.append (length (mail older)) turn)))
        (subst (Every (λ (x : Envelope). IsKnown decl x.message))
        (mail-append older (by b (steps.Rose kept ∷ posted_as turn.append (length (mail older)) turn)))
        (known (older ++ by b (steps.Rose kept ∷ posted_as turn.append (length (mail older)) turn)) after whole)))));
  }

  pub his_unanswered : (h : List Entry) (open_inputs : List Bool)
      → RunsWithFalls (IsLawfulWithFalls decl) fits decl script h open_inputs → (n : ℕ)
      → In n (request_numbers (inbox script (administrator decl) h).unanswered)
      → IsAtReceiver script h open_inputs (administrator decl) n
  his_unanswered h open_inputs run n member =
      unanswered_at_receiver decl script fits few (administrator decl) low are_replied h open_inputs run n member

  pub his_receiver : (h : List Entry) (open_inputs : List Bool)
      → RunsWithFalls (IsLawfulWithFalls decl) fits decl script h open_inputs → (e : Envelope) → In e (mail h)
      → e.from ≡ administrator decl → is_request e.message ≡ true
      → e.to < actors decl
  his_receiver h open_inputs run e member from request =
      asking_cases (λ (x : Message). GoesWell decl e.to x → IsKnown decl x → e.to < actors decl)
      (λ q never known_x. absurd never)
      (λ tx place known_x. (let at : e.to ≡ decl.sites + tx.client = place in
      let less : tx.client < decl.clients = known_x in omega arith))
      (λ epoch place known_x. (let at : e.to < decl.sites = place in omega arith))
      (λ start place known_x. (let at : e.to < decl.sites = place in omega arith)) e.message request goes is
    where
      goes : GoesWell decl e.to e.message
      goes = every-In (GoesHis decl accepted) e (mail h)
          (run_goes decl accepted script fits h open_inputs run) member from

      is : IsKnown decl e.message
      is = every-In (λ (x : Envelope). IsKnown decl x.message) e (mail h) (known h open_inputs run) member
