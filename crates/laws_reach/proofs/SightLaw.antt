-- In every run with falls whose records are kept each record comes after all that its client had seen.
use Rattle.std.proofs.Common.{◌≡◌, ◌≤◌, ◌<◌, ℕ, ◌-◌, Bool, true, false, List, [], fold, length, Some, slice_get, inl}
use Rattle.std.proofs.Common.{refl, sym, ap, ◌∙◌, subst, arith}
use Rattle.qc_decl.proofs.Clients.{client_past, client_within}
use Rattle.qc_stamp.specs.declared.stamp.Stamp.{Stamp}
use Rattle.qc_stamp.specs.declared.stamp.TxId.{TxId}
use Rattle.qc_list.specs.Vocabulary.{In}
use Rattle.qc_core.specs.Vocabulary.{IsLawfulWithFalls, journal_after}
use Rattle.qc_core.proofs.LivesLaws.{journal}
use Rattle.qc_decl.specs.Vocabulary.{IsAccepted, actors, client_actor, is_client}
use Rattle.qc_decl.specs.declared.declaration.Declaration.{Declaration}
use Rattle.qc_entry.specs.declared.line.Line.{Line}
use Rattle.qc_entry.specs.declared.record.Commit.{Commit}
use Rattle.qc_link.specs.Vocabulary.{most_actors}
use Rattle.laws_turns.specs.Vocabulary.{LivesIn}
use Rattle.laws_turns.proofs.Lived.{actors_live_in_runs_with_falls, run_long}
use Rattle.qc_msg.specs.declared.message.Answer.TheVariants.{Granted}
use Rattle.qc_msg.specs.declared.message.Envelope.{Envelope}
use Rattle.qc_msg.specs.declared.message.Message.{Message}
use Rattle.qc_msg.specs.declared.message.Message.TheVariants.{Answer, Request}
use Rattle.qc_msg.specs.declared.message.Want.{Want}
use Rattle.qc_msg.specs.declared.payload.Grant.{Grant}
use Rattle.qc_msg.specs.declared.record.Record.{Record}
use Rattle.qc_msg.specs.declared.record.Record.TheVariants as journals
use Rattle.qc_msg.specs.declared.step.Input.TheVariants as inputs
use Rattle.qc_msg.specs.Vocabulary.{Entry, Sends, Takes, deeds}
use Rattle.laws_refinement.specs.Vocabulary.{IsGrantTo, IsGrantable, Refines, lines_in}
use Rattle.laws_refinement.proofs.Refining.{nets_refine}
use Rattle.theory_onecopy.specs.Vocabulary.{AreApart, IsLogged}
use Rattle.theory_onecopy.proofs.Committed.{records_are_sorted}
use Rattle.qc_promise.specs.Vocabulary.{IsAfterSeen, Journal, Kept, committed, is_prepare, no_journal, records, seen_in}
use Rattle.theory_machine.specs.Vocabulary.{state}
use Rattle.qc_script.specs.Vocabulary.{IsScriptFor, RunsWithFalls}
use Rattle.qc_script.specs.declared.script.Script.{Script}
use Rattle.laws_due.specs.Vocabulary.{Declares}
use Rattle.laws_due.proofs.AccountDeclared.{scripts_ask_what_is_declared}
use Rattle.laws_due.proofs.Declared.{run_declares}
use Rattle.laws_due.proofs.KeptPlanned.{what_rises_is_planned_where_records_are_kept}
use Rattle.laws_reach.specs.Vocabulary.{AreStanding, IsOfClient, IsReachedWithFalls, records_of}
use Rattle.laws_reach.proofs.Committing.{committed_records_stand}
use Rattle.laws_reach.proofs.Reaching.{runs_with_falls_reach_nets}
use Rattle.laws_reach.proofs.RunLaws as reached
use Rattle.laws_atomic.proofs.Grants.{granted, lines_passed, no_promise}
use Rattle.laws_atomic.proofs.Heard.{sent_mailed, took_sent}
use Rattle.laws_atomic.proofs.Seeing.{IsUpTo}
use Rattle.qc_core.proofs.KeptBack.{rises_give_back_journals_where_records_are_kept}
use Rattle.laws_reach.proofs.Founding.{IsFounded}
use Rattle.laws_reach.proofs.Lifelong.{StandsNow, client_stands}
use Rattle.laws_reach.proofs.Making.{made_at, wrote_stays}
use Rattle.laws_reach.proofs.Naming.{IsNamed}
use Rattle.qc_list.proofs.Places.{some_at}

-- a client's number, by its actor

named_client : (client : ℕ) (up : Bool) (life count : ℕ) (tx : TxId) → IsNamed client up life count tx
    → tx.client ≡ client
named_client client true life count tx is = is.0
named_client client false life count tx is = is.0

number_of : (decl : Declaration) (a number : ℕ) → is_client decl a ≡ true → number ≡ a - decl.sites
    → client_actor decl number ≡ a
number_of decl a number client is =
    let low : decl.sites ≤ a = client_past decl a client in
    omega arith

module _ (fits : ℕ → List Record → Type 0) (decl : Declaration) (script : Script) (h : List Entry)
    (open_inputs : List Bool) (accepted : IsAccepted decl) (sound : IsScriptFor decl script)
    (run : RunsWithFalls (IsLawfulWithFalls decl) fits decl script h open_inputs) (kept : Kept h) where
  net : IsReachedWithFalls decl h open_inputs
  net = runs_with_falls_reach_nets fits decl script h open_inputs accepted sound run kept

  few : actors decl ≤ most_actors
  few = let s = accepted.sites in let c = accepted.clients in omega arith

  -- the records of the promise

  stand : AreStanding decl h (records decl h)
  stand = committed_records_stand decl h kept

  apart : AreApart (records decl h)
  apart = reached.apart fits decl script h open_inputs accepted sound run kept (records decl h) stand

  listed : (c : Commit) → In c (records decl h) → In c (committed decl h)
  listed c among = ((records_are_sorted (records decl h) apart.stamps).1 c).1 among

  of_journal : (a : ℕ) → is_client decl a ≡ true → (c : Commit)
      → In (journals.Commit c) (journal_after (deeds a [] h)).records → In c (committed decl h)
  of_journal a client c among = listed c (stand.all c
      (record {
        actor = a;
        client = client;
        listed =
            subst (λ (j : Journal). In (journals.Commit c) j.records) (journal a h) among;
      }))

  -- grants

  in_net : (a : ℕ) (e : Envelope) → In (Takes (inputs.Got e)) (deeds a [] h) → In e net.net.mail
  in_net a e among = subst (In e) (sym net.mail_is) (took_sent a [] h e among)

  line_up : (a : ℕ) (e : Envelope) → In (Takes (inputs.Got e)) (deeds a [] h) → (to : ℕ) (x : Grant)
      → e.message ≡ Answer to (Granted x) → (l : Line) → In l x.log → IsUpTo (committed decl h) l.tx x.clock
  line_up a e among to x is l in_log =
      let k : IsLogged decl (records decl h) l =
      reached.message_lines fits decl script h open_inputs accepted sound run kept (records decl h) stand e l
      (took_sent a [] h e among) (subst (λ (m : Message). In l (lines_in m)) (sym is) in_log) in
      let low : l.stamp.clock ≤ x.clock = lines_passed decl accepted net.net net.reached e
      (in_net a e among) to x is l in_log in
      let same : l.stamp.clock ≡ k.commit.stamp.clock = ap (λ (s : Stamp). s.clock) k.stamped in
      record { commit = k.commit; listed = listed k.commit k.listed; named = sym k.named; low = omega arith }

  was_asked : (a : ℕ) (e : Envelope) → In (Takes (inputs.Got e)) (deeds a [] h) → (to : ℕ) (x : Grant)
      → e.message ≡ Answer to (Granted x)
      → (site : ℕ) (tx : TxId) (epoch at : ℕ) (want : Want)
      → In (Sends to site (Request tx epoch at want)) (deeds a [] h) → is_prepare want ≡ false
  was_asked a e among to x is site tx epoch at want sent =
      let r : Refines decl net.net = nets_refine decl accepted net.net net.reached in
      let g : IsGrantTo decl (state r.acts) net.net.mail e.from to x =
      granted decl net.net r e (in_net a e among) to x is in
      let there : slice_get net.net.mail to ≡ Some
      (record { number = to; from = a; to = site; message = Request tx epoch at want }) =
      r.agrees.numbered (record { number = to; from = a; to = site; message = Request tx epoch at want })
      (subst (In (record { number = to; from = a; to = site; message = Request tx epoch at want }))
      (sym net.mail_is) (sent_mailed a [] h to site (Request tx epoch at want) sent)) in
      let both : Some g.request.0 ≡ Some (record
      { number = to; from = a; to = site; message = Request tx epoch at want }) = sym g.request.1 ∙ there in
      let message : Request g.tx g.epoch g.named g.want ≡ Request tx epoch at want = sym g.request.3
      ∙ (let same : g.request.0.message ≡ Request tx epoch at want = cc in same) in
      let wants : g.want ≡ want = cc in
      no_promise want (subst IsGrantable wants g.grant.asks)

  -- a client

  founded : (a : ℕ) → is_client decl a ≡ true → IsFounded (committed decl h) (deeds a [] h)
  founded a client = record {
    grants = record {
      wrote = λ c among. of_journal a client c
          (wrote_stays c no_journal (deeds a [] h) (rises_give_back_journals_where_records_are_kept h kept a) among);
      lines = line_up a;
      asked = was_asked a;
    };
    back = rises_give_back_journals_where_records_are_kept h kept a;
    kept = of_journal a client;
  }

  declares : (a : ℕ) → Declares decl (deeds a [] h)
  declares a =
      run_declares decl script fits accepted (scripts_ask_what_is_declared decl script accepted sound) h open_inputs run
      (what_rises_is_planned_where_records_are_kept decl script fits accepted
      (scripts_ask_what_is_declared decl script accepted sound) h open_inputs
      run kept) a

  stands : (a : ℕ) (client : is_client decl a ≡ true) (tx : TxId)
      → StandsNow decl a client (declares a).first (committed decl h) tx (deeds a [] h)
  stands a client tx =
      let low : a < actors decl = client_within decl a client in
      let long : length open_inputs ≡ actors decl = run_long decl script fits few h open_inputs run in
      let place : (t : Bool) × (slice_get open_inputs a ≡ Some t) = some_at open_inputs a (omega arith) in
      let lived : LivesIn decl a h place.0 =
      actors_live_in_runs_with_falls decl script fits few h open_inputs run a place.0 place.1 in
      client_stands decl a client (declares a).first (committed decl h) tx
      (deeds a [] h) place.0 lived.above lived.lives (declares a).deeds (founded a client)

  -- a record in a client's journal is among those that it made, and of a transaction of its own

  record IsMade (a : ℕ) (client : is_client decl a ≡ true) (c : Commit) : Type 0 where
    now : StandsNow decl a client (declares a).first (committed decl h) c.tx (deeds a [] h)
    listed : In c (fold made_at [] (deeds a [] h))
    own : client_actor decl c.tx.client ≡ a

  is_made : (a : ℕ) (client : is_client decl a ≡ true) (c : Commit) → In (journals.Commit c) (records_of h a)
      → IsMade a client c
  is_made a client c among =
      let w : StandsNow decl a client (declares a).first (committed decl h) c.tx (deeds a [] h) =
      stands a client c.tx in
      let made : In c (fold made_at [] (deeds a [] h)) =
      w.stands.keeps.known c (inl (subst (λ (j : Journal). In (journals.Commit c) j.records)
      (sym (journal a h)) among)) in
      record {
        now = w;
        listed = made;
        own = number_of decl a c.tx.client client
            (named_client (a - decl.sites) w.up _ _ c.tx (w.stands.keeps.named c made refl));
      }

  pub records_stand_with_their_own_clients : (a : ℕ) (c : Commit) → is_client decl a ≡ true
      → In (journals.Commit c) (records_of h a) → client_actor decl c.tx.client ≡ a
  records_stand_with_their_own_clients a c client among = (is_made a client c among).own

  pub records_follow_what_was_seen_through_falls : IsAfterSeen decl (committed decl h) h
  records_follow_what_was_seen_through_falls c tx among in_seen other =
      let is : IsOfClient decl (records_of h) c =
      stand.each c (((records_are_sorted (records decl h) apart.stamps).1 c).0 among) in
      let m : IsMade is.actor is.client c = is_made is.actor is.client c is.listed in
      m.now.stands.sees.before c m.listed refl tx
      (subst (λ (a : ℕ). In tx (seen_in (deeds a [] h) c.tx)) m.own in_seen) other
