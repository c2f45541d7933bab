-- An operation's turns, as far as its round has come: acts of the machine, or none.
use Rattle.std.proofs.Common.{◌≡◌, ℕ, true, false, inl, inr, List, [], ◌∷◌, ◌++◌, map, fold, Option, Some, None, refl}
use Rattle.std.proofs.Common.{sym, ap, ◌∙◌, subst}
use Rattle.qc_list.specs.Vocabulary.{In}
use Rattle.qc_plan.specs.Vocabulary.{RoundState, asking_all, verdict, wanted}
use Rattle.qc_plan.specs.declared.standing.Verdict.{Verdict}
use Rattle.qc_plan.specs.declared.standing.Verdict.TheVariants as verdicts
use Rattle.qc_decl.specs.declared.declaration.Declaration.{Declaration}
use Rattle.qc_decl.specs.Vocabulary.{append_need_of, client_actor, is_client, read_need_of}
use Rattle.qc_msg.specs.declared.call.Call.{Call}
use Rattle.qc_msg.specs.declared.message.Envelope.{Envelope}
use Rattle.qc_msg.specs.declared.message.Want.{Want}
use Rattle.qc_msg.specs.declared.record.Record.{Record}
use Rattle.qc_msg.specs.declared.reply.Half.TheVariants as halves
use Rattle.qc_msg.specs.declared.reply.Reply.{Reply}
use Rattle.qc_msg.specs.declared.reply.Reply.TheVariants as replies
use Rattle.qc_msg.specs.declared.begun.LifeAt.{LifeAt}
use Rattle.qc_msg.specs.Vocabulary.{life_of, with_site}
use Rattle.qc_msg.specs.declared.turn.Posting.{Posting}
use Rattle.theory_onecopy.specs.Vocabulary.{Executed}
use Rattle.theory_machine.specs.Vocabulary.{Act, Active, Choose, Execute, ExecuteAbsent, HasQuorum, IsRun, Lock, Own}
use Rattle.theory_machine.specs.Vocabulary.{SendAppend, State, chosen_list, state}
use Rattle.theory_machine.proofs.Names.{put_tx_here}
use Rattle.qc_front.specs.declared.doing.Doing.TheVariants.{Idle, Reading, Appending}
use Rattle.qc_front.specs.declared.transaction.Transaction.{Transaction}
use Rattle.qc_front.specs.Vocabulary.{IsRound, RecordsHold, absents, answer_of, answered, append_by, append_want}
use Rattle.qc_front.specs.Vocabulary.{doomed, next_own, op_of as operation_of, read_by, read_want, refuses, request_of}
use Rattle.qc_front.specs.Vocabulary.{resp_of, responds, round_for, with_asked, with_event, with_op}
use Rattle.qc_front.proofs.CommandsKeep.{started_round}
use Rattle.qc_client.specs.Vocabulary.{ClientMove, by_front}
use Rattle.qc_client.specs.declared.client.Client.{Client}
use Rattle.laws_refinement.specs.Vocabulary.{AreCounted, Backed, ClientMirrors, IsAskedBy, IsNamedAt, IsWanted, Mirrors}
use Rattle.laws_refinement.specs.Vocabulary.{Net, Refines, absent_of, after_client, append_of, chosen_of, commits_in}
use Rattle.laws_refinement.proofs.Answers.{absent_answered, chosen_answered}
use Rattle.laws_refinement.proofs.ClientActs.{appended_on, mid_absent, mid_choose, mid_execute, mid_send}
use Rattle.laws_refinement.proofs.RequestsSent.{IsAsking, IsWantOf}
use Rattle.laws_refinement.proofs.ClientSteps.{Core, Mid, Turned, actor, born, client_of, core_asked, idle_does}
use Rattle.laws_refinement.proofs.ClientSteps.{mid_first, refined, turns}
use Rattle.laws_refinement.proofs.Recorded.{absent_is_with, event_is_with, executed_core}
use Rattle.laws_refinement.proofs.Rounds.{asked_counted, met_quorum}

module _ (decl : Declaration) where
  -- the machine does nothing, and neither does the client
  pub nothing : (acts : List Act) (net : Net) (a : ℕ) (move : ClientMove) → IsRun decl acts
      → Mirrors decl (state acts) net → is_client decl a ≡ true → net.up a ≡ true → move.client ≡ net.clients a
      → move.turn.sends ≡ [] → move.turn.write ≡ None
      → Refines decl (after_client net a move)
  nothing acts net a move run m client up same none unwritten = refined decl (state acts) net a move m client up
      (turns decl (state acts) net a move acts (mid_first decl acts (net.clients a).front.client run)
      (ap (λ (x : Option Record). commits_in x ++ (state acts).records) (sym unwritten))
      (subst (λ (c : Client). ClientMirrors decl (state acts) net.mail a c) (sym same) (m.clients a client up))
      (λ p among. absurd (subst (λ (ps : List Posting). In p ps) none among))
      (λ p among. absurd (subst (λ (ps : List Posting). In p ps) none among)))

  -- the requests of a round that goes on

  requests_backed : (w : State) (ms : List Envelope) (a : ℕ) (t : Transaction) (want : ℕ → Want) (sites : List ℕ)
      → a ≡ client_actor decl t.begun.tx.client → w.status t.begun.tx ≡ Active → t.begun.epoch ≡ w.epoch t.begun.tx
      → ((site : ℕ) → IsWanted w t.begun.tx site (life_of t.begun.lives site) (want site))
      → (p : Posting) → In p (map (request_of t.begun want) sites) → Backed decl w ms a p.to p.message
  requests_backed w ms a t want [] at active epoch is p among = absurd among
  requests_backed w ms a t want (site ∷ sites) at active epoch is p (inl same) =
      subst (λ (x : Posting). Backed decl w ms a x.to x.message) (sym same)
      (at, born decl (w.status t.begun.tx) active, epoch, is site)
  requests_backed w ms a t want (site ∷ sites) at active epoch is p (inr rest) =
      requests_backed w ms a t want sites at active epoch is p rest

  requests_asking : (c : Client) (t next : Transaction) (want : ℕ → Want) (sites : List ℕ)
      → c.front.transaction ≡ Some next
      → t.begun.tx ≡ next.begun.tx → t.begun.epoch ≡ next.begun.epoch → t.begun.lives ≡ next.begun.lives
      → ((site : ℕ) → IsWantOf decl c next site (want site)) → (p : Posting)
      → In p (map (request_of t.begun want) sites)
      → IsAsking decl c p.to p.message
  requests_asking c t next want [] is its epochs lives for p among = absurd among
  requests_asking c t next want (site ∷ sites) is its epochs lives for p (inl same) =
      subst (λ (x : Posting). IsAsking decl c x.to x.message) (sym same)
      (record {
        t = next;
        is = is;
        its = its;
        epoch_is = epochs;
        life_is = ap (λ (ls : List LifeAt). life_of ls site) lives;
        for = for site;
      })
  requests_asking c t next want (site ∷ sites) is its epochs lives for p (inr rest) =
      requests_asking c t next want sites is its epochs lives for p rest

  pub no_sends : (w : State) (ms : List Envelope) (a : ℕ) (p : Posting) → In p [] → Backed decl w ms a p.to p.message
  no_sends w ms a p never = absurd never

  pub no_asks : (c : Client) (p : Posting) → In p [] → IsAsking decl c p.to p.message
  no_asks c p never = absurd never

  module _ (w : State) (net : Net) (a : ℕ) where
    -- a refused operation: nothing runs
    refused : (acts : List Act) (c : Client) (t : Transaction) (reply : Reply)
        → Mid decl w acts (net.clients a).front.client → (state acts).records ≡ w.records → Core decl (state acts) a c t
        → (t.begun.doomed ≡ false → (state acts).chosen t.begun.tx ≡ None)
        → Turned decl w net a (by_front c (refuses c.front t reply))
    refused acts c t reply m records core chosen =
        turns decl w net a (by_front c (refuses c.front t reply)) acts m records
        (client_of decl (state acts) net.mail a c t Idle core (idle_does decl (state acts) net.mail t chosen))
        (no_sends (state acts) net.mail a) (no_asks (by_front c (refuses c.front t reply)).client)

    dooms : (acts : List Act) (c : Client) (t : Transaction) (reply : Reply)
        → Mid decl w acts (net.clients a).front.client → (state acts).records ≡ w.records → Core decl (state acts) a c t
        → Turned decl w net a (by_front c (refuses c.front (doomed t) reply))
    dooms acts c t reply m records core = refused acts c (doomed t) reply m records
        (core_asked decl (state acts) a c t t.begun.asked true core) (λ e. absurd (let never : ⊥ = cc in never))

    -- an append round
    pub appending : (acts : List Act) (c : Client) (t : Transaction) (object inv event : ℕ) (calls : List Call)
        (round : RoundState) → c.front.client ≡ (net.clients a).front.client
        → Mid decl w acts (net.clients a).front.client → (state acts).records ≡ w.records → Core decl (state acts) a c t
        → (state acts).chosen t.begun.tx ≡ Some (chosen_of decl t object inv event)
        → In (append_of decl t object event) (state acts).appends
        → IsRound decl c.front.client t.begun.epoch (append_need_of decl t.begun.epoch object event) round
        → AreCounted (state acts).counted t.begun.tx (Own (next_own t object event)) round.asked
        → ((call : Call) → In call calls → IsAskedBy decl net.mail t (Appending object inv event calls round) call)
        → (v : Verdict) → verdict round ≡ v
        → Turned decl w net a (by_front c (append_by decl c.front t object inv event calls round v))
    appending acts c t object inv event calls round its m records core chosen sent is counted asked verdicts.Waiting e =
        turns decl w net a (by_front c (append_by decl c.front t object inv event calls round verdicts.Waiting)) acts m
        records
        (client_of decl (state acts) net.mail a c (with_asked t (wanted round))
        (Appending object inv event calls (asking_all round (wanted round)))
        (core_asked decl (state acts) a c t (fold with_site t.begun.asked (wanted round)) t.begun.doomed core)
        (record {
          chosen = (chosen, sent);
          counted = asked_counted (state acts).counted t.begun.tx (Own (next_own t object event)) round
              (wanted round) counted;
          calls = asked;
        }))
        (requests_backed (state acts) net.mail a t (append_want decl t object event) (wanted round)
        (actor decl (state acts) a c t core) core.active core.begun.epoch
        (λ site. (sent, core.begun.sorted object, appended_on decl t object event)))
        (requests_asking (by_front c (append_by decl c.front t object inv event calls round verdicts.Waiting)).client t
        (with_asked t (wanted round)) (append_want decl t object event) (wanted round) refl refl refl refl
        (λ site. refl))
    appending acts c t object inv event calls round its m records core chosen sent is counted asked verdicts.Met e =
        let met : HasQuorum decl t.begun.epoch (state acts).counted t.begun.tx (Own (next_own t object event))
        (append_need_of decl t.begun.epoch object event) =
        met_quorum decl c.front.client t.begun.epoch (append_need_of decl t.begun.epoch object event) round
        (state acts).counted t.begun.tx (Own (next_own t object event)) is counted e in
        turns decl w net a (by_front c (responds decl c.front t object inv event)) (Execute t.begun.tx ∷ acts)
        (mid_execute decl w acts (net.clients a).front.client m a c t object inv event its core chosen met) records
        (client_of decl (state (Execute t.begun.tx ∷ acts)) net.mail a c
        (with_event t object inv event (resp_of decl object event)) Idle
        (executed_core decl (state acts) (state (Execute t.begun.tx ∷ acts)) a c t
        (with_event t object inv event (resp_of decl object event))
        (chosen_of decl t object inv event) core refl refl refl refl
        (put_tx_here (state acts).executed t.begun.tx
        ((state acts).executed t.begun.tx ++ chosen_list ((state acts).chosen t.begun.tx))
        ∙ ap (λ (o : Option Executed). (state acts).executed t.begun.tx ++ chosen_list o) chosen)
        (event_is_with decl t object inv event))
        (idle_does decl (state (Execute t.begun.tx ∷ acts)) net.mail
        (with_event t object inv event (resp_of decl object event))
        (λ k. ap (state (Execute t.begun.tx ∷ acts)).chosen (event_is_with decl t object inv event).tx
        ∙ put_tx_here (state acts).chosen t.begun.tx None)))
        (no_sends (state (Execute t.begun.tx ∷ acts)) net.mail a)
        (no_asks (by_front c (responds decl c.front t object inv event)).client)
    appending acts c t object inv event calls round its m records core chosen sent is counted asked
        (verdicts.Closed epoch site) e = dooms acts c t (replies.Closed epoch site) m records core
    appending acts c t object inv event calls round its m records core chosen sent is counted asked
        (verdicts.Clash tx site) e = dooms acts c t (replies.Conflict tx site) m records core
    appending acts c t object inv event calls round its m records core chosen sent is counted asked
        (verdicts.Short got need) e = dooms acts c t (replies.Quorum halves.Append got need) m records core

    -- a read round that is met: the view answers
    answers : (acts : List Act) (c : Client) (t : Transaction) (object inv : ℕ)
        → c.front.client ≡ (net.clients a).front.client → Mid decl w acts (net.clients a).front.client
        → (state acts).records ≡ w.records → Core decl (state acts) a c t
        → RecordsHold decl t.views t.own t.begun.ops → (state acts).chosen t.begun.tx ≡ None → IsNamedAt decl object inv
        → HasQuorum decl t.begun.epoch (state acts).counted t.begun.tx
        (Lock (record { object = object; inv = inv })) (read_need_of decl t.begun.epoch object inv)
        → (o : Option ℕ) → answer_of decl t object inv ≡ o
        → Turned decl w net a (by_front c (answered decl c.front t object inv o))
    answers acts c t object inv its m records core holds chosen named met None none =
        turns decl w net a (by_front c (absents c.front t object inv))
        (ExecuteAbsent t.begun.tx (absent_of t object inv) ∷ acts)
        (mid_absent decl w acts (net.clients a).front.client m a c t object inv its core chosen named
        (absent_answered decl t object inv named.0 holds named.1 (core.begun.sorted object) none) met) records
        (client_of decl (state (ExecuteAbsent t.begun.tx (absent_of t object inv) ∷ acts)) net.mail a c
        (with_op t (operation_of object inv None)) Idle
        (executed_core decl (state acts) (state (ExecuteAbsent t.begun.tx (absent_of t object inv) ∷ acts)) a c t
        (with_op t (operation_of object inv None)) (absent_of t object inv) core refl refl refl refl
        (put_tx_here (state acts).executed t.begun.tx ((state acts).executed t.begun.tx ++ absent_of t object inv ∷ []))
        (absent_is_with t object inv))
        (idle_does decl (state (ExecuteAbsent t.begun.tx (absent_of t object inv) ∷ acts)) net.mail
        (with_op t (operation_of object inv None)) (λ k. put_tx_here (state acts).chosen t.begun.tx None)))
        (no_sends (state (ExecuteAbsent t.begun.tx (absent_of t object inv) ∷ acts)) net.mail a)
        (no_asks (by_front c (absents c.front t object inv)).client)
    answers acts c t object inv its m records core holds chosen named met (Some event) some =
        let first : Mid decl w (Choose t.begun.tx (chosen_of decl t object inv event) ∷ acts)
        (net.clients a).front.client =
        mid_choose decl w acts (net.clients a).front.client m a c t object inv event its core chosen named
        (chosen_answered decl t object inv named.0 holds named.1 (core.begun.sorted object) event some) met in
        let chooses : (state (Choose t.begun.tx (chosen_of decl t object inv event) ∷ acts)).chosen t.begun.tx ≡ Some
        (chosen_of decl t object inv event) = put_tx_here (state acts).chosen t.begun.tx
        (Some (chosen_of decl t object inv event)) in
        appending (SendAppend (append_of decl t object event) ∷ Choose t.begun.tx (chosen_of decl t object inv event)
        ∷ acts) c t object inv event [] (round_for decl c.front t (append_need_of decl t.begun.epoch object event))
        its
        (mid_send decl w (Choose t.begun.tx (chosen_of decl t object inv event) ∷ acts)
        (net.clients a).front.client first t object inv event core.begun.epoch chooses) records
        (record {
          own = record {
            actor = core.own.actor;
            desk = core.own.desk;
            lives_to_come = core.own.lives_to_come;
            epoch = core.own.epoch;
            desk_epoch = core.own.desk_epoch;
            clock = core.own.clock;
            to_come = core.own.to_come;
            committed = core.own.committed;
            aborted = core.own.aborted;
          };
          begun = record {
            named = core.begun.named;
            epoch = core.begun.epoch;
            lives = core.begun.lives;
            ops = core.begun.ops;
            own = core.begun.own;
            sorted = core.begun.sorted;
            shown = core.begun.shown;
            whole = core.begun.whole;
          };
          active = core.active;
          voting = core.voting;
        })
        chooses (inl refl)
        (started_round decl c.front t (append_need_of decl t.begun.epoch object event))
        (λ x never. absurd never) (λ call never. absurd never)
        (verdict (round_for decl c.front t (append_need_of decl t.begun.epoch object event))) refl

    pub reading : (acts : List Act) (c : Client) (t : Transaction) (object inv : ℕ) (calls : List Call)
        (round : RoundState) → c.front.client ≡ (net.clients a).front.client
        → Mid decl w acts (net.clients a).front.client → (state acts).records ≡ w.records → Core decl (state acts) a c t
        → RecordsHold decl t.views t.own t.begun.ops → (state acts).chosen t.begun.tx ≡ None → IsNamedAt decl object inv
        → IsRound decl c.front.client t.begun.epoch (read_need_of decl t.begun.epoch object inv) round
        → AreCounted (state acts).counted t.begun.tx (Lock (record { object = object; inv = inv })) round.asked
        → ((call : Call) → In call calls → IsAskedBy decl net.mail t (Reading object inv calls round) call)
        → (v : Verdict) → verdict round ≡ v
        → Turned decl w net a (by_front c (read_by decl c.front t object inv calls round v))
    reading acts c t object inv calls round its m records core holds chosen named is counted asked verdicts.Waiting e =
        turns decl w net a (by_front c (read_by decl c.front t object inv calls round verdicts.Waiting)) acts m records
        (client_of decl (state acts) net.mail a c (with_asked t (wanted round))
        (Reading object inv calls (asking_all round (wanted round)))
        (core_asked decl (state acts) a c t (fold with_site t.begun.asked (wanted round)) t.begun.doomed core)
        (record {
          chosen = chosen;
          counted = (
            named,
            asked_counted (state acts).counted t.begun.tx
                (Lock (record { object = object; inv = inv })) round (wanted round) counted,
          );
          calls = asked;
        }))
        (requests_backed (state acts) net.mail a t (read_want object inv) (wanted round)
        (actor decl (state acts) a c t core) core.active core.begun.epoch (λ site. refl))
        (requests_asking (by_front c (read_by decl c.front t object inv calls round verdicts.Waiting)).client t
        (with_asked t (wanted round)) (read_want object inv) (wanted round) refl refl refl refl (λ site. refl))
    reading acts c t object inv calls round its m records core holds chosen named is counted asked verdicts.Met e =
        answers acts c t object inv its m records core holds chosen named
        (met_quorum decl c.front.client t.begun.epoch (read_need_of decl t.begun.epoch object inv) round
        (state acts).counted t.begun.tx (Lock (record { object = object; inv = inv })) is counted e)
        (answer_of decl t object inv) refl
    reading acts c t object inv calls round its m records core holds chosen named is counted asked
        (verdicts.Closed epoch site) e = refused acts c t (replies.Closed epoch site) m records core (λ k. chosen)
    reading acts c t object inv calls round its m records core holds chosen named is counted asked
        (verdicts.Clash tx site) e = refused acts c t (replies.Conflict tx site) m records core (λ k. chosen)
    reading acts c t object inv calls round its m records core holds chosen named is counted asked
        (verdicts.Short got need) e = refused acts c t (replies.Quorum halves.Read got need) m records core
        (λ k. chosen)
