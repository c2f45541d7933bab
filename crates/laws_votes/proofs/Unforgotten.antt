-- In no run with falls whose records are kept, and which has committed at most twice the limit of operations, an open
-- vote has an answer that says that its site has forgotten.
use Rattle.std.proofs.Common.{◌*◌, ◌≡◌, ◌≤◌, ◌+◌, ◌-◌, ℕ, Bool, true, List, [], ◌∷◌, ◌++◌, inl, inr, length, None, Some}
use Rattle.std.proofs.Common.{slice_get, refl, sym, ap, ◌∙◌, subst, arith}
use Rattle.std.specs.Prelude.{sum_by}
use Rattle.std.proofs.lemmas.List.{append-nil}
use Rattle.laws_votes.proofs.Fitting.{promise_fits, seen_before, taken_before}
use Rattle.laws_votes.proofs.Growing.{IsMindful, Unforgotten, grown, opens_by, opens_fallen, opens_posted, opens_risen}
use Rattle.laws_votes.proofs.Growing.{opens_taken, quiet_event}
use Rattle.laws_votes.proofs.Inputs.{deeds-risen}
use Rattle.laws_votes.proofs.Posted.{IsOfTaken, answers_of_taken, fails_never, rise_answers_nothing}
use Rattle.qc_core.specs.Vocabulary.{ActorMove, IsLawfulWithFalls, actor_takes, with_record}
use Rattle.qc_core.specs.declared.actor.Actor.{Actor}
use Rattle.qc_decl.specs.Vocabulary.{IsAccepted, actors, controller, is_client, is_site, most_committed_operations}
use Rattle.qc_decl.specs.declared.declaration.Declaration.{Declaration}
use Rattle.qc_entry.specs.declared.record.Commit.{Commit as CommitRecord}
use Rattle.laws_guarantees.proofs.Accounts.{WasSent}
use Rattle.laws_guarantees.proofs.RequestGrounds.{has_grounds}
use Rattle.laws_guarantees.proofs.Mailed.{sent_as, sent_mail}
use Rattle.laws_guarantees.proofs.ForgettingAnswers.{Forgets}
use Rattle.laws_guarantees.proofs.AccountsStay.{account_silent}
use Rattle.laws_guarantees.specs.Vocabulary.{IsOpenVote}
use Rattle.laws_votes.proofs.Nets.{at_number, net}
use Rattle.qc_mailbox.proofs.FallMail.{ready_messages_were_sent_through_falls}
use Rattle.laws_turns.proofs.Numbered.{IsSilent, mail-silent, phase_silent}
use Rattle.qc_link.specs.Vocabulary.{most_actors}
use Rattle.qc_list.specs.Vocabulary.{In}
use Rattle.qc_list.proofs.Members.{In-first, In-second, In-either}
use Rattle.laws_turns.proofs.LivedMoves.{deeds-fall, line_silent}
use Rattle.qc_msg.proofs.GrownMail.{mail-append, mail-taken}
use Rattle.qc_msg.proofs.Growth.{deeds-posted_as, deeds-taken, mail-posted_as}
use Rattle.qc_msg.specs.Vocabulary.{Entry, Falls, Rises, Takes, WasSentTo, answered, by, deeds, deeds_as, mail, marked}
use Rattle.qc_msg.specs.Vocabulary.{posted_as, sends_as, step_of}
use Rattle.qc_msg.specs.declared.message.Answer.{Answer}
use Rattle.qc_msg.specs.declared.message.Envelope.{Envelope}
use Rattle.qc_msg.specs.declared.message.Message.{Message}
use Rattle.qc_msg.specs.declared.message.Message.TheVariants as messages
use Rattle.qc_msg.specs.declared.record.Record.{Record}
use Rattle.qc_msg.specs.declared.step.Fall.{Fall}
use Rattle.qc_msg.specs.declared.step.Fall.TheVariants as causes
use Rattle.qc_msg.specs.declared.step.Input.{Input}
use Rattle.qc_msg.specs.declared.step.Step.{Step}
use Rattle.qc_msg.specs.declared.step.Step.TheVariants as steps
use Rattle.qc_msg.specs.declared.turn.Appended.{Appended}
use Rattle.qc_msg.specs.declared.turn.Appended.TheVariants as ends
use Rattle.qc_msg.specs.declared.turn.Posting.{Posting}
use Rattle.qc_msg.specs.declared.turn.Turn.{Turn}
use Rattle.qc_promise.specs.Vocabulary.{ClientRequest, Current, Kept, account, commits_by, records}
use Rattle.laws_reach.proofs.Stood.{in_site}
use Rattle.laws_reach.specs.Vocabulary.{HasTaken}
use Rattle.qc_script.specs.Vocabulary.{IsScriptFor, RunsWithFalls, begins, control, damaged, falls, phase, phase_of}
use Rattle.qc_script.specs.Vocabulary.{posts, rises, takes, unopened}
use Rattle.qc_script.specs.declared.script.Script.{Script}
use Rattle.qc_site.specs.Vocabulary.{SiteState, site_takes}
use Rattle.laws_votes.proofs.Answering.{never_forgotten}
use Rattle.laws_votes.proofs.Holding.{granted}
use Rattle.laws_votes.proofs.LifeGrounds.{has_life_grounds}
use Rattle.laws_votes.proofs.LivesAdded.{HasParticipant}
use Rattle.qc_core.proofs.PostsByTurns.{called_turn}
use Rattle.qc_list.proofs.Places.{place_within}
use Rattle.qc_promise.proofs.Posts.{kept_part}

-- a history that goes on keeps its committed records
pub records_more : (decl : Declaration) (h k : List Entry) (c : CommitRecord) → In c (records decl h)
    → In c (records decl (h ++ k))
records_more decl [] k c among = absurd among
records_more decl (e ∷ h) k c among = elim (In-either c (commits_by decl e) (records decl h) among) [
  | inl here ↦ In-first c (commits_by decl e) (records decl (h ++ k)) here
  | inr there ↦ In-second c (commits_by decl e) (records decl (h ++ k)) (records_more decl h k c there)
]

module _ (fits : ℕ → List Record → Type 0) (decl : Declaration) (script : Script) (accepted : IsAccepted decl)
    (sound : IsScriptFor decl script) (commits : List CommitRecord)
    (within : sum_by (λ (c : CommitRecord). answered c.ops) commits ≤ 2 * most_committed_operations) where
  abbrev IsRun : List Entry → List Bool → Type 0
  IsRun h inputs = RunsWithFalls (IsLawfulWithFalls decl) fits decl script h inputs

  -- all that was committed is among these records
  abbrev pub AreAll : List Entry → Type 0
  AreAll h = (c : CommitRecord) → In c (records decl h) → In c commits

  few : actors decl ≤ most_actors
  few = let s = accepted.sites in let c = accepted.clients in omega arith

  -- a turn is posted

  module _ (h : List Entry) (inputs : List Bool) (run : IsRun h inputs) (kept : Kept h) (all : AreAll h) (b : ℕ)
      (turn : Turn) (taken : slice_get inputs b ≡ Some true) (law : IsLawfulWithFalls decl b (deeds b [] h) turn) where
    module _ (a : ℕ) (client : is_client decl a ≡ true) (q : ClientRequest) (vote : IsOpenVote (account decl a h) q)
        (p : Posting) (x : Answer) (among : In p (sends_as turn.append turn))
        (is : p.message ≡ messages.Answer q.number x) (forgets : Forgets x) where
      of : IsOfTaken h b q.number
      of = answers_of_taken decl script fits few h inputs run b turn taken law p q.number x among is

      part : HasParticipant (account decl a h).current q
      part = (has_life_grounds decl (a - decl.sites) (deeds a [] h)).votes q vote.among vote.want

      -- it answers the request that its client waits for: so a site posts it
      site : is_site decl b ≡ true
      site =
          let s : (u : Current) × ((account decl a h).current ≡ Some u)
          × WasSent (deeds a [] h) q u.tx = (has_grounds decl (a - decl.sites) (deeds a [] h)).sent q vote.among in
          let m : Message = messages.Request s.0.tx s.2.epoch q.life q.want in
          let at : slice_get (mail h) q.number ≡ Some (sent_as a q.number q.site m) =
          at_number fits decl script h inputs accepted sound run kept (sent_as a q.number q.site m)
          (sent_mail a [] h q.number q.site m s.2.is) in
          let one : of.envelope ≡ sent_as a q.number q.site m =
          (let both : Some of.envelope ≡ Some (sent_as a q.number q.site m) = sym of.sent ∙ at in cc) in
          let here : b ≡ q.site = sym of.to ∙ ap (λ (e : Envelope). e.to) one in
          ap (is_site decl) here ∙ (granted fits decl script h inputs accepted sound run kept a client part.0 part.1
          q.site part.2).place

      abbrev s : SiteState
      s = (net fits decl script h inputs accepted sound run kept).sites b

      taking : HasTaken decl (net fits decl script h inputs accepted sound run kept) b h
      taking = taken_before fits decl script h inputs accepted sound run kept b site of.up taken

      turn_is : (site_takes decl s taking.given).turn ≡ with_record turn
      turn_is = ap (λ (m : ActorMove). m.turn)
          (sym (taking.is ∙ ap (λ (v : Actor). actor_takes decl v taking.given)
          (in_site decl (net fits decl script h inputs accepted sound run kept) b site)))
          ∙ called_turn decl b (deeds b [] h) turn law

      pub post_remembers : ⊥
      post_remembers = by turn.append among
        where
          by : (end : Appended) → In p (sends_as end turn) → ⊥
          by ends.Done there =
              never_forgotten fits decl script h inputs accepted sound run kept a client part.0 part.1 q vote b site
              taken of.up taking.before taking.given taking.deeds_are turn law
              (promise_fits fits decl script h inputs accepted sound run kept b site of.up commits all within a client
              part.0 part.1 taking.before (seen_before fits decl script h inputs accepted sound run kept b site
              of.up taking)) p x there is forgets
          by ends.Failed there = fails_never decl s taking.given p q.number x
              (subst (λ (t : Turn). In p t.failed_sends) (sym turn_is) there) is forgets
          by ends.Stopped there = there

    post_event : IsMindful decl h b (posted_as turn.append (length (mail h)) turn)
    post_event = record {
      posted = sends_as turn.append turn;
      mail_is = mail-append h (by b (posted_as turn.append (length (mail h)) turn))
          ∙ ap (λ (ms : List Envelope). mail h ++ ms) (mail-posted_as turn.append b (length (mail h)) turn);
      opens = opens_by decl b h (posted_as turn.append (length (mail h)) turn)
          (deeds_as turn.append (length (mail h)) turn) (length (mail h))
          (deeds-posted_as turn.append b (length (mail h)) h turn)
          (opens_posted decl turn.append (account decl b h) (length (mail h)) turn);
      low = λ p n x among is forgets. (let of : IsOfTaken h b n =
          answers_of_taken decl script fits few h inputs run b turn taken law p n x among is in
          place_within (mail h) n of.envelope of.sent);
      remembers = λ a q client vote p x among is forgets. post_remembers a client q vote p x among is forgets;
    }

  -- an actor rises
  rise_event : (h : List Entry) (b : ℕ) (rs : List Record) (turn : Turn)
      → IsLawfulWithFalls decl b (deeds b [] (h ++ marked b (steps.Rose rs) ∷ [])) turn
      → IsMindful decl h b (steps.Rose rs ∷ posted_as turn.append (length (mail h)) turn)
  rise_event h b rs turn law = record {
    posted = sends_as turn.append turn;
    mail_is = mail-append h (by b (steps.Rose rs ∷ posted_as turn.append (length (mail h)) turn))
        ∙ ap (λ (ms : List Envelope). mail h ++ ms) (mail-posted_as turn.append b (length (mail h)) turn);
    opens = opens_by decl b h (steps.Rose rs ∷ posted_as turn.append (length (mail h)) turn)
        (Rises rs ∷ deeds_as turn.append (length (mail h)) turn) (length (mail h)) (deeds-risen b h rs turn.append turn)
        (opens_risen decl turn.append (account decl b h) (length (mail h)) rs turn);
    low = λ p n x among is forgets. absurd (rise_answers_nothing decl b h rs turn law p n x among is);
    remembers = λ a q client vote p x among is forgets. rise_answers_nothing decl b h rs turn law p q.number x among is;
  }

  -- an event that posts nothing

  take_event : (h : List Entry) (b : ℕ) (g : Input) → WasSentTo b (mail h) g → IsMindful decl h b (step_of g ∷ [])
  take_event h b g sent = quiet_event decl h b (step_of g ∷ []) (mail-taken h b g)
      (opens_by decl b h (step_of g ∷ []) (Takes g ∷ []) (length (mail h)) (deeds-taken b h g sent)
      (opens_taken decl (account decl b h) (length (mail h)) g))

  fall_event : (h : List Entry) (b : ℕ) (cause : Fall) → IsMindful decl h b (steps.Fell cause None ∷ [])
  fall_event h b cause =
      quiet_event decl h b (steps.Fell cause None ∷ [])
      (mail-append h (marked b (steps.Fell cause None) ∷ []) ∙ append-nil (mail h))
      (opens_by decl b h (steps.Fell cause None ∷ []) (Falls cause None ∷ []) (length (mail h)) (deeds-fall b h cause)
      (opens_fallen decl (account decl b h) (length (mail h)) cause None))

  still_event : (h : List Entry) (b : ℕ) (step : Step) → IsSilent step → IsMindful decl h b (step ∷ [])
  still_event h b step silent = quiet_event decl h b (step ∷ []) (mail-silent h b step silent)
      (λ a q vote. inl (subst (λ (d : _). IsOpenVote d q) (account_silent decl a b h step silent) vote))

  pub unforgotten : (h : List Entry) (inputs : List Bool) → IsRun h inputs → Kept h → AreAll h → Unforgotten decl h
  unforgotten h inputs begins kept all = record
      { low = λ n x k forgets. absurd k.sent; votes = λ a q x client vote k forgets. k.sent }
  unforgotten h inputs (takes b g slots older run free rdy) kept all =
      grown decl older b (step_of g ∷ []) (take_event older b g
      (ready_messages_were_sent_through_falls (IsLawfulWithFalls decl) fits decl script older slots run b g rdy))
      (unforgotten older slots run (kept_part older _ kept)
      (λ c among. all c (records_more decl older (marked b (step_of g) ∷ []) c among)))
  unforgotten h inputs (posts b turn slots older run taken law) kept all =
      let was : AreAll older = (λ c among. all c
      (records_more decl older (by b (posted_as turn.append (length (mail older)) turn)) c among)) in
      grown decl older b (posted_as turn.append (length (mail older)) turn)
      (post_event older slots run (kept_part older _ kept) was b turn taken law)
      (unforgotten older slots run (kept_part older _ kept) was)
  unforgotten h inputs (phase slots older run none done quiet more) kept all =
      grown decl older (controller decl) (steps.Phase (phase_of older + 1) ∷ [])
      (still_event older (controller decl) (steps.Phase (phase_of older + 1)) (phase_silent (phase_of older + 1)))
      (unforgotten older slots run (kept_part older _ kept)
      (λ c among. all c (records_more decl older
      (marked (controller decl) (steps.Phase (phase_of older + 1)) ∷ []) c among)))
  unforgotten h inputs (control line lines step slots older run left is) kept all =
      grown decl older (controller decl) (step ∷ [])
      (still_event older (controller decl) step (line_silent line step is))
      (unforgotten older slots run (kept_part older _ kept)
      (λ c among. all c (records_more decl older (marked (controller decl) step ∷ []) c among)))
  unforgotten h inputs (falls b lines slots older run left) kept all =
      grown decl older b (steps.Fell causes.Script None ∷ []) (fall_event older b causes.Script)
      (unforgotten older slots run (kept_part older _ kept)
      (λ c among. all c (records_more decl older (marked b (steps.Fell causes.Script None) ∷ []) c among)))
  unforgotten h inputs (rises b rs turn lines slots older run left fit has law) kept all =
      grown decl older b (steps.Rose rs ∷ posted_as turn.append (length (mail older)) turn)
      (rise_event older b rs turn law)
      (unforgotten older slots run (kept_part older _ kept)
      (λ c among. all c (records_more decl older
      (by b (steps.Rose rs ∷ posted_as turn.append (length (mail older)) turn)) c among)))
  unforgotten h inputs (damaged b offset lines slots older run left) kept all =
      absurd (kept older [] (marked b (steps.Damaged offset)) refl)
  unforgotten h inputs (unopened b cause lines slots older run left disk) kept all =
      grown decl older b (steps.Fell cause None ∷ []) (fall_event older b cause)
      (unforgotten older slots run (kept_part older _ kept)
      (λ c among. all c (records_more decl older (marked b (steps.Fell cause None) ∷ []) c among)))
