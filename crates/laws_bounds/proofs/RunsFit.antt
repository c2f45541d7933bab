-- In each run with falls whose rises fit, each message tells promises of clients alone; so what an actor is between two
-- inputs, and after one, is known.
use Rattle.std.proofs.Common.{◌≡◌, ℕ, ◌+◌, ◌<◌, ◌≤◌, Bool, true, List, [], ◌∷◌, ◌++◌, length, Some, None, slice_get}
use Rattle.std.proofs.Common.{refl, sym, ap, ◌∙◌, subst, arith}
use Rattle.std.specs.List.{AllByRecursion as Every}
use Rattle.qc_list.specs.Vocabulary.{In}
use Rattle.qc_list.proofs.Members.{every-In, every-append}
use Rattle.qc_admin.specs.Vocabulary.{MessageFits}
use Rattle.qc_core.specs.declared.actor.Actor.{Actor}
use Rattle.qc_core.specs.declared.actor.Actor.TheVariants as actors_of
use Rattle.qc_core.specs.Vocabulary.{ActorMove, IsLawfulWithFalls, actor_after, actor_takes, is_running, with_record}
use Rattle.qc_core.proofs.Answers.{answers_rising}
use Rattle.qc_core.proofs.PostsByTurns.{called_turn}
use Rattle.qc_decl.specs.Vocabulary.{IsAccepted, actors, controller}
use Rattle.qc_decl.specs.declared.declaration.Declaration.{Declaration}
use Rattle.qc_mailbox.proofs.Keeping.{same_mail}
use Rattle.laws_turns.specs.Vocabulary.{LivesIn}
use Rattle.laws_turns.proofs.LivedMoves.{line_silent}
use Rattle.laws_turns.proofs.Lived.{actors_live_in_runs_with_falls}
use Rattle.laws_turns.proofs.Numbered.{mail-silent}
use Rattle.qc_link.specs.Vocabulary.{most_actors}
use Rattle.qc_msg.specs.declared.message.Envelope.{Envelope}
use Rattle.qc_msg.specs.declared.record.Record.{Record}
use Rattle.qc_msg.specs.declared.step.Fall.TheVariants as causes
use Rattle.qc_msg.specs.declared.step.Input.{Input}
use Rattle.qc_msg.specs.declared.step.Input.TheVariants as inputs
use Rattle.qc_msg.specs.declared.step.Step.TheVariants as steps
use Rattle.qc_msg.specs.declared.turn.Appended.{Appended}
use Rattle.qc_msg.specs.declared.turn.Appended.TheVariants.{Done, Failed, Stopped}
use Rattle.qc_msg.specs.declared.turn.Posting.{Posting}
use Rattle.qc_msg.specs.declared.turn.Turn.{Turn}
use Rattle.qc_msg.specs.Vocabulary.{Deed, Entry, by, deeds, envelope_of, envelopes, mail, marked, posted_as, sends_as}
use Rattle.qc_msg.proofs.GrownMail.{mail-append, mail-taken}
use Rattle.qc_msg.proofs.Growth.{mail-posted_as}
use Rattle.qc_script.specs.Vocabulary.{RunsWithFalls, begins, control, damaged, falls, phase, phase_of, posts, rises}
use Rattle.qc_script.specs.Vocabulary.{takes, unopened}
use Rattle.qc_script.specs.declared.script.Script.{Script}
use Rattle.laws_bounds.specs.Vocabulary.{AllRiseFit}
use Rattle.laws_bounds.proofs.FitBounds.{rise_clients}
use Rattle.laws_bounds.proofs.MailFits.{SendsFit, TurnFits, admin_fits, client_fits, site_fits, unanswering_fit}
use Rattle.laws_bounds.proofs.Senders.{AreFrom, AreSound, deeds_sound, run_from}
use Rattle.laws_bounds.proofs.Standing.{IsOpen, IsReady, Known, known}
use Rattle.qc_core.proofs.ActorLaws.{input as after_takes}
use Rattle.qc_msg.proofs.DeedsGrow.{deeds-rise}

abbrev pub MailFit : List Envelope → Type 0
MailFit ms = Every (λ (e : Envelope). MessageFits e.message) ms

envelopes_fit : (a n : ℕ) (ps : List Posting) → SendsFit ps → MailFit (envelopes a n ps)
envelopes_fit a n [] all = tt
envelopes_fit a n (p ∷ ps) all = (all.0, envelopes_fit a (n + 1) ps all.1)

-- what is sent for an input fits

takes_fit : (decl : Declaration) (running : Bool) (v : Actor) (g : Input) → IsReady decl running v
    → TurnFits (actor_takes decl v g).turn
takes_fit decl running (actors_of.Site s) g ready = site_fits decl s g ready
takes_fit decl running (actors_of.Client c) g ready = client_fits decl c g
takes_fit decl running (actors_of.Admin m) g ready = admin_fits decl m g
takes_fit decl running actors_of.Down (inputs.Called command) ready = record { sends = tt; failed_sends = tt }
takes_fit decl running actors_of.Down (inputs.Got e) ready = record { sends = tt; failed_sends = tt }
takes_fit decl running actors_of.Down (inputs.Lost number) ready = record { sends = tt; failed_sends = tt }

as_fits : (end : Appended) (turn : Turn) → TurnFits (with_record turn) → SendsFit (sends_as end turn)
as_fits Done turn fit = fit.sends
as_fits Failed turn fit = fit.failed_sends
as_fits Stopped turn fit = tt

first_rises : (decl : Declaration) (h k : List Entry) → AllRiseFit decl (h ++ k) → AllRiseFit decl h
first_rises decl [] k all = tt
first_rises decl (e ∷ h) k all = (all.0, first_rises decl h k all.1)

module _ (decl : Declaration) (script : Script) (fits : ℕ → List Record → Type 0) (accepted : IsAccepted decl) where
  abbrev IsRun : List Entry → List Bool → Type 0
  IsRun h open_inputs = RunsWithFalls (IsLawfulWithFalls decl) fits decl script h open_inputs

  -- from where a message comes, and what it tells
  sound_mail : (ms : List Envelope) → AreFrom (actors decl) ms → MailFit ms → AreSound ms
  sound_mail [] from fit = tt
  sound_mail (e ∷ ms) from fit = (
    (
      (let sites : decl.sites ≤ 16 = accepted.sites in
          let clients : decl.clients ≤ 16 = accepted.clients in
          let low : e.from < actors decl = from.0 in
          let here : e.from < most_actors = omega arith in here),
      fit.0,
    ),
    sound_mail ms from.1 fit.1,
  )

  pub known_in : (h : List Entry) (open_inputs : List Bool) → IsRun h open_inputs → AllRiseFit decl h → MailFit (mail h)
      → (a : ℕ) (t : Bool) → slice_get open_inputs a ≡ Some t → Known decl accepted a (deeds a [] h) t
  known_in h open_inputs run fit told a t is =
      let few : actors decl ≤ most_actors =
      (let sites : decl.sites ≤ 16 = accepted.sites in
      let clients : decl.clients ≤ 16 = accepted.clients in omega arith) in
      let lived : LivesIn decl a h t = actors_live_in_runs_with_falls decl script fits few h open_inputs run a t is in
      known decl accepted a (deeds a [] h) t lived.above lived.lives
      (deeds_sound a [] h tt (sound_mail (mail h) (run_from decl script fits h open_inputs run) told)
      (rise_clients decl h accepted fit))

  -- a turn for an input
  turn_fits : (a : ℕ) (ds : List Deed) (turn : Turn) → IsOpen decl accepted a ds → IsLawfulWithFalls decl a ds turn
      → TurnFits (with_record turn)
  turn_fits a ds turn o law =
      subst TurnFits
      (ap (λ (m : ActorMove). m.turn)
      (sym (after_takes decl a o.before o.input) ∙ ap (actor_after decl a) (sym o.is))
      ∙ called_turn decl a ds turn law)
      (takes_fit decl (is_running o.before) (actor_after decl a o.before).actor o.input o.ready)

  still : (h : List Entry) (e : Entry) → envelope_of e ≡ None → MailFit (mail h) → MailFit (mail (h ++ e ∷ []))
  still h e none fit = subst MailFit (sym (same_mail h e none)) fit

  posted : (a n : ℕ) (h : List Entry) (turn : Turn) → SendsFit (sends_as turn.append turn) → MailFit (mail h)
      → MailFit (mail h ++ mail (by a (posted_as turn.append n turn)))
  posted a n h turn sends fit =
      every-append (λ (e : Envelope). MessageFits e.message) (mail h) (mail (by a (posted_as turn.append n turn))) fit
      (subst MailFit (sym (mail-posted_as turn.append a n turn))
      (envelopes_fit a n (sends_as turn.append turn) sends))

  pub run_fits : (h : List Entry) (open_inputs : List Bool) → IsRun h open_inputs → AllRiseFit decl h → MailFit (mail h)
  run_fits h open_inputs begins fit = tt
  run_fits h open_inputs (takes a g before older run free rdy) fit =
      subst MailFit (sym (mail-taken older a g)) (run_fits older before run (first_rises decl older _ fit))
  run_fits h open_inputs (posts a turn before older run taken law) fit =
      let earlier : AllRiseFit decl older = first_rises decl older _ fit in
      let old : MailFit (mail older) = run_fits older before run earlier in
      subst MailFit (sym (mail-append older (by a (posted_as turn.append (length (mail older)) turn))))
      (posted a (length (mail older)) older turn
      (as_fits turn.append turn
      (turn_fits a (deeds a [] older) turn (known_in older before run earlier old a true taken) law))
      old)
  run_fits h open_inputs (phase before older run none done calm more) fit =
      still older (marked (controller decl) (steps.Phase (phase_of older + 1))) refl
      (run_fits older before run (first_rises decl older _ fit))
  run_fits h open_inputs (control line lines step before older run left is) fit =
      subst MailFit (sym (mail-silent older (controller decl) step (line_silent line step is)))
      (run_fits older before run (first_rises decl older _ fit))
  run_fits h open_inputs (falls a lines before older run left) fit =
      still older (marked a (steps.Fell causes.Script None)) refl
      (run_fits older before run (first_rises decl older _ fit))
  run_fits h open_inputs (rises a rs turn lines before older run left fits_it has law) fit =
      subst MailFit
      (sym (mail-append older (by a (steps.Rose rs ∷ posted_as turn.append (length (mail older)) turn))))
      (posted a (length (mail older)) older turn
      (unanswering_fit (sends_as turn.append turn)
      (answers_rising decl a (deeds a [] older) rs turn
      (subst (λ (ds : List Deed). IsLawfulWithFalls decl a ds turn) (deeds-rise a older rs) law)))
      (run_fits older before run (first_rises decl older _ fit)))
  run_fits h open_inputs (damaged a offset lines before older run left) fit =
      still older (marked a (steps.Damaged offset)) refl (run_fits older before run (first_rises decl older _ fit))
  run_fits h open_inputs (unopened a cause lines before older run left disk) fit =
      still older (marked a (steps.Fell cause None)) refl (run_fits older before run (first_rises decl older _ fit))

  pub messages_fit : (h : List Entry) (open_inputs : List Bool) → IsRun h open_inputs → AllRiseFit decl h
      → (e : Envelope) → In e (mail h) → MessageFits e.message
  messages_fit h open_inputs run fit e among =
      every-In (λ (x : Envelope). MessageFits x.message) e (mail h) (run_fits h open_inputs run fit) among
