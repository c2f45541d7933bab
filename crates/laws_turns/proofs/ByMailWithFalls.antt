-- In each run with falls messages reach those whom they were sent to, and each actor goes by turns.
use Rattle.std.proofs.Common.{◌≡◌, ℕ, ◌+◌, ◌<◌, ◌≤◌, Bool, true, List, [], ◌∷◌, ◌++◌, length, Some, None, slice_get}
use Rattle.std.proofs.Common.{refl, subst, arith}
use Rattle.qc_core.specs.Vocabulary.{IsLawfulWithFalls}
use Rattle.qc_core.proofs.Answers.{answers_rising, answers_taken}
use Rattle.qc_core.proofs.OpenedInputs.{Opened, opened}
use Rattle.qc_core.proofs.ByTurns.{who_lives_goes_by_turns}
use Rattle.qc_decl.specs.declared.declaration.Declaration.{Declaration}
use Rattle.qc_decl.specs.Vocabulary.{actors, controller, is_site}
use Rattle.qc_mailbox.specs.Vocabulary.{AreNumbered}
use Rattle.qc_mailbox.proofs.FallMail.{ready_messages_were_sent_through_falls, run_numbered}
use Rattle.qc_mailbox.proofs.Keeping.{same_mail}
use Rattle.laws_turns.proofs.ByMail.{ready_lost}
use Rattle.laws_turns.proofs.Commanded.{ready_called, uncommanded}
use Rattle.laws_turns.proofs.MailedSteps.{Delivered, step_delivered, takes_delivered}
use Rattle.laws_turns.proofs.Delivered.{posts_delivered, rises_delivered}
use Rattle.qc_link.specs.Vocabulary.{most_actors}
use Rattle.qc_msg.specs.declared.record.Record.{Record}
use Rattle.qc_msg.specs.declared.step.Control.{Control}
use Rattle.qc_msg.specs.declared.step.Fall.TheVariants as causes
use Rattle.qc_msg.specs.declared.step.Step.{Step}
use Rattle.qc_msg.specs.declared.step.Step.TheVariants as steps
use Rattle.qc_msg.specs.declared.turn.Turn.{Turn}
use Rattle.qc_msg.specs.Vocabulary.{Deed, Entry, by, deeds, mail, marked, posted_as}
use Rattle.qc_promise.specs.Vocabulary.{AreByTurns, IsMailed}
use Rattle.qc_script.specs.Vocabulary.{RunsWithFalls, begins, control, controller_step, damaged, falls, phase, phase_of}
use Rattle.qc_script.specs.Vocabulary.{posts, rises, takes, unopened}
use Rattle.qc_script.specs.declared.script.Script.{Script}
use Rattle.laws_turns.specs.Vocabulary.{LivesIn}
use Rattle.laws_turns.proofs.Lived.{actors_live_in_runs_with_falls, run_long}
use Rattle.laws_turns.proofs.StepCases.{controller_cases}
use Rattle.qc_list.proofs.Places.{some_at}
use Rattle.qc_msg.proofs.DeedsGrow.{deeds-rise}

module _ (decl : Declaration) (script : Script) (fits : ℕ → List Record → Type 0)
    (few : actors decl ≤ most_actors) where
  abbrev IsRun : List Entry → List Bool → Type 0
  IsRun h open_inputs = RunsWithFalls (IsLawfulWithFalls decl) fits decl script h open_inputs

  line_delivered : (a : ℕ) (line : Control) (step : Step) → controller_step line ≡ Some step → (h : List Entry)
      → Delivered decl h → Delivered decl (h ++ marked a step ∷ [])
  line_delivered a line step is h d =
      controller_cases (λ (s : Step). Delivered decl (h ++ marked a s ∷ []))
      (λ x y. step_delivered decl h a (steps.Cut x y) (same_mail h (marked a (steps.Cut x y)) refl) tt tt d)
      (λ x y. step_delivered decl h a (steps.Heal x y) (same_mail h (marked a (steps.Heal x y)) refl) tt tt d)
      (λ x. step_delivered decl h a (steps.Armed x.actor x.kind x.at)
      (same_mail h (marked a (steps.Armed x.actor x.kind x.at)) refl) tt tt d) line step is

  post_of_run : (older : List Entry) (a : ℕ) (turn : Turn) → LivesIn decl a older true
      → IsLawfulWithFalls decl a (deeds a [] older) turn → AreNumbered (mail older) → Delivered decl older
      → Delivered decl (older ++ by a (posted_as turn.append (length (mail older)) turn))
  post_of_run older a turn lived law numbered d =
      posts_delivered decl older a o.before o.given turn numbered o.is
      (answers_taken decl a o.before o.given turn
      (subst (λ (ds : List Deed). IsLawfulWithFalls decl a ds turn) o.is law)) d
    where
      o : Opened (deeds a [] older)
      o = opened decl a (deeds a [] older) true lived.above lived.lives refl

  pub run_delivered : (h : List Entry) (open_inputs : List Bool) → IsRun h open_inputs → Delivered decl h
  run_delivered h open_inputs begins = record { mailed = tt; asked = tt; called = tt }
  run_delivered h open_inputs (takes a g before older run free rdy) =
      takes_delivered decl older a g (run_numbered (IsLawfulWithFalls decl) fits decl script older before run)
      (ready_messages_were_sent_through_falls (IsLawfulWithFalls decl) fits decl script older before run a g rdy)
      (ready_lost decl script a older g rdy) (ready_called decl script a older g rdy) (run_delivered older before run)
  run_delivered h open_inputs (posts a turn before older run taken law) =
      post_of_run older a turn (actors_live_in_runs_with_falls decl script fits few older before run a true taken) law
      (run_numbered (IsLawfulWithFalls decl) fits decl script older before run) (run_delivered older before run)
  run_delivered h open_inputs (phase before older run none done quiet more) =
      step_delivered decl older (controller decl) (steps.Phase (phase_of older + 1))
      (same_mail older (marked (controller decl) (steps.Phase (phase_of older + 1))) refl) tt tt
      (run_delivered older before run)
  run_delivered h open_inputs (control line lines step before older run left is) =
      line_delivered (controller decl) line step is older (run_delivered older before run)
  run_delivered h open_inputs (falls a lines before older run left) =
      step_delivered decl older a (steps.Fell causes.Script None)
      (same_mail older (marked a (steps.Fell causes.Script None)) refl) tt tt (run_delivered older before run)
  run_delivered h open_inputs (rises a records turn lines before older run left fit has law) =
      rises_delivered decl older a records turn
      (answers_rising decl a (deeds a [] older) records turn
      (subst (λ (ds : List Deed). IsLawfulWithFalls decl a ds turn) (deeds-rise a older records) law))
      (run_delivered older before run)
  run_delivered h open_inputs (damaged a offset lines before older run left) =
      step_delivered decl older a (steps.Damaged offset) (same_mail older (marked a (steps.Damaged offset)) refl) tt tt
      (run_delivered older before run)
  run_delivered h open_inputs (unopened a cause lines before older run left disk) =
      step_delivered decl older a (steps.Fell cause None)
      (same_mail older (marked a (steps.Fell cause None)) refl) tt tt (run_delivered older before run)

  pub messages_reach_their_receivers_with_falls : (h : List Entry) (open_inputs : List Bool) → IsRun h open_inputs
      → IsMailed [] h
  messages_reach_their_receivers_with_falls h open_inputs run = (run_delivered h open_inputs run).mailed

  pub actors_go_by_turns_with_falls : (h : List Entry) (open_inputs : List Bool) → IsRun h open_inputs → (a : ℕ)
      → a < actors decl
      → AreByTurns (is_site decl a) (deeds a [] h)
  actors_go_by_turns_with_falls h open_inputs run a within =
      let long : length open_inputs ≡ actors decl = run_long decl script fits few h open_inputs run in
      let place : (t : Bool) × (slice_get open_inputs a ≡ Some t) = some_at open_inputs a (omega arith) in
      let lived : LivesIn decl a h place.0 =
      actors_live_in_runs_with_falls decl script fits few h open_inputs run a place.0 place.1 in
      who_lives_goes_by_turns decl a (deeds a [] h) place.0 lived.above lived.lives
      (λ site. uncommanded decl a [] h site (run_delivered h open_inputs run).called)
