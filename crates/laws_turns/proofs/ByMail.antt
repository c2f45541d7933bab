-- In each run messages reach those whom they were sent to, and each actor goes by turns.
use Rattle.std.proofs.Common.{◌≡◌, ℕ, ◌+◌, ◌<◌, Bool, true, List, [], ◌∷◌, ◌++◌, length, Some, slice_get, refl, subst}
use Rattle.qc_core.specs.Vocabulary.{Acts, AreSteady, IsLawful}
use Rattle.qc_core.specs.Acts as acts
use Rattle.qc_core.proofs.Answers.{answers_taken}
use Rattle.qc_core.proofs.ByTurns.{who_lives_goes_by_turns}
use Rattle.qc_core.proofs.LivesLaws.{act_lives, lawful_still, written}
use Rattle.qc_core.proofs.Steady.{acts_steady}
use Rattle.qc_decl.specs.declared.declaration.Declaration.{Declaration}
use Rattle.qc_decl.specs.Vocabulary.{actors, controller, is_site}
use Rattle.qc_mailbox.proofs.Owned.{lost_is_own}
use Rattle.qc_msg.specs.declared.step.Input.{Input}
use Rattle.qc_msg.specs.declared.message.Envelope.{Envelope}
use Rattle.qc_msg.specs.declared.step.Input.TheVariants as inputs
use Rattle.qc_msg.specs.declared.step.Step.{Step}
use Rattle.qc_msg.specs.declared.step.Step.TheVariants as steps
use Rattle.qc_msg.specs.declared.step.Control.{Control}
use Rattle.qc_msg.specs.declared.step.Control.TheVariants as controls
use Rattle.qc_msg.specs.declared.turn.Appended.{Appended}
use Rattle.qc_msg.specs.declared.turn.Turn.{Turn}
use Rattle.qc_msg.specs.Vocabulary.{Deed, Entry, Takes, by, deeds, mail, marked, posted, posted_as}
use Rattle.qc_promise.specs.Vocabulary.{AreByTurns, IsMailed}
use Rattle.qc_script.specs.Vocabulary.{Runs, phase_of, ready, step_of_control}
use Rattle.qc_script.specs.Runs.{begins, takes, posts, phase, control}
use Rattle.qc_script.specs.declared.script.Script.{Script}
use Rattle.laws_turns.proofs.Acted.{has_entry, actors_take_and_post_by_turns}
use Rattle.laws_turns.proofs.Arrivals.{what_is_ready_was_sent}
use Rattle.laws_turns.proofs.Commanded.{ready_called, uncommanded}
use Rattle.laws_turns.proofs.MailedSteps.{Delivered, IsOwnLoss, step_delivered, takes_delivered}
use Rattle.laws_turns.proofs.Delivered.{posts_delivered}
use Rattle.laws_turns.proofs.Numbered.{control_silent, mail-silent, messages_are_numbered_in_order, phase_silent}
use Rattle.laws_turns.specs.Vocabulary.{ActsIn}
use Rattle.laws_turns.proofs.StepCases.{control_cases}

-- what is ready as lost is the actor's own request
pub ready_lost : (decl : Declaration) (script : Script) (a : ℕ) (h : List Entry) (g : Input)
    → ready decl script a h ≡ Some g → IsOwnLoss (mail h) a g
ready_lost decl script a h (inputs.Called command) is = tt
ready_lost decl script a h (inputs.Got e) is = tt
ready_lost decl script a h (inputs.Lost n) is = lost_is_own decl script h a n is

-- the open input of one that acts

record Opened (ds : List Deed) : Type 0 where
  before : List Deed
  given : Input
  is : ds ≡ before ++ Takes given ∷ []

opened : (decl : Declaration) (a : ℕ) (ds : List Deed) (b : Bool) (n : ℕ) → Acts decl a ds b n → b ≡ true → Opened ds
opened decl a ds b n acts.starts is = absurd (let never : ⊥ = cc in never)
opened decl a ds b n (acts.takes before g m acted may) is = record { before = before; given = g; is = refl }
opened decl a ds b n (acts.posts before turn m first acted above law) is = absurd (let never : ⊥ = cc in never)

module _ (decl : Declaration) (script : Script) where
  -- a post of a run, in which each record is written
  post_of_run : (older : List Entry) (a : ℕ) (turn : Turn) → ActsIn decl a older true
      → IsLawful decl a (deeds a [] older) turn
      → ((n : ℕ) (e : Envelope) → slice_get (mail older) n ≡ Some e → e.number ≡ n) → Delivered decl older
      → Delivered decl (older ++ by a (posted (length (mail older)) turn))
  post_of_run older a turn acted law numbered d =
      subst (λ (end : Appended). Delivered decl (older ++ by a (posted_as end (length (mail older)) turn)))
      (written decl a (deeds a [] older) turn steady law)
      (posts_delivered decl older a o.before o.given turn numbered o.is
      (answers_taken decl a o.before o.given turn
      (lawful_still decl a (o.before ++ Takes o.given ∷ []) turn (subst AreSteady o.is steady)
      (subst (λ (ds : List Deed). IsLawful decl a ds turn) o.is law))) d)
    where
      steady : AreSteady (deeds a [] older)
      steady = acts_steady decl a (deeds a [] older) true acted.above acted.acts

      o : Opened (deeds a [] older)
      o = opened decl a (deeds a [] older) true acted.above acted.acts refl

  silent_calls : (a : ℕ) (line : Control) (step : Step) → step_of_control line ≡ Some step → (h : List Entry)
      → mail (h ++ marked a step ∷ []) ≡ mail h → Delivered decl h → Delivered decl (h ++ marked a step ∷ [])
  silent_calls a line step is h same d =
      control_cases (λ (s : Step). Delivered decl (h ++ marked a s ∷ []))
      (λ x y. step_delivered decl h a (steps.Cut x y)
      (mail-silent h a (steps.Cut x y) (control_silent (controls.Cut x y) (steps.Cut x y) refl)) tt tt d)
      (λ x y. step_delivered decl h a (steps.Heal x y)
      (mail-silent h a (steps.Heal x y) (control_silent (controls.Heal x y) (steps.Heal x y) refl)) tt tt d) line
      step is

  pub run_delivered : (h : List Entry) (open_inputs : List Bool) → Runs (IsLawful decl) decl script h open_inputs
      → Delivered decl h
  run_delivered h open_inputs begins = record { mailed = tt; asked = tt; called = tt }
  run_delivered h open_inputs (takes a g before older run free rdy) =
      takes_delivered decl older a g (messages_are_numbered_in_order (IsLawful decl) decl script older before run)
      (what_is_ready_was_sent (IsLawful decl) decl script older before run a g rdy)
      (ready_lost decl script a older g rdy) (ready_called decl script a older g rdy) (run_delivered older before run)
  run_delivered h open_inputs (posts a turn before older run taken law) =
      post_of_run older a turn (actors_take_and_post_by_turns decl script older before run a true taken) law
      (messages_are_numbered_in_order (IsLawful decl) decl script older before run) (run_delivered older before run)
  run_delivered h open_inputs (phase before older run none done quiet more) =
      step_delivered decl older (controller decl) (steps.Phase (phase_of older + 1))
      (mail-silent older (controller decl) (steps.Phase (phase_of older + 1)) (phase_silent (phase_of older + 1)))
      tt tt (run_delivered older before run)
  run_delivered h open_inputs (control line lines step before older run left is) =
      silent_calls (controller decl) line step is older
      (mail-silent older (controller decl) step (control_silent line step is)) (run_delivered older before run)

  -- so it is mailed, and by turns

  pub messages_reach_their_receivers : (h : List Entry) (open_inputs : List Bool)
      → Runs (IsLawful decl) decl script h open_inputs
      → IsMailed [] h
  messages_reach_their_receivers h open_inputs run = (run_delivered h open_inputs run).mailed

  pub actors_go_by_turns : (h : List Entry) (open_inputs : List Bool) → Runs (IsLawful decl) decl script h open_inputs
      → (a : ℕ) → a < actors decl → AreByTurns (is_site decl a) (deeds a [] h)
  actors_go_by_turns h open_inputs run a within =
      let place : (t : Bool) × (slice_get open_inputs a ≡ Some t) =
      has_entry (IsLawful decl) decl script h open_inputs run a within in
      let acted : ActsIn decl a h place.0 =
      actors_take_and_post_by_turns decl script h open_inputs run a place.0 place.1 in
      who_lives_goes_by_turns decl a (deeds a [] h) place.0 acted.above
      (act_lives decl a (deeds a [] h) place.0 acted.above acted.acts)
      (λ site. uncommanded decl a [] h site (run_delivered h open_inputs run).called)
