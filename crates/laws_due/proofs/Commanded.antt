-- In a run with falls each command that is called is one that the script asks of that client.
use Rattle.std.proofs.Common.{[], ◌≡◌, ℕ, ◌+◌, ◌==◌, Bool, true, false, cond, List, ◌∷◌, ◌++◌, length, Option}
use Rattle.std.proofs.Common.{Some, None, slice_get, refl, subst, eqb-true}
use Rattle.std.specs.Prelude.{option_to_list, MatchOption}
use Rattle.std.specs.List.{AllByRecursion as Every}
use Rattle.qc_decl.specs.Vocabulary.{controller}
use Rattle.qc_decl.specs.declared.declaration.Declaration.{Declaration}
use Rattle.laws_turns.specs.Vocabulary.{AreAskable, AsksDeclared, IsAskable}
use Rattle.laws_turns.proofs.SoundClients.{IsAskableDeed, asked_line}
use Rattle.qc_msg.specs.declared.message.Envelope.{Envelope}
use Rattle.qc_msg.specs.declared.record.Record.{Record}
use Rattle.qc_msg.specs.declared.reply.Reply.{Reply}
use Rattle.qc_msg.specs.declared.step.Command.{Command}
use Rattle.qc_msg.specs.declared.step.Control.{Control}
use Rattle.qc_msg.specs.declared.step.Input.{Input}
use Rattle.qc_msg.specs.declared.step.Input.TheVariants as inputs
use Rattle.qc_msg.specs.declared.step.Step.{Step}
use Rattle.qc_msg.specs.declared.turn.Appended.{Appended}
use Rattle.qc_msg.specs.declared.turn.Appended.TheVariants.{Done, Failed, Stopped}
use Rattle.qc_msg.specs.declared.turn.Posting.{Posting}
use Rattle.qc_msg.specs.declared.turn.Turn.{Turn}
use Rattle.qc_msg.specs.Vocabulary.{Deed, Entry, by, deed_at, deeds, envelope_of, fell, heard, mail, posted_as, sents}
use Rattle.qc_msg.specs.Vocabulary.{step_of, told, wrote, commanded_in}
use Rattle.qc_script.specs.Vocabulary.{RunsWithFalls, begins, control, controller_step, damaged, empty_inbox, falls}
use Rattle.qc_script.specs.Vocabulary.{inbox, phase, posts, ready, rises, takes, unopened}
use Rattle.qc_script.specs.declared.script.PhaseLines.{PhaseLines}
use Rattle.qc_script.specs.declared.script.Script.{Script}
use Rattle.laws_due.proofs.AskedCommands.{asks_all, ready_command}
use Rattle.laws_turns.proofs.StepCases.{controller_cases, deed_cases}
use Rattle.qc_list.proofs.Members.{every-append, every-at}

-- a script that asks for what is declared

ready_askable : (decl : Declaration) (script : Script) → AsksDeclared decl script
    → (a : ℕ) (h : List Entry) (c : Command) → ready decl script a h ≡ Some (inputs.Called c) → IsAskable decl a c
ready_askable decl script asks a h c is =
    ready_command (IsAskable decl a) decl a (inbox script a h) c is
    (asks_all (IsAskable decl a) script a
    (λ n p place. asked_line decl a p.commands
    (every-at (λ (p : PhaseLines). AreAskable decl p.commands) script.phases n p asks place)) h empty_inbox tt)

-- the steps of a run

abbrev StepAskable : Declaration → ℕ → Step → Type 0
StepAskable decl a step = MatchOption (commanded_in step) (Unit {0}) (IsAskable decl a)

abbrev AreStepsAskable : Declaration → List Entry → Type 0
AreStepsAskable decl h = Every (λ (e : Entry). StepAskable decl e.actor e.step) h

sents_askable : (decl : Declaration) (a n : ℕ) (ps : List Posting) (rest : List Step) → AreStepsAskable decl (by a rest)
    → AreStepsAskable decl (by a (sents n ps ++ rest))
sents_askable decl a n [] rest after = after
sents_askable decl a n (p ∷ ps) rest after = (tt, sents_askable decl a (n + 1) ps rest after)

told_askable : (decl : Declaration) (a : ℕ) (reply : Option Reply) (rest : List Step) → AreStepsAskable decl (by a rest)
    → AreStepsAskable decl (by a (told reply ++ rest))
told_askable decl a None rest after = after
told_askable decl a (Some reply) rest after = (tt, after)

last_askable : (decl : Declaration) (a : ℕ) (reply : Option Reply) → AreStepsAskable decl (by a (told reply))
last_askable decl a None = tt
last_askable decl a (Some reply) = (tt, tt)

post_askable : (decl : Declaration) (a n : ℕ) (end : Appended) (t : Turn)
    → AreStepsAskable decl (by a (posted_as end n t))
post_askable decl a n Done t = at t.write
  where
    at : (w : Option Record) → AreStepsAskable decl (by a (wrote w ++ (sents n t.sends ++ told t.told)))
    at None = sents_askable decl a n t.sends (told t.told) (last_askable decl a t.told)
    at (Some written) = (tt, sents_askable decl a n t.sends (told t.told) (last_askable decl a t.told))
post_askable decl a n Failed t =
    sents_askable decl a n t.failed_sends (told t.failed_told ++ fell _ t.write)
    (told_askable decl a t.failed_told (fell _ t.write) (tt, tt))
post_askable decl a n Stopped t = told_askable decl a t.failed_told (fell _ t.write) (tt, tt)

line_askable : (decl : Declaration) (a : ℕ) (line : Control) (step : Step) → controller_step line ≡ Some step
    → StepAskable decl a step
line_askable decl a line step is =
    controller_cases (StepAskable decl a) (λ x y. tt) (λ x y. tt) (λ x. tt) line step is

module _ (lawful : ℕ → List Deed → Turn → Type 0) (fits : ℕ → List Record → Type 0) (decl : Declaration)
    (script : Script) (asks : AsksDeclared decl script) where
  more : (h k : List Entry) → AreStepsAskable decl h → AreStepsAskable decl k → AreStepsAskable decl (h ++ k)
  more h k first second = every-append (λ (e : Entry). StepAskable decl e.actor e.step) h k first second

  input_askable : (a : ℕ) (h : List Entry) (g : Input) → ready decl script a h ≡ Some g → StepAskable decl a (step_of g)
  input_askable a h (inputs.Called c) is = ready_askable decl script asks a h c is
  input_askable a h (inputs.Got e) is = tt
  input_askable a h (inputs.Lost n) is = tt

  steps_askable : (h : List Entry) (open_inputs : List Bool) → RunsWithFalls lawful fits decl script h open_inputs
      → AreStepsAskable decl h
  steps_askable h open_inputs begins = tt
  steps_askable h open_inputs (takes a g before older run free rdy) =
      more older _ (steps_askable older before run) (input_askable a older g rdy, tt)
  steps_askable h open_inputs (posts a turn before older run taken law) =
      more older _ (steps_askable older before run) (post_askable decl a (length (mail older)) turn.append turn)
  steps_askable h open_inputs (phase before older run none done quiet further) =
      more older _ (steps_askable older before run) (tt, tt)
  steps_askable h open_inputs (control line lines step before older run left is) =
      more older _ (steps_askable older before run) (line_askable decl (controller decl) line step is, tt)
  steps_askable h open_inputs (falls a lines before older run left) =
      more older _ (steps_askable older before run) (tt, tt)
  steps_askable h open_inputs (rises a kept turn lines before older run left fit has law) =
      more older _ (steps_askable older before run) (tt, post_askable decl a (length (mail older)) turn.append turn)
  steps_askable h open_inputs (damaged a offset lines before older run left) =
      more older _ (steps_askable older before run) (tt, tt)
  steps_askable h open_inputs (unopened a cause lines before older run left disk) =
      more older _ (steps_askable older before run) (tt, tt)

-- so are the deeds

heard_askable : (decl : Declaration) (a : ℕ) (o : Option Envelope) → Every (IsAskableDeed decl a) (heard o)
heard_askable decl a None = tt
heard_askable decl a (Some e) = (tt, tt)

step_askable : (decl : Declaration) (a : ℕ) (ms : List Envelope) (step : Step) → StepAskable decl a step
    → Every (IsAskableDeed decl a) (deed_at ms step)
step_askable decl a ms step is =
    deed_cases ms (λ (s : Step) (ds : List Deed). StepAskable decl a s → Every (IsAskableDeed decl a) ds)
    (λ s w m r asks. tt) (λ command asks. (asks, tt)) (λ n asks. heard_askable decl a (slice_get ms n))
    (λ n asks. (tt, tt)) (λ written asks. (tt, tt)) (λ n to message asks. (tt, tt)) (λ reply asks. (tt, tt))
    (λ cause pending asks. (tt, tt)) (λ records asks. (tt, tt)) step is

deeds_askable : (decl : Declaration) (a : ℕ) (ms : List Envelope) (h : List Entry) → AreStepsAskable decl h
    → Every (IsAskableDeed decl a) (deeds a ms h)
deeds_askable decl a ms [] all = tt
deeds_askable decl a ms (e ∷ h) all =
    every-append (IsAskableDeed decl a) (cond (e.actor == a) (deed_at ms e.step) [])
    (deeds a (ms ++ option_to_list (envelope_of e)) h) (at (e.actor == a) refl)
    (deeds_askable decl a (ms ++ option_to_list (envelope_of e)) h all.1)
  where
    at : (mine : Bool) → (e.actor == a) ≡ mine → Every (IsAskableDeed decl a) (cond mine (deed_at ms e.step) [])
    at true same =
        step_askable decl a ms e.step (subst (λ (k : ℕ). StepAskable decl k e.step) (eqb-true e.actor a same) all.0)
    at false other = tt

pub run_askable : (lawful : ℕ → List Deed → Turn → Type 0) (fits : ℕ → List Record → Type 0) (decl : Declaration)
    (script : Script) → AsksDeclared decl script → (h : List Entry) (open_inputs : List Bool)
    → RunsWithFalls lawful fits decl script h open_inputs → (a : ℕ) → Every (IsAskableDeed decl a) (deeds a [] h)
run_askable lawful fits decl script asks h open_inputs run a =
    deeds_askable decl a [] h (steps_askable lawful fits decl script asks h open_inputs run)
