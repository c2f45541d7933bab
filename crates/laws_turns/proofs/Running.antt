-- Whether a command runs: an inbox says what the actor's deeds say. So a command is ready only where none runs.
use Rattle.std.proofs.Common.{◌≡◌, ℕ, ◌+◌, ◌-◌, ◌==◌, ◌&&◌, not, Bool, true, false, cond, if◌then◌else◌, List, [], ◌∷◌}
use Rattle.std.proofs.Common.{◌++◌, Option, Some, None, slice_get, refl, sym, ap, ◌∙◌}
use Rattle.std.specs.Prelude.{drop, option_to_list, set}
use Rattle.std.specs.List.{fold}
use Rattle.std.specs.Option.{option_map_or}
use Rattle.std.proofs.lemmas.List.Sums.{fold-append}
use Rattle.qc_core.specs.Vocabulary.{AreSteady, IsSteady, MayTake, is_running, runs_at}
use Rattle.qc_decl.specs.declared.declaration.Declaration.{Declaration}
use Rattle.qc_link.specs.Vocabulary.{fate, with_cut, without_cut}
use Rattle.qc_link.specs.declared.rule.Fate.{Fate}
use Rattle.qc_msg.specs.declared.message.Envelope.{Envelope}
use Rattle.qc_msg.specs.declared.message.Message.{Message}
use Rattle.qc_msg.specs.declared.step.Command.{Command}
use Rattle.qc_msg.specs.declared.step.Control.{Control}
use Rattle.qc_msg.specs.declared.step.Input.{Input}
use Rattle.qc_msg.specs.declared.step.Input.TheVariants as inputs
use Rattle.qc_msg.specs.declared.step.Step.{Step}
use Rattle.qc_msg.specs.declared.step.Step.TheVariants as steps
use Rattle.qc_msg.specs.Vocabulary.{Deed, Entry, deed_at, deeds, envelope_of, heard, Answered, answer_in}
use Rattle.qc_script.specs.declared.script.PhaseLines.{PhaseLines}
use Rattle.qc_script.specs.declared.script.Script.{Script}
use Rattle.qc_msg.specs.declared.step.Fall.{Fall}
use Rattle.qc_script.specs.Vocabulary.{Inbox, acting, actor_fell, after_controls, answers_by, comes, comes_at_once}
use Rattle.qc_script.specs.Vocabulary.{command_called, command_in, commands_for, control_acted, copy_taken, count_of}
use Rattle.qc_script.specs.Vocabulary.{emptied, empty_inbox, fell_by, first_command, first_copy, first_lost, goes}
use Rattle.qc_script.specs.Vocabulary.{goes_with, has_request, inbox, inbox_at, is_by_line, is_request, is_up}
use Rattle.qc_script.specs.Vocabulary.{loss_taken, opened, opened_by, phase_begun, ready, ready_in, reply_told}
use Rattle.qc_script.specs.Vocabulary.{requests_to, requests_to_others, takes_commands, with_copies, with_lost}
use Rattle.qc_script.specs.Vocabulary.{wrote_record, request_answered}
use Rattle.laws_turns.proofs.Up.{first_up, rest_up}
use Rattle.laws_turns.proofs.ReadingCases.{mapped}

busy_if : (t : Bool) (i j : Inbox) (b : Bool) → i.busy ≡ b → j.busy ≡ b → (if t then i else j).busy ≡ b
busy_if true i j b here there = here
busy_if false i j b here there = there

pub busy_opened_by : (a : ℕ) (lines : List Control) (i : Inbox) → (opened_by a lines i).busy ≡ i.busy
busy_opened_by a [] i = refl
busy_opened_by a (line ∷ lines) i = refl

busy_opened : (a : ℕ) (i : Inbox) → (opened a i).busy ≡ i.busy
busy_opened a i = busy_opened_by a (acting i.up i.controls) (record i { controls = acting i.up i.controls })

pub busy_acted : (a : ℕ) (i : Inbox) → (control_acted a i).busy ≡ i.busy
busy_acted a i = busy_opened a (record i { controls = drop 1 i.controls })

busy_emptied : (t : Bool) (i : Inbox) → (emptied t i).busy ≡ i.busy
busy_emptied true i = refl
busy_emptied false i = refl

pub busy_fallen : (a : ℕ) (i : Inbox) (r : ℕ) → (actor_fell a i r).busy ≡ i.busy
busy_fallen a i r = busy_emptied (r == a)
    (record i {
      up = set i.up r false;
      unanswered = requests_to_others r i.unanswered;
      lost = with_lost (requests_to r i.unanswered) i.lost;
    })

busy_fell : (a : ℕ) (i : Inbox) (r : ℕ) (cause : Fall) → (fell_by a i r cause).busy ≡ i.busy
busy_fell a i r cause = busy_if (is_by_line (is_up i.up r) cause) _ _ i.busy
    (busy_acted a (actor_fell a i r) ∙ busy_fallen a i r) (busy_fallen a i r)

busy_wrote : (a : ℕ) (i : Inbox) (r : ℕ) → (wrote_record a i r).busy ≡ i.busy
busy_wrote a i r = busy_if (is_up i.up r) i _ i.busy refl (busy_acted a (record i { up = set i.up r true }))

busy_answers : (i : Inbox) (m : Message) (f : Fate) → (answers_by i m f).busy ≡ i.busy
busy_answers i m f =
    mapped (λ (j : Inbox). j.busy ≡ i.busy) (λ (a : Answered). request_answered i a.to f) i (answer_in m)
    (λ a. busy_if (has_request i.unanswered a.to) _ i i.busy refl refl) refl

busy_goes : (i : Inbox) (e : Envelope) (f : Fate) → (goes_with i e f).busy ≡ i.busy
busy_goes i e f = busy_if (is_request e.message) _ _ i.busy
    (busy_if (comes_at_once f && is_up i.up e.to) _ _ i.busy refl refl) refl

busy_sent : (script : Script) (a : ℕ) (i : Inbox) (e : Envelope)
    → (goes script.links a (comes script.links a i e) e).busy ≡ i.busy
busy_sent script a i e =
    busy_if (e.from == a) _ (comes script.links a i e) i.busy
    (busy_goes (comes script.links a i e) e (fate script.links (comes script.links a i e).cuts e.from e.to
    (count_of (comes script.links a i e).to_each e.to + 1)) ∙ came) came
  where
    came : (comes script.links a i e).busy ≡ i.busy
    came = busy_if (e.to == a) _ i i.busy (busy_answers
        (with_copies (is_up i.up a) i e (fate script.links i.cuts e.from e.to (count_of i.from_each e.from + 1)))
        e.message (fate script.links i.cuts e.from e.to (count_of i.from_each e.from + 1))) refl

busy_phase : (a : ℕ) (i : Inbox) (o : Option PhaseLines) → (option_map_or (phase_begun a i) o i).busy ≡ i.busy
busy_phase a i None = refl
busy_phase a i (Some p) = busy_opened a (record i {
  opening = i.opening ++ i.late;
  late = [];
  controls = p.controls;
  commands = i.commands ++ commands_for a p.commands;
})

-- a step that is no deed, or is one that calls nothing and tells nothing
none_runs : (mine running : Bool) (d : Deed) → runs_at running d ≡ running
    → running ≡ fold runs_at running (cond mine (d ∷ []) [])
none_runs true running d same = sym same
none_runs false running d same = refl

no_deed : (mine running : Bool) → running ≡ fold runs_at running (cond mine [] [])
no_deed true running = refl
no_deed false running = refl

hears : (mine running : Bool) (o : Option Envelope) → running ≡ fold runs_at running (cond mine (heard o) [])
hears true running None = refl
hears true running (Some e) = refl
hears false running o = refl

-- an actor that is up neither falls nor rises
never_mine : (mine running : Bool) (d : Deed) → AreSteady (cond mine (d ∷ []) []) → (IsSteady d → ⊥)
    → running ≡ fold runs_at running (cond mine (d ∷ []) [])
never_mine true running d up never = absurd (never up.0)
never_mine false running d up never = refl

pub busy_step : (script : Script) (a : ℕ) (i : Inbox) (b : ℕ) (ms : List Envelope) (step : Step)
    → AreSteady (cond (b == a) (deed_at ms step) [])
    → (inbox_at script a i b step).busy ≡ fold runs_at i.busy (cond (b == a) (deed_at ms step) [])
busy_step script a i b ms (steps.Phase k) up = busy_phase a i (slice_get script.phases (k - 1))
    ∙ no_deed (b == a) i.busy
busy_step script a i b ms (steps.Cut x y) up = busy_acted a (record i { cuts = with_cut i.cuts x y })
    ∙ no_deed (b == a) i.busy
busy_step script a i b ms (steps.Heal x y) up = busy_acted a (record i { cuts = without_cut i.cuts x y })
    ∙ no_deed (b == a) i.busy
busy_step script a i b ms (steps.Armed actor kind at) up = busy_acted a i ∙ no_deed (b == a) i.busy
busy_step script a i b ms (steps.Called command) up = by (b == a)
  where
    by : (t : Bool) → (if t then command_called i else i).busy ≡ fold runs_at i.busy
        (cond t (deed_at ms (steps.Called command)) [])
    by true = refl
    by false = refl
busy_step script a i b ms (steps.Got n) up = busy_if (b == a) (copy_taken i) i i.busy refl refl
    ∙ hears (b == a) i.busy (slice_get ms n)
busy_step script a i b ms (steps.Lost n) up = by (b == a)
  where
    by : (t : Bool) → (if t then loss_taken i else i).busy ≡ fold runs_at i.busy (cond t (deed_at ms (steps.Lost n)) [])
    by true = refl
    by false = refl
busy_step script a i b ms (steps.Wrote written) up = busy_wrote a i b ∙ by (b == a)
  where
    by : (t : Bool) → i.busy ≡ fold runs_at i.busy (cond t (deed_at ms (steps.Wrote written)) [])
    by true = refl
    by false = refl
busy_step script a i b ms (steps.Sent n to message) up =
    busy_sent script a i (record { number = n; from = b; to = to; message = message }) ∙ by (b == a)
  where
    by : (t : Bool) → i.busy ≡ fold runs_at i.busy (cond t (deed_at ms (steps.Sent n to message)) [])
    by true = refl
    by false = refl
busy_step script a i b ms (steps.Told reply) up = by (b == a)
  where
    by : (t : Bool) → (if t then reply_told i else i).busy ≡ fold runs_at i.busy
        (cond t (deed_at ms (steps.Told reply)) [])
    by true = refl
    by false = refl
busy_step script a i b ms (steps.Fell cause pending) up = busy_fell a i b cause
    ∙ never_mine (b == a) i.busy _ up (λ never. never)
busy_step script a i b ms (steps.Rose records) up = never_mine (b == a) i.busy _ up (λ never. never)
busy_step script a i b ms (steps.Damaged offset) up = busy_acted a i ∙ no_deed (b == a) i.busy

busy_all : (script : Script) (a : ℕ) (h : List Entry) (i : Inbox) (ms : List Envelope) → AreSteady (deeds a ms h)
    → (fold (λ (i : Inbox) (e : Entry). inbox_at script a i e.actor e.step) i h).busy ≡ fold runs_at i.busy
    (deeds a ms h)
busy_all script a [] i ms up = refl
busy_all script a (e ∷ h) i ms up =
    busy_all script a h (inbox_at script a i e.actor e.step) (ms ++ option_to_list (envelope_of e))
    (rest_up (cond (e.actor == a) (deed_at ms e.step) []) (deeds a (ms ++ option_to_list (envelope_of e)) h) up)
    ∙ ap (λ (t : Bool). fold runs_at t (deeds a (ms ++ option_to_list (envelope_of e)) h))
    (busy_step script a i e.actor ms e.step (first_up (cond (e.actor == a) (deed_at ms e.step) [])
    (deeds a (ms ++ option_to_list (envelope_of e)) h) up))
    ∙ sym (fold-append runs_at i.busy (cond (e.actor == a) (deed_at ms e.step) [])
    (deeds a (ms ++ option_to_list (envelope_of e)) h))

-- of each history in which the actor neither falls nor rises
pub busy_is_running : (script : Script) (a : ℕ) (h : List Entry) → AreSteady (deeds a [] h)
    → (inbox script a h).busy ≡ is_running (deeds a [] h)
busy_is_running script a h up = busy_all script a h empty_inbox [] up

-- a command is ready only where none runs

free_command : (t busy : Bool) (commands : List Command) (c : Command)
    → cond (t && not busy) (first_command commands) None ≡ Some (inputs.Called c) → busy ≡ false
free_command true true commands c is = absurd (let never : ⊥ = cc in never)
free_command false true commands c is = absurd (let never : ⊥ = cc in never)
free_command t false commands c is = refl

free_lost : (losts : List ℕ) (other : Option Input) (c : Command) (b : Bool)
    → (other ≡ Some (inputs.Called c) → b ≡ false) → first_lost losts other ≡ Some (inputs.Called c) → b ≡ false
free_lost [] other c b later is = later is
free_lost (n ∷ losts) other c b later is = absurd (let never : ⊥ = cc in never)

free_copy : (es : List Envelope) (other : Option Input) (c : Command) (b : Bool)
    → (other ≡ Some (inputs.Called c) → b ≡ false) → first_copy es other ≡ Some (inputs.Called c) → b ≡ false
free_copy [] other c b later is = later is
free_copy (e ∷ es) other c b later is = absurd (let never : ⊥ = cc in never)

pub not_busy : (decl : Declaration) (a : ℕ) (i : Inbox) (c : Command) → ready_in decl a i ≡ Some (inputs.Called c)
    → i.busy ≡ false
not_busy decl a i c is = by i.controls is
  where
    by : (lines : List Control) → after_controls lines (first_copy i.copies (first_lost i.lost (command_in decl a i)))
        ≡ Some (inputs.Called c) → i.busy ≡ false
    by [] e = free_copy i.copies (first_lost i.lost (command_in decl a i)) c i.busy
        (free_lost i.lost (command_in decl a i) c i.busy (free_command (takes_commands decl a) i.busy i.commands c)) e
    by (line ∷ lines) e = absurd (let never : ⊥ = cc in never)

pub what_is_ready_may_be_taken : (decl : Declaration) (script : Script) (a : ℕ) (h : List Entry)
    → AreSteady (deeds a [] h) → (taken : Input) → ready decl script a h ≡ Some taken → MayTake (deeds a [] h) taken
what_is_ready_may_be_taken decl script a h up (inputs.Called command) is = sym (busy_is_running script a h up)
    ∙ not_busy decl a (inbox script a h) command is
what_is_ready_may_be_taken decl script a h up (inputs.Got envelope) is = tt
what_is_ready_may_be_taken decl script a h up (inputs.Lost number) is = tt
