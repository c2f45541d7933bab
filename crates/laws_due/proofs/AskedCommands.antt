-- What is asked of a client stands in its inbox, and the command that is ready is among it.
use Rattle.std.proofs.Common.{[], ◌≡◌, ℕ, ◌+◌, ◌-◌, ◌==◌, ◌&&◌, not, Bool, true, false, cond, if◌then◌else◌, List, ◌∷◌}
use Rattle.std.proofs.Common.{◌++◌, drop, Option, Some, None, slice_get, refl, subst}
use Rattle.std.specs.Prelude.{fold, set}
use Rattle.qc_link.specs.Vocabulary.{fate}
use Rattle.qc_link.specs.declared.rule.Fate.{Fate}
use Rattle.std.specs.Option.{option_map_or}
use Rattle.std.specs.List.{AllByRecursion as Every}
use Rattle.qc_decl.specs.declared.declaration.Declaration.{Declaration}
use Rattle.qc_msg.specs.declared.message.Envelope.{Envelope}
use Rattle.qc_msg.specs.declared.message.Message.{Message}
use Rattle.qc_msg.specs.declared.step.Command.{Command}
use Rattle.qc_msg.specs.declared.step.Control.{Control}
use Rattle.qc_msg.specs.declared.step.Input.{Input}
use Rattle.qc_msg.specs.declared.step.Input.TheVariants as inputs
use Rattle.qc_msg.specs.declared.step.Step.{Step}
use Rattle.qc_msg.specs.Vocabulary.{Entry, Answered, answer_in}
use Rattle.qc_script.specs.Vocabulary.{Inbox, with_copies, count_of, acting, actor_fell, after_controls, answers_by}
use Rattle.qc_script.specs.Vocabulary.{comes, command_called, command_in, commands_for, control_acted, copy_taken}
use Rattle.qc_script.specs.Vocabulary.{emptied, first_command, first_copy, first_lost, goes, goes_with, inbox_at}
use Rattle.qc_script.specs.Vocabulary.{is_by_line, is_request, is_up, loss_taken, opened, opened_by, phase_begun}
use Rattle.qc_script.specs.Vocabulary.{ready_in, reply_told, requests_to, requests_to_others, takes_commands, with_lost}
use Rattle.qc_script.specs.Vocabulary.{request_answered}
use Rattle.qc_script.specs.declared.script.PhaseLines.{PhaseLines}
use Rattle.qc_script.specs.declared.script.Script.{Script}
use Rattle.laws_turns.proofs.ReadingCases.{mapped}
use Rattle.laws_due.proofs.InboxCases.{inbox_cases}
use Rattle.qc_list.proofs.Members.{every-append}

-- what is asked stands in an inbox: a step takes from it, and a phase adds what it asks

module _ (P : Command → Type 0) where
  abbrev pub Asks : Inbox → Type 0
  Asks i = Every P i.commands

  asks_if : (t : Bool) (i j : Inbox) → Asks i → Asks j → Asks (if t then i else j)
  asks_if true i j here there = here
  asks_if false i j here there = there

  asks_opened_by : (a : ℕ) (lines : List Control) (i : Inbox) → Asks i → Asks (opened_by a lines i)
  asks_opened_by a [] i all = all
  asks_opened_by a (line ∷ lines) i all = all

  asks_opened : (a : ℕ) (i : Inbox) → Asks i → Asks (opened a i)
  asks_opened a i all = asks_opened_by a (acting i.up i.controls) (record i { controls = acting i.up i.controls }) all

  asks_acted : (a : ℕ) (i : Inbox) → Asks i → Asks (control_acted a i)
  asks_acted a i all = asks_opened a (record i { controls = drop 1 i.controls }) all

  asks_answers : (i : Inbox) (m : Message) (f : _) → Asks i → Asks (answers_by i m f)
  asks_answers i m f all =
      mapped Asks (λ (a : Answered). request_answered i a.to f) i (answer_in m) (λ a. asks_if _ _ i all all) all

  asks_goes : (i : Inbox) (e : Envelope) (f : _) → Asks i → Asks (goes_with i e f)
  asks_goes i e f all = asks_if (is_request e.message) _ _ (asks_if _ _ _ all all) all

  asks_sent : (script : Script) (a : ℕ) (i : Inbox) (e : Envelope) → Asks i
      → Asks (goes script.links a (comes script.links a i e) e)
  asks_sent script a i e all =
      asks_if (e.from == a) _ (comes script.links a i e) (asks_goes (comes script.links a i e) e _ came) came
    where
      came : Asks (comes script.links a i e)
      came = asks_if (e.to == a) _ i (asks_answers (with_copies (is_up i.up a) i e fate_of) e.message fate_of all) all
        where
          fate_of : Fate
          fate_of = fate script.links i.cuts e.from e.to (count_of i.from_each e.from + 1)

  asks_emptied : (t : Bool) (i : Inbox) → Asks i → Asks (emptied t i)
  asks_emptied true i all = all
  asks_emptied false i all = all

  asks_fell : (a : ℕ) (i : Inbox) (r : ℕ) → Asks i → Asks (actor_fell a i r)
  asks_fell a i r all =
      asks_emptied (r == a)
      (record i {
        up = set i.up r false;
        unanswered = requests_to_others r i.unanswered;
        lost = with_lost (requests_to r i.unanswered) i.lost;
      }) all

  asks_drop : (cs : List Command) → Every P cs → Every P (drop 1 cs)
  asks_drop [] all = tt
  asks_drop (c ∷ cs) all = all.1

  asks_phase : (a : ℕ) (i : Inbox) (o : Option PhaseLines)
      → ((p : PhaseLines) → o ≡ Some p → Every P (commands_for a p.commands)) → Asks i
      → Asks (option_map_or (phase_begun a i) o i)
  asks_phase a i None new all = all
  asks_phase a i (Some p) new all =
      asks_opened a
      (record i {
        opening = i.opening ++ i.late;
        late = [];
        controls = p.controls;
        commands = i.commands ++ commands_for a p.commands;
      }) (every-append P i.commands (commands_for a p.commands) all (new p refl))

  asks_step : (script : Script) (a : ℕ)
      → ((n : ℕ) (p : PhaseLines) → slice_get script.phases n ≡ Some p → Every P (commands_for a p.commands))
      → (i : Inbox) (b : ℕ) (step : Step) → Asks i → Asks (inbox_at script a i b step)
  asks_step script a new i b step all =
      inbox_cases script a i b (λ (s : Step) (j : Inbox). Asks j)
      (λ k. asks_phase a i (slice_get script.phases (k - 1)) (new (k - 1)) all)
      (λ s cuts. asks_acted a (record i { cuts = cuts }) all)
      (λ command. asks_if (b == a) (command_called i) i (asks_drop i.commands all) all)
      (λ n. asks_if (b == a) (copy_taken i) i all all) (λ n. asks_if (b == a) (loss_taken i) i all all)
      (λ written. asks_if (is_up i.up b) i (control_acted a (record i { up = set i.up b true })) all
      (asks_acted a (record i { up = set i.up b true }) all))
      (λ n to message. asks_sent script a i (record { number = n; from = b; to = to; message = message }) all)
      (λ reply. asks_if (b == a) (reply_told i) i all all)
      (λ cause pending. asks_if (is_by_line (is_up i.up b) cause) (control_acted a (actor_fell a i b))
      (actor_fell a i b) (asks_acted a (actor_fell a i b) (asks_fell a i b all)) (asks_fell a i b all))
      (λ kept. all) step

  pub asks_all : (script : Script) (a : ℕ)
      → ((n : ℕ) (p : PhaseLines) → slice_get script.phases n ≡ Some p → Every P (commands_for a p.commands))
      → (h : List Entry) (i : Inbox) → Asks i
      → Asks (fold (λ (i : Inbox) (e : Entry). inbox_at script a i e.actor e.step) i h)
  asks_all script a new [] i all = all
  asks_all script a new (e ∷ h) i all =
      asks_all script a new h (inbox_at script a i e.actor e.step) (asks_step script a new i e.actor e.step all)

  -- the command that is ready is among them

  next_command : (t : Bool) (commands : List Command) (c : Command)
      → cond t (first_command commands) None ≡ Some (inputs.Called c) → Every P commands → P c
  next_command true [] c is all = absurd (let never : ⊥ = cc in never)
  next_command true (x ∷ commands) c is all = subst P (let same : x ≡ c = cc in same) all.0
  next_command false commands c is all = absurd (let never : ⊥ = cc in never)

  next_lost : (losts : List ℕ) (other : Option Input) (c : Command) → first_lost losts other ≡ Some (inputs.Called c)
      → other ≡ Some (inputs.Called c)
  next_lost [] other c is = is
  next_lost (n ∷ losts) other c is = absurd (let never : ⊥ = cc in never)

  next_copy : (es : List Envelope) (other : Option Input) (c : Command) → first_copy es other ≡ Some (inputs.Called c)
      → other ≡ Some (inputs.Called c)
  next_copy [] other c is = is
  next_copy (e ∷ es) other c is = absurd (let never : ⊥ = cc in never)

  pub ready_command : (decl : Declaration) (a : ℕ) (i : Inbox) (c : Command)
      → ready_in decl a i ≡ Some (inputs.Called c) → Asks i → P c
  ready_command decl a i c is all = at i.controls is
    where
      at : (lines : List Control)
          → after_controls lines (first_copy i.copies (first_lost i.lost (command_in decl a i)))
          ≡ Some (inputs.Called c) → P c
      at [] e =
          next_command (takes_commands decl a && not i.busy) i.commands c
          (next_lost i.lost (command_in decl a i) c (next_copy i.copies (first_lost i.lost (command_in decl a i)) c e))
          all
      at (line ∷ lines) e = absurd (let never : ⊥ = cc in never)
