-- What an actor called, and then what is left to it, is what the phases so far ask it; no more phases begin than the
-- script has.
use Rattle.std.proofs.Common.{[], ◌≡◌, ℕ, zero, suc, ◌+◌, ◌-◌, ◌<◌, ◌≤◌, ◌==◌, ◌&&◌, not, Bool, true, false, cond}
use Rattle.std.proofs.Common.{if◌then◌else◌, List, ◌∷◌, ◌++◌, drop, take, length, Option, Some, None, slice_get, refl}
use Rattle.std.proofs.Common.{sym, ap, ◌∙◌, subst, arith, append_assoc, eqb-true}
use Rattle.std.specs.List.{filter_map}
use Rattle.std.proofs.lemmas.List.{append-nil}
use Rattle.std.proofs.lemmas.List.Elements.{filter_map-append}
use Rattle.qc_core.specs.Vocabulary.{IsLawful}
use Rattle.qc_decl.specs.declared.declaration.Declaration.{Declaration}
use Rattle.qc_decl.specs.Vocabulary.{controller}
use Rattle.qc_msg.specs.declared.message.Envelope.{Envelope}
use Rattle.qc_msg.specs.declared.step.Command.{Command}
use Rattle.qc_msg.specs.declared.step.Control.{Control}
use Rattle.qc_msg.specs.declared.step.Input.{Input}
use Rattle.qc_msg.specs.declared.step.Input.TheVariants as inputs
use Rattle.qc_msg.specs.declared.step.Step.TheVariants as steps
use Rattle.qc_msg.specs.declared.turn.Turn.{Turn}
use Rattle.qc_msg.specs.Vocabulary.{Deed, Entry, Takes, by, deeds, mail, marked, posted, step_of, turn_deeds}
use Rattle.qc_msg.proofs.DeedsGrow.{deeds-other}
use Rattle.qc_msg.proofs.Growth.{deeds-posted, deeds-taken}
use Rattle.qc_script.specs.declared.script.PhaseLines.{PhaseLines}
use Rattle.qc_script.specs.declared.script.Script.{Script}
use Rattle.qc_script.specs.Vocabulary.{Inbox, Runs, after_controls, command_called, command_in, commands_for}
use Rattle.qc_script.specs.Vocabulary.{copy_taken, first_command, first_copy, first_lost, inbox, inbox_at, loss_taken}
use Rattle.qc_script.specs.Vocabulary.{phase_of, ready, ready_in, takes_commands}
use Rattle.qc_script.specs.Runs.{begins, takes, posts, phase, control}
use Rattle.laws_turns.specs.Vocabulary.{asked_in_all, asked_until, call_in, calls_of}
use Rattle.laws_turns.proofs.Acted.{deeds-silent}
use Rattle.laws_turns.proofs.Arrivals.{what_is_ready_was_sent}
use Rattle.laws_turns.proofs.Numbered.{control_silent, phase_silent}
use Rattle.laws_turns.proofs.PhaseCalls.{left_if, asked_in, left_phase, phase_posted, phase_control}
use Rattle.laws_turns.proofs.PhaseCalls.{calls_turn, left_more, left_posted, left_control}
use Rattle.qc_script.proofs.Phases.{phase_more, phase_taken}

-- the command that is ready is the next one

pub next_command : (t : Bool) (commands : List Command) (c : Command)
    → cond t (first_command commands) None ≡ Some (inputs.Called c) → commands ≡ c ∷ drop 1 commands
next_command true [] c is = absurd (let never : ⊥ = cc in never)
next_command true (x ∷ commands) c is = let same : x ≡ c = cc in ap (λ (v : Command). v ∷ commands) same
next_command false commands c is = absurd (let never : ⊥ = cc in never)

pub next_lost : (losts : List ℕ) (other : Option Input) (c : Command) → first_lost losts other ≡ Some (inputs.Called c)
    → other ≡ Some (inputs.Called c)
next_lost [] other c is = is
next_lost (n ∷ losts) other c is = absurd (let never : ⊥ = cc in never)

pub next_copy : (es : List Envelope) (other : Option Input) (c : Command) → first_copy es other ≡ Some (inputs.Called c)
    → other ≡ Some (inputs.Called c)
next_copy [] other c is = is
next_copy (e ∷ es) other c is = absurd (let never : ⊥ = cc in never)

pub ready_command : (decl : Declaration) (a : ℕ) (i : Inbox) (c : Command) → ready_in decl a i ≡ Some (inputs.Called c)
    → i.commands ≡ c ∷ drop 1 i.commands
ready_command decl a i c is = at i.controls is
  where
    at : (lines : List Control)
        → after_controls lines (first_copy i.copies (first_lost i.lost (command_in decl a i))) ≡ Some (inputs.Called c)
        → i.commands ≡ c ∷ drop 1 i.commands
    at [] e =
        next_command (takes_commands decl a && not i.busy) i.commands c
        (next_lost i.lost (command_in decl a i) c (next_copy i.copies (first_lost i.lost (command_in decl a i)) c e))
    at (line ∷ lines) e = absurd (let never : ⊥ = cc in never)

-- the commands of one phase more

asked_more : (a : ℕ) (phases : List PhaseLines) (k : ℕ)
    → asked_in_all a (take k phases) ++ asked_in a (slice_get phases k) ≡ asked_in_all a (take (suc k) phases)
asked_more a [] zero = refl
asked_more a [] (suc k) = refl
asked_more a (p ∷ phases) zero = sym (append-nil (commands_for a p.commands))
asked_more a (p ∷ phases) (suc k) =
    append_assoc (commands_for a p.commands) (asked_in_all a (take k phases)) (asked_in a (slice_get phases k))
    ∙ ap (λ (v : List Command). commands_for a p.commands ++ v) (asked_more a phases k)

asked_next : (a : ℕ) (script : Script) (k : ℕ)
    → asked_until a script k ++ asked_in a (slice_get script.phases ((k + 1) - 1)) ≡ asked_until a script (k + 1)
asked_next a script k =
    let place : (k + 1) - 1 ≡ k = omega arith in
    let next : suc k ≡ k + 1 = omega arith in
    ap (λ (n : ℕ). asked_until a script k ++ asked_in a (slice_get script.phases n)) place
    ∙ asked_more a script.phases k ∙ ap (asked_until a script) next

-- in each run

abbrev pub Asked : Script → ℕ → List Entry → Type 0
Asked script a h = calls_of a h ++ (inbox script a h).commands ≡ asked_until a script (phase_of h)

module _ (decl : Declaration) (script : Script) (a : ℕ) where
  asked_same : (h k : List Entry) → calls_of a k ≡ calls_of a h
      → (inbox script a k).commands ≡ (inbox script a h).commands → phase_of k ≡ phase_of h → Asked script a h
      → Asked script a k
  asked_same h k calls lefts phases asked = (λ i. calls i ++ lefts i) ∙ asked ∙ ap (asked_until a script) (sym phases)

  -- what another takes
  taken_elsewhere : (h : List Entry) (b : ℕ) (taken : Input) → (b == a) ≡ false → Asked script a h
      → Asked script a (h ++ marked b (step_of taken) ∷ [])
  taken_elsewhere h b taken other asked =
      asked_same h (h ++ marked b (step_of taken) ∷ [])
      (ap (filter_map call_in) (deeds-other b a [] h (step_of taken ∷ []) other))
      (left_more script a h b (step_of taken) ∙ at taken) (phase_taken h b taken) asked
    where
      at : (g : Input) → (inbox_at script a (inbox script a h) b (step_of g)).commands ≡ (inbox script a h).commands
      at (inputs.Called command) =
          ap (λ (t : Bool). (if t then command_called (inbox script a h) else inbox script a h).commands) other
      at (inputs.Got envelope) =
          ap (λ (t : Bool). (if t then copy_taken (inbox script a h) else inbox script a h).commands) other
      at (inputs.Lost number) =
          ap (λ (t : Bool). (if t then loss_taken (inbox script a h) else inbox script a h).commands) other

  calls_taken : (h : List Entry) (taken : Input)
      → deeds a [] (h ++ marked a (step_of taken) ∷ []) ≡ deeds a [] h ++ Takes taken ∷ []
      → calls_of a (h ++ marked a (step_of taken) ∷ []) ≡ calls_of a h ++ filter_map call_in (Takes taken ∷ [])
  calls_taken h taken is = ap (filter_map call_in) is ∙ filter_map-append call_in (deeds a [] h) (Takes taken ∷ [])

  -- what the actor takes
  taken_here : (h : List Entry) (taken : Input) → (a == a) ≡ true → ready decl script a h ≡ Some taken
      → deeds a [] (h ++ marked a (step_of taken) ∷ []) ≡ deeds a [] h ++ Takes taken ∷ [] → Asked script a h
      → Asked script a (h ++ marked a (step_of taken) ∷ [])
  taken_here h (inputs.Called command) mine rdy is asked =
      (λ i. calls_taken h (inputs.Called command) is i
      ++ (left_more script a h a (steps.Called command)
      ∙ ap (λ (t : Bool). (if t then command_called (inbox script a h) else inbox script a h).commands) mine) i)
      ∙ append_assoc (calls_of a h) (command ∷ []) (drop 1 (inbox script a h).commands)
      ∙ ap (λ (v : List Command). calls_of a h ++ v) (sym (ready_command decl a (inbox script a h) command rdy))
      ∙ asked ∙ ap (asked_until a script) (sym (phase_taken h a (inputs.Called command)))
  taken_here h (inputs.Got envelope) mine rdy is asked =
      asked_same h (h ++ marked a (steps.Got envelope.number) ∷ [])
      (calls_taken h (inputs.Got envelope) is ∙ append-nil (calls_of a h))
      (left_more script a h a (steps.Got envelope.number)
      ∙ left_if (a == a) (copy_taken (inbox script a h)) (inbox script a h) (inbox script a h).commands refl refl)
      (phase_taken h a (inputs.Got envelope)) asked
  taken_here h (inputs.Lost number) mine rdy is asked =
      asked_same h (h ++ marked a (steps.Lost number) ∷ [])
      (calls_taken h (inputs.Lost number) is ∙ append-nil (calls_of a h))
      (left_more script a h a (steps.Lost number)
      ∙ left_if (a == a) (loss_taken (inbox script a h)) (inbox script a h) (inbox script a h).commands refl refl)
      (phase_taken h a (inputs.Lost number)) asked

  calls_posted : (h : List Entry) (b n : ℕ) (turn : Turn) → calls_of a (h ++ by b (posted n turn)) ≡ calls_of a h
  calls_posted h b n turn = at (b == a) refl
    where
      at : (t : Bool) → (b == a) ≡ t → calls_of a (h ++ by b (posted n turn)) ≡ calls_of a h
      at true same =
          subst (λ (k : ℕ). calls_of k (h ++ by b (posted n turn)) ≡ calls_of k h) (eqb-true b a same)
          (ap (filter_map call_in) (deeds-posted b n h turn)
          ∙ filter_map-append call_in (deeds b [] h) (turn_deeds n turn)
          ∙ ap (λ (v : List Command). calls_of b h ++ v) (calls_turn n turn) ∙ append-nil (calls_of b h))
      at false other = ap (filter_map call_in) (deeds-other b a [] h (posted n turn) other)

  pub calls_are_asked : (h : List Entry) (open_inputs : List Bool) → Runs (IsLawful decl) decl script h open_inputs
      → Asked script a h
  calls_are_asked h open_inputs begins = refl
  calls_are_asked h open_inputs (takes b taken before older run free rdy) =
      at (b == a) refl (calls_are_asked older before run)
    where
      at : (t : Bool) → (b == a) ≡ t → Asked script a older → Asked script a (older ++ marked b (step_of taken) ∷ [])
      at true same asked =
          let is : b ≡ a = eqb-true b a same in
          let sent : deeds b [] (older ++ marked b (step_of taken) ∷ []) ≡ deeds b [] older ++ Takes taken ∷ [] =
          deeds-taken b older taken
          (what_is_ready_was_sent (IsLawful decl) decl script older before run b taken rdy) in
          subst (λ (k : ℕ). Asked script a (older ++ marked k (step_of taken) ∷ [])) (sym is)
          (taken_here older taken (subst (λ (k : ℕ). (k == a) ≡ true) is same)
          (subst (λ (k : ℕ). ready decl script k older ≡ Some taken) is rdy)
          (subst (λ (k : ℕ). deeds k [] (older ++ marked k (step_of taken) ∷ []) ≡ deeds k [] older ++ Takes taken ∷ [])
          is sent) asked)
      at false other asked = taken_elsewhere older b taken other asked
  calls_are_asked h open_inputs (posts b turn before older run taken law) =
      asked_same older (older ++ by b (posted (length (mail older)) turn))
      (calls_posted older b (length (mail older)) turn) (left_posted script a older b (length (mail older)) turn)
      (phase_posted older b (length (mail older)) turn) (calls_are_asked older before run)
  calls_are_asked h open_inputs (phase before older run none done quiet more) =
      (λ i.
      ap (filter_map call_in)
      (deeds-silent a (controller decl) older (steps.Phase (phase_of older + 1))
      (phase_silent (phase_of older + 1))) i
      ++ (left_more script a older (controller decl) (steps.Phase (phase_of older + 1))
      ∙ left_phase a (inbox script a older) (slice_get script.phases ((phase_of older + 1) - 1))) i)
      ∙ sym
      (append_assoc (calls_of a older) (inbox script a older).commands
      (asked_in a (slice_get script.phases ((phase_of older + 1) - 1))))
      ∙ ap (λ (v : List Command). v ++ asked_in a (slice_get script.phases ((phase_of older + 1) - 1)))
      (calls_are_asked older before run)
      ∙ asked_next a script (phase_of older)
      ∙ ap (asked_until a script)
      (sym (phase_more older (marked (controller decl) (steps.Phase (phase_of older + 1)) ∷ [])))
  calls_are_asked h open_inputs (control line lines step before older run at is) =
      asked_same older (older ++ marked (controller decl) step ∷ [])
      (ap (filter_map call_in) (deeds-silent a (controller decl) older step (control_silent line step is)))
      (left_control script a line step older (controller decl) is) (phase_control line step older (controller decl) is)
      (calls_are_asked older before run)

-- no more phases begin than the script has
pub phases_are_the_scripts : (lawful : ℕ → List Deed → Turn → Type 0) (decl : Declaration) (script : Script)
    (h : List Entry)
    (open_inputs : List Bool) → Runs lawful decl script h open_inputs → phase_of h ≤ length script.phases
phases_are_the_scripts lawful decl script h open_inputs begins = omega arith
phases_are_the_scripts lawful decl script h open_inputs (takes b taken before older run free rdy) =
    let p : phase_of older ≤ length script.phases = phases_are_the_scripts lawful decl script older before run in
    let same : phase_of (older ++ marked b (step_of taken) ∷ []) ≡ phase_of older = phase_taken older b taken in
    omega arith
phases_are_the_scripts lawful decl script h open_inputs (posts b turn before older run taken law) =
    let p : phase_of older ≤ length script.phases = phases_are_the_scripts lawful decl script older before run in
    let same : phase_of (older ++ by b (posted (length (mail older)) turn)) ≡ phase_of older =
    phase_posted older b (length (mail older)) turn in
    omega arith
phases_are_the_scripts lawful decl script h open_inputs (phase before older run none done quiet more) =
    let p : phase_of older < length script.phases = more in
    let same : phase_of (older ++ marked (controller decl) (steps.Phase (phase_of older + 1)) ∷ [])
    ≡ phase_of older + 1 =
    phase_more older (marked (controller decl) (steps.Phase (phase_of older + 1)) ∷ []) in
    omega arith
phases_are_the_scripts lawful decl script h open_inputs (control line lines step before older run at is) =
    let p : phase_of older ≤ length script.phases = phases_are_the_scripts lawful decl script older before run in
    let same : phase_of (older ++ marked (controller decl) step ∷ []) ≡ phase_of older =
    phase_control line step older (controller decl) is in
    omega arith
