-- In each run with falls what an actor called, and then what is left to it, is what the phases so far ask it; no more
-- phases begin than the script has.
use Rattle.std.proofs.Common.{◌≡◌, ℕ, zero, suc, ◌+◌, ◌-◌, ◌<◌, ◌≤◌, ◌==◌, Bool, true, false, if◌then◌else◌, List, []}
use Rattle.std.proofs.Common.{◌∷◌, ◌++◌, drop, take, length, Option, Some, None, slice_get, refl, sym, ap, ◌∙◌, subst}
use Rattle.std.proofs.Common.{arith, append_assoc, eqb-true, eq-eqb}
use Rattle.std.specs.List.{filter_map}
use Rattle.std.specs.Option.{option_map_or}
use Rattle.std.proofs.lemmas.List.{append-nil}
use Rattle.std.proofs.lemmas.List.Elements.{filter_map-append}
use Rattle.qc_decl.specs.declared.declaration.Declaration.{Declaration}
use Rattle.qc_decl.specs.Vocabulary.{controller}
use Rattle.laws_turns.specs.Vocabulary.{asked_in_all, asked_until, call_in, calls_of}
use Rattle.laws_turns.proofs.Acted.{deeds-silent}
use Rattle.laws_turns.proofs.Numbered.{phase_silent}
use Rattle.qc_msg.specs.declared.record.Record.{Record}
use Rattle.qc_msg.specs.declared.step.Command.{Command}
use Rattle.qc_msg.specs.declared.step.Input.{Input}
use Rattle.qc_msg.specs.declared.step.Input.TheVariants as inputs
use Rattle.qc_msg.specs.declared.step.Step.TheVariants as steps
use Rattle.qc_msg.specs.declared.turn.Turn.{Turn}
use Rattle.qc_msg.specs.Vocabulary.{Deed, Entry, Takes, by, deeds, mail, marked, posted_as, step_of}
use Rattle.qc_msg.proofs.DeedsGrow.{deeds-other}
use Rattle.qc_msg.proofs.Growth.{deeds-taken}
use Rattle.qc_script.specs.Vocabulary.{Inbox, RunsWithFalls, begins, command_called, commands_for, control, damaged}
use Rattle.qc_script.specs.Vocabulary.{falls, inbox, phase, phase_begun, phase_of, posts, ready, rises, takes, unopened}
use Rattle.qc_script.specs.declared.script.PhaseLines.{PhaseLines}
use Rattle.qc_script.specs.declared.script.Script.{Script}
use Rattle.laws_due.proofs.PlainSteps.{ArePlain, line_plain, opened_left, post_plain}
use Rattle.laws_due.proofs.Plain.{entries_calls, entries_left, entries_phase, phase_then}
use Rattle.qc_mailbox.proofs.Keeping.{inbox_after}
use Rattle.laws_turns.proofs.Calling.{ready_command}
use Rattle.qc_script.proofs.Phases.{phase_taken}

-- the command that is ready is the next one

-- the commands of one phase more

abbrev asked_in : ℕ → Option PhaseLines → List Command
asked_in a o = option_map_or (λ (p : PhaseLines). commands_for a p.commands) o []

asked_more : (a : ℕ) (phases : List PhaseLines) (k : ℕ)
    → asked_in_all a (take k phases) ++ asked_in a (slice_get phases k) ≡ asked_in_all a (take (suc k) phases)
asked_more a [] zero = refl
asked_more a [] (suc k) = refl
asked_more a (p ∷ phases) zero = sym (append-nil (commands_for a p.commands))
asked_more a (p ∷ phases) (suc k) =
    append_assoc (commands_for a p.commands) (asked_in_all a (take k phases)) (asked_in a (slice_get phases k))
    ∙ ap (λ (v : List Command). commands_for a p.commands ++ v) (asked_more a phases k)

asked_next : (a : ℕ) (script : Script) (k : ℕ)
    → asked_until a script k ++ asked_in a (slice_get script.phases ((k + 1) - 1)) ≡ asked_until a script (k + 1)
asked_next a script k =
    let place : (k + 1) - 1 ≡ k = omega arith in
    let next : suc k ≡ k + 1 = omega arith in
    ap (λ (n : ℕ). asked_until a script k ++ asked_in a (slice_get script.phases n)) place
    ∙ asked_more a script.phases k ∙ ap (asked_until a script) next

left_phase : (a : ℕ) (i : Inbox) (o : Option PhaseLines)
    → (option_map_or (phase_begun a i) o i).commands ≡ i.commands ++ asked_in a o
left_phase a i None = sym (append-nil i.commands)
left_phase a i (Some p) = (opened_left a
    (record i {
      opening = i.opening ++ i.late;
      late = [];
      controls = p.controls;
      commands = i.commands ++ commands_for a p.commands;
    })).commands

-- in each run

abbrev pub Asked : Script → ℕ → List Entry → Type 0
Asked script a h = calls_of a h ++ (inbox script a h).commands ≡ asked_until a script (phase_of h)

module _ (lawful : ℕ → List Deed → Turn → Type 0) (fits : ℕ → List Record → Type 0) (decl : Declaration)
    (script : Script) where
  module _ (a : ℕ) where
    asked_same : (h k : List Entry) → calls_of a k ≡ calls_of a h
        → (inbox script a k).commands ≡ (inbox script a h).commands → phase_of k ≡ phase_of h → Asked script a h
        → Asked script a k
    asked_same h k calls lefts phases asked = (λ i. calls i ++ lefts i) ∙ asked ∙ ap (asked_until a script) (sym phases)

    plain_asked : (h k : List Entry) → ArePlain k → Asked script a h → Asked script a (h ++ k)
    plain_asked h k plain asked = asked_same h (h ++ k) (entries_calls a h k plain)
        (entries_left script a h k plain).commands (entries_phase h k plain) asked

    called_elsewhere : (h : List Entry) (b : ℕ) (c : Command) → (b == a) ≡ false → Asked script a h
        → Asked script a (h ++ marked b (steps.Called c) ∷ [])
    called_elsewhere h b c other asked =
        asked_same h (h ++ marked b (steps.Called c) ∷ [])
        (ap (filter_map call_in) (deeds-other b a [] h (steps.Called c ∷ []) other))
        (ap (λ (i : Inbox). i.commands) (inbox_after script a h (marked b (steps.Called c)))
        ∙ ap (λ (t : Bool). (if t then command_called (inbox script a h) else inbox script a h).commands) other)
        (phase_taken h b (inputs.Called c)) asked

    called_here : (h : List Entry) (c : Command) → ready decl script a h ≡ Some (inputs.Called c) → Asked script a h
        → Asked script a (h ++ marked a (steps.Called c) ∷ [])
    called_here h c rdy asked =
        (λ i. (ap (filter_map call_in) (deeds-taken a h (inputs.Called c) tt)
        ∙ filter_map-append call_in (deeds a [] h) (Takes (inputs.Called c) ∷ [])) i
        ++ (ap (λ (i : Inbox). i.commands) (inbox_after script a h (marked a (steps.Called c)))
        ∙ ap (λ (t : Bool). (if t then command_called (inbox script a h) else inbox script a h).commands)
        (eq-eqb a a refl)) i)
        ∙ append_assoc (calls_of a h) (c ∷ []) (drop 1 (inbox script a h).commands)
        ∙ ap (λ (v : List Command). calls_of a h ++ v) (sym (ready_command decl a (inbox script a h) c rdy))
        ∙ asked ∙ ap (asked_until a script) (sym (phase_taken h a (inputs.Called c)))

    taken_asked : (h : List Entry) (b : ℕ) (g : Input) → ready decl script b h ≡ Some g → Asked script a h
        → Asked script a (h ++ marked b (step_of g) ∷ [])
    taken_asked h b (inputs.Got e) rdy asked = plain_asked h (marked b (steps.Got e.number) ∷ []) (tt, tt) asked
    taken_asked h b (inputs.Lost n) rdy asked = plain_asked h (marked b (steps.Lost n) ∷ []) (tt, tt) asked
    taken_asked h b (inputs.Called c) rdy asked = at (b == a) refl
      where
        at : (t : Bool) → (b == a) ≡ t → Asked script a (h ++ marked b (steps.Called c) ∷ [])
        at true same =
            let is : b ≡ a = eqb-true b a same in
            subst (λ (k : ℕ). Asked script a (h ++ marked k (steps.Called c) ∷ [])) (sym is)
            (called_here h c (subst (λ (k : ℕ). ready decl script k h ≡ Some (inputs.Called c)) is rdy) asked)
        at false other = called_elsewhere h b c other asked

    phase_asked : (h : List Entry) → Asked script a h
        → Asked script a (h ++ marked (controller decl) (steps.Phase (phase_of h + 1)) ∷ [])
    phase_asked h asked =
        let e : Entry = marked (controller decl) (steps.Phase (phase_of h + 1)) in
        (λ i. ap (filter_map call_in) (deeds-silent a (controller decl) h (steps.Phase (phase_of h + 1))
        (phase_silent (phase_of h + 1))) i
        ++ (ap (λ (i : Inbox). i.commands) (inbox_after script a h e)
        ∙ left_phase a (inbox script a h) (slice_get script.phases ((phase_of h + 1) - 1))) i)
        ∙ sym (append_assoc (calls_of a h) (inbox script a h).commands
        (asked_in a (slice_get script.phases ((phase_of h + 1) - 1))))
        ∙ ap (λ (v : List Command). v ++ asked_in a (slice_get script.phases ((phase_of h + 1) - 1))) asked
        ∙ asked_next a script (phase_of h) ∙ ap (asked_until a script) (sym (phase_then h e))

    pub calls_are_asked_with_falls : (h : List Entry) (open_inputs : List Bool)
        → RunsWithFalls lawful fits decl script h open_inputs
        → Asked script a h
    calls_are_asked_with_falls h open_inputs begins = refl
    calls_are_asked_with_falls h open_inputs (takes b g before older run free rdy) =
        taken_asked older b g rdy (calls_are_asked_with_falls older before run)
    calls_are_asked_with_falls h open_inputs (posts b turn before older run taken law) =
        plain_asked older (by b (posted_as turn.append (length (mail older)) turn))
        (post_plain b (length (mail older)) turn.append turn) (calls_are_asked_with_falls older before run)
    calls_are_asked_with_falls h open_inputs (phase before older run none done quiet more) =
        phase_asked older (calls_are_asked_with_falls older before run)
    calls_are_asked_with_falls h open_inputs (control line lines step before older run left is) =
        plain_asked older (marked (controller decl) step ∷ []) (line_plain line step is, tt)
        (calls_are_asked_with_falls older before run)
    calls_are_asked_with_falls h open_inputs (falls b lines before older run left) =
        plain_asked older _ (tt, tt) (calls_are_asked_with_falls older before run)
    calls_are_asked_with_falls h open_inputs (rises b records turn lines before older run left fit has law) =
        plain_asked older (by b (steps.Rose records ∷ posted_as turn.append (length (mail older)) turn))
        (tt, post_plain b (length (mail older)) turn.append turn) (calls_are_asked_with_falls older before run)
    calls_are_asked_with_falls h open_inputs (damaged b offset lines before older run left) =
        plain_asked older _ (tt, tt) (calls_are_asked_with_falls older before run)
    calls_are_asked_with_falls h open_inputs (unopened b cause lines before older run left disk) =
        plain_asked older _ (tt, tt) (calls_are_asked_with_falls older before run)

  -- the phases

  plain_phases : (h k : List Entry) → ArePlain k → phase_of h ≤ length script.phases
      → phase_of (h ++ k) ≤ length script.phases
  plain_phases h k plain most = let same : phase_of (h ++ k) ≡ phase_of h = entries_phase h k plain in omega arith

  pub phases_are_the_scripts_with_falls : (h : List Entry) (open_inputs : List Bool)
      → RunsWithFalls lawful fits decl script h open_inputs
      → phase_of h ≤ length script.phases
  phases_are_the_scripts_with_falls h open_inputs begins = omega arith
  phases_are_the_scripts_with_falls h open_inputs (takes b g before older run free rdy) =
      let most : phase_of older ≤ length script.phases = phases_are_the_scripts_with_falls older before run in
      let same : phase_of (older ++ marked b (step_of g) ∷ []) ≡ phase_of older = phase_taken older b g in
      omega arith
  phases_are_the_scripts_with_falls h open_inputs (posts b turn before older run taken law) =
      plain_phases older (by b (posted_as turn.append (length (mail older)) turn))
      (post_plain b (length (mail older)) turn.append turn) (phases_are_the_scripts_with_falls older before run)
  phases_are_the_scripts_with_falls h open_inputs (phase before older run none done quiet more) =
      let next : phase_of older < length script.phases = more in
      let is : phase_of (older ++ marked (controller decl) (steps.Phase (phase_of older + 1)) ∷ [])
      ≡ phase_of older + 1 = phase_then older (marked (controller decl) (steps.Phase (phase_of older + 1))) in
      omega arith
  phases_are_the_scripts_with_falls h open_inputs (control line lines step before older run left is) =
      plain_phases older (marked (controller decl) step ∷ []) (line_plain line step is, tt)
      (phases_are_the_scripts_with_falls older before run)
  phases_are_the_scripts_with_falls h open_inputs (falls b lines before older run left) =
      plain_phases older _ (tt, tt) (phases_are_the_scripts_with_falls older before run)
  phases_are_the_scripts_with_falls h open_inputs (rises b records turn lines before older run left fit has law) =
      plain_phases older (by b (steps.Rose records ∷ posted_as turn.append (length (mail older)) turn))
      (tt, post_plain b (length (mail older)) turn.append turn) (phases_are_the_scripts_with_falls older before run)
  phases_are_the_scripts_with_falls h open_inputs (damaged b offset lines before older run left) =
      plain_phases older _ (tt, tt) (phases_are_the_scripts_with_falls older before run)
  phases_are_the_scripts_with_falls h open_inputs (unopened b cause lines before older run left disk) =
      plain_phases older _ (tt, tt) (phases_are_the_scripts_with_falls older before run)
