-- In each history the commands that wait for an actor are the script's: so a command that is ready names what is
-- declared.
use Rattle.std.proofs.Common.{◌≡◌, ℕ, ◌+◌, ◌-◌, ◌==◌, ◌&&◌, not, Bool, true, false, cond, inl, inr, List, [], ◌∷◌, drop}
use Rattle.std.proofs.Common.{filter, fold, map, Option, Some, None, slice_get, refl, subst, if◌then◌else◌}
use Rattle.std.specs.List.{AllByRecursion as Every}
use Rattle.std.specs.Option.{option_map_or}
use Rattle.std.specs.Prelude.{set}
use Rattle.qc_list.specs.Vocabulary.{In}
use Rattle.qc_list.proofs.Members.{every-append, every-at, every-from_In}
use Rattle.qc_decl.specs.declared.declaration.Declaration.{Declaration}
use Rattle.qc_link.specs.declared.rule.Fate.{Fate}
use Rattle.qc_link.specs.Vocabulary.{fate, with_cut, without_cut}
use Rattle.qc_msg.specs.declared.message.Envelope.{Envelope}
use Rattle.qc_msg.specs.declared.message.Message.{Message}
use Rattle.qc_msg.specs.declared.step.Command.{Command}
use Rattle.qc_msg.specs.declared.step.Control.{Control}
use Rattle.qc_msg.specs.declared.step.Input.TheVariants as inputs
use Rattle.qc_msg.specs.declared.step.Step.{Step}
use Rattle.qc_msg.specs.declared.step.Step.TheVariants as steps
use Rattle.qc_msg.specs.Vocabulary.{Answered, Entry, answer_in}
use Rattle.laws_turns.proofs.ReadingCases.{mapped}
use Rattle.qc_script.specs.Vocabulary.{Inbox, after_controls, command_in, empty_inbox, first_command, first_copy}
use Rattle.qc_script.specs.Vocabulary.{first_lost, inbox, inbox_at, ready, requests_to, requests_to_others}
use Rattle.qc_script.specs.Vocabulary.{takes_commands, with_lost}
use Rattle.qc_script.specs.Inbox as boxes
use Rattle.qc_script.specs.declared.script.CommandLine.{CommandLine}
use Rattle.qc_script.specs.declared.script.PhaseLines.{PhaseLines}
use Rattle.qc_script.specs.declared.script.Script.{Script}
use Rattle.laws_refinement.specs.Vocabulary.{IsNamed}
use Rattle.laws_atomic.specs.Vocabulary.{AreNamed}

module _ (decl : Declaration) (script : Script) (named : AreNamed decl script) (a : ℕ) where
  abbrev AskedNamed : Inbox → Type 0
  AskedNamed i = Every (IsNamed decl) i.commands

  of_either : (t : Bool) (i j : Inbox) → AskedNamed i → AskedNamed j → AskedNamed (if t then i else j)
  of_either true i j here there = here
  of_either false i j here there = there

  opened_by : (lines : List Control) (i : Inbox) → AskedNamed i → AskedNamed (boxes.opened_by a lines i)
  opened_by [] i are = are
  opened_by (line ∷ lines) i are = are

  acted : (i : Inbox) → AskedNamed i → AskedNamed (boxes.control_acted a i)
  acted i are = opened_by (boxes.acting i.up (drop 1 i.controls))
      (record i { controls = boxes.acting i.up (drop 1 i.controls) }) are

  answered : (i : Inbox) (m : Message) (f : Fate) → AskedNamed i → AskedNamed (boxes.answers_by i m f)
  answered i m f are =
      mapped AskedNamed (λ (a : Answered). boxes.request_answered i a.to f) i (answer_in m)
      (λ a. of_either _ _ i are are) are

  sent : (i : Inbox) (e : Envelope) → AskedNamed i
      → AskedNamed (boxes.goes script.links a (boxes.comes script.links a i e) e)
  sent i e are = of_either (e.from == a) _ (boxes.comes script.links a i e) goes came
    where
      came : AskedNamed (boxes.comes script.links a i e)
      came = of_either (e.to == a) _ i
          (answered (boxes.with_copies (boxes.is_up i.up a) i e its_fate) e.message its_fate are) are
        where
          its_fate : Fate
          its_fate = fate script.links i.cuts e.from e.to (boxes.count_of i.from_each e.from + 1)

      goes : AskedNamed (boxes.goes_with (boxes.comes script.links a i e) e
          (fate script.links (boxes.comes script.links a i e).cuts e.from e.to
          (boxes.count_of (boxes.comes script.links a i e).to_each e.to + 1)))
      goes = of_either (boxes.is_request e.message) _ _ (of_either _ _ _ came came) came

  fell : (t : Bool) (i : Inbox) → AskedNamed i → AskedNamed (boxes.emptied t i)
  fell true i are = are
  fell false i are = are

  fallen : (i : Inbox) (b : ℕ) → AskedNamed i → AskedNamed (boxes.actor_fell a i b)
  fallen i b are =
      fell (b == a) (record i {
        up = set i.up b false;
        unanswered = requests_to_others b i.unanswered;
        lost = with_lost (requests_to b i.unanswered) i.lost;
      }) are

  rest_named : (cs : List Command) → Every (IsNamed decl) cs → Every (IsNamed decl) (drop 1 cs)
  rest_named [] are = tt
  rest_named (c ∷ cs) are = are.1

  lines_named : (lines : List CommandLine) → ((l : CommandLine) → In l lines → IsNamed decl l.command)
      → Every (IsNamed decl) (boxes.commands_for a lines)
  lines_named [] are = tt
  lines_named (l ∷ lines) are = by (l.actor == a) (lines_named lines (λ k among. are k (inr among)))
    where
      by : (t : Bool) → Every (IsNamed decl) (boxes.commands_for a lines)
          → Every (IsNamed decl) (map (λ (x : CommandLine). x.command)
          (cond t (l ∷ filter (λ (x : CommandLine). x.actor == a) lines)
          (filter (λ (x : CommandLine). x.actor == a) lines)))
      by true rest = (are l (inl refl), rest)
      by false rest = rest

  phase_named : (o : Option PhaseLines) (i : Inbox) → ((p : PhaseLines) → o ≡ Some p → In p script.phases)
      → AskedNamed i → AskedNamed (option_map_or (boxes.phase_begun a i) o i)
  phase_named None i is are = are
  phase_named (Some p) i is are =
      opened_by (boxes.acting i.up p.controls) _
      (every-append (IsNamed decl) i.commands (boxes.commands_for a p.commands) are
      (lines_named p.commands (λ l among. named p l (is p refl) among)))

  step_named : (i : Inbox) (b : ℕ) (step : Step) → AskedNamed i → AskedNamed (inbox_at script a i b step)
  step_named i b (steps.Phase k) are =
      phase_named (slice_get script.phases (k - 1)) i
      (λ p is. every-at (λ (x : PhaseLines). In x script.phases) script.phases (k - 1) p
      (every-from_In (λ (x : PhaseLines). In x script.phases) script.phases (λ x among. among)) is) are
  step_named i b (steps.Cut x y) are = acted (record i { cuts = with_cut i.cuts x y }) are
  step_named i b (steps.Heal x y) are = acted (record i { cuts = without_cut i.cuts x y }) are
  step_named i b (steps.Armed x kind at) are = acted i are
  step_named i b (steps.Called command) are = of_either (b == a) _ i (rest_named i.commands are) are
  step_named i b (steps.Got n) are = of_either (b == a) _ i are are
  step_named i b (steps.Lost n) are = of_either (b == a) _ i are are
  step_named i b (steps.Wrote written) are =
      of_either (boxes.is_up i.up b) i (boxes.control_acted a (record i { up = set i.up b true })) are
      (acted (record i { up = set i.up b true }) are)
  step_named i b (steps.Sent n to message) are =
      sent i (record { number = n; from = b; to = to; message = message }) are
  step_named i b (steps.Told reply) are = of_either (b == a) _ i are are
  step_named i b (steps.Fell cause pending) are =
      of_either (boxes.is_by_line (boxes.is_up i.up b) cause) (boxes.control_acted a (boxes.actor_fell a i b))
      (boxes.actor_fell a i b) (acted (boxes.actor_fell a i b) (fallen i b are)) (fallen i b are)
  step_named i b (steps.Rose records) are = are
  step_named i b (steps.Damaged offset) are = acted i are

  all_named : (h : List Entry) (i : Inbox) → AskedNamed i
      → AskedNamed (fold (λ (i : Inbox) (e : Entry). inbox_at script a i e.actor e.step) i h)
  all_named [] i are = are
  all_named (e ∷ h) i are = all_named h (inbox_at script a i e.actor e.step) (step_named i e.actor e.step are)

  first_named : (t : Bool) (cs : List Command) (c : Command) → Every (IsNamed decl) cs
      → cond t (first_command cs) None ≡ Some (inputs.Called c) → IsNamed decl c
  first_named true [] c are is = absurd (let never : ⊥ = cc in never)
  first_named true (d ∷ cs) c are is = subst (IsNamed decl) (let same : d ≡ c = cc in same) are.0
  first_named false cs c are is = absurd (let never : ⊥ = cc in never)

  next_named : (i : Inbox) (controls : List Control) (copies : List Envelope) (lost : List ℕ) (c : Command)
      → AskedNamed i → after_controls controls (first_copy copies (first_lost lost (command_in decl a i))) ≡ Some
      (inputs.Called c) → IsNamed decl c
  next_named i (line ∷ lines) copies lost c are is = absurd (let never : ⊥ = cc in never)
  next_named i [] (e ∷ copies) lost c are is = absurd (let never : ⊥ = cc in never)
  next_named i [] [] (n ∷ lost) c are is = absurd (let never : ⊥ = cc in never)
  next_named i [] [] [] c are is = first_named (takes_commands decl a && not i.busy) i.commands c are is

  pub ready_named : (h : List Entry) (c : Command) → ready decl script a h ≡ Some (inputs.Called c) → IsNamed decl c
  ready_named h c is = next_named (inbox script a h) (inbox script a h).controls (inbox script a h).copies
      (inbox script a h).lost c (all_named h empty_inbox tt) is
