-- What a phase asks of an actor, and what is left of it, step by step.
use Rattle.std.proofs.Common.{[], ◌≡◌, ℕ, ◌+◌, ◌==◌, ◌&&◌, Bool, true, false, if◌then◌else◌, List, ◌∷◌, ◌++◌, drop}
use Rattle.std.proofs.Common.{Option, Some, None, refl, sym, ap, ◌∙◌}
use Rattle.std.specs.List.{filter_map, fold}
use Rattle.std.specs.Option.{option_map_or}
use Rattle.std.proofs.lemmas.List.{append-nil}
use Rattle.std.proofs.lemmas.List.Sums.{fold-append}
use Rattle.qc_link.specs.Vocabulary.{fate, with_cut, without_cut}
use Rattle.qc_link.specs.declared.rule.Fate.{Fate}
use Rattle.qc_msg.specs.declared.message.Envelope.{Envelope}
use Rattle.qc_msg.specs.declared.message.Message.{Message}
use Rattle.qc_msg.specs.declared.record.Record.{Record}
use Rattle.qc_msg.specs.declared.reply.Reply.{Reply}
use Rattle.qc_msg.specs.declared.step.Command.{Command}
use Rattle.qc_msg.specs.declared.step.Control.{Control}
use Rattle.qc_msg.specs.declared.step.Step.{Step}
use Rattle.qc_msg.specs.declared.step.Step.TheVariants as steps
use Rattle.qc_msg.specs.declared.turn.Posting.{Posting}
use Rattle.qc_msg.specs.declared.turn.Turn.{Turn}
use Rattle.qc_msg.specs.Vocabulary.{Entry, by, marked, posted, sends_of, sents, tells_of, told, turn_deeds, writes_of}
use Rattle.qc_msg.specs.Vocabulary.{wrote, Answered, answer_in}
use Rattle.qc_script.specs.declared.script.PhaseLines.{PhaseLines}
use Rattle.qc_script.specs.declared.script.Script.{Script}
use Rattle.std.specs.Prelude.{set}
use Rattle.qc_script.specs.Vocabulary.{Inbox, acting, answers_by, comes, comes_at_once, commands_for, count_of}
use Rattle.qc_script.specs.Vocabulary.{empty_inbox, goes, goes_with, has_request, inbox, inbox_at, is_request, is_up}
use Rattle.qc_script.specs.Vocabulary.{opened, opened_by, phase_at, phase_begun, phase_of, reply_told, step_of_control}
use Rattle.qc_script.specs.Vocabulary.{with_copies, wrote_record, request_answered}
use Rattle.qc_script.proofs.Phases.{phase_more}
use Rattle.laws_turns.specs.Vocabulary.{call_in}
use Rattle.laws_turns.proofs.ReadingCases.{mapped}
use Rattle.laws_turns.proofs.StepCases.{control_cases}

-- the commands that are left, step by step

pub left_if : (t : Bool) (i j : Inbox) (cs : List Command) → i.commands ≡ cs → j.commands ≡ cs
    → (if t then i else j).commands ≡ cs
left_if true i j cs here there = here
left_if false i j cs here there = there

left_opened_by : (a : ℕ) (lines : List Control) (i : Inbox) → (opened_by a lines i).commands ≡ i.commands
left_opened_by a [] i = refl
left_opened_by a (line ∷ lines) i = refl

left_opened : (a : ℕ) (i : Inbox) → (opened a i).commands ≡ i.commands
left_opened a i = left_opened_by a (acting i.up i.controls) (record i { controls = acting i.up i.controls })

left_wrote : (a : ℕ) (i : Inbox) (r : ℕ) → (wrote_record a i r).commands ≡ i.commands
left_wrote a i r =
    left_if (is_up i.up r) i _ i.commands refl
    (left_opened a (record i { up = set i.up r true; controls = drop 1 i.controls }))

left_answers : (i : Inbox) (m : Message) (f : Fate) → (answers_by i m f).commands ≡ i.commands
left_answers i m f =
    mapped (λ (j : Inbox). j.commands ≡ i.commands) (λ (a : Answered). request_answered i a.to f) i (answer_in m)
    (λ a. left_if (has_request i.unanswered a.to) _ i i.commands refl refl) refl

left_goes : (i : Inbox) (e : Envelope) (f : Fate) → (goes_with i e f).commands ≡ i.commands
left_goes i e f =
    left_if (is_request e.message) _ _ i.commands
    (left_if (comes_at_once f && is_up i.up e.to) _ _ i.commands refl refl) refl

left_sent : (script : Script) (a : ℕ) (i : Inbox) (e : Envelope)
    → (goes script.links a (comes script.links a i e) e).commands ≡ i.commands
left_sent script a i e =
    left_if (e.from == a) _ (comes script.links a i e) i.commands
    (left_goes (comes script.links a i e) e
    (fate script.links (comes script.links a i e).cuts e.from e.to
    (count_of (comes script.links a i e).to_each e.to + 1)) ∙ came) came
  where
    came : (comes script.links a i e).commands ≡ i.commands
    came =
        left_if (e.to == a) _ i i.commands
        (left_answers (with_copies (is_up i.up a) i e
        (fate script.links i.cuts e.from e.to (count_of i.from_each e.from + 1))) e.message
        (fate script.links i.cuts e.from e.to (count_of i.from_each e.from + 1))) refl

-- what a phase asks of an actor
abbrev pub asked_in : ℕ → Option PhaseLines → List Command
asked_in a o = option_map_or (λ (p : PhaseLines). commands_for a p.commands) o []

pub left_phase : (a : ℕ) (i : Inbox) (o : Option PhaseLines)
    → (option_map_or (phase_begun a i) o i).commands ≡ i.commands ++ asked_in a o
left_phase a i None = sym (append-nil i.commands)
left_phase a i (Some p) =
    left_opened a
    (record i {
      opening = i.opening ++ i.late;
      late = [];
      controls = p.controls;
      commands = i.commands ++ commands_for a p.commands;
    })

module _ (script : Script) (a : ℕ) where
  abbrev pub left : List Entry → List Command
  left h = (inbox script a h).commands

  pub left_more : (h : List Entry) (b : ℕ) (step : Step)
      → left (h ++ marked b step ∷ []) ≡ (inbox_at script a (inbox script a h) b step).commands
  left_more h b step =
      ap (λ (i : Inbox). i.commands)
      (fold-append (λ (i : Inbox) (e : Entry). inbox_at script a i e.actor e.step) empty_inbox h (marked b step ∷ []))

  -- a step that is no call and begins no phase leaves them as they are

  left_told : (i : Inbox) (b : ℕ) (reply : Option Reply)
      → (fold (λ (i : Inbox) (e : Entry). inbox_at script a i e.actor e.step) i (by b (told reply))).commands
      ≡ i.commands
  left_told i b None = refl
  left_told i b (Some reply) = left_if (b == a) (reply_told i) i i.commands refl refl

  left_sents : (i : Inbox) (b n : ℕ) (ps : List Posting) (reply : Option Reply)
      → (fold (λ (i : Inbox) (e : Entry). inbox_at script a i e.actor e.step) i
      (by b (sents n ps ++ told reply))).commands
      ≡ i.commands
  left_sents i b n [] reply = left_told i b reply
  left_sents i b n (p ∷ ps) reply =
      left_sents (inbox_at script a i b (steps.Sent n p.to p.message)) b (n + 1) ps reply
      ∙ left_sent script a i (record { number = n; from = b; to = p.to; message = p.message })

  left_turn : (i : Inbox) (b n : ℕ) (turn : Turn)
      → (fold (λ (i : Inbox) (e : Entry). inbox_at script a i e.actor e.step) i (by b (posted n turn))).commands
      ≡ i.commands
  left_turn i b n turn = at turn.write
    where
      at : (w : Option Record)
          → (fold (λ (i : Inbox) (e : Entry). inbox_at script a i e.actor e.step) i
          (by b (wrote w ++ (sents n turn.sends ++ told turn.told)))).commands ≡ i.commands
      at None = left_sents i b n turn.sends turn.told
      at (Some written) = left_sents (wrote_record a i b) b n turn.sends turn.told ∙ left_wrote a i b

  pub left_posted : (h : List Entry) (b n : ℕ) (turn : Turn) → left (h ++ by b (posted n turn)) ≡ left h
  left_posted h b n turn =
      ap (λ (i : Inbox). i.commands)
      (fold-append (λ (i : Inbox) (e : Entry). inbox_at script a i e.actor e.step) empty_inbox h (by b (posted n turn)))
      ∙ left_turn (inbox script a h) b n turn

  pub left_control : (line : Control) (step : Step) (h : List Entry) (b : ℕ) → step_of_control line ≡ Some step
      → left (h ++ marked b step ∷ []) ≡ left h
  left_control line step h b is =
      control_cases (λ (s : Step). left (h ++ marked b s ∷ []) ≡ left h)
      (λ x y. left_more h b (steps.Cut x y)
      ∙ left_opened a
      (record (inbox script a h)
      { cuts = with_cut (inbox script a h).cuts x y; controls = drop 1 (inbox script a h).controls }))
      (λ x y. left_more h b (steps.Heal x y)
      ∙ left_opened a
      (record (inbox script a h)
      { cuts = without_cut (inbox script a h).cuts x y; controls = drop 1 (inbox script a h).controls })) line step is

-- the last phase, step by step

phase_sents : (k a n : ℕ) (ps : List Posting) (reply : Option Reply)
    → fold (λ (n : ℕ) (e : Entry). phase_at n e.step) k (by a (sents n ps ++ told reply)) ≡ k
phase_sents k a n [] None = refl
phase_sents k a n [] (Some reply) = refl
phase_sents k a n (p ∷ ps) reply = phase_sents k a (n + 1) ps reply

phase_turn : (k a n : ℕ) (turn : Turn) → fold (λ (n : ℕ) (e : Entry). phase_at n e.step) k (by a (posted n turn)) ≡ k
phase_turn k a n turn = at turn.write
  where
    at : (w : Option Record)
        → fold (λ (n : ℕ) (e : Entry). phase_at n e.step) k (by a (wrote w ++ (sents n turn.sends ++ told turn.told)))
        ≡ k
    at None = phase_sents k a n turn.sends turn.told
    at (Some written) = phase_sents k a n turn.sends turn.told

pub phase_posted : (h : List Entry) (a n : ℕ) (turn : Turn) → phase_of (h ++ by a (posted n turn)) ≡ phase_of h
phase_posted h a n turn = phase_more h (by a (posted n turn)) ∙ phase_turn (phase_of h) a n turn

pub phase_control : (line : Control) (step : Step) (h : List Entry) (b : ℕ) → step_of_control line ≡ Some step
    → phase_of (h ++ marked b step ∷ []) ≡ phase_of h
phase_control line step h b is =
    control_cases (λ (s : Step). phase_of (h ++ marked b s ∷ []) ≡ phase_of h)
    (λ x y. phase_more h (marked b (steps.Cut x y) ∷ [])) (λ x y. phase_more h (marked b (steps.Heal x y) ∷ []))
    line step is

-- the calls, deed by deed

calls_sends : (n : ℕ) (ps : List Posting) (reply : Option Reply)
    → filter_map call_in (sends_of n ps ++ tells_of reply) ≡ []
calls_sends n [] None = refl
calls_sends n [] (Some reply) = refl
calls_sends n (p ∷ ps) reply = calls_sends (n + 1) ps reply

pub calls_turn : (n : ℕ) (turn : Turn) → filter_map call_in (turn_deeds n turn) ≡ []
calls_turn n turn = at turn.write
  where
    at : (w : Option Record) → filter_map call_in (writes_of w ++ (sends_of n turn.sends ++ tells_of turn.told)) ≡ []
    at None = calls_sends n turn.sends turn.told
    at (Some written) = calls_sends n turn.sends turn.told
