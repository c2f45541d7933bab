-- What holds of each reply as its turn is posted holds of each reply of the run.
use Rattle.std.proofs.Common.{◌≡◌, ℕ, ◌+◌, Bool, true, List, [], ◌∷◌, ◌++◌, length, Option, Some, None, slice_get, refl}
use Rattle.std.proofs.Common.{sym, ap, ◌∙◌, subst}
use Rattle.std.proofs.lemmas.List.{append-nil, append_assoc}
use Rattle.qc_core.specs.Vocabulary.{IsLawful}
use Rattle.qc_decl.specs.Vocabulary.{controller, is_client}
use Rattle.qc_decl.specs.declared.declaration.Declaration.{Declaration}
use Rattle.qc_msg.specs.declared.record.Record.{Record}
use Rattle.qc_msg.specs.declared.reply.Reply.{Reply}
use Rattle.qc_msg.specs.declared.step.Control.{Control}
use Rattle.qc_msg.specs.declared.step.Input.{Input}
use Rattle.qc_msg.specs.declared.step.Input.TheVariants as inputs
use Rattle.qc_msg.specs.declared.step.Step.{Step}
use Rattle.qc_msg.specs.declared.step.Step.TheVariants as steps
use Rattle.qc_msg.specs.declared.turn.Posting.{Posting}
use Rattle.qc_msg.specs.declared.turn.Turn.{Turn}
use Rattle.qc_msg.specs.Vocabulary.{Entry, by, deeds, mail, marked, posted, sents, step_of, told, wrote}
use Rattle.qc_msg.proofs.GrownMail.{by-posted}
use Rattle.qc_script.specs.Vocabulary.{Runs, phase_of, step_of_control}
use Rattle.qc_script.specs.Runs.{begins, takes, posts, phase, control}
use Rattle.qc_script.specs.declared.script.Script.{Script}
use Rattle.qc_site.specs.Vocabulary.{site_after}
use Rattle.laws_turns.proofs.Stamped.{site_answering}
use Rattle.laws_turns.proofs.Bounding.{lawful_turn}
use Rattle.laws_guarantees.specs.Vocabulary.{EachReply, IfTold}
use Rattle.laws_turns.proofs.StepCases.{control_cases}

-- a turn without its reply: what stands before that in the history
abbrev pub untold : Turn → Turn
untold turn = record turn { told = None }

module _ (P : List Entry → ℕ → Reply → Type 0) where
  each_more : (before h k : List Entry) → EachReply P before h → EachReply P (before ++ h) k
      → EachReply P before (h ++ k)
  each_more before [] k first second = subst (λ (v : List Entry). EachReply P v k) (append-nil before) second
  each_more before (e ∷ h) k first second = (
    first.0,
    each_more (before ++ e ∷ []) h k first.1
        (subst (λ (v : List Entry). EachReply P v k) (sym (append_assoc before (e ∷ []) h)) second),
  )

  each_wrote : (before : List Entry) (a : ℕ) (write : Option Record) → EachReply P before (by a (wrote write))
  each_wrote before a None = tt
  each_wrote before a (Some w) = (tt, tt)

  each_sents : (before : List Entry) (a n : ℕ) (ps : List Posting) → EachReply P before (by a (sents n ps))
  each_sents before a n [] = tt
  each_sents before a n (p ∷ ps) = (tt, each_sents (before ++ marked a (steps.Sent n p.to p.message) ∷ []) a (n + 1) ps)

  each_told : (before : List Entry) (a : ℕ) (reply : Option Reply) → ((r : Reply) → reply ≡ Some r → P before a r)
      → EachReply P before (by a (told reply))
  each_told before a None good = tt
  each_told before a (Some r) good = (good r refl, tt)

  untold_is : (a n : ℕ) (turn : Turn) → by a (posted n turn) ≡ by a (posted n (untold turn)) ++ by a (told turn.told)
  untold_is a n turn =
      by-posted a n turn ∙ sym (append_assoc (by a (wrote turn.write)) (by a (sents n turn.sends))
      (by a (told turn.told)))
      ∙ ap (λ (v : List Entry). (by a (wrote turn.write) ++ v) ++ by a (told turn.told))
      (sym (append-nil (by a (sents n turn.sends))))
      ∙ ap (λ (v : List Entry). v ++ by a (told turn.told)) (sym (by-posted a n (untold turn)))

  each_untold : (before : List Entry) (a n : ℕ) (turn : Turn) → EachReply P before (by a (posted n (untold turn)))
  each_untold before a n turn =
      subst (EachReply P before) (sym (by-posted a n (untold turn)))
      (each_more before (by a (wrote turn.write)) (by a (sents n turn.sends) ++ []) (each_wrote before a turn.write)
      (each_more (before ++ by a (wrote turn.write)) (by a (sents n turn.sends)) []
      (each_sents (before ++ by a (wrote turn.write)) a n turn.sends) tt))

  each_posted : (before : List Entry) (a n : ℕ) (turn : Turn)
      → ((r : Reply) → turn.told ≡ Some r → P (before ++ by a (posted n (untold turn))) a r)
      → EachReply P before (by a (posted n turn))
  each_posted before a n turn good =
      subst (EachReply P before) (sym (untold_is a n turn))
      (each_more before (by a (posted n (untold turn))) (by a (told turn.told)) (each_untold before a n turn)
      (each_told (before ++ by a (posted n (untold turn))) a turn.told good))

  input_quiet : (before : List Entry) (a : ℕ) (g : Input) → IfTold P before a (step_of g)
  input_quiet before a (inputs.Called command) = tt
  input_quiet before a (inputs.Got e) = tt
  input_quiet before a (inputs.Lost n) = tt

  control_quiet : (before : List Entry) (a : ℕ) (line : Control) (step : Step) → step_of_control line ≡ Some step
      → IfTold P before a step
  control_quiet before a = control_cases (IfTold P before a) (λ x y. tt) (λ x y. tt)

  -- Q holds of the history, and of what stands before in it
  module _ (Q : List Entry → Type 0) (shorter : (h k : List Entry) → Q (h ++ k) → Q h) (decl : Declaration)
      (script : Script)
      (good : (older : List Entry) (before : List Bool) → Runs (IsLawful decl) decl script older before → (b : ℕ)
      → is_client decl b ≡ true → (turn : Turn) → slice_get before b ≡ Some true
      → IsLawful decl b (deeds b [] older) turn → Q older
      → (r : Reply) → turn.told ≡ Some r → P (older ++ by b (posted (length (mail older)) (untold turn))) b r) where
    replies_good : (older : List Entry) (before : List Bool) → Runs (IsLawful decl) decl script older before
        → (b : ℕ) (turn : Turn) → slice_get before b ≡ Some true → IsLawful decl b (deeds b [] older) turn → Q older
        → (r : Reply) → turn.told ≡ Some r → P (older ++ by b (posted (length (mail older)) (untold turn))) b r
    replies_good older before run b turn open_still lawful within r is =
        lawful_turn (λ (t : Turn). t.told ≡ Some r → P (older ++ by b (posted (length (mail older)) (untold turn))) b r)
        decl b (deeds b [] older) turn lawful
        (λ site its. absurd (let none : (site_after decl b (deeds b [] older)).turn.told ≡ None =
        (site_answering decl b (deeds b [] older)).told in let never : ⊥ = cc in never))
        (λ site named its. good older before run b named turn open_still lawful within r is) is

    pub run_each : (h : List Entry) (open_inputs : List Bool) → Runs (IsLawful decl) decl script h open_inputs → Q h
        → EachReply P [] h
    run_each h open_inputs begins within = tt
    run_each h open_inputs (takes b g before older run free rdy) within =
        each_more [] older (marked b (step_of g) ∷ [])
        (run_each older before run (shorter older (marked b (step_of g) ∷ []) within)) (input_quiet older b g, tt)
    run_each h open_inputs (posts b turn before older run open_still lawful) within =
        each_more [] older (by b (posted (length (mail older)) turn))
        (run_each older before run (shorter older (by b (posted (length (mail older)) turn)) within))
        (each_posted older b (length (mail older)) turn
        (replies_good older before run b turn open_still lawful
        (shorter older (by b (posted (length (mail older)) turn)) within)))
    run_each h open_inputs (phase before older run none done rests more) within =
        each_more [] older (marked (controller decl) (steps.Phase (phase_of older + 1)) ∷ [])
        (run_each older before run (shorter older
        (marked (controller decl) (steps.Phase (phase_of older + 1)) ∷ []) within)) (tt, tt)
    run_each h open_inputs (control line lines step before older run left is) within =
        each_more [] older (marked (controller decl) step ∷ [])
        (run_each older before run (shorter older (marked (controller decl) step ∷ []) within))
        (control_quiet older (controller decl) line step is, tt)
