-- A reply is the last step of a turn, so the entries up to it are a run.
use Rattle.std.proofs.Common.{◌≡◌, ℕ, ◌+◌, Bool, true, false, List, [], ◌∷◌, ◌++◌, length, Option, Some, None}
use Rattle.std.proofs.Common.{slice_get, refl, sym, ap, ◌∙◌, subst, append_assoc}
use Rattle.std.specs.Prelude.{slice_set}
use Rattle.qc_core.specs.Vocabulary.{IsLawful}
use Rattle.qc_decl.specs.declared.declaration.Declaration.{Declaration}
use Rattle.qc_msg.specs.declared.record.Record.{Record}
use Rattle.qc_msg.specs.declared.reply.Reply.{Reply}
use Rattle.qc_msg.specs.declared.step.Control.{Control}
use Rattle.qc_msg.specs.declared.step.Input.{Input}
use Rattle.qc_msg.specs.declared.step.Input.TheVariants as inputs
use Rattle.qc_msg.specs.declared.step.Step.{Step}
use Rattle.qc_msg.specs.declared.step.Step.TheVariants as steps
use Rattle.qc_msg.specs.declared.turn.Posting.{Posting}
use Rattle.qc_msg.specs.Vocabulary.{Entry, by, mail, marked, posted, sents, step_of, told, wrote, replied_in}
use Rattle.qc_script.specs.Vocabulary.{Runs, phase_of, step_of_control}
use Rattle.qc_script.specs.Runs.{begins, takes, posts, phase, control}
use Rattle.qc_script.specs.declared.script.Script.{Script}
use Rattle.laws_guarantees.specs.Vocabulary.{IsRunWithout}
use Rattle.laws_guarantees.proofs.Moments.{First, Second, split}
use Rattle.laws_turns.proofs.StepCases.{control_cases}
use Rattle.qc_list.proofs.Places.{slice_get-set_same}

-- the reply of a step that told one

abbrev reply_of : Step → Option Reply
reply_of step = replied_in step

one_none : (e : Entry) → reply_of e.step ≡ None → (m : List Entry) (a : ℕ) (reply : Reply) (after : List Entry)
    → e ∷ [] ≡ m ++ marked a (steps.Told reply) ∷ after → ⊥
one_none e none [] a reply after is = let same : e ≡ marked a (steps.Told reply) = cc in
    let some : None ≡ Some reply = sym none ∙ ap (λ (x : Entry). reply_of x.step) same in let never : ⊥ = cc in never
one_none e none (x ∷ []) a reply after is = let never : ⊥ = cc in never
one_none e none (x ∷ y ∷ m) a reply after is = let never : ⊥ = cc in never

taken_none : (g : Input) → reply_of (step_of g) ≡ None
taken_none (inputs.Called command) = refl
taken_none (inputs.Got envelope) = refl
taken_none (inputs.Lost number) = refl

-- it is the last that a turn posts

record IsLast (b a : ℕ) (after : List Entry) : Type 0 where
  pub actor : b ≡ a
  pub none : after ≡ []

told_last : (b : ℕ) (o : Option Reply) (m : List Entry) (a : ℕ) (reply : Reply) (after : List Entry)
    → by b (told o) ≡ m ++ marked a (steps.Told reply) ∷ after → IsLast b a after
told_last b None [] a reply after is = absurd (let never : ⊥ = cc in never)
told_last b None (x ∷ m) a reply after is = absurd (let never : ⊥ = cc in never)
told_last b (Some r) [] a reply after is = let same : marked b (steps.Told r) ≡ marked a (steps.Told reply) = cc in
    record { actor = ap (λ (x : Entry). x.actor) same; none = (let nil : [] ≡ after = cc in sym nil) }
told_last b (Some r) (x ∷ []) a reply after is = absurd (let never : ⊥ = cc in never)
told_last b (Some r) (x ∷ y ∷ m) a reply after is = absurd (let never : ⊥ = cc in never)

sends_last : (b n : ℕ) (ps : List Posting) (o : Option Reply) (m : List Entry) (a : ℕ) (reply : Reply)
    (after : List Entry) → by b (sents n ps ++ told o) ≡ m ++ marked a (steps.Told reply) ∷ after → IsLast b a after
sends_last b n [] o m a reply after is = told_last b o m a reply after is
sends_last b n (p ∷ ps) o [] a reply after is =
    absurd (let same : marked b (steps.Sent n p.to p.message) ≡ marked a (steps.Told reply) = cc in
    let some : None ≡ Some reply = ap (λ (x : Entry). reply_of x.step) same in let never : ⊥ = cc in never)
sends_last b n (p ∷ ps) o (x ∷ m) a reply after is = sends_last b (n + 1) ps o m a reply after (cc)

posted_last : (b n : ℕ) (w : Option Record) (ps : List Posting) (o : Option Reply) (m : List Entry) (a : ℕ)
    (reply : Reply) (after : List Entry) → by b (wrote w ++ (sents n ps ++ told o)) ≡ m ++ marked a (steps.Told reply)
    ∷ after → IsLast b a after
posted_last b n None ps o m a reply after is = sends_last b n ps o m a reply after is
posted_last b n (Some w) ps o [] a reply after is =
    absurd (let same : marked b (steps.Wrote w) ≡ marked a (steps.Told reply) = cc in
    let some : None ≡ Some reply = ap (λ (x : Entry). reply_of x.step) same in let never : ⊥ = cc in never)
posted_last b n (Some w) ps o (x ∷ m) a reply after is = sends_last b n ps o m a reply after (cc)

-- a control line tells no reply
control_none : (line : Control) (step : Step) → step_of_control line ≡ Some step → reply_of step ≡ None
control_none line = control_cases (λ step. reply_of step ≡ None) (λ a b. refl) (λ a b. refl) line

module _ (decl : Declaration) (script : Script) where
  pub replies_end_their_turns : (h : List Entry) (open_inputs : List Bool)
      → Runs (IsLawful decl) decl script h open_inputs
      → (before : List Entry) (a : ℕ) (reply : Reply) (after : List Entry)
      → h ≡ before ++ marked a (steps.Told reply) ∷ after
      → IsRunWithout decl script a (before ++ marked a (steps.Told reply) ∷ [])
  replies_end_their_turns h open_inputs begins [] a reply after is = absurd (let never : ⊥ = cc in never)
  replies_end_their_turns h open_inputs begins (x ∷ before) a reply after is = absurd (let never : ⊥ = cc in never)
  replies_end_their_turns h open_inputs (takes b g slots older run free rdy) before a reply after is =
      elim (split older (marked b (step_of g) ∷ []) before (marked a (steps.Told reply)) after is) [
        | First m s ↦ replies_end_their_turns older slots run before a reply m s
        | Second m e s ↦ absurd (one_none (marked b (step_of g)) (taken_none g) m a reply after s)
      ]
  replies_end_their_turns h open_inputs (posts b turn slots older run taken law) before a reply after is =
      elim (split older (by b (posted (length (mail older)) turn)) before (marked a (steps.Told reply)) after is) [
        | First m s ↦ replies_end_their_turns older slots run before a reply m s
        | Second m e s ↦
            last m e s (posted_last b (length (mail older)) turn.write turn.sends turn.told m a reply after s)
      ]
    where
      last : (m : List Entry) → before ≡ older ++ m
          → by b (posted (length (mail older)) turn) ≡ m ++ marked a (steps.Told reply) ∷ after → IsLast b a after
          → IsRunWithout decl script a (before ++ marked a (steps.Told reply) ∷ [])
      last m e s k =
          let whole : older ++ by b (posted (length (mail older)) turn) ≡ before ++ marked a (steps.Told reply) ∷ [] =
          ap (λ (x : List Entry). older ++ x) (s ∙ ap (λ (x : List Entry). m ++ marked a (steps.Told reply) ∷ x) k.none)
          ∙ sym (append_assoc older m (marked a (steps.Told reply) ∷ []))
          ∙ ap (λ (x : List Entry). x ++ marked a (steps.Told reply) ∷ []) (sym e) in
          subst (IsRunWithout decl script a) whole (record {
            open_inputs = slice_set slots b false;
            run = posts b turn slots older run taken law;
            none = subst (λ (n : ℕ). slice_get (slice_set slots b false) n ≡ Some false) k.actor
                (slice_get-set_same slots b false true taken);
          })
  replies_end_their_turns h open_inputs (phase slots older run idle done quiet more) before a reply after is =
      elim (split older (marked _ (steps.Phase (phase_of older + 1)) ∷ []) before
      (marked a (steps.Told reply)) after is) [
        | First m s ↦ replies_end_their_turns older slots run before a reply m s
        | Second m e s ↦ absurd (one_none (marked _ (steps.Phase (phase_of older + 1))) refl m a reply after s)
      ]
  replies_end_their_turns h open_inputs (control line lines acted slots older run left acts) before a reply after is =
      elim (split older (marked _ acted ∷ []) before (marked a (steps.Told reply)) after is) [
        | First m s ↦ replies_end_their_turns older slots run before a reply m s
        | Second m e s ↦ absurd (one_none (marked _ acted) (control_none line acted acts) m a reply after s)
      ]
