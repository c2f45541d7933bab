-- Messages are numbered one after another: in each run, over any conduct, from 0 on.
use Rattle.std.proofs.Common.{◌≡◌, ℕ, zero, suc, ◌+◌, Bool, List, [], ◌∷◌, ◌++◌, length, Option, Some, None, slice_get}
use Rattle.std.proofs.Common.{refl, sym, ap, ◌∙◌, subst, arith}
use Rattle.std.proofs.lemmas.List.{append-nil}
use Rattle.qc_decl.specs.declared.declaration.Declaration.{Declaration}
use Rattle.qc_decl.specs.Vocabulary.{controller}
use Rattle.qc_msg.specs.declared.message.Envelope.{Envelope}
use Rattle.qc_msg.specs.declared.step.Control.{Control}
use Rattle.qc_msg.specs.declared.step.Step.{Step}
use Rattle.qc_msg.specs.declared.step.Step.TheVariants as steps
use Rattle.qc_msg.specs.declared.turn.Posting.{Posting}
use Rattle.qc_msg.specs.declared.turn.Turn.{Turn}
use Rattle.qc_msg.specs.Vocabulary.{Deed, Entry, by, deed_at, envelope_at, envelopes, mail, marked, posted}
use Rattle.qc_msg.proofs.GrownMail.{mail-append, mail-posted, mail-taken}
use Rattle.qc_script.specs.Vocabulary.{Runs, phase_of, step_of_control}
use Rattle.qc_script.specs.Runs.{begins, takes, posts, phase, control}
use Rattle.qc_script.specs.declared.script.Script.{Script}
use Rattle.laws_turns.proofs.StepCases.{control_cases}

abbrev pub AreNumbered : ℕ → List Envelope → Type 0
AreNumbered n [] = Unit {0}
AreNumbered n (e ∷ es) = (e.number ≡ n) × AreNumbered (n + 1) es

numbered_more : (n : ℕ) (xs ys : List Envelope) → AreNumbered n xs → AreNumbered (n + length xs) ys
    → AreNumbered n (xs ++ ys)
numbered_more n [] ys first second = subst (λ (m : ℕ). AreNumbered m ys)
    (let same : n + length {A = Envelope} [] ≡ n = omega arith in same) second
numbered_more n (x ∷ xs) ys first second = (
  first.0,
  numbered_more (n + 1) xs ys first.1
      (subst (λ (m : ℕ). AreNumbered m ys) (let same : n + length (x ∷ xs) ≡ (n + 1) + length xs = omega arith in
      same) second),
)

envelopes_numbered : (a n : ℕ) (ps : List Posting) → AreNumbered n (envelopes a n ps)
envelopes_numbered a n [] = tt
envelopes_numbered a n (p ∷ ps) = (refl, envelopes_numbered a (n + 1) ps)

-- each has its place for its number

numbered_at : (n : ℕ) (es : List Envelope) (k : ℕ) (e : Envelope) → AreNumbered n es → slice_get es k ≡ Some e
    → e.number ≡ n + k
numbered_at n [] k e are is = absurd (let never : ⊥ = cc in never)
numbered_at n (x ∷ es) zero e are is =
    let same : x ≡ e = cc in
    let first : e.number ≡ n = ap (λ (v : Envelope). v.number) (sym same) ∙ are.0 in
    omega arith
numbered_at n (x ∷ es) (suc k) e are is = let more : e.number ≡ (n + 1) + k = numbered_at (n + 1) es k e are.1 is in
    omega arith

-- a step of the controller is no deed, and sends nothing

pub record IsSilent (step : Step) : Type 0 where
  pub sends : (a : ℕ) → envelope_at a step ≡ None
  pub deeds : (ms : List Envelope) → deed_at ms step ≡ []

pub control_silent : (line : Control) (step : Step) → step_of_control line ≡ Some step → IsSilent step
control_silent line step is =
    control_cases IsSilent (λ a b. record { sends = λ c. refl; deeds = λ ms. refl })
    (λ a b. record { sends = λ c. refl; deeds = λ ms. refl }) line step is

pub phase_silent : (k : ℕ) → IsSilent (steps.Phase k)
phase_silent k = record { sends = λ a. refl; deeds = λ ms. refl }

mail_one : (o : Option Envelope) → o ≡ None → (h : List Entry) (a : ℕ) (step : Step) → envelope_at a step ≡ o
    → mail (h ++ marked a step ∷ []) ≡ mail h
mail_one None none h a step is = mail-append h (marked a step ∷ [])
    ∙ ap (λ (v : List Envelope). mail h ++ v) (nothing is) ∙ append-nil (mail h)
  where
    nothing : envelope_at a step ≡ None → mail (marked a step ∷ []) ≡ []
    nothing e = rw e refl
mail_one (Some x) none h a step is = absurd (let never : ⊥ = cc in never)

pub mail-silent : (h : List Entry) (a : ℕ) (step : Step) → IsSilent step → mail (h ++ marked a step ∷ []) ≡ mail h
mail-silent h a step silent = mail_one None refl h a step (silent.sends a)

-- in each run

module _ (lawful : ℕ → List Deed → Turn → Type 0) (decl : Declaration) (script : Script) where
  pub run_numbered : (h : List Entry) (open_inputs : List Bool) → Runs lawful decl script h open_inputs
      → AreNumbered 0 (mail h)
  run_numbered h open_inputs begins = tt
  run_numbered h open_inputs (takes a given before older run free ready) =
      subst (AreNumbered 0) (sym (mail-taken older a given)) (run_numbered older before run)
  run_numbered h open_inputs (posts a turn before older run taken law) =
      subst (AreNumbered 0) (sym (mail-append older (by a (posted (length (mail older)) turn))
      ∙ ap (λ (v : List Envelope). mail older ++ v) (mail-posted a (length (mail older)) turn)))
      (numbered_more 0 (mail older) (envelopes a (length (mail older)) turn.sends) (run_numbered older before run)
      (subst (λ (m : ℕ). AreNumbered m (envelopes a (length (mail older)) turn.sends))
      (let same : length (mail older) ≡ 0 + length (mail older) = omega arith in same)
      (envelopes_numbered a (length (mail older)) turn.sends)))
  run_numbered h open_inputs (phase before older run none done quiet more) =
      subst (AreNumbered 0) (sym (mail-silent older (controller decl) (steps.Phase (phase_of older + 1))
      (phase_silent (phase_of older + 1)))) (run_numbered older before run)
  run_numbered h open_inputs (control line lines step before older run left is) =
      subst (AreNumbered 0) (sym (mail-silent older (controller decl) step (control_silent line step is)))
      (run_numbered older before run)

  -- the number of a message is its place
  pub messages_are_numbered_in_order : (h : List Entry) (open_inputs : List Bool)
      → Runs lawful decl script h open_inputs
      → (n : ℕ) (e : Envelope) → slice_get (mail h) n ≡ Some e → e.number ≡ n
  messages_are_numbered_in_order h open_inputs run n e is = let at : e.number ≡ 0 + n =
      numbered_at 0 (mail h) n e (run_numbered h open_inputs run) is in omega arith
