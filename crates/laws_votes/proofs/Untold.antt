-- Entries that tell no reply.
use Rattle.std.proofs.Common.{◌≡◌, ◌+◌, ℕ, List, [], ◌∷◌, ◌++◌, inl, inr, Option, Some, None, refl, sym, ap, ◌∙◌, subst}
use Rattle.qc_list.specs.Vocabulary.{In}
use Rattle.qc_list.proofs.Members.{In-second}
use Rattle.qc_msg.specs.Vocabulary.{Entry, by, marked, sents, step_of}
use Rattle.qc_msg.specs.Steps as post
use Rattle.qc_msg.specs.declared.record.Record.{Record}
use Rattle.qc_msg.specs.declared.reply.Reply.{Reply}
use Rattle.qc_msg.specs.declared.step.Control.{Control}
use Rattle.qc_msg.specs.declared.step.Control.TheVariants as controls
use Rattle.qc_msg.specs.declared.step.Input.{Input}
use Rattle.qc_msg.specs.declared.step.Input.TheVariants as inputs
use Rattle.qc_msg.specs.declared.step.Step.{Step}
use Rattle.qc_msg.specs.declared.step.Step.TheVariants as steps
use Rattle.qc_msg.specs.declared.turn.Posting.{Posting}
use Rattle.qc_script.specs.Vocabulary.{controller_step}

-- the reply of a step that told one
abbrev pub reply_of : Step → Option Reply
reply_of (steps.Phase k) = None
reply_of (steps.Cut a b) = None
reply_of (steps.Heal a b) = None
reply_of (steps.Armed actor kind at) = None
reply_of (steps.Called command) = None
reply_of (steps.Got n) = None
reply_of (steps.Lost n) = None
reply_of (steps.Wrote w) = None
reply_of (steps.Sent n to message) = None
reply_of (steps.Told reply) = Some reply
reply_of (steps.Fell cause pending) = None
reply_of (steps.Rose w) = None
reply_of (steps.Damaged offset) = None

abbrev pub tells : ℕ → Reply → Entry
tells a reply = marked a (steps.Told reply)

-- entries that tell no reply

abbrev pub AreSilent : List Entry → Type 0
AreSilent k = (e : Entry) → In e k → reply_of e.step ≡ None

pub silent_none : (k : List Entry) → AreSilent k → (m : List Entry) (a : ℕ) (reply : Reply) (after : List Entry)
    → k ≡ m ++ tells a reply ∷ after → ⊥
silent_none k silent m a reply after is =
    let none : Some reply ≡ None = silent (tells a reply)
    (subst (In (tells a reply)) (sym is) (In-second (tells a reply) m (tells a reply ∷ after) (inl refl))) in
    let never : ⊥ = cc in
    never

pub silent_one : (e : Entry) → reply_of e.step ≡ None → AreSilent (e ∷ [])
silent_one e none x (inl same) = ap (λ (y : Entry). reply_of y.step) same ∙ none
silent_one e none x (inr never) = absurd never

pub silent_sents : (b n : ℕ) (ps : List Posting) → AreSilent (by b (sents n ps))
silent_sents b n [] e among = absurd among
silent_sents b n (p ∷ ps) e (inl same) = ap (λ (y : Entry). reply_of y.step) same
silent_sents b n (p ∷ ps) e (inr there) = silent_sents b (n + 1) ps e there

pub silent_written : (b n : ℕ) (w : Option Record) (ps : List Posting) → AreSilent (by b (post.wrote w ++ sents n ps))
silent_written b n None ps e among = silent_sents b n ps e among
silent_written b n (Some w) ps e (inl same) = ap (λ (y : Entry). reply_of y.step) same
silent_written b n (Some w) ps e (inr there) = silent_sents b n ps e there

pub silent_taken : (g : Input) → reply_of (step_of g) ≡ None
silent_taken (inputs.Called command) = refl
silent_taken (inputs.Got envelope) = refl
silent_taken (inputs.Lost number) = refl

pub silent_line : (line : Control) (step : Step) → controller_step line ≡ Some step → reply_of step ≡ None
silent_line (controls.Phase k) step is = absurd (let never : ⊥ = cc in never)
silent_line (controls.Cut a b) step is = ap reply_of (let same : step ≡ steps.Cut a b = cc in same)
silent_line (controls.Heal a b) step is = ap reply_of (let same : step ≡ steps.Heal a b = cc in same)
silent_line (controls.Armed actor kind at) step is =
    ap reply_of (let same : step ≡ steps.Armed actor kind at = cc in same)
silent_line (controls.Crash a) step is = absurd (let never : ⊥ = cc in never)
silent_line (controls.Restart a) step is = absurd (let never : ⊥ = cc in never)
