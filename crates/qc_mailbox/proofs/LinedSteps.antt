-- While a control line is left no input is open: steps of posts and inputs.
use Rattle.std.proofs.Common.{[], ◌≡◌, ℕ, ◌+◌, ◌-◌, ◌==◌, Bool, true, false, if◌then◌else◌, List, ◌∷◌, ◌++◌, length}
use Rattle.std.proofs.Common.{Option, Some, None, refl, ap, sym, subst, ◌∙◌}
use Rattle.std.specs.Prelude.{drop, set}
use Rattle.std.specs.List.{AllByRecursion as Every}
use Rattle.std.proofs.lemmas.List.{length-set}
use Rattle.qc_link.specs.Vocabulary.{most_actors}
use Rattle.qc_msg.specs.declared.record.Record.{Record}
use Rattle.qc_msg.specs.declared.reply.Reply.{Reply}
use Rattle.qc_msg.specs.declared.step.Control.{Control}
use Rattle.qc_msg.specs.declared.step.Control.TheVariants as controls
use Rattle.qc_msg.specs.declared.step.Input.{Input}
use Rattle.qc_msg.specs.declared.step.Input.TheVariants as given
use Rattle.qc_msg.specs.declared.step.Step.{Step}
use Rattle.qc_msg.specs.declared.step.Step.TheVariants as steps
use Rattle.qc_msg.specs.declared.turn.Appended.{Appended}
use Rattle.qc_msg.specs.declared.turn.Appended.TheVariants.{Done, Failed, Stopped}
use Rattle.qc_msg.specs.declared.turn.Posting.{Posting}
use Rattle.qc_msg.specs.declared.turn.Turn.{Turn}
use Rattle.qc_msg.specs.Vocabulary.{by, posted_as, sents, step_of, told, wrote}
use Rattle.qc_script.specs.Vocabulary.{Inbox, acting, actor_fell, command_called, control_acted, copy_taken, inbox_at}
use Rattle.qc_script.specs.Vocabulary.{is_by_line, is_up, loss_taken, reply_told}
use Rattle.qc_script.specs.declared.script.Script.{Script}
use Rattle.qc_script.proofs.InboxesSend.{sends_does}
use Rattle.qc_mailbox.proofs.Emptied.{acted_up, after, fell_controls, fell_up}
use Rattle.qc_mailbox.proofs.Standing.{ClosedWhile, IsSettled, opened_controls}

pub record Lined (inputs : List Bool) (i : Inbox) : Type 0 where
  pub long : length i.up ≡ most_actors
  pub settled : IsSettled i.up i.controls
  pub closed : ClosedWhile i.controls inputs

-- steps while no line is left: none is left then, and as many actors are known

pub record Calm (i j : Inbox) : Type 0 where
  pub long : length j.up ≡ length i.up
  pub left : i.controls ≡ [] → j.controls ≡ []

calm_same : (i j : Inbox) → j.up ≡ i.up → j.controls ≡ i.controls → Calm i j
calm_same i j up lines = record { long = ap (λ (v : List Bool). length v) up; left = λ none. lines ∙ none }

calm_if : (t : Bool) (i j k : Inbox) → Calm i j → Calm i k → Calm i (if t then j else k)
calm_if true i j k here there = here
calm_if false i j k here there = there

acted_calm : (b : ℕ) (i j : Inbox) → length j.up ≡ length i.up → (i.controls ≡ [] → j.controls ≡ [])
    → Calm i (control_acted b j)
acted_calm b i j long left = record {
  long = ap (λ (v : List Bool). length v) (acted_up b j) ∙ long;
  left =
      λ none. opened_controls b (record j { controls = drop 1 j.controls })
      ∙ ap (λ (lines : List Control). acting j.up (drop 1 lines)) (left none);
}

pub fell_calm : (b : ℕ) (i : Inbox) (r : ℕ) → Calm i (actor_fell b i r)
fell_calm b i r = record {
  long = ap (λ (v : List Bool). length v) (fell_up b i r) ∙ length-set i.up r false;
  left = λ none. fell_controls b i r ∙ none;
}

-- a step of a post, or an input
abbrev pub IsActors : Step → Type 0
IsActors (steps.Phase k) = ⊥
IsActors (steps.Cut x y) = ⊥
IsActors (steps.Heal x y) = ⊥
IsActors (steps.Armed actor kind at) = ⊥
IsActors (steps.Called command) = Unit {0}
IsActors (steps.Got n) = Unit {0}
IsActors (steps.Lost n) = Unit {0}
IsActors (steps.Wrote written) = Unit {0}
IsActors (steps.Sent n to message) = Unit {0}
IsActors (steps.Told reply) = Unit {0}
IsActors (steps.Fell cause pending) = Unit {0}
IsActors (steps.Rose records) = Unit {0}
IsActors (steps.Damaged offset) = ⊥

pub step_calm : (script : Script) (b : ℕ) (i : Inbox) (r : ℕ) (step : Step) → IsActors step
    → Calm i (inbox_at script b i r step)
step_calm script b i r (steps.Phase k) is = absurd is
step_calm script b i r (steps.Cut x y) is = absurd is
step_calm script b i r (steps.Heal x y) is = absurd is
step_calm script b i r (steps.Armed actor kind at) is = absurd is
step_calm script b i r (steps.Called command) is =
    calm_if (r == b) i (command_called i) i (calm_same i (command_called i) refl refl) (calm_same i i refl refl)
step_calm script b i r (steps.Got n) is =
    calm_if (r == b) i (copy_taken i) i (calm_same i (copy_taken i) refl refl) (calm_same i i refl refl)
step_calm script b i r (steps.Lost n) is =
    calm_if (r == b) i (loss_taken i) i (calm_same i (loss_taken i) refl refl) (calm_same i i refl refl)
step_calm script b i r (steps.Wrote written) is =
    calm_if (is_up i.up r) i i _ (calm_same i i refl refl)
    (acted_calm b i (record i { up = set i.up r true }) (length-set i.up r true) (λ none. none))
step_calm script b i r (steps.Sent n to message) is =
    calm_same i _ (sends_does script.links b i (record { number = n; from = r; to = to; message = message })).up
    (sends_does script.links b i (record { number = n; from = r; to = to; message = message })).controls
step_calm script b i r (steps.Told reply) is =
    calm_if (r == b) i (reply_told i) i (calm_same i (reply_told i) refl refl) (calm_same i i refl refl)
step_calm script b i r (steps.Fell cause pending) is =
    calm_if (is_by_line (is_up i.up r) cause) i (control_acted b (actor_fell b i r)) (actor_fell b i r)
    (acted_calm b i (actor_fell b i r) (fell_calm b i r).long (fell_calm b i r).left) (fell_calm b i r)
step_calm script b i r (steps.Rose records) is = calm_same i i refl refl
step_calm script b i r (steps.Damaged offset) is = absurd is

pub steps_calm : (script : Script) (b : ℕ) (i : Inbox) (r : ℕ) (xs : List Step) → Every IsActors xs
    → Calm i (after script b i (by r xs))
steps_calm script b i r [] are = calm_same i i refl refl
steps_calm script b i r (x ∷ xs) are =
    let first : Calm i (inbox_at script b i r x) = step_calm script b i r x are.0 in
    let rest : Calm (inbox_at script b i r x) (after script b (inbox_at script b i r x) (by r xs)) =
    steps_calm script b (inbox_at script b i r x) r xs are.1 in
    record { long = rest.long ∙ first.long; left = λ none. rest.left (first.left none) }

tells_actors : (reply : Option Reply) (xs : List Step) → Every IsActors xs → Every IsActors (told reply ++ xs)
tells_actors None xs are = are
tells_actors (Some reply) xs are = (tt, are)

sents_actors : (n : ℕ) (ps : List Posting) (xs : List Step) → Every IsActors xs → Every IsActors (sents n ps ++ xs)
sents_actors n [] xs are = are
sents_actors n (p ∷ ps) xs are = (tt, sents_actors (n + 1) ps xs are)

told_alone : (reply : Option Reply) → Every IsActors (told reply)
told_alone None = tt
told_alone (Some reply) = (tt, tt)

pub post_actors : (end : Appended) (n : ℕ) (turn : Turn) → Every IsActors (posted_as end n turn)
post_actors Done n turn = at turn.write
  where
    at : (w : Option Record) → Every IsActors (wrote w ++ (sents n turn.sends ++ told turn.told))
    at None = sents_actors n turn.sends (told turn.told) (told_alone turn.told)
    at (Some written) = (tt, sents_actors n turn.sends (told turn.told) (told_alone turn.told))
post_actors Failed n turn = sents_actors n turn.failed_sends _ (tells_actors turn.failed_told _ (tt, tt))
post_actors Stopped n turn = tells_actors turn.failed_told _ (tt, tt)

pub input_actors : (g : Input) → IsActors (step_of g)
input_actors (given.Called command) = tt
input_actors (given.Got envelope) = tt
input_actors (given.Lost number) = tt

-- an event in which no line is left

pub rests : (inputs : List Bool) (i j : Inbox) → length i.up ≡ most_actors → Calm i j → i.controls ≡ [] → Lined inputs j
rests inputs i j long calm none = record {
  long = calm.long ∙ long;
  settled = subst (λ (lines : List Control). IsSettled j.up lines) (sym (calm.left none)) tt;
  closed = subst (λ (lines : List Control). ClosedWhile lines inputs) (sym (calm.left none)) tt;
}
