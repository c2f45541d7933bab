-- Steps that call nothing and begin no phase leave an inbox its commands, and bring it no control line.
use Rattle.std.proofs.Common.{[], ◌≡◌, ℕ, ◌+◌, ◌==◌, ◌&&◌, Bool, true, false, if◌then◌else◌, List, ◌∷◌, ◌++◌, drop}
use Rattle.std.proofs.Common.{Option, Some, None, refl, ap, ◌∙◌}
use Rattle.std.specs.Prelude.{set}
use Rattle.std.specs.List.{AllByRecursion as Every}
use Rattle.qc_link.specs.declared.rule.Fate.{Fate}
use Rattle.qc_msg.specs.declared.message.Envelope.{Envelope}
use Rattle.qc_msg.specs.declared.message.Message.{Message}
use Rattle.qc_msg.specs.declared.record.Record.{Record}
use Rattle.qc_msg.specs.declared.reply.Reply.{Reply}
use Rattle.qc_msg.specs.declared.step.Control.{Control}
use Rattle.qc_msg.specs.declared.step.Step.{Step}
use Rattle.qc_msg.specs.declared.step.Step.TheVariants as steps
use Rattle.qc_msg.specs.declared.turn.Appended.{Appended}
use Rattle.qc_msg.specs.declared.turn.Appended.TheVariants.{Done, Failed, Stopped}
use Rattle.qc_msg.specs.declared.turn.Posting.{Posting}
use Rattle.qc_msg.specs.declared.turn.Turn.{Turn}
use Rattle.qc_msg.specs.Vocabulary.{Entry, by, fell, posted_as, sents, told, wrote, Answered, answer_in}
use Rattle.qc_script.specs.Vocabulary.{Inbox, acting, actor_fell, answers_by, comes, comes_at_once, control_acted}
use Rattle.qc_script.specs.Vocabulary.{controller_step, copy_taken, emptied, goes, goes_with, has_request, inbox_at}
use Rattle.qc_script.specs.Vocabulary.{is_by_line, is_request, is_up, loss_taken, opened, opened_by, reply_told}
use Rattle.qc_script.specs.Vocabulary.{requests_to, requests_to_others, with_copies, with_lost, request_answered}
use Rattle.qc_script.specs.declared.script.Script.{Script}
use Rattle.laws_turns.proofs.StepCases.{controller_cases}
use Rattle.laws_turns.proofs.ReadingCases.{mapped}
use Rattle.laws_due.proofs.InboxCases.{inbox_cases}

abbrev pub IsPlain : Step → Type 0
IsPlain (steps.Phase k) = ⊥
IsPlain (steps.Cut x y) = Unit {0}
IsPlain (steps.Heal x y) = Unit {0}
IsPlain (steps.Armed actor kind at) = Unit {0}
IsPlain (steps.Called command) = ⊥
IsPlain (steps.Got n) = Unit {0}
IsPlain (steps.Lost n) = Unit {0}
IsPlain (steps.Wrote written) = Unit {0}
IsPlain (steps.Sent n to message) = Unit {0}
IsPlain (steps.Told reply) = Unit {0}
IsPlain (steps.Fell cause pending) = Unit {0}
IsPlain (steps.Rose records) = Unit {0}
IsPlain (steps.Damaged offset) = Unit {0}

abbrev pub ArePlain : List Entry → Type 0
ArePlain k = Every (λ (e : Entry). IsPlain e.step) k

-- posts and lines

sents_plain : (a n : ℕ) (ps : List Posting) (rest : List Step) → ArePlain (by a rest)
    → ArePlain (by a (sents n ps ++ rest))
sents_plain a n [] rest after = after
sents_plain a n (p ∷ ps) rest after = (tt, sents_plain a (n + 1) ps rest after)

told_plain : (a : ℕ) (reply : Option Reply) (rest : List Step) → ArePlain (by a rest)
    → ArePlain (by a (told reply ++ rest))
told_plain a None rest after = after
told_plain a (Some reply) rest after = (tt, after)

last_plain : (a : ℕ) (reply : Option Reply) → ArePlain (by a (told reply))
last_plain a None = tt
last_plain a (Some reply) = (tt, tt)

pub post_plain : (a n : ℕ) (end : Appended) (t : Turn) → ArePlain (by a (posted_as end n t))
post_plain a n Done t = at t.write
  where
    at : (w : Option Record) → ArePlain (by a (wrote w ++ (sents n t.sends ++ told t.told)))
    at None = sents_plain a n t.sends (told t.told) (last_plain a t.told)
    at (Some written) = (tt, sents_plain a n t.sends (told t.told) (last_plain a t.told))
post_plain a n Failed t =
    sents_plain a n t.failed_sends (told t.failed_told ++ fell _ t.write)
    (told_plain a t.failed_told (fell _ t.write) (tt, tt))
post_plain a n Stopped t = told_plain a t.failed_told (fell _ t.write) (tt, tt)

pub line_plain : (line : Control) (step : Step) → controller_step line ≡ Some step → IsPlain step
line_plain line step is = controller_cases IsPlain (λ x y. tt) (λ x y. tt) (λ x. tt) line step is

-- an inbox: its commands stay, and no control line comes

pub record Leaves (i j : Inbox) : Type 0 where
  pub commands : j.commands ≡ i.commands
  pub controls : i.controls ≡ [] → j.controls ≡ []

pub same_left : (i j : Inbox) → j.commands ≡ i.commands → j.controls ≡ i.controls → Leaves i j
same_left i j cs ls = record { commands = cs; controls = λ none. ls ∙ none }

left_if : (t : Bool) (i j k : Inbox) → Leaves i j → Leaves i k → Leaves i (if t then j else k)
left_if true i j k here there = here
left_if false i j k here there = there

pub left_then : (i j k : Inbox) → Leaves i j → Leaves j k → Leaves i k
left_then i j k first next =
    record { commands = next.commands ∙ first.commands; controls = λ none. next.controls (first.controls none) }

opened_by_left : (a : ℕ) (lines : List Control) (i : Inbox) → Leaves i (opened_by a lines i)
opened_by_left a [] i = same_left i (opened_by a [] i) refl refl
opened_by_left a (line ∷ lines) i = same_left i i refl refl

pub opened_left : (a : ℕ) (i : Inbox) → Leaves i (opened a i)
opened_left a i =
    let lined : Inbox = record i { controls = acting i.up i.controls } in
    left_then i lined (opened a i) (record { commands = refl; controls = λ none. ap (acting i.up) none })
    (opened_by_left a (acting i.up i.controls) lined)

acted_left : (a : ℕ) (i : Inbox) → Leaves i (control_acted a i)
acted_left a i =
    let less : Inbox = record i { controls = drop 1 i.controls } in
    left_then i less (control_acted a i) (record { commands = refl; controls = λ none. ap (drop 1) none })
    (opened_left a less)

answers_left : (i : Inbox) (m : Message) (f : Fate) → Leaves i (answers_by i m f)
answers_left i m f =
    mapped (Leaves i) (λ (a : Answered). request_answered i a.to f) i (answer_in m)
    (λ a. left_if (has_request i.unanswered a.to) i _ i (same_left i _ refl refl) (same_left i i refl refl))
    (same_left i i refl refl)

goes_left : (i : Inbox) (e : Envelope) (f : Fate) → Leaves i (goes_with i e f)
goes_left i e f =
    left_if (is_request e.message) i _ _
    (left_if (comes_at_once f && is_up i.up e.to) i _ _ (same_left i _ refl refl) (same_left i _ refl refl))
    (same_left i _ refl refl)

sent_left : (script : Script) (a : ℕ) (i : Inbox) (e : Envelope)
    → Leaves i (goes script.links a (comes script.links a i e) e)
sent_left script a i e =
    left_then i (comes script.links a i e) (goes script.links a (comes script.links a i e) e) came
    (left_if (e.from == a) (comes script.links a i e) _ (comes script.links a i e)
    (goes_left (comes script.links a i e) e _)
    (same_left (comes script.links a i e) (comes script.links a i e) refl refl))
  where
    came : Leaves i (comes script.links a i e)
    came =
        left_if (e.to == a) i _ i
        (left_then i (with_copies (is_up i.up a) i e _) _ (same_left i _ refl refl)
        (answers_left (with_copies (is_up i.up a) i e _) e.message _)) (same_left i i refl refl)

emptied_left : (t : Bool) (i : Inbox) → Leaves i (emptied t i)
emptied_left true i = same_left i (emptied true i) refl refl
emptied_left false i = same_left i i refl refl

fell_left : (a : ℕ) (i : Inbox) (r : ℕ) → Leaves i (actor_fell a i r)
fell_left a i r =
    let less : Inbox =
    record i {
      up = set i.up r false;
      unanswered = requests_to_others r i.unanswered;
      lost = with_lost (requests_to r i.unanswered) i.lost;
    } in
    left_then i less (actor_fell a i r) (same_left i less refl refl) (emptied_left (r == a) less)

pub step_left : (script : Script) (a : ℕ) (i : Inbox) (b : ℕ) (step : Step) → IsPlain step
    → Leaves i (inbox_at script a i b step)
step_left script a i b step is =
    inbox_cases script a i b (λ (s : Step) (j : Inbox). IsPlain s → Leaves i j) (λ k never. absurd never)
    (λ s cuts plain. left_then i (record i { cuts = cuts }) _ (same_left i _ refl refl)
    (acted_left a (record i { cuts = cuts })))
    (λ command never. absurd never)
    (λ n plain. left_if (b == a) i (copy_taken i) i (same_left i (copy_taken i) refl refl) (same_left i i refl refl))
    (λ n plain. left_if (b == a) i (loss_taken i) i (same_left i (loss_taken i) refl refl) (same_left i i refl refl))
    (λ written plain. left_if (is_up i.up b) i i _ (same_left i i refl refl)
    (left_then i (record i { up = set i.up b true }) _ (same_left i _ refl refl)
    (acted_left a (record i { up = set i.up b true }))))
    (λ n to message plain. sent_left script a i (record { number = n; from = b; to = to; message = message }))
    (λ reply plain. left_if (b == a) i (reply_told i) i (same_left i (reply_told i) refl refl)
    (same_left i i refl refl))
    (λ cause pending plain. left_if (is_by_line (is_up i.up b) cause) i (control_acted a (actor_fell a i b))
    (actor_fell a i b)
    (left_then i (actor_fell a i b) (control_acted a (actor_fell a i b)) (fell_left a i b)
    (acted_left a (actor_fell a i b))) (fell_left a i b))
    (λ records plain. same_left i i refl refl) step is
