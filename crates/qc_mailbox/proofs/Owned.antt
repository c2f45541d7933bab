-- What an actor may take as lost, and what it waits for, are requests that it sent itself.
use Rattle.std.proofs.Common.{[], ◌≡◌, ℕ, ◌+◌, ◌-◌, ◌==◌, ◌&&◌, Bool, true, false, cond, not, List, ◌∷◌, ◌++◌, Option}
use Rattle.std.proofs.Common.{Some, None, option_to_list, subst}
use Rattle.std.specs.Prelude.{drop, set, slice_get}
use Rattle.std.specs.List.{AllByRecursion as Every, fold}
use Rattle.std.specs.Option.{option_map_or}
use Rattle.qc_decl.specs.declared.declaration.Declaration.{Declaration}
use Rattle.qc_link.specs.Vocabulary.{with_cut, without_cut}
use Rattle.qc_msg.specs.declared.message.Envelope.{Envelope}
use Rattle.qc_msg.specs.declared.step.Command.{Command}
use Rattle.qc_msg.specs.declared.step.Control.{Control}
use Rattle.qc_msg.specs.declared.step.Fall.{Fall}
use Rattle.qc_msg.specs.declared.step.Input.TheVariants as inputs
use Rattle.qc_msg.specs.declared.step.Step.{Step}
use Rattle.qc_msg.specs.declared.step.Step.TheVariants as steps
use Rattle.qc_msg.specs.Vocabulary.{Entry, envelope_at, envelope_of, mail}
use Rattle.qc_script.specs.Vocabulary.{Inbox, SentRequest, acting, actor_fell, command_called, commands_for}
use Rattle.qc_script.specs.Vocabulary.{control_acted, copy_taken, emptied, empty_inbox, fell_by, inbox, inbox_at}
use Rattle.qc_script.specs.Vocabulary.{is_by_line, is_up, loss_taken, opened, opened_by, phase_begun, ready_in}
use Rattle.qc_script.specs.Vocabulary.{reply_told, requests_to, requests_to_others, takes_commands, with_lost}
use Rattle.qc_script.specs.Vocabulary.{wrote_record}
use Rattle.qc_script.specs.Ready as ready
use Rattle.qc_script.specs.declared.script.PhaseLines.{PhaseLines}
use Rattle.qc_script.specs.declared.script.Script.{Script}
use Rattle.qc_mailbox.specs.Vocabulary.{IsOwnRequest}
use Rattle.qc_mailbox.proofs.OwnMessages.{IsOwn, Owns, owns_if, owns_more, every_lost, every_drop, owns_message}
use Rattle.qc_mailbox.proofs.Among.{mail_cons}
use Rattle.qc_list.proofs.Members.{every-filter}

-- each step

owns_opened_by : (ms : List Envelope) (a : ℕ) (lines : List Control) (i : Inbox) → Owns ms a i
    → Owns ms a (opened_by a lines i)
owns_opened_by ms a [] i o = record { unanswered = o.unanswered; lost = o.lost }
owns_opened_by ms a (line ∷ lines) i o = o

owns_opened : (ms : List Envelope) (a : ℕ) (i : Inbox) → Owns ms a i → Owns ms a (opened a i)
owns_opened ms a i o =
    owns_opened_by ms a (acting i.up i.controls) (record i { controls = acting i.up i.controls })
    (record { unanswered = o.unanswered; lost = o.lost })

owns_acted : (ms : List Envelope) (a : ℕ) (i : Inbox) → Owns ms a i → Owns ms a (control_acted a i)
owns_acted ms a i o =
    owns_opened ms a (record i { controls = drop 1 i.controls }) (record { unanswered = o.unanswered; lost = o.lost })

owns_phase : (ms : List Envelope) (a : ℕ) (i : Inbox) (o : Option PhaseLines) → Owns ms a i
    → Owns ms a (option_map_or (phase_begun a i) o i)
owns_phase ms a i None o = o
owns_phase ms a i (Some p) o =
    owns_opened ms a
    (record i {
      opening = i.opening ++ i.late;
      late = [];
      controls = p.controls;
      commands = i.commands ++ commands_for a p.commands;
    }) (record { unanswered = o.unanswered; lost = o.lost })

owns_fallen : (ms : List Envelope) (a : ℕ) (i : Inbox) (r : ℕ) → Owns ms a i → Owns ms a (actor_fell a i r)
owns_fallen ms a i r o = at (r == a)
  where
    at : (t : Bool)
        → Owns ms a
        (emptied t
        (record i {
          up = set i.up r false;
          unanswered = requests_to_others r i.unanswered;
          lost = with_lost (requests_to r i.unanswered) i.lost;
        }))
    at true = record { unanswered = tt; lost = tt }
    at false = record {
      unanswered = every-filter (IsOwn ms a) _ i.unanswered o.unanswered;
      lost =
          every_lost (IsOwnRequest ms a) (requests_to r i.unanswered) i.lost
          (every-filter (IsOwn ms a) _ i.unanswered o.unanswered) o.lost;
    }

owns_fell : (ms : List Envelope) (a : ℕ) (i : Inbox) (r : ℕ) (cause : Fall) → Owns ms a i
    → Owns ms a (fell_by a i r cause)
owns_fell ms a i r cause o =
    owns_if ms a (is_by_line (is_up i.up r) cause) (control_acted a (actor_fell a i r)) (actor_fell a i r)
    (owns_acted ms a (actor_fell a i r) (owns_fallen ms a i r o)) (owns_fallen ms a i r o)

owns_wrote : (ms : List Envelope) (a : ℕ) (i : Inbox) (r : ℕ) → Owns ms a i → Owns ms a (wrote_record a i r)
owns_wrote ms a i r o =
    owns_if ms a (is_up i.up r) i _ o
    (owns_acted ms a (record i { up = set i.up r true }) (record { unanswered = o.unanswered; lost = o.lost }))

owns_step : (script : Script) (ms : List Envelope) (a : ℕ) (i : Inbox) (by : ℕ) (step : Step) → Owns ms a i
    → Owns (ms ++ option_to_list (envelope_at by step)) a (inbox_at script a i by step)
owns_step script ms a i by (steps.Phase k) o =
    owns_more ms [] a _ (owns_phase ms a i (slice_get script.phases (k - 1)) o)
owns_step script ms a i by (steps.Cut x y) o =
    owns_more ms [] a _
    (owns_acted ms a (record i { cuts = with_cut i.cuts x y }) (record { unanswered = o.unanswered; lost = o.lost }))
owns_step script ms a i by (steps.Heal x y) o =
    owns_more ms [] a _
    (owns_acted ms a (record i { cuts = without_cut i.cuts x y }) (record { unanswered = o.unanswered; lost = o.lost }))
owns_step script ms a i by (steps.Armed actor kind at) o = owns_more ms [] a _ (owns_acted ms a i o)
owns_step script ms a i by (steps.Called command) o =
    owns_more ms [] a _
    (owns_if ms a (by == a) (command_called i) i (record { unanswered = o.unanswered; lost = o.lost }) o)
owns_step script ms a i by (steps.Got n) o =
    owns_more ms [] a _
    (owns_if ms a (by == a) (copy_taken i) i (record { unanswered = o.unanswered; lost = o.lost }) o)
owns_step script ms a i by (steps.Lost n) o =
    owns_more ms [] a _
    (owns_if ms a (by == a) (loss_taken i) i
    (record { unanswered = o.unanswered; lost = every_drop (IsOwnRequest ms a) i.lost o.lost }) o)
owns_step script ms a i by (steps.Wrote written) o = owns_more ms [] a _ (owns_wrote ms a i by o)
owns_step script ms a i by (steps.Sent n to message) o =
    owns_message script.links ms a i (record { number = n; from = by; to = to; message = message }) o
owns_step script ms a i by (steps.Told reply) o =
    owns_more ms [] a _
    (owns_if ms a (by == a) (reply_told i) i (record { unanswered = o.unanswered; lost = o.lost }) o)
owns_step script ms a i by (steps.Fell cause pending) o = owns_more ms [] a _ (owns_fell ms a i by cause o)
owns_step script ms a i by (steps.Rose records) o = owns_more ms [] a i o
owns_step script ms a i by (steps.Damaged offset) o = owns_more ms [] a _ (owns_acted ms a i o)

owns_all : (script : Script) (a : ℕ) (h : List Entry) (ms : List Envelope) (i : Inbox) → Owns ms a i
    → Owns (ms ++ mail h) a (fold (λ (i : Inbox) (e : Entry). inbox_at script a i e.actor e.step) i h)
owns_all script a [] ms i o = owns_more ms [] a i o
owns_all script a (e ∷ h) ms i o =
    subst (λ (x : List Envelope). Owns x a
    (fold (λ (i : Inbox) (e : Entry). inbox_at script a i e.actor e.step) (inbox_at script a i e.actor e.step) h))
    (mail_cons ms (envelope_of e) (mail h))
    (owns_all script a h (ms ++ option_to_list (envelope_of e)) (inbox_at script a i e.actor e.step)
    (owns_step script ms a i e.actor e.step o))

inbox_owns : (script : Script) (a : ℕ) (h : List Entry) → Owns (mail h) a (inbox script a h)
inbox_owns script a h = owns_all script a h [] empty_inbox (record { unanswered = tt; lost = tt })

-- what is ready

first_lost_owned : (decl : Declaration) (a n : ℕ) (P : ℕ → Type 0) (i : Inbox) → Every P i.lost
    → ready_in decl a i ≡ Some (inputs.Lost n) → P n
first_lost_owned decl a n P i all is = controls i.controls is
  where
    command : (commands : List Command) → ready.first_command commands ≡ Some (inputs.Lost n) → P n
    command [] is = absurd (let never : ⊥ = cc in never)
    command (c ∷ commands) is = absurd (let never : ⊥ = cc in never)

    allowed : (t : Bool) → cond t (ready.first_command i.commands) None ≡ Some (inputs.Lost n) → P n
    allowed true is = command i.commands is
    allowed false is = absurd (let never : ⊥ = cc in never)

    loss : (ns : List ℕ) → Every P ns
        → ready.first_lost ns (cond (takes_commands decl a && not i.busy) (ready.first_command i.commands) None)
        ≡ Some (inputs.Lost n) → P n
    loss [] owned is = allowed (takes_commands decl a && not i.busy) is
    loss (m ∷ ns) owned is = let same : m ≡ n = cc in subst P same owned.0

    copy : (es : List Envelope)
        → ready.first_copy es
        (ready.first_lost i.lost (cond (takes_commands decl a && not i.busy) (ready.first_command i.commands) None))
        ≡ Some (inputs.Lost n) → P n
    copy [] is = loss i.lost all is
    copy (e ∷ es) is = absurd (let never : ⊥ = cc in never)

    controls : (cs : List Control) → ready.after_controls cs
        (ready.first_copy i.copies
        (ready.first_lost i.lost (cond (takes_commands decl a && not i.busy) (ready.first_command i.commands) None)))
        ≡ Some (inputs.Lost n) → P n
    controls [] is = copy i.copies is
    controls (c ∷ cs) is = absurd (let never : ⊥ = cc in never)

pub lost_is_own : (decl : Declaration) (script : Script) (h : List Entry) (a n : ℕ)
    → ready.ready decl script a h ≡ Some (inputs.Lost n) → IsOwnRequest (mail h) a n
lost_is_own decl script h a n is =
    first_lost_owned decl a n (IsOwnRequest (mail h) a) (inbox script a h) (inbox_owns script a h).lost is

pub unanswered_are_own : (script : Script) (h : List Entry) (a : ℕ)
    → Every (λ (r : SentRequest). IsOwnRequest (mail h) a r.number) (inbox script a h).unanswered
unanswered_are_own script h a = (inbox_owns script a h).unanswered
