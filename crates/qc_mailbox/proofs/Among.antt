-- What waits for an actor was sent to it.
use Rattle.std.proofs.Common.{[], ◌≡◌, ℕ, zero, suc, ◌+◌, ◌-◌, ◌<◌, ◌==◌, ◌&&◌, Bool, true, false, cond, not, List, ◌∷◌}
use Rattle.std.proofs.Common.{◌++◌, Option, Some, None, inl, inr, option_to_list, ap, sym, subst, ◌∙◌, append_assoc}
use Rattle.std.specs.Prelude.{drop, set, slice_get}
use Rattle.std.specs.List.{AllByRecursion as Every, cons_option, fold}
use Rattle.std.proofs.lemmas.List.{append-nil}
use Rattle.qc_decl.specs.declared.declaration.Declaration.{Declaration}
use Rattle.qc_link.specs.Vocabulary.{most_actors, with_cut, without_cut}
use Rattle.qc_list.specs.Vocabulary.{In}
use Rattle.qc_list.proofs.Members.{every-at, every-weaker}
use Rattle.qc_msg.specs.declared.message.Envelope.{Envelope}
use Rattle.qc_msg.specs.declared.step.Command.{Command}
use Rattle.qc_msg.specs.declared.step.Control.{Control}
use Rattle.qc_msg.specs.declared.step.Input.{Input}
use Rattle.qc_msg.specs.declared.step.Input.TheVariants as inputs
use Rattle.qc_msg.specs.declared.step.Step.{Step}
use Rattle.qc_msg.specs.declared.step.Step.TheVariants as steps
use Rattle.qc_msg.specs.Vocabulary.{Entry, WasSentTo, envelope_at, envelope_of, mail}
use Rattle.qc_msg.specs.declared.step.Fall.{Fall}
use Rattle.qc_script.specs.Vocabulary.{Inbox, actor_fell, command_called, control_acted, copy_taken, emptied}
use Rattle.qc_script.specs.Vocabulary.{empty_inbox, fell_by, inbox, inbox_at, is_by_line, is_up, loss_taken, ready_in}
use Rattle.qc_script.specs.Vocabulary.{reply_told, requests_to, requests_to_others, takes_commands, with_lost}
use Rattle.qc_script.specs.Vocabulary.{wrote_record}
use Rattle.qc_script.specs.Ready as ready
use Rattle.qc_script.specs.declared.script.Script.{Script}
use Rattle.qc_mailbox.specs.Vocabulary.{AreNumbered, Inboxes, IsKept}
use Rattle.qc_mailbox.proofs.AmongSteps.{IsSentTo, Waits, waits_more, sends_wait, begun_wait, acted_wait}
use Rattle.qc_script.proofs.InboxesSend.{by_test}

-- what a fall leaves
fell_wait : (ms : List Envelope) (a : ℕ) (i : Inbox) (r : ℕ) → Waits ms a i → Waits ms a (actor_fell a i r)
fell_wait ms a i r waits = by (r == a)
  where
    by : (t : Bool)
        → Waits ms a
        (emptied t
        (record i {
          up = set i.up r false;
          unanswered = requests_to_others r i.unanswered;
          lost = with_lost (requests_to r i.unanswered) i.lost;
        }))
    by true = record { copies = tt; opening = waits.opening; late = waits.late }
    by false = record { copies = waits.copies; opening = waits.opening; late = waits.late }

fell_by_waits : (ms : List Envelope) (a : ℕ) (i : Inbox) (r : ℕ) (cause : Fall) → Waits ms a i
    → Waits ms a (fell_by a i r cause)
fell_by_waits ms a i r cause waits =
    by_test (Waits ms a) (is_by_line (is_up i.up r) cause) (control_acted a (actor_fell a i r)) (actor_fell a i r)
    (acted_wait ms a _ (fell_wait ms a i r waits)) (fell_wait ms a i r waits)

wrote_waits : (ms : List Envelope) (a : ℕ) (i : Inbox) (r : ℕ) → Waits ms a i → Waits ms a (wrote_record a i r)
wrote_waits ms a i r waits =
    by_test (Waits ms a) (is_up i.up r) i _ waits
    (acted_wait ms a (record i { up = set i.up r true })
    (record { copies = waits.copies; opening = waits.opening; late = waits.late }))

every_drop : (P : Envelope → Type 0) (es : List Envelope) → Every P es → Every P (drop 1 es)
every_drop P [] every = tt
every_drop P (e ∷ es) every = every.1

nothing : (ms : List Envelope) (a : ℕ) (i : Inbox) → Waits ms a i → Waits (ms ++ []) a i
nothing ms a i waits = waits_more ms [] a i waits

step_waits : (script : Script) (ms : List Envelope) (a : ℕ) (i : Inbox) (by : ℕ) (step : Step) → Waits ms a i
    → Waits (ms ++ option_to_list (envelope_at by step)) a (inbox_at script a i by step)
step_waits script ms a i by (steps.Phase k) waits =
    nothing ms a _ (begun_wait ms a i (slice_get script.phases (k - 1)) waits)
step_waits script ms a i by (steps.Cut x y) waits =
    nothing ms a _
    (acted_wait ms a (record i { cuts = with_cut i.cuts x y })
    (record { copies = waits.copies; opening = waits.opening; late = waits.late }))
step_waits script ms a i by (steps.Heal x y) waits =
    nothing ms a _
    (acted_wait ms a (record i { cuts = without_cut i.cuts x y })
    (record { copies = waits.copies; opening = waits.opening; late = waits.late }))
step_waits script ms a i by (steps.Armed actor kind at) waits = nothing ms a _ (acted_wait ms a i waits)
step_waits script ms a i by (steps.Called command) waits =
    nothing ms a _
    (by_test (Waits ms a) (by == a) (command_called i) i
    (record { copies = waits.copies; opening = waits.opening; late = waits.late }) waits)
step_waits script ms a i by (steps.Got n) waits =
    nothing ms a _
    (by_test (Waits ms a) (by == a) (copy_taken i) i
    (record {
      copies = every_drop (IsSentTo ms a) i.copies waits.copies;
      opening = waits.opening;
      late = waits.late;
    }) waits)
step_waits script ms a i by (steps.Lost n) waits =
    nothing ms a _
    (by_test (Waits ms a) (by == a) (loss_taken i) i
    (record { copies = waits.copies; opening = waits.opening; late = waits.late }) waits)
step_waits script ms a i by (steps.Wrote written) waits = nothing ms a _ (wrote_waits ms a i by waits)
step_waits script ms a i by (steps.Sent n to message) waits =
    sends_wait script.links ms a i (record { number = n; from = by; to = to; message = message }) waits
step_waits script ms a i by (steps.Told reply) waits =
    nothing ms a _
    (by_test (Waits ms a) (by == a) (reply_told i) i
    (record { copies = waits.copies; opening = waits.opening; late = waits.late }) waits)
step_waits script ms a i by (steps.Fell cause pending) waits = nothing ms a _ (fell_by_waits ms a i by cause waits)
step_waits script ms a i by (steps.Rose records) waits = nothing ms a i waits
step_waits script ms a i by (steps.Damaged offset) waits = nothing ms a _ (acted_wait ms a i waits)

pub mail_cons : (ms : List Envelope) (o : Option Envelope) (ns : List Envelope)
    → (ms ++ option_to_list o) ++ ns ≡ ms ++ cons_option o ns
mail_cons ms None ns = ap (λ (x : List Envelope). x ++ ns) (append-nil ms)
mail_cons ms (Some e) ns = append_assoc ms (e ∷ []) ns

steps_wait : (script : Script) (a : ℕ) (h : List Entry) (ms : List Envelope) (i : Inbox) → Waits ms a i
    → Waits (ms ++ mail h) a (fold (λ (i : Inbox) (e : Entry). inbox_at script a i e.actor e.step) i h)
steps_wait script a [] ms i waits = nothing ms a i waits
steps_wait script a (e ∷ h) ms i waits =
    subst (λ (x : List Envelope). Waits x a
    (fold (λ (i : Inbox) (e : Entry). inbox_at script a i e.actor e.step) (inbox_at script a i e.actor e.step) h))
    (mail_cons ms (envelope_of e) (mail h))
    (steps_wait script a h (ms ++ option_to_list (envelope_of e)) (inbox_at script a i e.actor e.step)
    (step_waits script ms a i e.actor e.step waits))

inbox_waits : (script : Script) (a : ℕ) (h : List Entry) → Waits (mail h) a (inbox script a h)
inbox_waits script a h = steps_wait script a h [] empty_inbox (record { copies = tt; opening = tt; late = tt })

-- by their numbers

pub place_of : (e : Envelope) (ms : List Envelope) → In e ms → (n : ℕ) × (slice_get ms n ≡ Some e)
place_of e [] member = absurd member
place_of e (m ∷ ms) (inl same) = (zero, ap (λ (x : Envelope). Some x) (sym same))
place_of e (m ∷ ms) (inr later) =
    let found : (n : ℕ) × (slice_get ms n ≡ Some e) = place_of e ms later in (suc found.0, found.1)

found : (ms : List Envelope) (a : ℕ) (e : Envelope) → AreNumbered ms → IsSentTo ms a e → WasSentTo a ms (inputs.Got e)
found ms a e numbered sent =
    let at : (n : ℕ) × (slice_get ms n ≡ Some e) = place_of e ms sent.0 in
    (ap (λ (n : ℕ). slice_get ms n) (numbered at.0 e at.1) ∙ at.1, sent.1)

first_found : (decl : Declaration) (a : ℕ) (ms : List Envelope) (i : Inbox) (g : Input) → AreNumbered ms → Waits ms a i
    → ready_in decl a i ≡ Some g → WasSentTo a ms g
first_found decl a ms i g numbered waits is = controls i.controls is
  where
    command : (commands : List Command) → ready.first_command commands ≡ Some g → WasSentTo a ms g
    command [] is = absurd (let never : ⊥ = cc in never)
    command (c ∷ commands) is = let said : inputs.Called c ≡ g = cc in subst (λ (x : Input). WasSentTo a ms x) said tt

    allowed : (t : Bool) → cond t (ready.first_command i.commands) None ≡ Some g → WasSentTo a ms g
    allowed true is = command i.commands is
    allowed false is = absurd (let never : ⊥ = cc in never)

    loss : (ns : List ℕ)
        → ready.first_lost ns (cond (takes_commands decl a && not i.busy) (ready.first_command i.commands) None)
        ≡ Some g → WasSentTo a ms g
    loss [] is = allowed (takes_commands decl a && not i.busy) is
    loss (n ∷ ns) is = let said : inputs.Lost n ≡ g = cc in subst (λ (x : Input). WasSentTo a ms x) said tt

    copy : (es : List Envelope) → Every (IsSentTo ms a) es
        → ready.first_copy es
        (ready.first_lost i.lost (cond (takes_commands decl a && not i.busy) (ready.first_command i.commands) None))
        ≡ Some g → WasSentTo a ms g
    copy [] every is = loss i.lost is
    copy (e ∷ es) every is =
        let said : inputs.Got e ≡ g = cc in subst (λ (x : Input). WasSentTo a ms x) said (found ms a e numbered every.0)

    controls : (cs : List Control) → ready.after_controls cs
        (ready.first_copy i.copies
        (ready.first_lost i.lost (cond (takes_commands decl a && not i.busy) (ready.first_command i.commands) None)))
        ≡ Some g → WasSentTo a ms g
    controls [] is = copy i.copies waits.copies is
    controls (c ∷ cs) is = absurd (let never : ⊥ = cc in never)

pub sent_ready : (decl : Declaration) (script : Script) (h : List Entry) (a : ℕ) (g : Input) → AreNumbered (mail h)
    → ready.ready decl script a h ≡ Some g → WasSentTo a (mail h) g
sent_ready decl script h a g numbered ready_ =
    first_found decl a (mail h) (inbox script a h) g numbered (inbox_waits script a h) ready_

pub ready_messages_were_sent : (decl : Declaration) (script : Script) (h : List Entry) (kept : Inboxes) (a : ℕ)
    (g : Input)
    → IsKept script h kept → ready.ready decl script a h ≡ Some g → WasSentTo a (mail h) g
ready_messages_were_sent decl script h kept a g is ready_ =
    first_found decl a (mail h) (inbox script a h) g is.numbered (inbox_waits script a h) ready_

-- all that waits
pub waiting_messages_were_sent : (script : Script) (h : List Entry) (kept : Inboxes) (a : ℕ) → IsKept script h kept
    → Every (λ (e : Envelope). WasSentTo a (mail h) (inputs.Got e)) (inbox script a h).copies
waiting_messages_were_sent script h kept a is =
    every-weaker (IsSentTo (mail h) a) (λ (e : Envelope). WasSentTo a (mail h) (inputs.Got e))
    (λ e sent. found (mail h) a e is.numbered sent) (inbox script a h).copies (inbox_waits script a h).copies

-- who sent a message that is ready is an actor
pub ready_messages_have_senders : (decl : Declaration) (script : Script) (h : List Entry) (kept : Inboxes) (a : ℕ)
    (e : Envelope)
    → IsKept script h kept → ready.ready decl script a h ≡ Some (inputs.Got e)
    → e.from < most_actors
ready_messages_have_senders decl script h kept a e is ready_ =
    let at : WasSentTo a (mail h) (inputs.Got e) =
    ready_messages_were_sent decl script h kept a (inputs.Got e) is ready_ in
    (every-at (λ (x : Envelope). (x.from < most_actors) × (x.to < most_actors)) (mail h) e.number e is.ends at.0).0
