-- Every copy in an inbox is a message that was sent, under its number, to the inbox's actor; so what is ready for an
-- actor was sent to it.
use Rattle.std.proofs.Common.{[], ◌≡◌, ℕ, ◌+◌, ◌-◌, ◌==◌, ◌&&◌, not, Bool, true, false, cond, if◌then◌else◌, List, ◌∷◌}
use Rattle.std.proofs.Common.{◌++◌, length, Option, Some, None, slice_get, sym, ap, ◌∙◌, subst, arith}
use Rattle.std.specs.Prelude.{option_to_list, set, MatchOption, option_and_then}
use Rattle.std.specs.List.{cons_option, fold}
use Rattle.std.proofs.lemmas.List.{append-nil}
use Rattle.qc_decl.specs.declared.declaration.Declaration.{Declaration}
use Rattle.qc_link.specs.Vocabulary.{with_cut, without_cut}
use Rattle.qc_msg.specs.declared.message.Envelope.{Envelope}
use Rattle.qc_msg.specs.declared.step.Command.{Command}
use Rattle.qc_msg.specs.declared.step.Control.{Control}
use Rattle.qc_msg.specs.declared.step.Input.{Input}
use Rattle.qc_msg.specs.declared.step.Input.TheVariants as inputs
use Rattle.qc_msg.specs.declared.step.Step.{Step}
use Rattle.qc_msg.specs.declared.step.Step.TheVariants as steps
use Rattle.qc_msg.specs.declared.turn.Turn.{Turn}
use Rattle.qc_msg.specs.Vocabulary.{Deed, Entry, WasSentTo, envelope_of, mail, marked, Mailed, mailed_in}
use Rattle.qc_script.specs.declared.script.Script.{Script}
use Rattle.qc_msg.specs.declared.step.Fall.{Fall}
use Rattle.qc_script.specs.Vocabulary.{Inbox, Runs, actor_fell, after_controls, comes, command_called, command_in}
use Rattle.qc_script.specs.Vocabulary.{control_acted, copy_taken, emptied, empty_inbox, fell_by, first_command}
use Rattle.qc_script.specs.Vocabulary.{first_copy, first_lost, inbox, inbox_at, is_by_line, is_up, loss_taken, ready}
use Rattle.qc_script.specs.Vocabulary.{ready_in, reply_told, requests_to, requests_to_others, takes_commands, with_lost}
use Rattle.qc_script.specs.Vocabulary.{wrote_record}
use Rattle.laws_turns.proofs.Numbered.{AreNumbered, run_numbered}
use Rattle.laws_turns.proofs.Places.{slice_get-last}
use Rattle.laws_turns.proofs.ArrivedMail.{AreMail, mail_left, Arrived, arrived_more, arrived_if, arrived_comes}
use Rattle.laws_turns.proofs.ArrivedMail.{arrived_goes, arrived_phase, arrived_acted, arrived_controls}
use Rattle.qc_mailbox.proofs.Among.{mail_cons}

-- an actor falls, and one rises

arrived_emptied : (a : ℕ) (ms : List Envelope) (t : Bool) (i : Inbox) → Arrived a ms i → Arrived a ms (emptied t i)
arrived_emptied a ms true i r = record { copies = tt; opening = r.opening; late = r.late }
arrived_emptied a ms false i r = r

arrived_fallen : (a : ℕ) (ms : List Envelope) (i : Inbox) (b : ℕ) → Arrived a ms i → Arrived a ms (actor_fell a i b)
arrived_fallen a ms i b r =
    arrived_emptied a ms (b == a)
    (record i {
      up = set i.up b false;
      unanswered = requests_to_others b i.unanswered;
      lost = with_lost (requests_to b i.unanswered) i.lost;
    })
    (record { copies = r.copies; opening = r.opening; late = r.late })

arrived_fell : (a : ℕ) (ms : List Envelope) (i : Inbox) (b : ℕ) (cause : Fall) → Arrived a ms i
    → Arrived a ms (fell_by a i b cause)
arrived_fell a ms i b cause r =
    arrived_if a ms (is_by_line (is_up i.up b) cause) (control_acted a (actor_fell a i b)) (actor_fell a i b)
    (arrived_acted a ms (actor_fell a i b) (arrived_fallen a ms i b r)) (arrived_fallen a ms i b r)

arrived_wrote : (a : ℕ) (ms : List Envelope) (i : Inbox) (b : ℕ) → Arrived a ms i → Arrived a ms (wrote_record a i b)
arrived_wrote a ms i b r =
    arrived_if a ms (is_up i.up b) i _ r
    (arrived_acted a ms (record i { up = set i.up b true })
    (record { copies = r.copies; opening = r.opening; late = r.late }))

-- the next message has the next number

abbrev IsNext : List Envelope → Step → Type 0
IsNext ms step = MatchOption (mailed_in step) (Unit {0}) (λ (m : Mailed). m.number ≡ length ms)

arrived_step : (script : Script) (a : ℕ) (ms : List Envelope) (i : Inbox) (b : ℕ) (step : Step) → Arrived a ms i
    → IsNext ms step → Arrived a (ms ++ option_to_list (envelope_of (marked b step))) (inbox_at script a i b step)
arrived_step script a ms i b (steps.Phase k) r next =
    arrived_more a ms [] (inbox_at script a i b (steps.Phase k))
    (arrived_phase a ms i (slice_get script.phases (k - 1)) r)
arrived_step script a ms i b (steps.Cut x y) r next =
    arrived_more a ms [] (inbox_at script a i b (steps.Cut x y)) (arrived_controls a ms i (with_cut i.cuts x y) r)
arrived_step script a ms i b (steps.Heal x y) r next =
    arrived_more a ms [] (inbox_at script a i b (steps.Heal x y)) (arrived_controls a ms i (without_cut i.cuts x y) r)
arrived_step script a ms i b (steps.Armed actor kind at) r next =
    arrived_more a ms [] (control_acted a i) (arrived_acted a ms i r)
arrived_step script a ms i b (steps.Called command) r next =
    arrived_more a ms [] (if b == a then command_called i else i)
    (arrived_if a ms (b == a) (command_called i) i
    (record { copies = r.copies; opening = r.opening; late = r.late }) r)
arrived_step script a ms i b (steps.Got n) r next =
    arrived_more a ms [] (if b == a then copy_taken i else i)
    (arrived_if a ms (b == a) (copy_taken i) i
    (record { copies = mail_left a ms i.copies r.copies; opening = r.opening; late = r.late }) r)
arrived_step script a ms i b (steps.Lost n) r next =
    arrived_more a ms [] (if b == a then loss_taken i else i)
    (arrived_if a ms (b == a) (loss_taken i) i (record { copies = r.copies; opening = r.opening; late = r.late }) r)
arrived_step script a ms i b (steps.Wrote written) r next =
    arrived_more a ms [] (wrote_record a i b) (arrived_wrote a ms i b r)
arrived_step script a ms i b (steps.Sent n to message) r next =
    let e : Envelope = record { number = n; from = b; to = to; message = message } in
    let there : slice_get (ms ++ e ∷ []) n ≡ Some e =
    ap (λ (k : ℕ). slice_get (ms ++ record { number = n; from = b; to = to; message = message } ∷ []) k) next
    ∙ slice_get-last ms (record { number = n; from = b; to = to; message = message }) in
    arrived_goes script a (ms ++ e ∷ []) (comes script.links a i e) e
    (arrived_comes script a (ms ++ e ∷ []) i e (arrived_more a ms (e ∷ []) i r) there)
arrived_step script a ms i b (steps.Told reply) r next =
    arrived_more a ms [] (if b == a then reply_told i else i)
    (arrived_if a ms (b == a) (reply_told i) i (record { copies = r.copies; opening = r.opening; late = r.late }) r)
arrived_step script a ms i b (steps.Fell cause pending) r next =
    arrived_more a ms [] (fell_by a i b cause) (arrived_fell a ms i b cause r)
arrived_step script a ms i b (steps.Rose records) r next = arrived_more a ms [] i r
arrived_step script a ms i b (steps.Damaged offset) r next =
    arrived_more a ms [] (control_acted a i) (arrived_acted a ms i r)

next_of : (ms : List Envelope) (b : ℕ) (step : Step) (more : List Envelope)
    → AreNumbered (length ms) (cons_option (envelope_of (marked b step)) more) → IsNext ms step
next_of ms b step more are =
    by (mailed_in step) are
  where
    by : (o : Option Mailed)
        → AreNumbered (length ms) (cons_option (option_and_then (λ (m : Mailed).
        Some (record { number = m.number; from = b; to = m.to; message = m.message })) o) more)
        → MatchOption o (Unit {0}) (λ (m : Mailed). m.number ≡ length ms)
    by None are = tt
    by (Some m) are = are.0

-- over a history, from any inbox

numbered_rest : (ms : List Envelope) (o : Option Envelope) (more : List Envelope)
    → AreNumbered (length ms) (cons_option o more) → AreNumbered (length (ms ++ option_to_list o)) more
numbered_rest ms None more are = subst (λ (v : List Envelope). AreNumbered (length v) more) (sym (append-nil ms)) are
numbered_rest ms (Some e) more are = subst (λ (n : ℕ). AreNumbered n more) (sym (longer ms)) are.1
  where
    longer : (es : List Envelope) → length (es ++ e ∷ []) ≡ length es + 1
    longer [] = omega arith
    longer (x ∷ es) = let more : length (es ++ e ∷ []) ≡ length es + 1 = longer es in omega arith

arrived_all : (script : Script) (a : ℕ) (h : List Entry) (ms : List Envelope) (i : Inbox) → Arrived a ms i
    → AreNumbered (length ms) (mail h)
    → Arrived a (ms ++ mail h) (fold (λ (i : Inbox) (e : Entry). inbox_at script a i e.actor e.step) i h)
arrived_all script a [] ms i r are = arrived_more a ms [] i r
arrived_all script a (e ∷ h) ms i r are =
    subst (λ (v : List Envelope). Arrived a v
    (fold (λ (i : Inbox) (x : Entry). inbox_at script a i x.actor x.step) (inbox_at script a i e.actor e.step) h))
    (mail_cons ms (envelope_of e) (mail h))
    (arrived_all script a h (ms ++ option_to_list (envelope_of e)) (inbox_at script a i e.actor e.step)
    (arrived_step script a ms i e.actor e.step r (next_of ms e.actor e.step (mail h) are))
    (numbered_rest ms (envelope_of e) (mail h) are))

-- what is ready was sent

lost_was_sent : (a : ℕ) (ms : List Envelope) (losts : List ℕ) (other : Option Input) (taken : Input)
    → (other ≡ Some taken → WasSentTo a ms taken) → first_lost losts other ≡ Some taken → WasSentTo a ms taken
lost_was_sent a ms [] other taken later is = later is
lost_was_sent a ms (n ∷ losts) other taken later is =
    subst (WasSentTo a ms) (let same : inputs.Lost n ≡ taken = cc in same) tt

command_was_sent : (a : ℕ) (ms : List Envelope) (t : Bool) (commands : List Command) (taken : Input)
    → cond t (first_command commands) None ≡ Some taken → WasSentTo a ms taken
command_was_sent a ms true [] taken is = absurd (let never : ⊥ = cc in never)
command_was_sent a ms true (c ∷ commands) taken is =
    subst (WasSentTo a ms) (let same : inputs.Called c ≡ taken = cc in same) tt
command_was_sent a ms false commands taken is = absurd (let never : ⊥ = cc in never)

copy_was_sent : (a : ℕ) (ms es : List Envelope) (other : Option Input) (taken : Input) → AreMail a ms es
    → (other ≡ Some taken → WasSentTo a ms taken) → first_copy es other ≡ Some taken → WasSentTo a ms taken
copy_was_sent a ms [] other taken are later is = later is
copy_was_sent a ms (e ∷ es) other taken are later is =
    subst (WasSentTo a ms) (let same : inputs.Got e ≡ taken = cc in same) are.0

pub ready_was_sent : (decl : Declaration) (a : ℕ) (ms : List Envelope) (i : Inbox) (taken : Input) → Arrived a ms i
    → ready_in decl a i ≡ Some taken → WasSentTo a ms taken
ready_was_sent decl a ms i taken r is = by i.controls is
  where
    by : (lines : List Control)
        → after_controls lines (first_copy i.copies (first_lost i.lost (command_in decl a i))) ≡ Some taken
        → WasSentTo a ms taken
    by [] e =
        copy_was_sent a ms i.copies (first_lost i.lost (command_in decl a i)) taken r.copies
        (lost_was_sent a ms i.lost (command_in decl a i) taken
        (command_was_sent a ms (takes_commands decl a && not i.busy) i.commands taken)) e
    by (line ∷ lines) e = absurd (let never : ⊥ = cc in never)

-- in each run

module _ (lawful : ℕ → List Deed → Turn → Type 0) (decl : Declaration) (script : Script) where
  pub run_arrived : (h : List Entry) (open_inputs : List Bool) → Runs lawful decl script h open_inputs → (a : ℕ)
      → Arrived a (mail h) (inbox script a h)
  run_arrived h open_inputs run a =
      arrived_all script a h [] empty_inbox (record { copies = tt; opening = tt; late = tt })
      (run_numbered lawful decl script h open_inputs run)

  pub what_is_ready_was_sent : (h : List Entry) (open_inputs : List Bool) → Runs lawful decl script h open_inputs
      → (a : ℕ) (taken : Input) → ready decl script a h ≡ Some taken → WasSentTo a (mail h) taken
  what_is_ready_was_sent h open_inputs run a taken is =
      ready_was_sent decl a (mail h) (inbox script a h) taken (run_arrived h open_inputs run a) is
