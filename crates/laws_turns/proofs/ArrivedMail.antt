-- Messages to an actor, as they come and go: each copy in its inbox was sent to it, under its number.
use Rattle.std.proofs.Common.{[], ◌≡◌, ℕ, ◌+◌, ◌==◌, ◌&&◌, Bool, true, false, if◌then◌else◌, List, ◌∷◌, ◌++◌}
use Rattle.std.proofs.Common.{Option, Some, None, slice_get, refl, eqb-true}
use Rattle.std.specs.Prelude.{drop}
use Rattle.std.specs.Option.{option_map_or}
use Rattle.qc_link.specs.Vocabulary.{fate}
use Rattle.qc_link.specs.declared.rule.Fate.{Fate}
use Rattle.qc_link.specs.declared.rule.Fate.TheVariants.{Pass, Drop, Twice, Late, Again}
use Rattle.qc_msg.specs.declared.message.Envelope.{Envelope}
use Rattle.qc_msg.specs.declared.message.Message.{Message}
use Rattle.qc_msg.specs.declared.step.Control.{Control}
use Rattle.qc_msg.specs.declared.step.Input.TheVariants as inputs
use Rattle.qc_msg.specs.Vocabulary.{WasSentTo, Answered, answer_in}
use Rattle.qc_script.specs.declared.script.PhaseLines.{PhaseLines}
use Rattle.qc_script.specs.declared.script.Script.{Script}
use Rattle.qc_script.specs.Vocabulary.{Inbox, acting, answers_by, comes, comes_at_once, comes_with, commands_for}
use Rattle.qc_script.specs.Vocabulary.{control_acted, copies_at_once, count_of, goes, goes_with, has_request, if_up}
use Rattle.qc_script.specs.Vocabulary.{is_request, is_up, late_copies, one_more, opened, opened_by, phase_begun}
use Rattle.qc_script.specs.Vocabulary.{request_answered, request_sent, with_copies}
use Rattle.laws_turns.proofs.ReadingCases.{mapped}
use Rattle.qc_list.proofs.Places.{slice_get-more}

-- messages that were sent to an actor

abbrev pub AreMail : ℕ → List Envelope → List Envelope → Type 0
AreMail a ms [] = Unit {0}
AreMail a ms (e ∷ es) = WasSentTo a ms (inputs.Got e) × AreMail a ms es

pub mail_stays : (a : ℕ) (ms more es : List Envelope) → AreMail a ms es → AreMail a (ms ++ more) es
mail_stays a ms more [] are = tt
mail_stays a ms more (e ∷ es) are =
    ((slice_get-more ms more e.number e are.0.0, are.0.1), mail_stays a ms more es are.1)

pub mail_joins : (a : ℕ) (ms xs ys : List Envelope) → AreMail a ms xs → AreMail a ms ys → AreMail a ms (xs ++ ys)
mail_joins a ms [] ys first second = second
mail_joins a ms (x ∷ xs) ys first second = (first.0, mail_joins a ms xs ys first.1 second)

pub mail_left : (a : ℕ) (ms es : List Envelope) → AreMail a ms es → AreMail a ms (drop 1 es)
mail_left a ms [] are = tt
mail_left a ms (e ∷ es) are = are.1

-- the copies of an inbox, the messages so far being ms
pub record Arrived (a : ℕ) (ms : List Envelope) (i : Inbox) : Type 0 where
  pub copies : AreMail a ms i.copies
  pub opening : AreMail a ms i.opening
  pub late : AreMail a ms i.late

pub arrived_more : (a : ℕ) (ms more : List Envelope) (i : Inbox) → Arrived a ms i → Arrived a (ms ++ more) i
arrived_more a ms more i r = record {
  copies = mail_stays a ms more i.copies r.copies;
  opening = mail_stays a ms more i.opening r.opening;
  late = mail_stays a ms more i.late r.late;
}

pub arrived_if : (a : ℕ) (ms : List Envelope) (t : Bool) (i j : Inbox) → Arrived a ms i → Arrived a ms j
    → Arrived a ms (if t then i else j)
arrived_if a ms true i j here there = here
arrived_if a ms false i j here there = there

-- a message that comes

at_once : (a : ℕ) (ms : List Envelope) (f : Fate) (e : Envelope) → WasSentTo a ms (inputs.Got e)
    → AreMail a ms (copies_at_once f e)
at_once a ms Pass e sent = (sent, tt)
at_once a ms Drop e sent = tt
at_once a ms Twice e sent = (sent, (sent, tt))
at_once a ms Late e sent = tt
at_once a ms Again e sent = (sent, tt)

lately : (a : ℕ) (ms : List Envelope) (f : Fate) (e : Envelope) → WasSentTo a ms (inputs.Got e)
    → AreMail a ms (late_copies f e)
lately a ms Pass e sent = tt
lately a ms Drop e sent = tt
lately a ms Twice e sent = tt
lately a ms Late e sent = (sent, tt)
lately a ms Again e sent = (sent, tt)

where_up : (a : ℕ) (ms : List Envelope) (up : Bool) (es : List Envelope) → AreMail a ms es → AreMail a ms (if_up up es)
where_up a ms true es are = are
where_up a ms false es are = tt

arrived_copies : (a : ℕ) (ms : List Envelope) (up : Bool) (i : Inbox) (e : Envelope) (f : Fate) → Arrived a ms i
    → WasSentTo a ms (inputs.Got e) → Arrived a ms (with_copies up i e f)
arrived_copies a ms up i e f r sent = record {
  copies =
      mail_joins a ms i.copies (if_up up (copies_at_once f e)) r.copies
      (where_up a ms up (copies_at_once f e) (at_once a ms f e sent));
  opening = r.opening;
  late = mail_joins a ms i.late (late_copies f e) r.late (lately a ms f e sent);
}

arrived_answered : (a : ℕ) (ms : List Envelope) (i : Inbox) (number : ℕ) (f : Fate) → Arrived a ms i
    → Arrived a ms (request_answered i number f)
arrived_answered a ms i number f r =
    arrived_if a ms (has_request i.unanswered number) _ i
    (record { copies = r.copies; opening = r.opening; late = r.late }) r

arrived_answers : (a : ℕ) (ms : List Envelope) (i : Inbox) (m : Message) (f : Fate) → Arrived a ms i
    → Arrived a ms (answers_by i m f)
arrived_answers a ms i m f r =
    mapped (Arrived a ms) (λ (x : Answered). request_answered i x.to f) i (answer_in m)
    (λ x. arrived_answered a ms i x.to f r) r

pub arrived_comes : (script : Script) (a : ℕ) (ms : List Envelope) (i : Inbox) (e : Envelope) → Arrived a ms i
    → slice_get ms e.number ≡ Some e → Arrived a ms (comes script.links a i e)
arrived_comes script a ms i e r there = by (e.to == a) refl
  where
    by : (t : Bool) → (e.to == a) ≡ t
        → Arrived a ms
        (if t then comes_with (is_up i.up a) i e
        (fate script.links i.cuts e.from e.to (count_of i.from_each e.from + 1)) else i)
    by true is =
        arrived_answers a ms
        (with_copies (is_up i.up a) i e (fate script.links i.cuts e.from e.to (count_of i.from_each e.from + 1)))
        e.message (fate script.links i.cuts e.from e.to (count_of i.from_each e.from + 1))
        (arrived_copies a ms (is_up i.up a) i e (fate script.links i.cuts e.from e.to (count_of i.from_each e.from + 1))
        r (there, eqb-true e.to a is))
    by false is = r

-- a message that goes

arrived_sent : (a : ℕ) (ms : List Envelope) (i : Inbox) (number to : ℕ) (f : Fate) → Arrived a ms i
    → Arrived a ms (request_sent i number to f)
arrived_sent a ms i number to f r =
    arrived_if a ms (comes_at_once f && is_up i.up to) _ _
    (record { copies = r.copies; opening = r.opening; late = r.late })
    (record { copies = r.copies; opening = r.opening; late = r.late })

arrived_goes_with : (a : ℕ) (ms : List Envelope) (i : Inbox) (e : Envelope) (f : Fate) → Arrived a ms i
    → Arrived a ms (goes_with i e f)
arrived_goes_with a ms i e f r =
    arrived_if a ms (is_request e.message) _ _
    (arrived_sent a ms (record i { to_each = one_more i.to_each e.to }) e.number e.to f
    (record { copies = r.copies; opening = r.opening; late = r.late }))
    (record { copies = r.copies; opening = r.opening; late = r.late })

pub arrived_goes : (script : Script) (a : ℕ) (ms : List Envelope) (i : Inbox) (e : Envelope) → Arrived a ms i
    → Arrived a ms (goes script.links a i e)
arrived_goes script a ms i e r =
    arrived_if a ms (e.from == a) _ i
    (arrived_goes_with a ms i e (fate script.links i.cuts e.from e.to (count_of i.to_each e.to + 1)) r) r

-- phases and control lines

arrived_opened_by : (a : ℕ) (ms : List Envelope) (lines : List Control) (i : Inbox) → Arrived a ms i
    → Arrived a ms (opened_by a lines i)
arrived_opened_by a ms [] i r = record {
  copies =
      mail_joins a ms (if_up (is_up i.up a) i.opening) i.copies (where_up a ms (is_up i.up a) i.opening r.opening)
      r.copies;
  opening = tt;
  late = r.late;
}
arrived_opened_by a ms (line ∷ lines) i r = r

arrived_opened : (a : ℕ) (ms : List Envelope) (i : Inbox) → Arrived a ms i → Arrived a ms (opened a i)
arrived_opened a ms i r =
    arrived_opened_by a ms (acting i.up i.controls) (record i { controls = acting i.up i.controls })
    (record { copies = r.copies; opening = r.opening; late = r.late })

pub arrived_phase : (a : ℕ) (ms : List Envelope) (i : Inbox) (o : Option PhaseLines) → Arrived a ms i
    → Arrived a ms (option_map_or (phase_begun a i) o i)
arrived_phase a ms i None r = r
arrived_phase a ms i (Some p) r =
    arrived_opened a ms
    (record i {
      opening = i.opening ++ i.late;
      late = [];
      controls = p.controls;
      commands = i.commands ++ commands_for a p.commands;
    })
    (record { copies = r.copies; opening = mail_joins a ms i.opening i.late r.opening r.late; late = tt })

pub arrived_acted : (a : ℕ) (ms : List Envelope) (i : Inbox) → Arrived a ms i → Arrived a ms (control_acted a i)
arrived_acted a ms i r =
    arrived_opened a ms (record i { controls = drop 1 i.controls })
    (record { copies = r.copies; opening = r.opening; late = r.late })

pub arrived_controls : (a : ℕ) (ms : List Envelope) (i : Inbox) (cuts : List Bool) → Arrived a ms i
    → Arrived a ms (control_acted a (record i { cuts = cuts }))
arrived_controls a ms i cuts r =
    arrived_acted a ms (record i { cuts = cuts }) (record { copies = r.copies; opening = r.opening; late = r.late })
