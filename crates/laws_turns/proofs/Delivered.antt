-- Messages reach those whom they were sent to: what each event of a run adds to that.
use Rattle.std.proofs.Common.{[], ◌≡◌, ℕ, ◌==◌, Bool, true, false, cond, List, ◌∷◌, ◌++◌, length, Option, Some}
use Rattle.std.proofs.Common.{None, option_to_list, slice_get, refl, sym, ap, ◌∙◌, subst, append_assoc, eqb-true}
use Rattle.std.specs.List.{AllByRecursion as Every}
use Rattle.std.proofs.lemmas.List.{append-nil}
use Rattle.qc_core.proofs.Written.{IsAnswerTo, IsAnsweredTo, NoAnswer}
use Rattle.qc_decl.specs.declared.declaration.Declaration.{Declaration}
use Rattle.qc_mailbox.specs.Vocabulary.{AreNumbered}
use Rattle.qc_list.proofs.Members.{every-append, every-weaker, every-back}
use Rattle.qc_msg.specs.declared.message.Envelope.{Envelope}
use Rattle.qc_msg.specs.declared.record.Record.{Record}
use Rattle.qc_msg.specs.declared.step.Input.{Input}
use Rattle.qc_msg.specs.declared.step.Input.TheVariants as inputs
use Rattle.qc_msg.specs.declared.step.Step.{Step}
use Rattle.qc_msg.specs.declared.step.Step.TheVariants as steps
use Rattle.qc_msg.specs.declared.turn.Posting.{Posting}
use Rattle.qc_msg.specs.declared.turn.Turn.{Turn}
use Rattle.qc_msg.specs.Vocabulary.{Answered, Deed, Entry, Falls, Rises, Sends, Takes, Tells, WasSentTo, Writes}
use Rattle.qc_msg.specs.Vocabulary.{answer_in, by, deed_at, deeds, envelope_of, heard, heard_in, mail, marked}
use Rattle.qc_msg.specs.Vocabulary.{posted_as, sends_as}
use Rattle.qc_msg.proofs.GrownMail.{mail-append}
use Rattle.qc_promise.specs.Vocabulary.{IsAnswerOf, IsMailStep, IsMailed, IsReceived, IsRequestOf, IsRequestTo}
use Rattle.laws_turns.proofs.MailedSteps.{Delivered, step_delivered, AreAnswersAt, post_delivered}
use Rattle.laws_turns.proofs.StepCases.{deed_cases}
use Rattle.qc_mailbox.proofs.Among.{mail_cons}
use Rattle.qc_list.proofs.Places.{slice_get-more}

-- what is posted answers what was taken, or nothing

answers_sent : (ms : List Envelope) (a : ℕ) (g : Input) → WasSentTo a ms g → (ps : List Posting)
    → Every (IsAnswerTo g) ps → AreAnswersAt ms a ps
answers_sent ms a g sent ps are =
    every-weaker (IsAnswerTo g) (λ (p : Posting). IsAnswerOf ms a p.to (answer_in p.message))
    (λ p is. one g sent p.to (answer_in p.message) is) ps are
  where
    one : (g : Input) → WasSentTo a ms g → (to : ℕ) (o : Option Answered) → IsAnsweredTo (heard_in g) to o
        → IsAnswerOf ms a to o
    one g sent to None is = tt
    one (inputs.Called command) sent to (Some x) is = absurd is
    one (inputs.Got e) sent to (Some x) is =
        let there : slice_get ms x.to ≡ Some e = ap (λ (k : ℕ). slice_get ms k) is.0 ∙ sent.0 in
        (subst (IsRequestOf to) (sym there) (sym is.1.0, is.1.1), subst (IsRequestTo a) (sym there) sent.1)
    one (inputs.Lost n) sent to (Some x) is = absurd is

pub none_sent : (ms : List Envelope) (a : ℕ) (ps : List Posting) → Every NoAnswer ps → AreAnswersAt ms a ps
none_sent ms a ps none =
    every-weaker NoAnswer (λ (p : Posting). IsAnswerOf ms a p.to (answer_in p.message))
    (λ p is. subst (IsAnswerOf ms a p.to) (sym is) tt) ps none

-- all that an actor took was sent to it

abbrev IsTaken : ℕ → List Envelope → Deed → Type 0
IsTaken a ms (Takes g) = WasSentTo a ms g
IsTaken a ms (Writes written) = Unit {0}
IsTaken a ms (Sends number to message) = Unit {0}
IsTaken a ms (Tells reply) = Unit {0}
IsTaken a ms (Falls cause pending) = Unit {0}
IsTaken a ms (Rises records) = Unit {0}

heard_taken : (a n : ℕ) (ms more : List Envelope) (o : Option Envelope) → AreNumbered (ms ++ more) → slice_get ms n ≡ o
    → IsReceived ms a o → Every (IsTaken a (ms ++ more)) (heard o)
heard_taken a n ms more None numbered is got = tt
heard_taken a n ms more (Some e) numbered is got =
    let there : slice_get (ms ++ more) n ≡ Some e = slice_get-more ms more n e is in
    ((ap (λ (k : ℕ). slice_get (ms ++ more) k) (numbered n e there) ∙ there, got.0), tt)

step_taken : (a : ℕ) (ms more : List Envelope) (step : Step) → AreNumbered (ms ++ more) → IsMailStep ms a step
    → Every (IsTaken a (ms ++ more)) (deed_at ms step)
step_taken a ms more step numbered is =
    deed_cases ms (λ step ds. IsMailStep ms a step → Every (IsTaken a (ms ++ more)) ds) (λ step w m r came. tt)
    (λ command came. (tt, tt)) (λ n came. heard_taken a n ms more (slice_get ms n) numbered refl came)
    (λ n came. (tt, tt)) (λ written came. (tt, tt)) (λ n to message came. (tt, tt)) (λ reply came. (tt, tt))
    (λ cause pending came. (tt, tt)) (λ records came. (tt, tt)) step is

all_taken : (a : ℕ) (ms : List Envelope) (h : List Entry) → AreNumbered (ms ++ mail h) → IsMailed ms h
    → Every (IsTaken a (ms ++ mail h)) (deeds a ms h)
all_taken a ms [] numbered is = tt
all_taken a ms (e ∷ h) numbered is =
    every-append (IsTaken a (ms ++ mail (e ∷ h))) (cond (e.actor == a) (deed_at ms e.step) [])
    (deeds a (ms ++ option_to_list (envelope_of e)) h)
    (mine (e.actor == a) refl)
    (subst (λ (v : List Envelope). Every (IsTaken a v) (deeds a (ms ++ option_to_list (envelope_of e)) h))
    (mail_cons ms (envelope_of e) (mail h))
    (all_taken a (ms ++ option_to_list (envelope_of e)) h
    (subst AreNumbered (sym (mail_cons ms (envelope_of e) (mail h))) numbered) is.1))
  where
    mine : (t : Bool) → (e.actor == a) ≡ t → Every (IsTaken a (ms ++ mail (e ∷ h))) (cond t (deed_at ms e.step) [])
    mine true same =
        step_taken a ms (mail (e ∷ h)) e.step numbered
        (subst (λ (k : ℕ). IsMailStep ms k e.step) (eqb-true e.actor a same) is.0)
    mine false differs = tt

-- the open input of an actor was sent to it
pub open_sent : (decl : Declaration) (a : ℕ) (h : List Entry) (before : List Deed) (g : Input) → AreNumbered (mail h)
    → Delivered decl h → deeds a [] h ≡ before ++ Takes g ∷ [] → WasSentTo a (mail h) g
open_sent decl a h before g numbered d is =
    (every-back (IsTaken a (mail h)) before (Takes g ∷ [])
    (subst (Every (IsTaken a (mail h))) is (all_taken a [] h numbered d.mailed))).0

-- so a post is delivered

pub posts_delivered : (decl : Declaration) (h : List Entry) (a : ℕ) (before : List Deed) (g : Input) (t : Turn)
    → AreNumbered (mail h) → deeds a [] h ≡ before ++ Takes g ∷ [] → Every (IsAnswerTo g) (sends_as t.append t)
    → Delivered decl h
    → Delivered decl (h ++ by a (posted_as t.append (length (mail h)) t))
posts_delivered decl h a before g t numbered is are d =
    post_delivered decl h a t.append t
    (answers_sent (mail h) a g (open_sent decl a h before g numbered d is) (sends_as t.append t) are) d

-- a rise, and its post

pub rises_delivered : (decl : Declaration) (h : List Entry) (a : ℕ) (records : List Record) (t : Turn)
    → Every NoAnswer (sends_as t.append t) → Delivered decl h
    → Delivered decl (h ++ by a (steps.Rose records ∷ posted_as t.append (length (mail h)) t))
rises_delivered decl h a records t none d =
    subst (Delivered decl)
    (append_assoc h (marked a (steps.Rose records) ∷ []) (by a (posted_as t.append (length (mail h)) t)))
    (subst (λ (n : ℕ). Delivered decl (rose ++ by a (posted_as t.append n t))) (ap length same)
    (post_delivered decl rose a t.append t (none_sent (mail rose) a (sends_as t.append t) none)
    (step_delivered decl h a (steps.Rose records) same tt tt d)))
  where
    rose : List Entry
    rose = h ++ marked a (steps.Rose records) ∷ []

    same : mail rose ≡ mail h
    same = mail-append h (marked a (steps.Rose records) ∷ []) ∙ append-nil (mail h)
