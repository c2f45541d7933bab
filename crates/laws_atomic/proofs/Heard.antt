-- What an actor takes was sent, and what it sends is mail.
use Rattle.std.proofs.Common.{◌≡◌, ℕ, ◌==◌, Bool, true, false, cond, List, [], ◌∷◌, ◌++◌, ◌⊎◌, inl, inr, Option, Some}
use Rattle.std.proofs.Common.{None, option_to_list, slice_get, append_assoc, refl, sym, ap, ◌∙◌, subst, eqb-true}
use Rattle.std.specs.List.{cons_option}
use Rattle.qc_list.specs.Vocabulary.{In}
use Rattle.qc_list.proofs.Members.{In-first, In-second, In-either, In-at}
use Rattle.qc_msg.specs.declared.message.Envelope.{Envelope}
use Rattle.qc_msg.specs.declared.message.Message.{Message}
use Rattle.qc_msg.specs.declared.step.Input.TheVariants as inputs
use Rattle.qc_msg.specs.declared.step.Step.{Step}
use Rattle.qc_msg.specs.declared.step.Step.TheVariants as steps
use Rattle.qc_msg.specs.Vocabulary.{Deed, Entry, Falls, Rises, Sends, Takes, Tells, Writes, deed_at, deeds, envelope_at}
use Rattle.qc_msg.specs.Vocabulary.{envelope_of, heard, mail}

pub cons_is : {A : Type 0} (o : Option A) (xs : List A) → cons_option o xs ≡ option_to_list o ++ xs
cons_is None xs = refl
cons_is (Some x) xs = refl

-- what is taken

abbrev got : Deed → Option Envelope
got (Takes (inputs.Called command)) = None
got (Takes (inputs.Got e)) = Some e
got (Takes (inputs.Lost n)) = None
got (Writes written) = None
got (Sends n to m) = None
got (Tells reply) = None
got (Falls cause pending) = None
got (Rises records) = None

heard_in : (ms : List Envelope) (o : Option Envelope) (e : Envelope) → ((d : Envelope) → o ≡ Some d → In d ms)
    → In (Takes (inputs.Got e)) (heard o) → In e ms
heard_in ms None e there among = absurd among
heard_in ms (Some d) e there (inl same) = there e (let is : Some e ≡ Some d = ap got same in sym is)
heard_in ms (Some d) e there (inr never) = absurd never

other_deed : (e : Envelope) (d : Deed) → got d ≡ None → In (Takes (inputs.Got e)) (d ∷ []) → ⊥
other_deed e d none (inl same) = let is : Some e ≡ got d = ap got same in let never : ⊥ = cc in never
other_deed e d none (inr never) = never

pub step_took : (ms : List Envelope) (step : Step) (e : Envelope) → In (Takes (inputs.Got e)) (deed_at ms step)
    → In e ms
step_took ms (steps.Phase k) e among = absurd among
step_took ms (steps.Cut x y) e among = absurd among
step_took ms (steps.Heal x y) e among = absurd among
step_took ms (steps.Armed actor kind at) e among = absurd among
step_took ms (steps.Called command) e among = absurd (other_deed e (Takes (inputs.Called command)) refl among)
step_took ms (steps.Got n) e among = heard_in ms (slice_get ms n) e (λ d is. In-at ms n d is) among
step_took ms (steps.Lost n) e among = absurd (other_deed e (Takes (inputs.Lost n)) refl among)
step_took ms (steps.Wrote written) e among = absurd (other_deed e (Writes written) refl among)
step_took ms (steps.Sent n to message) e among = absurd (other_deed e (Sends n to message) refl among)
step_took ms (steps.Told reply) e among = absurd (other_deed e (Tells reply) refl among)
step_took ms (steps.Fell cause pending) e among = absurd (other_deed e (Falls cause pending) refl among)
step_took ms (steps.Rose records) e among = absurd (other_deed e (Rises records) refl among)
step_took ms (steps.Damaged offset) e among = absurd among

pub took_sent : (a : ℕ) (ms : List Envelope) (h : List Entry) (e : Envelope) → In (Takes (inputs.Got e)) (deeds a ms h)
    → In e (ms ++ mail h)
took_sent a ms [] e among = absurd among
took_sent a ms (x ∷ h) e among =
    by (In-either (Takes (inputs.Got e)) (cond (x.actor == a) (deed_at ms x.step) [])
    (deeds a (ms ++ option_to_list (envelope_of x)) h) among)
    (took_sent a (ms ++ option_to_list (envelope_of x)) h e)
  where
    here : (b : Bool) → In (Takes (inputs.Got e)) (cond b (deed_at ms x.step) []) → In e ms
    here true there = step_took ms x.step e there
    here false never = absurd never

    by : In (Takes (inputs.Got e)) (cond (x.actor == a) (deed_at ms x.step) [])
        ⊎ In (Takes (inputs.Got e)) (deeds a (ms ++ option_to_list (envelope_of x)) h)
        → (In (Takes (inputs.Got e)) (deeds a (ms ++ option_to_list (envelope_of x)) h)
        → In e ((ms ++ option_to_list (envelope_of x)) ++ mail h)) → In e (ms ++ mail (x ∷ h))
    by (inl first) rest = In-first e ms (mail (x ∷ h)) (here (x.actor == a) first)
    by (inr later) rest = subst (In e) (append_assoc ms (option_to_list (envelope_of x)) (mail h)
        ∙ ap (λ (es : List Envelope). ms ++ es) (sym (cons_is (envelope_of x) (mail h)))) (rest later)

-- what is sent

abbrev posted_by : ℕ → Deed → Option Envelope
posted_by a (Takes given) = None
posted_by a (Writes written) = None
posted_by a (Sends n to m) = Some (record { number = n; from = a; to = to; message = m })
posted_by a (Tells reply) = None
posted_by a (Falls cause pending) = None
posted_by a (Rises records) = None

not_sent : (a n to : ℕ) (m : Message) (d : Deed) → posted_by a d ≡ None → In (Sends n to m) (d ∷ []) → ⊥
not_sent a n to m d none (inl same) = let is : Some (record { number = n; from = a; to = to; message = m })
    ≡ posted_by a d = ap (posted_by a) same in let never : ⊥ = cc in never
not_sent a n to m d none (inr never) = never

pub heard_none : (o : Option Envelope) (n to : ℕ) (m : Message) → In (Sends n to m) (heard o) → ⊥
heard_none None n to m among = among
heard_none (Some e) n to m among = not_sent 0 n to m (Takes (inputs.Got e)) refl among

step_sent : (a : ℕ) (ms : List Envelope) (step : Step) (n to : ℕ) (m : Message) → In (Sends n to m) (deed_at ms step)
    → In (record { number = n; from = a; to = to; message = m }) (option_to_list (envelope_at a step))
step_sent a ms (steps.Phase k) n to m among = absurd among
step_sent a ms (steps.Cut x y) n to m among = absurd among
step_sent a ms (steps.Heal x y) n to m among = absurd among
step_sent a ms (steps.Armed actor kind at) n to m among = absurd among
step_sent a ms (steps.Called command) n to m among =
    absurd (not_sent a n to m (Takes (inputs.Called command)) refl among)
step_sent a ms (steps.Got k) n to m among = absurd (heard_none (slice_get ms k) n to m among)
step_sent a ms (steps.Lost k) n to m among = absurd (not_sent a n to m (Takes (inputs.Lost k)) refl among)
step_sent a ms (steps.Wrote written) n to m among = absurd (not_sent a n to m (Writes written) refl among)
step_sent a ms (steps.Sent k other message) n to m (inl same) =
    inl (let is : Some (record { number = n; from = a; to = to; message = m }) ≡ Some
    (record { number = k; from = a; to = other; message = message }) = ap (posted_by a) same in cc)
step_sent a ms (steps.Sent k other message) n to m (inr never) = absurd never
step_sent a ms (steps.Told reply) n to m among = absurd (not_sent a n to m (Tells reply) refl among)
step_sent a ms (steps.Fell cause pending) n to m among = absurd (not_sent a n to m (Falls cause pending) refl among)
step_sent a ms (steps.Rose records) n to m among = absurd (not_sent a n to m (Rises records) refl among)
step_sent a ms (steps.Damaged offset) n to m among = absurd among

pub sent_mailed : (a : ℕ) (ms : List Envelope) (h : List Entry) (n to : ℕ) (m : Message)
    → In (Sends n to m) (deeds a ms h) → In (record { number = n; from = a; to = to; message = m }) (mail h)
sent_mailed a ms [] n to m among = absurd among
sent_mailed a ms (x ∷ h) n to m among =
    by (In-either (Sends n to m) (cond (x.actor == a) (deed_at ms x.step) [])
    (deeds a (ms ++ option_to_list (envelope_of x)) h) among)
    (sent_mailed a (ms ++ option_to_list (envelope_of x)) h n to m)
  where
    here : (b : Bool) → (x.actor == a) ≡ b → In (Sends n to m) (cond b (deed_at ms x.step) [])
        → In (record { number = n; from = a; to = to; message = m }) (option_to_list (envelope_of x))
    here true is there = subst (λ (k : ℕ). In (record { number = n; from = a; to = to; message = m })
        (option_to_list (envelope_at k x.step))) (sym (eqb-true x.actor a is)) (step_sent a ms x.step n to m there)
    here false is never = absurd never

    by : In (Sends n to m) (cond (x.actor == a) (deed_at ms x.step) [])
        ⊎ In (Sends n to m) (deeds a (ms ++ option_to_list (envelope_of x)) h)
        → (In (Sends n to m) (deeds a (ms ++ option_to_list (envelope_of x)) h)
        → In (record { number = n; from = a; to = to; message = m }) (mail h))
        → In (record { number = n; from = a; to = to; message = m }) (mail (x ∷ h))
    by (inl first) rest = subst (In (record { number = n; from = a; to = to; message = m }))
        (sym (cons_is (envelope_of x) (mail h)))
        (In-first _ (option_to_list (envelope_of x)) (mail h) (here (x.actor == a) refl first))
    by (inr later) rest = subst (In (record { number = n; from = a; to = to; message = m }))
        (sym (cons_is (envelope_of x) (mail h))) (In-second _ (option_to_list (envelope_of x)) (mail h) (rest later))
