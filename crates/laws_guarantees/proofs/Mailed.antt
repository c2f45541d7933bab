-- What an actor sent is in the mail, what is in the mail was sent, and what an actor took was.
use Rattle.std.proofs.Common.{◌≡◌, ℕ, ◌==◌, Bool, true, false, cond, inl, inr, List, [], ◌∷◌, ◌++◌, Option, Some, None}
use Rattle.std.proofs.Common.{option_to_list, slice_get, refl, sym, ap, ◌∙◌, subst, eqb-true}
use Rattle.std.specs.List.{cons_option}
use Rattle.qc_list.specs.Vocabulary.{In}
use Rattle.qc_list.proofs.Members.{In-either, In-at}
use Rattle.qc_msg.specs.declared.message.Envelope.{Envelope}
use Rattle.qc_msg.specs.declared.message.Message.{Message}
use Rattle.qc_msg.specs.declared.step.Input.TheVariants as inputs
use Rattle.qc_msg.specs.declared.step.Step.{Step}
use Rattle.qc_msg.specs.declared.step.Step.TheVariants as steps
use Rattle.qc_msg.specs.Vocabulary.{Deed, Entry, Falls, Rises, Sends, Takes, Tells, Writes, deed_at, deeds, envelope_at}
use Rattle.qc_msg.specs.Vocabulary.{envelope_of, heard, mail, got_in}
use Rattle.laws_atomic.proofs.Heard.{heard_none}

abbrev pub sent_as : ℕ → ℕ → ℕ → Message → Envelope
sent_as a n to m = record { number = n; from = a; to = to; message = m }

-- the message that a deed sends
abbrev pub message_of : ℕ → Deed → Option Envelope
message_of a (Takes g) = None
message_of a (Writes written) = None
message_of a (Sends n to m) = Some (sent_as a n to m)
message_of a (Tells reply) = None
message_of a (Falls cause pending) = None
message_of a (Rises records) = None

-- and the one that it takes
abbrev pub taken_of : Deed → Option Envelope
taken_of d = got_in d

-- a step is one deed, which sends a message, takes one or does neither, or it is none
pub step_cases : (ms : List Envelope) (a : ℕ) (P : List Deed → Option Envelope → Type 0) → P [] None
    → ((d : Deed) → message_of a d ≡ None → taken_of d ≡ None → P (d ∷ []) None)
    → ((k : ℕ) → P (heard (slice_get ms k)) None)
    → ((n to : ℕ) (m : Message) → P (Sends n to m ∷ []) (Some (sent_as a n to m))) → (step : Step)
    → P (deed_at ms step) (envelope_at a step)
step_cases ms a P none other takes sends (steps.Phase k) = none
step_cases ms a P none other takes sends (steps.Cut x y) = none
step_cases ms a P none other takes sends (steps.Heal x y) = none
step_cases ms a P none other takes sends (steps.Armed actor kind at) = none
step_cases ms a P none other takes sends (steps.Called command) = other (Takes (inputs.Called command)) refl refl
step_cases ms a P none other takes sends (steps.Got k) = takes k
step_cases ms a P none other takes sends (steps.Lost k) = other (Takes (inputs.Lost k)) refl refl
step_cases ms a P none other takes sends (steps.Wrote written) = other (Writes written) refl refl
step_cases ms a P none other takes sends (steps.Sent n to m) = sends n to m
step_cases ms a P none other takes sends (steps.Told reply) = other (Tells reply) refl refl
step_cases ms a P none other takes sends (steps.Fell cause pending) = other (Falls cause pending) refl refl
step_cases ms a P none other takes sends (steps.Rose records) = other (Rises records) refl refl
step_cases ms a P none other takes sends (steps.Damaged offset) = none

one_sent : (a n to : ℕ) (m : Message) (d : Deed) → Sends n to m ≡ d → message_of a d ≡ Some (sent_as a n to m)
one_sent a n to m d same = ap (message_of a) (sym same)

step_sent : (a : ℕ) (ms : List Envelope) (step : Step) (n to : ℕ) (m : Message) → In (Sends n to m) (deed_at ms step)
    → envelope_at a step ≡ Some (sent_as a n to m)
step_sent a ms step n to m = step_cases ms a (λ ds o. In (Sends n to m) ds → o ≡ Some (sent_as a n to m))
    (λ among. absurd among)
    (λ d unsent untaken among. elim among [
      | inl same ↦
          absurd (let is : Some (sent_as a n to m) ≡ None = ap (message_of a) same ∙ unsent in
          let never : ⊥ = cc in never)
      | inr never ↦ absurd never
    ])
    (λ k among. absurd (heard_none (slice_get ms k) n to m among))
    (λ k receiver message among. elim among [
      | inl same ↦ one_sent a n to m (Sends k receiver message) same
      | inr never ↦ absurd never
    ]) step

cons_first : (o : Option Envelope) (e : Envelope) (xs : List Envelope) → o ≡ Some e → In e (cons_option o xs)
cons_first None e xs is = absurd (let never : ⊥ = cc in never)
cons_first (Some x) e xs is = inl (let same : e ≡ x = cc in same)

pub cons_rest : (o : Option Envelope) (e : Envelope) (xs : List Envelope) → In e xs → In e (cons_option o xs)
cons_rest None e xs among = among
cons_rest (Some x) e xs among = inr among

pub sent_mail : (a : ℕ) (ms : List Envelope) (h : List Entry) (n to : ℕ) (m : Message)
    → In (Sends n to m) (deeds a ms h) → In (sent_as a n to m) (mail h)
sent_mail a ms [] n to m among = absurd among
sent_mail a ms (e ∷ h) n to m among = by (e.actor == a) refl among
    (λ there. cons_rest (envelope_of e) (sent_as a n to m) (mail h)
    (sent_mail a (ms ++ option_to_list (envelope_of e)) h n to m there))
  where
    by : (t : Bool) → (e.actor == a) ≡ t → In (Sends n to m)
        (cond t (deed_at ms e.step) [] ++ deeds a (ms ++ option_to_list (envelope_of e)) h)
        → (In (Sends n to m) (deeds a (ms ++ option_to_list (envelope_of e)) h)
        → In (sent_as a n to m) (cons_option (envelope_of e) (mail h)))
        → In (sent_as a n to m) (cons_option (envelope_of e) (mail h))
    by true same there later = elim (In-either (Sends n to m) (deed_at ms e.step)
        (deeds a (ms ++ option_to_list (envelope_of e)) h) there) [
          | inl here ↦ cons_first (envelope_of e) (sent_as a n to m) (mail h)
              (subst (λ (k : ℕ). envelope_at k e.step ≡ Some (sent_as a n to m)) (sym (eqb-true e.actor a same))
              (step_sent a ms e.step n to m here))
          | inr more ↦ later more
        ]
    by false other there later = later there

-- and back

step_mailed : (ms : List Envelope) (a : ℕ) (step : Step) (x : Envelope) → Some x ≡ envelope_at a step
    → (x.from ≡ a) × In (Sends x.number x.to x.message) (deed_at ms step)
step_mailed ms a step x = step_cases ms a
    (λ ds o. Some x ≡ o → (x.from ≡ a) × In (Sends x.number x.to x.message) ds)
    (λ is. absurd (let never : ⊥ = cc in never)) (λ d unsent untaken is. absurd (let never : ⊥ = cc in never))
    (λ k is. absurd (let never : ⊥ = cc in never))
    (λ k receiver message is. let same : x ≡ sent_as a k receiver message = cc in
    (ap (λ (y : Envelope). y.from) same, inl (ap (λ (y : Envelope). Sends y.number y.to y.message) same))) step

-- what was taken

heard_takes : (ms : List Envelope) (n : ℕ) (e : Envelope) (o : Option Envelope) → slice_get ms n ≡ o
    → In (Takes (inputs.Got e)) (heard o) → In e ms
heard_takes ms n e None is among = absurd among
heard_takes ms n e (Some x) is (inl same) = In-at ms n e (is ∙ sym (ap taken_of same))
heard_takes ms n e (Some x) is (inr never) = absurd never
