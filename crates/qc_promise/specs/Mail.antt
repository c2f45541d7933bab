-- Messages reach those whom they were sent to: each has its number, who takes it is its receiver, an answer comes from
-- who was asked, to who asked; and what an actor takes as lost is a request of its own.
use Rattle.std.specs.Prelude.{[], MatchOption, ◌≡◌, ℕ, Bool, true, List, ◌∷◌, ◌++◌, length, Option, Some, None}
use Rattle.std.specs.Prelude.{slice_get, option_to_list}
use Rattle.qc_msg.specs.declared.message.Envelope.{Envelope}
use Rattle.qc_msg.specs.declared.message.Message.{Message}
use Rattle.qc_msg.specs.declared.step.Step.{Step}
use Rattle.qc_msg.specs.Vocabulary.{Answered, Entry, answer_in, envelope_of, Mailed, lost_in, mailed_in, received_in}
use Rattle.qc_msg.specs.Vocabulary.{wants_answer}

-- the messages that wait for an answer
abbrev pub asks_answer : Message → Bool
asks_answer m = wants_answer m

-- a request of this sender
abbrev pub IsRequestOf : ℕ → Option Envelope → Type 0
IsRequestOf from None = ⊥
IsRequestOf from (Some e) = (e.from ≡ from) × (asks_answer e.message ≡ true)

-- and to this receiver
abbrev pub IsRequestTo : ℕ → Option Envelope → Type 0
IsRequestTo to None = ⊥
IsRequestTo to (Some e) = e.to ≡ to

-- an answer of one actor to another, the messages so far being ms: the other asked it for it
abbrev pub IsAnswerOf : List Envelope → ℕ → ℕ → Option Answered → Type 0
IsAnswerOf ms from to None = Unit {0}
IsAnswerOf ms from to (Some a) = IsRequestOf to (slice_get ms a.to) × IsRequestTo from (slice_get ms a.to)

-- a message that actor a takes
abbrev pub IsReceived : List Envelope → ℕ → Option Envelope → Type 0
IsReceived ms a None = ⊥
IsReceived ms a (Some e) = (e.to ≡ a) × IsAnswerOf ms e.from a (answer_in e.message)

abbrev pub IsMailStep : List Envelope → ℕ → Step → Type 0
IsMailStep ms a step =
    MatchOption (received_in step)
    (MatchOption (lost_in step) (MatchOption (mailed_in step) (Unit {0}) (λ (m : Mailed). m.number ≡ length ms))
    (λ (n : ℕ). IsRequestOf a (slice_get ms n))) (λ (n : ℕ). IsReceived ms a (slice_get ms n))

-- the messages so far being ms
abbrev pub IsMailed : List Envelope → List Entry → Type 0
IsMailed ms [] = Unit {0}
IsMailed ms (e ∷ h) = IsMailStep ms e.actor e.step × IsMailed (ms ++ option_to_list (envelope_of e)) h
