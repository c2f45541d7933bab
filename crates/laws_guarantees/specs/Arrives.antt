-- What arrives: each message that was sent to an actor was taken, or is ready for it, in the order of sending.
use Rattle.std.specs.Prelude.{◌≡◌, ℕ, ◌==◌, List, [], ◌++◌, Option, Some, None, filter}
use Rattle.std.specs.List.{filter_map}
use Rattle.qc_link.specs.Vocabulary.{no_cuts}
use Rattle.qc_msg.specs.declared.message.Envelope.{Envelope}
use Rattle.qc_msg.specs.declared.step.Input.{Input}
use Rattle.qc_msg.specs.declared.step.Input.TheVariants as inputs
use Rattle.qc_msg.specs.Vocabulary.{Deed, Entry, Falls, Rises, Sends, Takes, Tells, Writes, deeds, mail}
use Rattle.qc_script.specs.Vocabulary.{Inbox, everybody, inbox}
use Rattle.qc_script.specs.declared.script.Script.{Script}

-- the messages that an actor took, in order

abbrev pub message_in : Input → Option Envelope
message_in (inputs.Called command) = None
message_in (inputs.Got envelope) = Some envelope
message_in (inputs.Lost number) = None

abbrev pub taken_by : Deed → Option Envelope
taken_by (Takes given) = message_in given
taken_by (Writes written) = None
taken_by (Sends number to message) = None
taken_by (Tells reply) = None
taken_by (Falls cause pending) = None
taken_by (Rises records) = None

abbrev pub taken_in : List Deed → List Envelope
taken_in ds = filter_map taken_by ds

abbrev pub taken : ℕ → List Entry → List Envelope
taken a h = taken_in (deeds a [] h)

-- the messages that were sent to it, in order
abbrev pub sent_to : ℕ → List Envelope → List Envelope
sent_to a ms = filter (λ (e : Envelope). e.to == a) ms

-- an inbox with these copies, in which nothing is lost or delayed, and nothing will be; everybody is up
pub record IsCalm (here : List Envelope) (i : Inbox) : Type 0 where
  pub copies : i.copies ≡ here
  pub lost : i.lost ≡ []
  pub late : i.late ≡ []
  pub opening : i.opening ≡ []
  pub cuts : i.cuts ≡ no_cuts
  pub up : i.up ≡ everybody
  pub controls : i.controls ≡ []

-- all that was sent to an actor was taken or is ready, once and in order
pub record Arrives (script : Script) (a : ℕ) (h : List Entry) : Type 0 where
  pub ready : List Envelope
  pub calm : IsCalm ready (inbox script a h)
  pub in_order : taken a h ++ ready ≡ sent_to a (mail h)
