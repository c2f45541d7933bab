-- Messages and deeds as they lie in a history, and what they stand for.
use Rattle.std.specs.Prelude.{ℕ, ◌==◌, cond, List, []}
use Rattle.qc_msg.specs.declared.message.Envelope.{Envelope}
use Rattle.qc_msg.specs.declared.step.Input.TheVariants as inputs
use Rattle.qc_msg.specs.Vocabulary.{Deed, Entry, Falls, Rises, Sends, Takes, Tells, Writes, deed_at}
use Rattle.qc_text.specs.declared.deeds.Deed.{Deed as Found}
use Rattle.qc_text.specs.declared.deeds.Deed.TheVariants.{Called, Got, Lost, Wrote, Sent, Told, Fell, Rose}
use Rattle.qc_text.specs.declared.deeds.Letter.{Letter}

abbrev pub envelope_in : Letter → Envelope
envelope_in letter = record { number = letter.number; from = letter.from; to = letter.to; message = letter.message.now }

abbrev pub deed_of : Found → Deed
deed_of (Called command) = Takes (inputs.Called command)
deed_of (Got letter) = Takes (inputs.Got (envelope_in letter))
deed_of (Lost number) = Takes (inputs.Lost number)
deed_of (Wrote written) = Writes written.now
deed_of (Sent number to message) = Sends number to message.now
deed_of (Told reply) = Tells reply
deed_of (Fell cause pending) = Falls cause pending.now
deed_of (Rose records) = Rises records.now

-- what an entry's step does, where it is one of this actor
abbrev pub deeds_at : ℕ → List Envelope → Entry → List Deed
deeds_at number ms e = cond (e.actor == number) (deed_at ms e.step) []
