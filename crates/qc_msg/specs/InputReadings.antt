-- Readings of commands, inputs and deeds, each with a line for each kind.
use Rattle.std.specs.Prelude.{ℕ, Bool, true, false, List, Option, Some, None, option_and_then}
use Rattle.qc_stamp.specs.declared.stamp.TxId.{TxId}
use Rattle.qc_entry.specs.declared.line.Line.{Line}
use Rattle.qc_entry.specs.declared.record.Prepared.{Prepared}
use Rattle.qc_msg.specs.declared.message.Answer.{Answer}
use Rattle.qc_msg.specs.declared.message.Answer.TheVariants as answers
use Rattle.qc_msg.specs.declared.message.Envelope.{Envelope}
use Rattle.qc_msg.specs.declared.message.Message.{Message}
use Rattle.qc_msg.specs.declared.message.Message.TheVariants as messages
use Rattle.qc_msg.specs.declared.message.Outcome.{Outcome}
use Rattle.qc_msg.specs.declared.message.Want.{Want}
use Rattle.qc_msg.specs.declared.record.Record.{Record}
use Rattle.qc_msg.specs.declared.record.Record.TheVariants as journals
use Rattle.qc_msg.specs.declared.step.Command.{Command}
use Rattle.qc_msg.specs.declared.step.Command.TheVariants as commands
use Rattle.qc_msg.specs.declared.step.Input.{Input}
use Rattle.qc_msg.specs.declared.step.Input.TheVariants as inputs
use Rattle.qc_msg.specs.Deeds.{Deed, Takes, Writes, Sends, Tells, Falls, Rises}
use Rattle.qc_msg.specs.Readings.{Decided, decision_in}

-- of a command: the epoch that is to be moved to

abbrev pub epoch_in : Command → Option ℕ
epoch_in commands.Begin = None
epoch_in (commands.Do object inv) = None
epoch_in commands.Commit = None
epoch_in commands.Abort = None
epoch_in (commands.Epoch number) = Some number

-- of a command: the object and the invocation of a `do`

pub record Invocation : Type 0 where
  pub object : ℕ
  pub inv : ℕ

abbrev pub do_in : Command → Option Invocation
do_in commands.Begin = None
do_in (commands.Do object inv) = Some (record { object = object; inv = inv })
do_in commands.Commit = None
do_in commands.Abort = None
do_in (commands.Epoch number) = None

-- of an input: a message, a command

abbrev pub heard_in : Input → Option Envelope
heard_in (inputs.Called command) = None
heard_in (inputs.Got envelope) = Some envelope
heard_in (inputs.Lost number) = None

abbrev pub command_in : Input → Option Command
command_in (inputs.Called command) = Some command
command_in (inputs.Got envelope) = None
command_in (inputs.Lost number) = None

-- of a deed: what it takes, what it writes, what its rise gives

abbrev pub taken_in : Deed → Option Input
taken_in (Takes given) = Some given
taken_in (Writes written) = None
taken_in (Sends number to message) = None
taken_in (Tells reply) = None
taken_in (Falls cause pending) = None
taken_in (Rises records) = None

abbrev pub written_in : Deed → Option Record
written_in (Takes given) = None
written_in (Writes written) = Some written
written_in (Sends number to message) = None
written_in (Tells reply) = None
written_in (Falls cause pending) = None
written_in (Rises records) = None

abbrev pub risen_in : Deed → Option (List Record)
risen_in (Takes given) = None
risen_in (Writes written) = None
risen_in (Sends number to message) = None
risen_in (Tells reply) = None
risen_in (Falls cause pending) = None
risen_in (Rises records) = Some records

-- the message that a deed takes, and the Decision in it

abbrev pub got_in : Deed → Option Envelope
got_in d = option_and_then heard_in (taken_in d)

abbrev pub decided_in : Deed → Option Decided
decided_in d = option_and_then (λ (e : Envelope). decision_in e.message) (got_in d)
