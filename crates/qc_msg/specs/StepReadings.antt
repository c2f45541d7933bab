-- Readings of steps, each with a line for each kind.
use Rattle.std.specs.Prelude.{ℕ, List, Option, Some, None}
use Rattle.qc_outside.specs.declared.disk.ArmKind.{ArmKind}
use Rattle.qc_msg.specs.declared.message.Message.{Message}
use Rattle.qc_msg.specs.declared.record.Record.{Record}
use Rattle.qc_msg.specs.declared.reply.Reply.{Reply}
use Rattle.qc_msg.specs.declared.step.Command.{Command}
use Rattle.qc_msg.specs.declared.step.Fall.{Fall}
use Rattle.qc_msg.specs.declared.step.Step.{Step}
use Rattle.qc_msg.specs.declared.step.Step.TheVariants as steps

-- a disk is armed

pub record Arming : Type 0 where
  pub actor : ℕ
  pub kind : ArmKind
  pub at : ℕ

abbrev pub armed_in : Step → Option Arming
armed_in (steps.Phase number) = None
armed_in (steps.Cut a b) = None
armed_in (steps.Heal a b) = None
armed_in (steps.Armed actor kind at) = Some (record { actor = actor; kind = kind; at = at })
armed_in (steps.Called command) = None
armed_in (steps.Got number) = None
armed_in (steps.Lost number) = None
armed_in (steps.Wrote written) = None
armed_in (steps.Sent number to message) = None
armed_in (steps.Told reply) = None
armed_in (steps.Fell cause pending) = None
armed_in (steps.Rose records) = None
armed_in (steps.Damaged offset) = None

-- an input is taken: a command, the message of this number, that the request of this number is lost

abbrev pub commanded_in : Step → Option Command
commanded_in (steps.Phase number) = None
commanded_in (steps.Cut a b) = None
commanded_in (steps.Heal a b) = None
commanded_in (steps.Armed actor kind at) = None
commanded_in (steps.Called command) = Some command
commanded_in (steps.Got number) = None
commanded_in (steps.Lost number) = None
commanded_in (steps.Wrote written) = None
commanded_in (steps.Sent number to message) = None
commanded_in (steps.Told reply) = None
commanded_in (steps.Fell cause pending) = None
commanded_in (steps.Rose records) = None
commanded_in (steps.Damaged offset) = None

abbrev pub received_in : Step → Option ℕ
received_in (steps.Phase number) = None
received_in (steps.Cut a b) = None
received_in (steps.Heal a b) = None
received_in (steps.Armed actor kind at) = None
received_in (steps.Called command) = None
received_in (steps.Got number) = Some number
received_in (steps.Lost number) = None
received_in (steps.Wrote written) = None
received_in (steps.Sent number to message) = None
received_in (steps.Told reply) = None
received_in (steps.Fell cause pending) = None
received_in (steps.Rose records) = None
received_in (steps.Damaged offset) = None

abbrev pub lost_in : Step → Option ℕ
lost_in (steps.Phase number) = None
lost_in (steps.Cut a b) = None
lost_in (steps.Heal a b) = None
lost_in (steps.Armed actor kind at) = None
lost_in (steps.Called command) = None
lost_in (steps.Got number) = None
lost_in (steps.Lost number) = Some number
lost_in (steps.Wrote written) = None
lost_in (steps.Sent number to message) = None
lost_in (steps.Told reply) = None
lost_in (steps.Fell cause pending) = None
lost_in (steps.Rose records) = None
lost_in (steps.Damaged offset) = None

-- a turn is posted: its record, its messages, its reply

abbrev pub wrote_in : Step → Option Record
wrote_in (steps.Phase number) = None
wrote_in (steps.Cut a b) = None
wrote_in (steps.Heal a b) = None
wrote_in (steps.Armed actor kind at) = None
wrote_in (steps.Called command) = None
wrote_in (steps.Got number) = None
wrote_in (steps.Lost number) = None
wrote_in (steps.Wrote written) = Some written
wrote_in (steps.Sent number to message) = None
wrote_in (steps.Told reply) = None
wrote_in (steps.Fell cause pending) = None
wrote_in (steps.Rose records) = None
wrote_in (steps.Damaged offset) = None

pub record Mailed : Type 0 where
  pub number : ℕ
  pub to : ℕ
  pub message : Message

abbrev pub mailed_in : Step → Option Mailed
mailed_in (steps.Phase number) = None
mailed_in (steps.Cut a b) = None
mailed_in (steps.Heal a b) = None
mailed_in (steps.Armed actor kind at) = None
mailed_in (steps.Called command) = None
mailed_in (steps.Got number) = None
mailed_in (steps.Lost number) = None
mailed_in (steps.Wrote written) = None
mailed_in (steps.Sent number to message) = Some (record { number = number; to = to; message = message })
mailed_in (steps.Told reply) = None
mailed_in (steps.Fell cause pending) = None
mailed_in (steps.Rose records) = None
mailed_in (steps.Damaged offset) = None

abbrev pub replied_in : Step → Option Reply
replied_in (steps.Phase number) = None
replied_in (steps.Cut a b) = None
replied_in (steps.Heal a b) = None
replied_in (steps.Armed actor kind at) = None
replied_in (steps.Called command) = None
replied_in (steps.Got number) = None
replied_in (steps.Lost number) = None
replied_in (steps.Wrote written) = None
replied_in (steps.Sent number to message) = None
replied_in (steps.Told reply) = Some reply
replied_in (steps.Fell cause pending) = None
replied_in (steps.Rose records) = None
replied_in (steps.Damaged offset) = None

-- an actor falls, with the record that it was writing; it rises with records, or its journal is damaged at a place

pub record Fallen : Type 0 where
  pub cause : Fall
  pub pending : Option Record

abbrev pub fell_in : Step → Option Fallen
fell_in (steps.Phase number) = None
fell_in (steps.Cut a b) = None
fell_in (steps.Heal a b) = None
fell_in (steps.Armed actor kind at) = None
fell_in (steps.Called command) = None
fell_in (steps.Got number) = None
fell_in (steps.Lost number) = None
fell_in (steps.Wrote written) = None
fell_in (steps.Sent number to message) = None
fell_in (steps.Told reply) = None
fell_in (steps.Fell cause pending) = Some (record { cause = cause; pending = pending })
fell_in (steps.Rose records) = None
fell_in (steps.Damaged offset) = None

abbrev pub rose_in : Step → Option (List Record)
rose_in (steps.Phase number) = None
rose_in (steps.Cut a b) = None
rose_in (steps.Heal a b) = None
rose_in (steps.Armed actor kind at) = None
rose_in (steps.Called command) = None
rose_in (steps.Got number) = None
rose_in (steps.Lost number) = None
rose_in (steps.Wrote written) = None
rose_in (steps.Sent number to message) = None
rose_in (steps.Told reply) = None
rose_in (steps.Fell cause pending) = None
rose_in (steps.Rose records) = Some records
rose_in (steps.Damaged offset) = None

abbrev pub damaged_in : Step → Option ℕ
damaged_in (steps.Phase number) = None
damaged_in (steps.Cut a b) = None
damaged_in (steps.Heal a b) = None
damaged_in (steps.Armed actor kind at) = None
damaged_in (steps.Called command) = None
damaged_in (steps.Got number) = None
damaged_in (steps.Lost number) = None
damaged_in (steps.Wrote written) = None
damaged_in (steps.Sent number to message) = None
damaged_in (steps.Told reply) = None
damaged_in (steps.Fell cause pending) = None
damaged_in (steps.Rose records) = None
damaged_in (steps.Damaged offset) = Some offset
