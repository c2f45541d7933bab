-- What the administrator sends, writes, takes and rises with: a Close, an Ask or an Install; a decision; an epoch, an
-- answer or none; his decisions.
use Rattle.std.proofs.Common.{ℕ, ◌≤◌, List, Option, Some, None}
use Rattle.std.specs.List.{AllByRecursion as Every}
use Rattle.qc_decl.specs.Vocabulary.{most_record_bytes}
use Rattle.qc_entry.specs.declared.line.Line.{Line}
use Rattle.qc_entry.specs.declared.record.Prepared.{Prepared}
use Rattle.qc_epoch.specs.Vocabulary.{Admin}
use Rattle.qc_msg.specs.Vocabulary.{epoch_length, Answered}
use Rattle.qc_msg.specs.declared.payload.EpochStart.{EpochStart}
use Rattle.qc_msg.specs.declared.payload.Snapshot.{Snapshot}
use Rattle.qc_msg.specs.declared.message.Answer.{Answer}
use Rattle.qc_msg.specs.declared.message.Answer.TheVariants as answers
use Rattle.qc_msg.specs.declared.message.Message.{Message}
use Rattle.qc_msg.specs.declared.message.Message.TheVariants as messages
use Rattle.qc_msg.specs.declared.step.Command.{Command}
use Rattle.qc_msg.specs.declared.step.Command.TheVariants as commands
use Rattle.qc_msg.specs.declared.step.Input.{Input}
use Rattle.qc_msg.specs.declared.step.Input.TheVariants as inputs
use Rattle.qc_stamp.specs.declared.stamp.TxId.{TxId}
use Rattle.qc_msg.specs.declared.record.Record.{Record}
use Rattle.qc_msg.specs.declared.record.Record.TheVariants as records
use Rattle.qc_msg.specs.declared.message.Envelope.{Envelope}
use Rattle.qc_msg.specs.Vocabulary.{snapshot_with, start_with}
use Rattle.laws_bounds.proofs.Cases.{answer_cases, decide_cases, epoch_cases, shut_cases}
use Rattle.laws_bounds.proofs.AdminKeeps.{RecordKeeps}
use Rattle.laws_bounds.proofs.AdminProperties.{AboutPromise, CameKeeps, GivenKeeps, Properties, SendKeeps, ShutCame}
use Rattle.laws_bounds.proofs.AdminProperties.{StartKeeps, WriteKeeps}

module _ (K : Properties) where
  abbrev Came : Admin → ℕ → Answer → Type 0
  Came m to answer = CameKeeps K m to (Some answer)

  pub send_cases : (P : Message → Type 0)
      → ((tx : TxId) → AboutPromise K tx → P (messages.Ask tx))
      → ((epoch : ℕ) → K.Epoch epoch → P (messages.Close epoch))
      → ((epoch clock : ℕ) (lines : List Line) → StartKeeps K epoch clock lines
      → P (messages.Install (start_with epoch clock lines)))
      → (message : Message) → SendKeeps K message → P message
  send_cases P ask close install (messages.Request tx epoch life want) keeps = absurd keeps
  send_cases P ask close install (messages.Answer to answer) keeps = absurd keeps
  send_cases P ask close install (messages.Decision tx verdict) keeps = absurd keeps
  send_cases P ask close install (messages.Inquiry tx) keeps = absurd keeps
  send_cases P ask close install (messages.Ask tx) keeps = ask tx keeps
  send_cases P ask close install (messages.Close epoch) keeps = close epoch keeps
  send_cases P ask close install (messages.Install start) keeps = install start.epoch start.clock start.lines keeps

  pub write_cases : (P : Option Record → Type 0) → P None
      → ((epoch clock : ℕ) (lines : List Line)
      → StartKeeps K epoch clock lines × (epoch_length lines ≤ most_record_bytes)
      → P (Some (records.Decide (start_with epoch clock lines))))
      → (write : Option Record) → WriteKeeps K write → P write
  write_cases P none decide None keeps = none
  write_cases P none decide (Some records.Life) keeps = absurd keeps
  write_cases P none decide (Some (records.Prepare p)) keeps = absurd keeps
  write_cases P none decide (Some (records.Done tx clock)) keeps = absurd keeps
  write_cases P none decide (Some (records.Close epoch)) keeps = absurd keeps
  write_cases P none decide (Some (records.Install start)) keeps = absurd keeps
  write_cases P none decide (Some (records.Commit commit)) keeps = absurd keeps
  write_cases P none decide (Some (records.Decide start)) keeps = decide start.epoch start.clock start.lines keeps

  pub shut_keeps : (H : Option Answer → Type 0)
      → ((clock : ℕ) (log : List Line) (prepared : List Prepared)
      → H (Some (answers.Shut (snapshot_with clock log prepared)))
      → K.Clock clock × K.Lines log × Every K.Promise prepared)
      → (answer : Option Answer) → H answer → ShutCame K answer
  shut_keeps H at answer here =
      shut_cases H (λ (z : Snapshot). K.Clock z.clock × K.Lines z.log × Every K.Promise z.prepared) at answer here

  pub given_cases : (m : Admin) (H : Input → Type 0)
      → ((number : ℕ) → H (inputs.Called (commands.Epoch number)) → K.Epoch number)
      → ((e : Envelope) (to : ℕ) (answer : Answer)
      → H (inputs.Got (record e { message = messages.Answer to answer })) → Came m to answer)
      → (g : Input) → H g → GivenKeeps K m g
  given_cases m H called got (inputs.Called command) here =
      epoch_cases (λ (c : Command). H (inputs.Called c)) K.Epoch called command here
  given_cases m H called got (inputs.Got e) here =
      answer_cases (λ (message : Message). H (inputs.Got (record e { message = message })))
      (λ (a : Answered). Came m a.to a.answer) (got e) e.message here
  given_cases m H called got (inputs.Lost number) here = tt

  pub record_cases : (H : Record → Type 0)
      → ((epoch clock : ℕ) (lines : List Line) → H (records.Decide (start_with epoch clock lines))
      → StartKeeps K epoch clock lines)
      → (r : Record) → H r → RecordKeeps K r
  record_cases H at r here =
      decide_cases H (λ (i : EpochStart). StartKeeps K i.epoch i.clock i.lines) at r here
