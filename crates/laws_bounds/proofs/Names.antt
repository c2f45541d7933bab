-- What names only declared things: clients, objects, invocations, responses and events; in lines, locks, operations,
-- messages and records.
use Rattle.std.proofs.Common.{◌≡◌, ℕ, ◌<◌, List, Option, Some, None}
use Rattle.std.specs.List.{AllByRecursion as Every}
use Rattle.qc_decl.specs.Vocabulary.{actors, administrator, client_actor}
use Rattle.qc_decl.specs.declared.declaration.Declaration.{Declaration}
use Rattle.qc_entry.specs.declared.line.Line.{Line}
use Rattle.qc_entry.specs.declared.line.Op.{Op}
use Rattle.qc_entry.specs.declared.line.OwnLine.{OwnLine}
use Rattle.qc_entry.specs.declared.line.ReadLock.{ReadLock}
use Rattle.qc_entry.specs.declared.record.Prepared.{Prepared}
use Rattle.qc_fit.specs.Vocabulary.{HasEvent, HasInvocation, HasPlan, IsOpDeclared}
use Rattle.qc_msg.specs.declared.message.Answer.{Answer}
use Rattle.qc_msg.specs.declared.message.Envelope.{Envelope}
use Rattle.qc_msg.specs.declared.message.Message.{Message}
use Rattle.qc_msg.specs.declared.message.Message.TheVariants as messages
use Rattle.qc_msg.specs.declared.message.Want.{Want}
use Rattle.qc_msg.specs.declared.message.Want.TheVariants.{Append, Prepare, Read}
use Rattle.qc_msg.specs.declared.record.Record.{Record}
use Rattle.qc_msg.specs.declared.record.Record.TheVariants as records
use Rattle.qc_msg.specs.declared.step.Command.{Command}
use Rattle.qc_msg.specs.declared.step.Input.{Input}
use Rattle.qc_msg.specs.declared.step.Input.TheVariants as inputs
use Rattle.qc_msg.specs.declared.turn.Posting.{Posting}
use Rattle.std.specs.Prelude.{MatchOption}
use Rattle.qc_msg.specs.Vocabulary.{Invocation, do_in, epoch_in, granted_in, shut_in}
use Rattle.qc_msg.specs.declared.payload.Snapshot.{Snapshot}
use Rattle.qc_msg.specs.declared.payload.Grant.{Grant}

module _ (decl : Declaration) where
  pub record LineNamed (l : Line) : Type 0 where
    pub client : l.tx.client < decl.clients
    pub event : HasEvent decl l.object l.event

  abbrev pub LinesNamed : List Line → Type 0
  LinesNamed lines = Every LineNamed lines

  abbrev pub OwnsNamed : List OwnLine → Type 0
  OwnsNamed own = Every (λ (o : OwnLine). HasEvent decl o.object o.event) own

  abbrev pub LocksNamed : List ReadLock → Type 0
  LocksNamed locks = Every (λ (l : ReadLock). HasInvocation decl l.object l.inv) locks

  abbrev pub OpsNamed : List Op → Type 0
  OpsNamed ops = Every (IsOpDeclared decl) ops

  pub record PromiseNamed (p : Prepared) : Type 0 where
    pub client : p.tx.client < decl.clients
    pub locks : LocksNamed p.locks
    pub own : OwnsNamed p.own

  -- what is said

  abbrev pub WantNamed : Want → Type 0
  WantNamed (Read read) = HasInvocation decl read.object read.inv
  WantNamed (Append object view own) = LinesNamed view × OwnsNamed own
  WantNamed Prepare = Unit {0}

  abbrev pub AnswerNamed : Answer → Type 0
  AnswerNamed answer =
      MatchOption (granted_in answer)
      (MatchOption (shut_in answer) (Unit {0}) (λ (z : Snapshot). LinesNamed z.log × Every PromiseNamed z.prepared))
      (λ (g : Grant). LinesNamed g.log)

  abbrev pub CameNamed : Option Answer → Type 0
  CameNamed None = Unit {0}
  CameNamed (Some answer) = AnswerNamed answer

  abbrev pub MessageNamed : Message → Type 0
  MessageNamed (messages.Request tx epoch life want) = WantNamed want
  MessageNamed (messages.Answer to answer) = AnswerNamed answer
  MessageNamed (messages.Decision tx verdict) = Unit {0}
  MessageNamed (messages.Inquiry tx) = Unit {0}
  MessageNamed (messages.Ask tx) = tx.client < decl.clients
  MessageNamed (messages.Close epoch) = HasPlan decl epoch
  MessageNamed (messages.Install start) = HasPlan decl start.epoch × LinesNamed start.lines

  abbrev pub MailNamed : List Envelope → Type 0
  MailNamed mail = Every (λ (e : Envelope). MessageNamed e.message) mail

  abbrev pub SendsNamed : List Posting → Type 0
  SendsNamed sends = Every (λ (p : Posting). MessageNamed p.message) sends

  -- what is taken

  abbrev pub CommandNamed : Command → Type 0
  CommandNamed command =
      MatchOption (do_in command) (MatchOption (epoch_in command) (Unit {0}) (HasPlan decl))
      (λ (i : Invocation). HasInvocation decl i.object i.inv)

  abbrev pub GivenNamed : Input → Type 0
  GivenNamed (inputs.Called command) = CommandNamed command
  GivenNamed (inputs.Got e) = MessageNamed e.message
  GivenNamed (inputs.Lost number) = Unit {0}

  -- the records of an actor, of epochs with plans
  abbrev pub RecordNamed : ℕ → Record → Type 0
  RecordNamed a records.Life = a < actors decl
  RecordNamed a (records.Prepare p) =
      (a < decl.sites) × (p.tx.client < decl.clients) × HasPlan decl p.epoch × LocksNamed p.locks × OwnsNamed p.own
      × LinesNamed p.lines
  RecordNamed a (records.Done tx clock) = (a < decl.sites) × (tx.client < decl.clients)
  RecordNamed a (records.Close epoch) = (a < decl.sites) × HasPlan decl epoch
  RecordNamed a (records.Install start) = (a < decl.sites) × HasPlan decl start.epoch × LinesNamed start.lines
  RecordNamed a (records.Commit c) = (a ≡ client_actor decl c.tx.client) × (c.tx.client < decl.clients) × OpsNamed c.ops
  RecordNamed a (records.Decide start) = (a ≡ administrator decl) × HasPlan decl start.epoch × LinesNamed start.lines

  abbrev pub AreNamed : ℕ → List Record → Type 0
  AreNamed a rs = Every (RecordNamed a) rs
