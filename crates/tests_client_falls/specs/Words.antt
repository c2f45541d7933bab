-- Short spellings of what the first client of three sites does.
use Rattle.std.specs.Prelude.{ℕ, List, [], ◌∷◌, Option, Some}
use Rattle.qc_stamp.specs.declared.stamp.Stamp.{Stamp}
use Rattle.qc_stamp.specs.declared.stamp.TxId.{TxId}
use Rattle.qc_entry.specs.declared.line.Line.{Line}
use Rattle.qc_entry.specs.declared.line.Op.{Op}
use Rattle.qc_entry.specs.declared.line.OwnLine.{OwnLine}
use Rattle.qc_entry.specs.declared.line.ReadLock.{ReadLock}
use Rattle.qc_msg.specs.declared.message.Answer.TheVariants as answers
use Rattle.qc_msg.specs.declared.message.Message.{Message}
use Rattle.qc_msg.specs.declared.message.Message.TheVariants as messages
use Rattle.qc_msg.specs.declared.message.Outcome.TheVariants as outcomes
use Rattle.qc_msg.specs.declared.message.Want.TheVariants as wants
use Rattle.qc_msg.specs.declared.record.Record.{Record}
use Rattle.qc_msg.specs.declared.record.Record.TheVariants as records
use Rattle.qc_msg.specs.declared.reply.Reply.TheVariants as replies
use Rattle.qc_msg.specs.declared.step.Command.{Command}
use Rattle.qc_msg.specs.declared.step.Command.TheVariants as commands
use Rattle.qc_msg.specs.declared.step.Input.TheVariants as inputs
use Rattle.qc_msg.specs.Vocabulary.{Deed, Sends, Takes, Tells, Writes}
use Rattle.qc_msg.specs.Vocabulary.{whole_grant}

-- a transaction, by its client, the client's life, and its number
abbrev pub tx : ℕ → ℕ → ℕ → TxId
tx client life number = record { client = client; life = life; number = number }

abbrev pub stamp : ℕ → ℕ → Stamp
stamp clock client = record { clock = clock; client = client }

abbrev pub line : ℕ → ℕ → ℕ → ℕ → ℕ → ℕ → ℕ → Line
line clock client life number op object event =
    record { stamp = stamp clock client; tx = tx client life number; op = op; object = object; event = event }

abbrev pub own_line : ℕ → ℕ → ℕ → OwnLine
own_line op object event = record { op = op; object = object; event = event }

abbrev pub read_lock : ℕ → ℕ → ReadLock
read_lock object inv = record { object = object; inv = inv }

abbrev pub operation : ℕ → ℕ → Option ℕ → Op
operation object inv resp = record { object = object; inv = inv; resp = resp }

abbrev pub prepare : TxId → ℕ → List ReadLock → List OwnLine → List Line → Record
prepare tx epoch locks own lines =
    records.Prepare (record { tx = tx; epoch = epoch; locks = locks; own = own; lines = lines })

abbrev pub commit : Stamp → TxId → List Op → Record
commit stamp tx ops = records.Commit (record { stamp = stamp; tx = tx; ops = ops })

-- it is called, and gets a message of this number and sender

abbrev pub called : Command → Deed
called command = Takes (inputs.Called command)

abbrev pub got : ℕ → ℕ → Message → Deed
got number from message = Takes (inputs.Got (record { number = number; from = from; to = 3; message = message }))

-- what the others begin with: it writes an object blindly, tells a site that asks that its transaction is active, and
-- commits
abbrev pub committing : List Deed
committing =
    called commands.Begin ∷ Tells (replies.Began (tx 0 1 1)) ∷ called (commands.Do 0 2) ∷
    Sends 0 0 (messages.Request (tx 0 1 1) 1 0 (wants.Append 0 [] ((own_line 1 0 3) ∷ []))) ∷
    Sends 1 1 (messages.Request (tx 0 1 1) 1 0 (wants.Append 0 [] ((own_line 1 0 3) ∷ []))) ∷
    got 2 0 (messages.Answer 0 (answers.Granted (whole_grant 1 0 [])))
    ∷ got 3 1 (messages.Answer 1 (answers.Granted (whole_grant 1 0 []))) ∷
    Tells (replies.Response 2) ∷ got 7 1 (messages.Inquiry (tx 0 1 1)) ∷
    Sends 9 1 (messages.Decision (tx 0 1 1) outcomes.Active) ∷ called commands.Commit ∷
    Sends 10 0 (messages.Request (tx 0 1 1) 1 1 wants.Prepare) ∷
    Sends 11 1 (messages.Request (tx 0 1 1) 1 1 wants.Prepare) ∷ got 12 0 (messages.Answer 10 (answers.Yes 0)) ∷
    got 13 1 (messages.Answer 11 (answers.Yes 0)) ∷
    Writes (commit (stamp 1 0) (tx 0 1 1) ((operation 0 2 (Some 2)) ∷ [])) ∷
    Sends 14 0 (messages.Decision (tx 0 1 1) (outcomes.Committed (stamp 1 0))) ∷
    Sends 15 1 (messages.Decision (tx 0 1 1) (outcomes.Committed (stamp 1 0))) ∷
    Tells (replies.Committed (stamp 1 0)) ∷ []
