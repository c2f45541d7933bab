-- Wrong deeds of a client, which the definitions refuse: one transaction, two stamps, two operations.
use Rattle.std.specs.Prelude.{List, [], ◌∷◌, Some, None}
use Rattle.qc_entry.specs.declared.line.Op.{Op}
use Rattle.qc_entry.specs.declared.record.Commit.{Commit}
use Rattle.qc_msg.specs.Vocabulary.{Deed, Sends, Takes, Tells, Writes}
use Rattle.qc_msg.specs.declared.message.Message.TheVariants.{Decision, Request}
use Rattle.qc_msg.specs.declared.message.Outcome.{Outcome}
use Rattle.qc_msg.specs.declared.message.Want.TheVariants.{Prepare}
use Rattle.qc_msg.specs.declared.record.Record.TheVariants as records
use Rattle.qc_msg.specs.declared.reply.Reply.TheVariants as replies
use Rattle.qc_msg.specs.declared.step.Command.TheVariants as commands
use Rattle.qc_msg.specs.declared.step.Input.TheVariants as inputs
use Rattle.qc_stamp.specs.declared.stamp.Stamp.{Stamp}
use Rattle.qc_stamp.specs.declared.stamp.TxId.{TxId}

abbrev pub tx : TxId
tx = record { client = 0; life = 1; number = 1 }

abbrev pub first : Stamp
first = record { clock = 1; client = 0 }

abbrev pub second : Stamp
second = record { clock = 2; client = 0 }

abbrev pub read_it : Op
read_it = record { object = 0; inv = 0; resp = Some 0 }

abbrev pub none_read : Op
none_read = record { object = 0; inv = 0; resp = None }

abbrev pub commit : Stamp → List Op → Commit
commit stamp ops = record { stamp = stamp; tx = tx; ops = ops }

-- deeds

abbrev pub begun : Deed
begun = Tells (replies.Began tx)

abbrev pub committed : Stamp → Deed
committed stamp = Writes (records.Commit (commit stamp []))

abbrev pub says : Outcome → Deed
says verdict = Sends 0 0 (Decision tx verdict)

abbrev pub asks : Deed
asks = Sends 0 0 (Request tx 1 0 Prepare)

-- a client begins, reads one thing and is told its response
abbrev pub reading : List Deed
reading = begun ∷ Takes (inputs.Called (commands.Do 0 0)) ∷ Tells (replies.Response 0) ∷ []
