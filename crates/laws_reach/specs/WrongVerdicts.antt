-- Deeds of one transaction's client through falls, of which wrong courses and right ones are made.
use Rattle.std.specs.Prelude.{ℕ, List, [], Some, None}
use Rattle.qc_msg.specs.declared.message.Envelope.{Envelope}
use Rattle.qc_msg.specs.declared.message.Message.TheVariants.{Decision, Inquiry}
use Rattle.qc_msg.specs.declared.message.Outcome.{Outcome}
use Rattle.qc_msg.specs.declared.record.Record.{Record}
use Rattle.qc_msg.specs.declared.record.Record.TheVariants as records
use Rattle.qc_msg.specs.declared.reply.Reply.TheVariants as replies
use Rattle.qc_msg.specs.declared.step.Fall.TheVariants.{Disk, Script}
use Rattle.qc_msg.specs.declared.step.Input.TheVariants.{Got}
use Rattle.qc_msg.specs.Vocabulary.{Deed, Falls, Rises, Takes, Tells, Writes}
use Rattle.laws_turns.specs.Vocabulary.{commit, tx}
use Rattle.qc_stamp.specs.declared.stamp.Stamp.{Stamp}
use Rattle.qc_stamp.specs.declared.stamp.TxId.{TxId}

-- its commit record
abbrev pub recorded : Stamp → Record
recorded stamp = records.Commit (commit stamp [])

-- it crashes; it falls as it writes that record, and as it writes the one of its rise

abbrev pub crashes : Deed
crashes = Falls Script None

abbrev pub falls_writing : Stamp → Deed
falls_writing stamp = Falls Disk (Some (recorded stamp))

abbrev pub falls_rising : Deed
falls_rising = Falls Disk (Some records.Life)

-- it rises with these records, and writes that it did
abbrev pub rises : List Record → Deed
rises kept = Rises kept

abbrev pub lives : Deed
lives = Writes records.Life

-- a name of its second life
abbrev pub anew : TxId
anew = record { client = 0; life = 2; number = 1 }

abbrev pub begins_anew : Deed
begins_anew = Tells (replies.Began anew)

-- a site is told this verdict
abbrev pub told : ℕ → Outcome → Envelope
told site verdict = record { number = 0; from = 1; to = site; message = Decision tx verdict }

-- it is asked how the transaction stands
abbrev pub asked : Envelope
asked = record { number = 0; from = 0; to = 1; message = Inquiry tx }

abbrev pub is_asked : Deed
is_asked = Takes (Got asked)
