-- Histories of one client that falls in a transaction, or after it, and rises: what it was told agrees with the records
-- that rise, or doesn't.
use Rattle.std.specs.Prelude.{List, [], ◌∷◌, ◌++◌, Some, None}
use Rattle.qc_decl.specs.declared.declaration.Declaration.{Declaration}
use Rattle.qc_entry.specs.declared.line.Op.{Op}
use Rattle.qc_msg.specs.Vocabulary.{Entry, marked}
use Rattle.qc_msg.specs.declared.record.Record.{Record}
use Rattle.qc_msg.specs.declared.record.Record.TheVariants.{Commit, Life}
use Rattle.qc_msg.specs.declared.reply.Reply.{Reply}
use Rattle.qc_msg.specs.declared.reply.Reply.TheVariants as replies
use Rattle.qc_msg.specs.declared.step.Command.TheVariants as commands
use Rattle.qc_msg.specs.declared.step.Fall.TheVariants.{Script, Stop}
use Rattle.qc_msg.specs.declared.step.Step.TheVariants.{Called, Fell, Rose, Told, Wrote}
use Rattle.qc_promise.specs.Vocabulary.{AreDealt, AreTold, committed}
use Rattle.qc_stamp.specs.declared.stamp.TxId.{TxId}
use Rattle.laws_turns.specs.Vocabulary.{first, read_it, tx}

-- the site is actor 0, the client is 1
abbrev pub decl : Declaration
decl =
    record { sites = 1; clients = 1; kinds = []; objects = []; plans = []; kind_names = []; object_names = [] }

abbrev pub Tells : List Entry → Type 0
Tells h = AreTold decl (committed decl h) h

abbrev pub Deals : List Entry → Type 0
Deals h = AreDealt decl (committed decl h) h

-- its transaction's next life
abbrev pub next_tx : TxId
next_tx = record { client = 0; life = 2; number = 1 }

-- records of the transaction: the one with what was told, and others

abbrev pub record_of : List Op → Record
record_of ops = Commit (record { stamp = first; tx = tx; ops = ops })

abbrev pub mine : Record
mine = record_of (read_it ∷ [])

-- steps

abbrev pub told : Reply → Entry
told reply = marked 1 (Told reply)

abbrev pub rises : List Record → Entry
rises given = marked 1 (Rose given)

abbrev pub lives : Entry
lives = marked 1 (Wrote Life)

abbrev pub crashes : Entry
crashes = marked 1 (Fell Script None)

abbrev pub begins : TxId → List Entry
begins name = marked 1 (Called commands.Begin) ∷ told (replies.Began name) ∷ []

abbrev pub reads : List Entry
reads = marked 1 (Called (commands.Do 0 0)) ∷ told (replies.Response 0) ∷ []

-- it is told the reply to its commit, its disk stops as it writes the record, and it rises with these records
abbrev pub fallen : Reply → List Record → List Entry
fallen reply given =
    begins tx ++ reads
    ++ marked 1 (Called commands.Commit) ∷ told reply ∷ marked 1 (Fell Stop (Some mine)) ∷ rises given ∷ lives ∷ []

-- a line of the script crashes it in its transaction
abbrev pub crashed : List Record → List Entry
crashed given = begins tx ++ reads ++ crashes ∷ rises given ∷ lives ∷ []

-- its record is written, it is told so, and falls and rises later
abbrev pub kept : List Entry
kept =
    begins tx ++ reads
    ++ marked 1 (Called commands.Commit) ∷ marked 1 (Wrote mine) ∷ told (replies.Committed first) ∷ crashes
    ∷ rises (mine ∷ []) ∷ lives ∷ []

-- its record is written, and a line of the script crashes it before it is told so
abbrev pub cut_off : List Entry
cut_off =
    begins tx ++ reads
    ++ marked 1 (Called commands.Commit) ∷ marked 1 (Wrote mine) ∷ crashes ∷ rises (mine ∷ []) ∷ lives ∷ []

-- in its next life it reads once more
abbrev pub reading_on : List Record → List Entry
reading_on given = fallen replies.Unknown given ++ begins next_tx ++ reads
