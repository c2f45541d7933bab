-- Histories with falls whose records don't follow what their clients had seen, and such as do: a client falls and rises
-- with its records, and a transaction of its second life commits at a clock.
use Rattle.std.specs.Prelude.{ℕ, List, [], ◌∷◌, Some, None}
use Rattle.qc_msg.specs.declared.message.Message.TheVariants.{Request}
use Rattle.qc_msg.specs.declared.message.Want.TheVariants.{Read}
use Rattle.qc_msg.specs.declared.record.Record.{Record}
use Rattle.qc_msg.specs.declared.record.Record.TheVariants as records
use Rattle.qc_msg.specs.declared.reply.Reply.TheVariants.{Unknown}
use Rattle.qc_msg.specs.declared.step.Fall.TheVariants.{Disk, Script}
use Rattle.qc_msg.specs.declared.step.Step.TheVariants.{Fell, Rose, Sent, Told, Wrote}
use Rattle.qc_msg.specs.Vocabulary.{Entry, marked}
use Rattle.qc_msg.specs.Vocabulary.{first_read}
use Rattle.qc_stamp.specs.declared.stamp.TxId.{TxId}
use Rattle.laws_atomic.specs.Vocabulary.{asks, begins, commit, first, hears, is_granted, is_told, stamp, they_commit}
use Rattle.laws_atomic.specs.Vocabulary.{writes}

-- the transaction of the client's second life
abbrev pub anew : TxId
anew = record { client = 0; life = 2; number = 1 }

abbrev pub first_record : ℕ → Record
first_record clock = records.Commit (commit first (stamp clock 0))

-- the client falls, and rises with these records

abbrev pub falls : Entry
falls = marked 1 (Fell Script None)

abbrev pub falls_unwritten : Record → Entry
falls_unwritten r = marked 1 (Fell Disk (Some r))

abbrev pub rises : List Record → Entry
rises kept = marked 1 (Rose kept)

abbrev pub lives : Entry
lives = marked 1 (Wrote records.Life)

abbrev pub asks_anew : Entry
asks_anew = marked 1 (Sent 0 0 (Request anew 1 0 (Read (first_read 0 0))))

-- the client was told in its first life of a commit at clock 5
abbrev pub told_before : ℕ → List Entry
told_before clock =
    begins first ∷ writes first 5 ∷ is_told 5 ∷ falls ∷ rises (first_record 5 ∷ []) ∷ lives
    ∷ begins anew ∷ writes anew clock ∷ is_told clock ∷ []

-- a grant of its second life showed a line at clock 5
abbrev pub shown_anew : ℕ → List Entry
shown_anew clock =
    they_commit ∷ falls ∷ rises [] ∷ lives ∷ begins anew ∷ asks_anew ∷ is_granted ∷ hears
    ∷ writes anew clock ∷ is_told clock ∷ []

-- a grant showed that line, and the record was being written as the client fell: it rises with it
abbrev pub record_pending : ℕ → List Entry
record_pending clock =
    they_commit ∷ begins first ∷ asks ∷ is_granted ∷ hears ∷ marked 1 (Told Unknown)
    ∷ falls_unwritten (first_record clock) ∷ rises (first_record clock ∷ []) ∷ lives ∷ []

-- a grant showed that line in its first life
abbrev pub shown_before : List Entry
shown_before =
    they_commit ∷ begins first ∷ asks ∷ is_granted ∷ hears ∷ falls ∷ rises [] ∷ lives
    ∷ begins anew ∷ writes anew 4 ∷ is_told 4 ∷ []

-- the grant was asked for in its first life, and comes in its second one
abbrev pub asked_before : List Entry
asked_before =
    they_commit ∷ begins first ∷ asks ∷ is_granted ∷ falls ∷ rises [] ∷ lives ∷ begins anew ∷ hears
    ∷ writes anew 4 ∷ is_told 4 ∷ []

-- the second client rises with a record of the first one's transaction
abbrev pub rises_with_others : List Entry
rises_with_others =
    marked 2 (Fell Script None) ∷ marked 2 (Rose (first_record 5 ∷ [])) ∷ marked 2 (Wrote records.Life) ∷ []
