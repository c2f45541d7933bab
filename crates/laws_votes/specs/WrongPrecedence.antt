-- Histories whose writer, or whose reader, falls as it writes its record, over three sites and three clients, with one
-- register. What it rises with says whether it committed.
use Rattle.std.specs.Prelude.{ℕ, List, [], ◌∷◌, ◌++◌, Some, None}
use Rattle.qc_entry.specs.declared.record.Commit.{Commit}
use Rattle.qc_msg.specs.Vocabulary.{Entry, by, marked}
use Rattle.qc_msg.specs.declared.record.Record.{Record}
use Rattle.qc_msg.specs.declared.record.Record.TheVariants as records
use Rattle.qc_msg.specs.declared.reply.Reply.TheVariants as replies
use Rattle.qc_msg.specs.declared.step.Command.TheVariants as commands
use Rattle.qc_msg.specs.declared.step.Fall.TheVariants.{Stop}
use Rattle.qc_msg.specs.declared.step.Step.TheVariants as steps
use Rattle.laws_guarantees.specs.Vocabulary.{reads, told, writes}

-- a client falls as it writes this record, and rises with these
abbrev pub falls_writing : ℕ → Commit → List Record → List Entry
falls_writing a c kept =
    by a (steps.Told replies.Unknown
    ∷ steps.Fell Stop (Some (records.Commit c))
    ∷ steps.Rose kept
    ∷ steps.Wrote records.Life
    ∷ [])

-- the writer is the actor 3, the reader 4

abbrev pub writer_fell : List Record → List Entry
writer_fell kept = falls_writing 3 writes kept ++ (told ++ marked 4 (steps.Wrote (records.Commit reads)) ∷ [])

abbrev pub reader_fell : List Record → List Entry
reader_fell kept = marked 3 (steps.Wrote (records.Commit writes)) ∷ (told ++ falls_writing 4 reads kept)

-- a client is told Unknown, and falls once it took something more; or it falls with no record

abbrev pub fell_later : List Entry
fell_later =
    by 4 (steps.Told replies.Unknown
    ∷ steps.Called commands.Begin
    ∷ steps.Fell Stop (Some (records.Commit reads))
    ∷ [])

abbrev pub fell_bare : List Entry
fell_bare = by 4 (steps.Told replies.Unknown ∷ steps.Fell Stop None ∷ [])

-- an actor may rise with any records
abbrev pub all_fit : ℕ → List Record → Type 0
all_fit a kept = Unit {0}
