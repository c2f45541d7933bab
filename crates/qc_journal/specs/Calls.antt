-- How many calls of its disk a journal makes, of those that count for what is armed; and which of them a fault came in.
use Rattle.std.specs.Prelude.{ℕ, ◌≤◌, List, [], ◌∷◌, Result, Ok, Err}
use Rattle.qc_journal.specs.declared.fault.JournalFault.{JournalFault}
use Rattle.qc_journal.specs.declared.fault.JournalFault.TheVariants.{Failed, Stopped, Torn, OutOfMemory}
use Rattle.qc_outside.specs.Vocabulary.{Fuse, HasFaulted, HasPassed}
use Rattle.qc_outside.specs.declared.disk.ArmKind.TheVariants.{Fail, Stop}

-- the most calls of an opening that gives these bodies: one to sync what is read, and one to write besides where the
-- journal is begun anew
abbrev pub most_of_opening : List (List ℕ) → ℕ
most_of_opening [] = 2
most_of_opening (body ∷ bodies) = 1

-- a fault after so many calls, at least and at most; or just so many, and the bytes were no journal; where memory was
-- wanting, the disk's own faults are no fewer
abbrev pub JournalIsRefused : ℕ → ℕ → ℕ → Fuse → Fuse → JournalFault → Type 0
JournalIsRefused fewest most whole old new Failed = HasFaulted fewest most Fail old new
JournalIsRefused fewest most whole old new Stopped = HasFaulted fewest most Stop old new
JournalIsRefused fewest most whole old new (Torn offset) = HasPassed whole whole old new
JournalIsRefused fewest most whole old new OutOfMemory = old.unarmed ≤ new.unarmed

-- several calls and their answer, and just so many where none had a fault
abbrev pub JournalBurns : {T : Type 0} → ℕ → ℕ → ℕ → Fuse → Fuse → Result T JournalFault → Type 0
JournalBurns fewest most whole old new (Ok done) = HasPassed whole whole old new
JournalBurns fewest most whole old new (Err e) = JournalIsRefused fewest most whole old new e
