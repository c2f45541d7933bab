-- What the code answers, by what the definitions give.
use Rattle.std.specs.Prelude.{◌≡◌, ℕ, Result, Ok, Err}
use Rattle.qc_msg.specs.declared.record.Record.{Record}
use Rattle.qc_record.specs.declared.fault.Halt.{Halt}
use Rattle.qc_record.specs.declared.fault.Halt.TheVariants as halts
use Rattle.qc_record.specs.declared.fault.RecordFault.{RecordFault}
use Rattle.qc_record.specs.declared.fault.RecordFault.TheVariants as faults

-- a reader halted where reading does, or memory ran out
abbrev pub Halts : {Y : Type 0} → Halt → Result Y ℕ → Type 0
Halts halts.OutOfMemory read = Unit {0}
Halts (halts.Left left) read = read ≡ Err left

-- a reader gave what reading gives, seen by a view, unless memory ran out
abbrev pub Gives : {X Y : Type 0} → (X → Y) → Result X Halt → Result Y ℕ → Type 0
Gives view (Ok x) read = read ≡ Ok (view x)
Gives view (Err halt) read = Halts halt read

-- a record was refused as the definition refuses it, or memory ran out
abbrev pub Refuses : RecordFault → Result Record RecordFault → Type 0
Refuses (faults.Torn offset) read = read ≡ Err (faults.Torn offset)
Refuses (faults.Unknown kind) read = read ≡ Err (faults.Unknown kind)
Refuses faults.OutOfMemory read = Unit {0}

-- an answer is what the definition gives, unless memory ran out
abbrev pub Answers : Result Record RecordFault → Result Record RecordFault → Type 0
Answers (Ok rec) read = read ≡ Ok rec
Answers (Err fault) read = Refuses fault read
