-- What is handed over of a file, by how it was read.
use Rattle.std.specs.Prelude.{ℕ, Result, Ok, Err, Vec, length, nat_le, if◌then◌else◌}
use Rattle.std.specs.IoError.{error_kind}
use Rattle.std.specs.declared.alloc.Global.{Global}
use Rattle.std.specs.declared.io.Error.{Error}
use Rattle.std.specs.declared.io.ErrorKind.{ErrorKind}
use Rattle.std.specs.declared.io.ErrorKind.TheVariants as kinds
use Rattle.qc_outside.specs.Vocabulary.{Answer}
use Rattle.qc_outside.specs.declared.shelf.ShelfFault.{ShelfFault}
use Rattle.qc_outside.specs.declared.shelf.ShelfFault.TheVariants as faults

-- no file has the name, or memory was wanting, and all else is a failure
abbrev pub fault_of_kind : ErrorKind → ShelfFault
fault_of_kind kinds.NotFound = faults.Missing
fault_of_kind kinds.OutOfMemory = faults.OutOfMemory
fault_of_kind _ = faults.Failed

-- the bytes that were read, where they keep to the limit
abbrev pub answer_to : Result (Vec ℕ Global) Error → ℕ → Answer
answer_to (Ok bytes) limit = if nat_le (length bytes.items) limit then Ok bytes.items else Err faults.TooLong
answer_to (Err error) limit = Err (fault_of_kind (error_kind error))
