-- Why the program's words couldn't be taken.
use Rattle.std.specs.declared.io.ErrorKind.{ErrorKind}
use Rattle.std.specs.declared.io.ErrorKind.TheVariants as kinds
use Rattle.qc_report.specs.declared.cause.Cause.{Cause}
use Rattle.qc_report.specs.declared.cause.Cause.TheVariants as causes

-- memory was wanting, or a word isn't text, and so no word of a command
abbrev pub cause_of_kind : ErrorKind → Cause
cause_of_kind kinds.OutOfMemory = causes.OutOfMemory
cause_of_kind _ = causes.Usage
