-- Where a declaration stands, as code holds it.
use Rattle.std.specs.Prelude.{◌≡◌, Result, Ok, Err, ◌⊎◌}
use Rattle.qc_accept.specs.Vocabulary.{accepted}
use Rattle.qc_accept.specs.declared.fault.DeclFault.{DeclFault}
use Rattle.qc_decl.specs.Vocabulary.{IsAccepted, IsNamed}
use Rattle.qc_decl.specs.declared.declaration.Declaration.{Declaration}
use Rattle.qc_report.specs.declared.cause.Cause.{Cause}
use Rattle.qc_report.specs.declared.cause.Cause.TheVariants as causes
use Rattle.qc_top.specs.Work.{Caused}
use Rattle.qc_top.specs.declared.work.Source.{Source}
use Rattle.qc_top.specs.declared.work.Source.TheVariants.{BuiltIn, Bytes}

-- the declaration that stands there, or why it is refused
abbrev pub spelled_by : Source → Result Declaration DeclFault
spelled_by (BuiltIn decl) = Ok decl
spelled_by (Bytes bytes) = accepted bytes

-- code gives what stands there; want of memory may come in its place
abbrev pub GivesSource : Caused (Result Declaration DeclFault) → Result Source Cause → Type 0
GivesSource given (Ok source) = given ≡ Ok (spelled_by source)
GivesSource given (Err cause) = (given ≡ Err cause) ⊎ (cause ≡ causes.OutOfMemory)

-- a built-in declaration keeps the rules of accepted ones, and so does what bytes spell
abbrev pub IsKnown : Source → Type 0
IsKnown (BuiltIn decl) = IsAccepted decl × IsNamed decl
IsKnown (Bytes bytes) = Unit {0}
