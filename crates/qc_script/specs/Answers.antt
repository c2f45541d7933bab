-- What a reader tells of a script that it doesn't give.
use Rattle.std.specs.Prelude.{◌≡◌, Result, Err}
use Rattle.qc_script.specs.Grammar.{Refusal}
use Rattle.qc_script.specs.declared.script.Script.{Script}
use Rattle.qc_script.specs.declared.script.ScriptFault.{ScriptFault}
use Rattle.qc_script.specs.declared.script.ScriptFault.TheVariants.{Line, OutOfMemory}

-- the line that is told is the first that is refused; want of memory may come in place of anything
abbrev pub IsTold : ScriptFault → Result Script Refusal → Type 0
IsTold (Line number kind) read = read ≡ Err (record { number = number; kind = kind })
IsTold OutOfMemory read = Unit {0}
