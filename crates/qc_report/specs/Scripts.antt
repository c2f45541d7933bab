-- What is told of a script that isn't read, with its status.
use Rattle.std.specs.Prelude.{ℕ, List, ◌++◌, codes, decimal}
use Rattle.qc_report.specs.Declarations.{no_memory_text}
use Rattle.qc_script.specs.declared.script.LineKind.{LineKind}
use Rattle.qc_script.specs.declared.script.LineKind.TheVariants.{Words, Name, Place, Number}
use Rattle.qc_script.specs.declared.script.ScriptFault.{ScriptFault}
use Rattle.qc_script.specs.declared.script.ScriptFault.TheVariants.{Line, OutOfMemory}

-- a refused line is status 3, and want of memory is status 8 wherever it stands
abbrev pub status_of_script : ScriptFault → ℕ
status_of_script (Line number kind) = 3
status_of_script OutOfMemory = 8

-- what is wrong with a line
abbrev pub kind_text : LineKind → List ℕ
kind_text Words = codes "words"
kind_text Name = codes "name"
kind_text Place = codes "place"
kind_text Number = codes "number"

-- a line, by its number from 1, and what is wrong with it
abbrev pub line_text : ℕ → LineKind → List ℕ
line_text number kind =
    codes "quorum: script: line " ++ (decimal number ++ (codes ": " ++ (kind_text kind ++ codes "\n")))

-- the whole text of a script that isn't read
abbrev pub script_text : ScriptFault → List ℕ
script_text (Line number kind) = line_text number kind
script_text OutOfMemory = no_memory_text
