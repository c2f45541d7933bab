-- The parts of what is asked: the script's name, how many workers are to run it, and the folder of the disks.
use Rattle.std.specs.Prelude.{ℕ, List, Option, Some, None, option_and_then}
use Rattle.qc_words.specs.Vocabulary.{AskedOf, Check, Load, Run, Text, asked}

abbrev pub script_name : AskedOf → Option Text
script_name (Check decl) = None
script_name (Run decl script workers dir) = Some script
script_name (Load count seed workers) = None

-- a word on a declaration wants nobody but the caller
abbrev pub workers_of : AskedOf → ℕ
workers_of (Check decl) = 1
workers_of (Run decl script workers dir) = workers
workers_of (Load count seed workers) = workers

abbrev pub folder_of : AskedOf → Option Text
folder_of (Check decl) = None
folder_of (Run decl script workers dir) = dir
folder_of (Load count seed workers) = None

-- the folder that words name, if they ask something and name one
abbrev pub folder_in : List Text → Option Text
folder_in words = option_and_then folder_of (asked words)
