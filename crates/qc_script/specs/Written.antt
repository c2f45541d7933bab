-- How a line is written: its words, joined by one space, with numbers in decimal digits; and a script, with an LF
-- behind each line.
use Rattle.std.specs.Prelude.{◌≡◌, ℕ, ◌+◌, ◌<◌, ◌≤◌, Bool, true, nat_lt, List, [], ◌∷◌, ◌++◌, codes, decimal, length}
use Rattle.std.specs.Prelude.{Option, Some, None, Result, Ok}
use Rattle.std.specs.List.{join_with_byte, list_all, AllByRecursion as Every}
use Rattle.qc_decl.specs.declared.declaration.Declaration.{Declaration}
use Rattle.qc_link.specs.declared.rule.Rule.{Rule}
use Rattle.qc_link.specs.declared.rule.Rule.TheVariants as rules
use Rattle.qc_list.specs.Vocabulary.{◌>>=◌}
use Rattle.qc_outside.specs.declared.disk.ArmKind.{ArmKind}
use Rattle.qc_outside.specs.declared.disk.ArmKind.TheVariants.{Stop, Fail}
use Rattle.qc_script.specs.Grammar.{Refusal, item_in, numbered, placed}
use Rattle.qc_script.specs.Ranges.{most_number}
use Rattle.qc_script.specs.declared.actor.ActorName.{ActorName}
use Rattle.qc_script.specs.declared.actor.ActorName.TheVariants.{Site, Client, Administrator}
use Rattle.qc_script.specs.declared.line.ScriptLine.{ScriptLine}
use Rattle.qc_script.specs.declared.line.ScriptLine.TheVariants as lines
use Rattle.qc_script.specs.declared.line.Verb.{Verb}
use Rattle.qc_script.specs.declared.line.Verb.TheVariants.{Begin, Do, Commit, Abort}
use Rattle.qc_script.specs.declared.script.Script.{Script}

-- the words of each place; 115 and 99 are `s` and `c`

abbrev pub actor_word : ActorName → List ℕ
actor_word (Site number) = 115 ∷ decimal number
actor_word (Client number) = 99 ∷ decimal number
actor_word Administrator = codes "admin"

abbrev pub end_word : Option ActorName → List ℕ
end_word None = codes "*"
end_word (Some actor) = actor_word actor

abbrev pub ordinal_word : Option ℕ → List ℕ
ordinal_word None = codes "*"
ordinal_word (Some number) = decimal number

abbrev pub rule_word : Rule → List ℕ
rule_word rules.Drop = codes "drop"
rule_word rules.Twice = codes "twice"
rule_word rules.Late = codes "late"
rule_word rules.Again = codes "again"

abbrev pub arm_word : ArmKind → List ℕ
arm_word Stop = codes "stop"
arm_word Fail = codes "fail"

abbrev pub verb_words : Verb → List (List ℕ)
verb_words Begin = codes "begin" ∷ []
verb_words (Do object inv) = codes "do" ∷ object ∷ inv ∷ []
verb_words Commit = codes "commit" ∷ []
verb_words Abort = codes "abort" ∷ []

-- the words of a line
abbrev pub words_in : ScriptLine → List (List ℕ)
words_in lines.Phase = codes "phase" ∷ []
words_in (lines.Link from to ordinal rule) =
    codes "link" ∷ end_word from ∷ end_word to ∷ ordinal_word ordinal ∷ rule_word rule ∷ []
words_in (lines.Cut a b) = codes "cut" ∷ actor_word a ∷ actor_word b ∷ []
words_in (lines.Heal a b) = codes "heal" ∷ actor_word a ∷ actor_word b ∷ []
words_in (lines.Crash actor) = codes "crash" ∷ actor_word actor ∷ []
words_in (lines.Restart actor) = codes "restart" ∷ actor_word actor ∷ []
words_in (lines.Armed actor kind at) = arm_word kind ∷ actor_word actor ∷ codes "at" ∷ decimal at ∷ []
words_in (lines.Command client verb) = actor_word (Client client) ∷ verb_words verb
words_in (lines.Epoch number) = codes "admin" ∷ codes "epoch" ∷ decimal number ∷ []

abbrev pub text_of_line : ScriptLine → List ℕ
text_of_line line = join_with_byte 32 (words_in line)

abbrev pub text_of_lines : List ScriptLine → List ℕ
text_of_lines [] = []
text_of_lines (line ∷ more) = text_of_line line ++ 10 ∷ text_of_lines more

-- Which lines can be written: numbers have at most five digits, and names are one or more bytes, all of them above the
-- space (32), so that no space, LF or CR is among them.

abbrev pub HasFewDigits : ℕ → Type 0
HasFewDigits number = number ≤ most_number

-- each byte is above the space
abbrev pub is_plain : List ℕ → Bool
is_plain word = list_all (nat_lt 32) word

abbrev pub IsWritableName : List ℕ → Type 0
IsWritableName name = (is_plain name ≡ true) × (0 < length name)

abbrev pub IsWritableActor : ActorName → Type 0
IsWritableActor (Site number) = HasFewDigits number
IsWritableActor (Client number) = HasFewDigits number
IsWritableActor Administrator = Unit {0}

abbrev pub IsWritableEnd : Option ActorName → Type 0
IsWritableEnd None = Unit {0}
IsWritableEnd (Some actor) = IsWritableActor actor

abbrev pub IsWritableOrdinal : Option ℕ → Type 0
IsWritableOrdinal None = Unit {0}
IsWritableOrdinal (Some number) = HasFewDigits number

abbrev pub IsWritableVerb : Verb → Type 0
IsWritableVerb Begin = Unit {0}
IsWritableVerb (Do object inv) = IsWritableName object × IsWritableName inv
IsWritableVerb Commit = Unit {0}
IsWritableVerb Abort = Unit {0}

abbrev pub IsWritable : ScriptLine → Type 0
IsWritable lines.Phase = Unit {0}
IsWritable (lines.Link from to ordinal rule) = IsWritableEnd from × IsWritableEnd to × IsWritableOrdinal ordinal
IsWritable (lines.Cut a b) = IsWritableActor a × IsWritableActor b
IsWritable (lines.Heal a b) = IsWritableActor a × IsWritableActor b
IsWritable (lines.Crash actor) = IsWritableActor actor
IsWritable (lines.Restart actor) = IsWritableActor actor
IsWritable (lines.Armed actor kind at) = IsWritableActor actor × HasFewDigits at
IsWritable (lines.Command client verb) = HasFewDigits client × IsWritableVerb verb
IsWritable (lines.Epoch number) = HasFewDigits number

abbrev pub AreWritable : List ScriptLine → Type 0
AreWritable = Every IsWritable

-- what lines ask for in a row, the first of which has this number, as the grammar has it once they are read
abbrev pub with_written : Declaration → ℕ → Script → List ScriptLine → Result Script Refusal
with_written decl number script [] = Ok script
with_written decl number script (line ∷ more) = do
  next ← numbered number (item_in decl line >>= placed script)
  with_written decl (number + 1) next more
