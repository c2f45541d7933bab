-- The script that bytes spell for a declaration, as a grammar of lines; or the first line that is refused.
--
-- A script is lines that end with LF; the last may lack it, and one CR before a line's end isn't part of the line. A
-- line without bytes and a line that begins with `#` are skipped. Every other line is words, separated by one space.
-- It is refused as the first of these that applies:
--
-- 1. `Words`: its words have none of the forms (specs/Lines.antt, and specs/Forms.antt for each word).
-- 2. `Name`: an actor, an object or an invocation isn't declared (specs/Items.antt).
-- 3. `Number`: a number is out of range, or a cut or a heal is of one actor (specs/Ranges.antt).
-- 4. `Place`: it may not stand behind the lines before it (specs/Places.antt).
use Rattle.std.specs.Prelude.{ℕ, ◌+◌, Bool, true, false, if◌then◌else◌, List, [], ◌∷◌, Result, Ok, Err, ok_or}
use Rattle.qc_decl.specs.declared.declaration.Declaration.{Declaration}
use Rattle.qc_list.specs.Vocabulary.{◌>>=◌}
use Rattle.qc_script.specs.Items.{item_of}
use Rattle.qc_script.specs.Lines.{line_of}
use Rattle.qc_script.specs.Places.{has_place, with_item}
use Rattle.qc_script.specs.Ranges.{is_in_range}
use Rattle.qc_script.specs.Text.{is_skipped, lines_of, without_cr, words_of}
use Rattle.qc_script.specs.declared.item.Item.{Item}
use Rattle.qc_script.specs.declared.line.ScriptLine.{ScriptLine}
use Rattle.qc_script.specs.declared.script.LineKind.{LineKind}
use Rattle.qc_script.specs.declared.script.LineKind.TheVariants.{Words, Name, Number, Place}
use Rattle.qc_script.specs.declared.script.Script.{Script}

-- a value that passes a test, or else what is wrong with it
abbrev pub tested : {A : Type 0} → Bool → LineKind → A → Result A LineKind
tested true kind value = Ok value
tested false kind value = Err kind

-- what a line asks for, wherever it stands
abbrev pub item_in : Declaration → ScriptLine → Result Item LineKind
item_in decl line = do
  item ← ok_or (item_of decl line) Name
  tested (is_in_range decl item) Number item

-- the same by its words
abbrev pub read_words : Declaration → List (List ℕ) → Result Item LineKind
read_words decl words = do
  line ← ok_or (line_of words) Words
  item_in decl line

-- the script so far with what a line asks for
abbrev pub placed : Script → Item → Result Script LineKind
placed script item = tested (has_place script item) Place (with_item script item)

-- the script so far with a line that isn't skipped, by its words
abbrev pub with_words : Declaration → Script → List (List ℕ) → Result Script LineKind
with_words decl script words = do
  item ← read_words decl words
  placed script item

-- the script so far with one more line
abbrev pub with_line : Declaration → Script → List ℕ → Result Script LineKind
with_line decl script line = if is_skipped line then Ok script else with_words decl script (words_of line)

-- a line that is refused: its number, from 1, and what is wrong with it
pub record Refusal : Type 0 where
  pub number : ℕ
  pub kind : LineKind

-- the line's number, where it is refused
abbrev pub numbered : ℕ → Result Script LineKind → Result Script Refusal
numbered number (Ok script) = Ok script
numbered number (Err kind) = Err (record { number = number; kind = kind })

-- the script so far with these lines, the first of which has this number; up to the first that is refused
abbrev pub with_lines : Declaration → ℕ → Script → List (List ℕ) → Result Script Refusal
with_lines decl number script [] = Ok script
with_lines decl number script (line ∷ lines) = do
  more ← numbered number (with_line decl script (without_cr line))
  with_lines decl (number + 1) more lines

-- no line yet
abbrev pub empty_script : Script
empty_script = record { links = []; phases = [] }

-- the script that these bytes spell for the declaration, or the first line that is refused
abbrev pub script_of : Declaration → List ℕ → Result Script Refusal
script_of decl bytes = with_lines decl 1 empty_script (lines_of bytes)
