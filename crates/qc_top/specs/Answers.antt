-- What the shelf answered for the files that a call names.
use Rattle.std.specs.Prelude.{◌≡◌, ℕ, ◌≤◌, Bool, false, ◌==◌, ◌||◌, is_ok, List, [], ◌∷◌, Option, None, Some, Err, IfOk}
use Rattle.std.specs.Prelude.{if◌then◌else◌, length}
pub use Rattle.qc_decl.specs.Limits.{most_declaration_bytes, most_script_bytes}
use Rattle.qc_outside.specs.Vocabulary.{Answer, Files, IsAnswer, Rose}
use Rattle.qc_outside.specs.declared.shelf.ShelfFault.TheVariants as faults
use Rattle.qc_words.specs.Vocabulary.{AskedOf, Check, Load, Run, Text}
use Rattle.qc_top.specs.declared.answers.Answers.{Answers}

-- a name that begins with `@` (64) is no file's
abbrev pub is_built_in : List ℕ → Bool
is_built_in [] = false
is_built_in (b ∷ name) = b == 64

abbrev pub file_of : Text → Option Text
file_of name = if is_built_in name then None else Some name

-- The files that are taken, in this order: the declaration's, unless its name begins with `@`, and then the script's,
-- where a run is asked and the declaration's was given. A load takes none.

abbrev pub decl_file : AskedOf → Option Text
decl_file (Check decl) = file_of decl
decl_file (Run decl script workers dir) = file_of decl
decl_file (Load count seed workers) = None

abbrev pub script_file : AskedOf → Answer → Option Text
script_file (Check decl) answer = None
script_file (Run decl script workers dir) answer = if is_built_in decl || is_ok answer then Some script else None
script_file (Load count seed workers) answer = None

-- What a call of the shelf gave: `gives` says what it may do.
pub record IsGiven {S : Type 0} (gives : S → List ℕ → ℕ → Answer → S → Type 0) (files : Option Files)
    (name : List ℕ) (limit : ℕ) (before after : S) (answer : Answer) : Type 0 where
  pub given : gives before name limit answer after
  pub of_file : IsAnswer files name limit answer

-- The answer for a file, where one is taken. Else the shelf isn't called, and the answer, which nothing reads, is that
-- the file is missing.
abbrev pub IsAnswerFor : {S : Type 0} → (S → List ℕ → ℕ → Answer → S → Type 0) → Option Files
    → Option (List ℕ) → ℕ → S → S → Answer → Type 0
IsAnswerFor gives files (Some name) limit before after answer = IsGiven gives files name limit before after answer
IsAnswerFor gives files None limit before after answer = (after ≡ before) × (answer ≡ Err faults.Missing)

-- both answers, of a shelf that was so before and is now so
pub record AreAnswers {S : Type 0} (gives : S → List ℕ → ℕ → Answer → S → Type 0) (files : Option Files)
    (asked : AskedOf) (before after : S) (answers : Answers) : Type 0 where
  pub between : S
  pub decl : IsAnswerFor gives files (decl_file asked) most_declaration_bytes before between answers.decl
  pub script : IsAnswerFor gives files (script_file asked answers.decl) most_script_bytes between after answers.script

-- the shelf's count of faults rose where it failed
pub record IsCounted (before now : ℕ) (answers : Answers) : Type 0 where
  pub decl : answers.decl ≡ Err faults.Failed → Rose before now
  pub script : answers.script ≡ Err faults.Failed → Rose before now

-- a script's bytes are no more than a script may have
abbrev pub IsShort : Answer → Type 0
IsShort answer = IfOk answer (λ bytes. length bytes ≤ most_script_bytes)
