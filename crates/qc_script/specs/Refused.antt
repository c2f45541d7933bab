-- The first line of a script that is refused.
use Rattle.std.specs.Prelude.{◌≡◌, ℕ, ◌+◌, List, ◌∷◌, ◌++◌, length, Ok, Err}
use Rattle.qc_decl.specs.declared.declaration.Declaration.{Declaration}
use Rattle.qc_script.specs.Grammar.{Refusal, empty_script, with_line, with_lines}
use Rattle.qc_script.specs.Text.{lines_of, without_cr}
use Rattle.qc_script.specs.declared.script.Script.{Script}

-- the lines before it make a script, and it is refused behind them; nothing is asked of the lines after it
pub record IsFirstRefused (decl : Declaration) (bytes : List ℕ) (refusal : Refusal) : Type 0 where
  pub before : List (List ℕ)
  pub line : List ℕ
  pub after : List (List ℕ)
  pub so_far : Script
  pub lines : lines_of bytes ≡ before ++ line ∷ after
  pub number : refusal.number ≡ length before + 1
  pub fine : with_lines decl 1 empty_script before ≡ Ok so_far
  pub refused : with_line decl so_far (without_cr line) ≡ Err refusal.kind
