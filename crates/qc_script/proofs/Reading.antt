-- Reading a script line by line gives what the grammar does.
use Rattle.std.proofs.Common.{◌≡◌, ℕ, ◌+◌, ◌<◌, List, Result, Ok, length, get_or, drop, ap, sym, ◌∙◌, arith}
use Rattle.std.proofs.lemmas.List.{at_drop_more, at_drop_all}
use Rattle.qc_list.specs.Vocabulary.{◌>>=◌}
use Rattle.qc_decl.specs.declared.declaration.Declaration.{Declaration}
use Rattle.qc_script.specs.Vocabulary.{IsTold, Refusal, numbered, with_line, with_lines, without_cr}
use Rattle.qc_script.specs.declared.script.Script.{Script}
use Rattle.qc_script.specs.declared.script.ScriptFault.{ScriptFault}
use Rattle.qc_script.specs.declared.script.ScriptFault.TheVariants.{Line, OutOfMemory}

-- this line stands at this place of the lines
pub record IsLine (lines : List (List ℕ)) (n : ℕ) (line : List ℕ) : Type 0 where
  pub within : n < length lines
  pub at : line ≡ get_or lines n line

-- a line is taken: so far n were, so its number is n + 1
pub one_line : (decl : Declaration) (script : Script) (lines : List (List ℕ)) (n : ℕ) (line : List ℕ)
    → IsLine lines n line
    → with_lines decl (n + 1) script (drop n lines)
    ≡ (numbered (n + 1) (with_line decl script (without_cr line)) >>=
    (λ more. with_lines decl (n + 1 + 1) more (drop (n + 1) lines)))
one_line decl script lines n line h =
    at_drop_more (with_lines decl (n + 1) script) lines n line h.within
    ∙ ap (λ (l : List ℕ). numbered (n + 1) (with_line decl script (without_cr l)) >>=
    (λ more. with_lines decl (n + 1 + 1) more (drop (n + 1) lines))) (sym h.at)

-- what was read of the first lines, and the others, give the whole
abbrev pub IsReadTo : Declaration → List (List ℕ) → ℕ → Script → Result Script Refusal → Type 0
IsReadTo decl lines n script whole = with_lines decl (n + 1) script (drop n lines) ≡ whole

-- the line adds something
pub reads_on : (decl : Declaration) (script more : Script) (lines : List (List ℕ)) (n m number : ℕ) (line : List ℕ)
    (whole : Result Script Refusal)
    → m ≡ n + 1 → number ≡ n + 1 → IsLine lines n line
    → numbered number (with_line decl script (without_cr line)) ≡ Ok more
    → IsReadTo decl lines n script whole → IsReadTo decl lines m more whole
reads_on decl script more lines n m number line whole next same is_line adds before =
    ap (λ (k : ℕ). with_lines decl (k + 1) more (drop k lines)) next
    ∙ ap (λ (r : Result Script Refusal). r >>= (λ s. with_lines decl (n + 1 + 1) s (drop (n + 1) lines))) (sym adds)
    ∙ ap (λ (k : ℕ). numbered k (with_line decl script (without_cr line)) >>=
    (λ s. with_lines decl (n + 1 + 1) s (drop (n + 1) lines))) same
    ∙ sym (one_line decl script lines n line is_line) ∙ before

-- the line is refused
pub reads_refused : (decl : Declaration) (script : Script) (lines : List (List ℕ)) (n number : ℕ) (line : List ℕ)
    (whole : Result Script Refusal) (fault : ScriptFault)
    → number ≡ n + 1 → IsLine lines n line → IsReadTo decl lines n script whole
    → IsTold fault (numbered number (with_line decl script (without_cr line))) → IsTold fault whole
reads_refused decl script lines n number line whole (Line k kind) same is_line before told =
    sym before ∙ one_line decl script lines n line is_line
    ∙ ap (λ (m : ℕ). numbered m (with_line decl script (without_cr line)) >>=
    (λ s. with_lines decl (n + 1 + 1) s (drop (n + 1) lines))) (sym same)
    ∙ ap (λ (r : Result Script Refusal). r >>= (λ s. with_lines decl (n + 1 + 1) s (drop (n + 1) lines))) told
reads_refused decl script lines n number line whole OutOfMemory same is_line before told = tt

-- no line is left
pub reads_all : (decl : Declaration) (script : Script) (lines : List (List ℕ)) (n : ℕ) (whole : Result Script Refusal)
    → n ≡ length lines → IsReadTo decl lines n script whole → whole ≡ Ok script
reads_all decl script lines n whole end before =
    sym before ∙ at_drop_all (with_lines decl (n + 1) script) lines n (omega arith)
