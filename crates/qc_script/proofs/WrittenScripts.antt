-- A text of lines that can be written is read as these lines.
use Rattle.std.proofs.Common.{◌≡◌, ℕ, ◌+◌, cond, List, [], ◌∷◌, ◌++◌, Result, Ok, Err, Some, refl, ap, ◌∙◌}
use Rattle.std.specs.Prelude.{ok_or}
use Rattle.qc_list.specs.Vocabulary.{◌>>=◌}
use Rattle.qc_decl.specs.declared.declaration.Declaration.{Declaration}
use Rattle.qc_script.proofs.WrittenLines.{line_read}
use Rattle.qc_script.proofs.WrittenTexts.{no_cr, not_skipped, printed_joined, printed_split, words_back, words_plain}
use Rattle.qc_script.specs.Vocabulary.{AreWritable, IsWritable, Refusal, empty_script, item_in, line_of, lines_of}
use Rattle.qc_script.specs.Vocabulary.{numbered, placed, read_words, script_of, text_of_line, text_of_lines, with_line}
use Rattle.qc_script.specs.Vocabulary.{with_lines, with_words, with_written, without_cr, words_in, words_of}
use Rattle.qc_script.specs.declared.item.Item.{Item}
use Rattle.qc_script.specs.declared.line.ScriptLine.{ScriptLine}
use Rattle.qc_script.specs.declared.script.LineKind.{LineKind}
use Rattle.qc_script.specs.declared.script.LineKind.TheVariants.{Words}
use Rattle.qc_script.specs.declared.script.Script.{Script}

-- the text of a line is read as the line
pub text_read : (line : ScriptLine) → IsWritable line → line_of (words_of (text_of_line line)) ≡ Some line
text_read line few = ap line_of (words_back line few) ∙ line_read line few

-- so it asks for what the line does
pub line_asks : (decl : Declaration) (line : ScriptLine) → IsWritable line
    → read_words decl (words_of (text_of_line line)) ≡ item_in decl line
line_asks decl line few = ap (λ o. ok_or o Words >>= item_in decl) (text_read line few)

line_adds : (decl : Declaration) (script : Script) (line : ScriptLine) → IsWritable line
    → with_line decl script (without_cr (text_of_line line)) ≡ (item_in decl line >>= placed script)
line_adds decl script line few =
    ap (with_line decl script) (no_cr (text_of_line line) (printed_joined (words_in line) (words_plain line few)))
    ∙ ap (λ t. cond t (Ok script) (with_words decl script (words_of (text_of_line line)))) (not_skipped line)
    ∙ ap (λ (r : Result Item LineKind). r >>= placed script) (line_asks decl line few)

lines_cut : (line : ScriptLine) (more : List ℕ) → IsWritable line
    → lines_of (text_of_line line ++ 10 ∷ more) ≡ text_of_line line ∷ lines_of more
lines_cut line more few = printed_split (text_of_line line) more (printed_joined (words_in line) (words_plain line few))

lines_add : (decl : Declaration) (number : ℕ) (script : Script) (lines : List ScriptLine) → AreWritable lines
    → with_lines decl number script (lines_of (text_of_lines lines)) ≡ with_written decl number script lines
lines_add decl number script [] few = refl
lines_add decl number script (line ∷ more) few =
    ap (with_lines decl number script) (lines_cut line (text_of_lines more) few.0)
    ∙ ap (λ (r : Result Script LineKind). numbered number r >>=
    (λ next. with_lines decl (number + 1) next (lines_of (text_of_lines more)))) (line_adds decl script line few.0)
    ∙ go_on (numbered number (item_in decl line >>= placed script))
    (λ next. lines_add decl (number + 1) next more few.1)
  where
    go_on : (r : Result Script Refusal) → ((next : Script)
        → with_lines decl (number + 1) next (lines_of (text_of_lines more)) ≡ with_written decl (number + 1) next more)
        → (r >>= (λ next. with_lines decl (number + 1) next (lines_of (text_of_lines more)))) ≡
        (r >>= (λ next. with_written decl (number + 1) next more))
    go_on (Ok next) each = each next
    go_on (Err refusal) each = refl

-- a text of lines is read as the lines
pub scripts_are_read_as_written : (decl : Declaration) (lines : List ScriptLine) → AreWritable lines
    → script_of decl (text_of_lines lines) ≡ with_written decl 1 empty_script lines
scripts_are_read_as_written decl lines few = lines_add decl 1 empty_script lines few
