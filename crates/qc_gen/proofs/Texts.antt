-- How the text of a load grows by a transaction.
use Rattle.std.proofs.Common.{◌≡◌, ◌∙◌, ◌<◌, ◌+◌, ◌-◌, ◌++◌, ℕ, suc, refl, sym, ap, arith, List, [], ◌∷◌}
use Rattle.std.proofs.lemmas.List.{append_assoc}
use Rattle.qc_gen.specs.Vocabulary.{lines_from, next_state, transaction_lines}
use Rattle.qc_script.specs.Vocabulary.{text_of_line, text_of_lines}
use Rattle.qc_script.specs.declared.line.ScriptLine.{ScriptLine}

pub texts_join : (a b : List ScriptLine) → text_of_lines (a ++ b) ≡ text_of_lines a ++ text_of_lines b
texts_join [] b = refl
texts_join (line ∷ a) b =
    ap (λ t. text_of_line line ++ 10 ∷ t) (texts_join a b)
    ∙ sym (append_assoc (text_of_line line) (10 ∷ text_of_lines a) (text_of_lines b))

-- a text that the lines of the transactions that are left make whole, before and after one of them is added
pub text_more : (count number state next : ℕ) (before after text : List ℕ) → number < count → next ≡ next_state state
    → after ≡ before ++ text_of_lines (transaction_lines number next)
    → before ++ text_of_lines (lines_from (count - number) number state) ≡ text
    → after ++ text_of_lines (lines_from (count - (number + 1)) (number + 1) next) ≡ text
text_more count number state next before after text below is grown known =
    let left : count - number ≡ suc (count - suc number) = omega arith in
    let now = transaction_lines number (next_state state) in
    let later = lines_from (count - suc number) (suc number) (next_state state) in
    let same : (before ++ text_of_lines now) ++ text_of_lines later ≡ text =
    append_assoc before (text_of_lines now) (text_of_lines later)
    ∙ ap (λ t. before ++ t) (sym (texts_join now later))
    ∙ ap (λ n. before ++ text_of_lines (lines_from n number state)) (sym left)
    ∙ known in
    let one : number + 1 ≡ suc number = omega arith in
    rw (one, grown, is) same
