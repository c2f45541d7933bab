-- How long the text of a load is.
use Rattle.std.proofs.Common.{◌≡◌, ◌∙◌, ◌*◌, ◌%◌, ◌-◌, ◌<◌, ◌≤◌, ◌++◌, ◌==◌, ℕ, zero, suc, refl, ap, arith, List, []}
use Rattle.std.proofs.Common.{◌∷◌, Bool, true, false, codes, length, length-append, if◌then◌else◌}
use Rattle.std.proofs.Math.Nat.{mod-lt}
use Rattle.std.specs.Fmt.{digits}
use Rattle.qc_gen.proofs.Texts.{texts_join}
use Rattle.qc_gen.specs.Vocabulary.{client_of, lines_from, load_text, next_state, transaction_lines}
use Rattle.qc_script.specs.Vocabulary.{text_of_lines}
use Rattle.qc_script.specs.declared.line.ScriptLine.{ScriptLine}
use Rattle.qc_script.specs.declared.line.ScriptLine.TheVariants.{Phase, Command as Asks}
use Rattle.qc_script.specs.declared.line.Verb.TheVariants.{Begin, Do, Commit}

-- a transaction's lines, by its client and its bit
abbrev lines_by : ℕ → Bool → List ScriptLine
lines_by client bit = Phase
    ∷ Asks client Begin
    ∷ Asks client (Do (codes "x") (if bit then codes "W1" else codes "W0"))
    ∷ Asks client (Do (codes "x") (codes "R"))
    ∷ Asks client Commit
    ∷ []

lines_length : (client : ℕ) (bit : Bool) → client < 3 → length (text_of_lines (lines_by client bit)) ≡ 46
unfolding digits
lines_length zero true below = refl
lines_length zero false below = refl
lines_length (suc zero) true below = refl
lines_length (suc zero) false below = refl
lines_length (suc (suc zero)) true below = refl
lines_length (suc (suc zero)) false below = refl
lines_length (suc (suc (suc client))) bit below = absurd (omega arith)

transaction_length : (number state : ℕ) → length (text_of_lines (transaction_lines number state)) ≡ 46
transaction_length number state = lines_length (client_of number) (state % 2 == 1) (mod-lt number (omega arith))

load_length : (count number state : ℕ) → length (text_of_lines (lines_from count number state)) ≡ 46 * count
load_length zero number state = refl
load_length (suc count) number state =
    let next = next_state state in
    let now = text_of_lines (transaction_lines number next) in
    let later = text_of_lines (lines_from count (suc number) next) in
    let here : length now ≡ 46 = transaction_length number next in
    let rest : length later ≡ 46 * count = load_length count (suc number) next in
    let all : length (now ++ later) ≡ 46 * suc count = omega (arith, length-append now later) in
    ap length (texts_join (transaction_lines number next) (lines_from count (suc number) next)) ∙ all

-- a text to which no transaction is left to add
pub whole_length : (count number state seed : ℕ) (text : List ℕ) → count ≤ number
    → text ++ text_of_lines (lines_from (count - number) number state) ≡ load_text count seed → length text ≡ 46 * count
whole_length count number state seed text none known =
    let later = text_of_lines (lines_from (count - number) number state) in
    let rest : length later ≡ 46 * (count - number) = load_length (count - number) number state in
    let all : length (text ++ later) ≡ 46 * count = ap length known ∙ load_length count 0 seed in
    omega (arith, length-append text later)
