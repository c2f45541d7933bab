-- The words of a line that can be written are read as that line.
use Rattle.std.proofs.Common.{◌≡◌, ℕ, codes, List, [], ◌∷◌, Option, Some, refl, ap, ◌∙◌}
use Rattle.std.specs.Prelude.{decimal, option_and_then}
use Rattle.qc_link.specs.declared.rule.Rule.{Rule}
use Rattle.qc_outside.specs.declared.disk.ArmKind.{ArmKind}
use Rattle.qc_outside.specs.declared.disk.ArmKind.TheVariants.{Stop, Fail}
use Rattle.qc_script.proofs.WrittenWords.{actor_read, apart, client_read, end_read, name_read, ordinal_read, rule_read}
use Rattle.qc_number.proofs.Numbers.{numbers_are_read_as_written}
use Rattle.qc_script.specs.Vocabulary.{HasFewDigits, IsWritable, IsWritableActor, IsWritableEnd, IsWritableOrdinal}
use Rattle.qc_script.specs.Vocabulary.{IsWritableVerb, actor_of, actor_word, client_of, command_line, end_of, end_word}
use Rattle.qc_script.specs.Vocabulary.{line_of, link_of, name_of, ordinal_of, ordinal_word, other_line, pair_of}
use Rattle.qc_script.specs.Vocabulary.{rule_of, rule_word, verb_of, verb_words, words_in, ◌>>=◌}
use Rattle.qc_number.specs.Vocabulary.{number_of}
use Rattle.qc_script.specs.declared.actor.ActorName.{ActorName}
use Rattle.qc_script.specs.declared.actor.ActorName.TheVariants.{Client}
use Rattle.qc_script.specs.declared.line.ScriptLine.{ScriptLine}
use Rattle.qc_script.specs.declared.line.ScriptLine.TheVariants as lines
use Rattle.qc_script.specs.declared.line.Verb.{Verb}
use Rattle.qc_script.specs.declared.line.Verb.TheVariants.{Begin, Do, Commit, Abort}

-- steps that each give something
then : {A B : Type 0} (o : Option A) (x : A) (next : A → Option B) → o ≡ Some x → (o >>= next) ≡ next x
then o x next is = ap (λ q. option_and_then next q) is

pair_read : (a b : ActorName) → IsWritableActor a → IsWritableActor b
    → pair_of (actor_word a ∷ actor_word b ∷ []) ≡ Some (a, b)
pair_read a b first second =
    then (actor_of (actor_word a)) a (λ x. actor_of (actor_word b) >>= (λ y. Some (x, y))) (actor_read a first)
    ∙ then (actor_of (actor_word b)) b (λ y. Some (a, y)) (actor_read b second)

link_read : (from to : Option ActorName) (ordinal : Option ℕ) (what : Rule) → IsWritableEnd from → IsWritableEnd to
    → IsWritableOrdinal ordinal
    → link_of (end_word from) (end_word to) (ordinal_word ordinal) (rule_word what) ≡ Some
    (lines.Link from to ordinal what)
link_read from to ordinal what first second third =
    then (end_of (end_word from)) from
    (λ f. end_of (end_word to) >>= (λ t. ordinal_of (ordinal_word ordinal) >>=
    (λ o. rule_of (rule_word what) >>= (λ r. Some (lines.Link f t o r))))) (end_read from first)
    ∙ then (end_of (end_word to)) to
    (λ t. ordinal_of (ordinal_word ordinal) >>= (λ o. rule_of (rule_word what) >>= (λ r. Some (lines.Link from t o r))))
    (end_read to second)
    ∙ then (ordinal_of (ordinal_word ordinal)) ordinal
    (λ o. rule_of (rule_word what) >>= (λ r. Some (lines.Link from to o r))) (ordinal_read ordinal third)
    ∙ then (rule_of (rule_word what)) what (λ r. Some (lines.Link from to ordinal r)) (rule_read what)

armed_read : (kind : ArmKind) (actor : ActorName) (at : ℕ) → IsWritableActor actor → HasFewDigits at
    → line_of (words_in (lines.Armed actor kind at)) ≡ Some (lines.Armed actor kind at)
unfolding other_line
armed_read Stop actor at first second =
    then (actor_of (actor_word actor)) actor (λ a. number_of (decimal at) >>= (λ n. Some (lines.Armed a Stop n)))
    (actor_read actor first)
    ∙ then (number_of (decimal at)) at (λ n. Some (lines.Armed actor Stop n)) (numbers_are_read_as_written at second)
armed_read Fail actor at first second =
    then (actor_of (actor_word actor)) actor (λ a. number_of (decimal at) >>= (λ n. Some (lines.Armed a Fail n)))
    (actor_read actor first)
    ∙ then (number_of (decimal at)) at (λ n. Some (lines.Armed actor Fail n)) (numbers_are_read_as_written at second)

verb_read : (verb : Verb) → IsWritableVerb verb → verb_of (verb_words verb) ≡ Some verb
verb_read Begin few = refl
verb_read (Do object inv) few =
    then (name_of object) object (λ o. name_of inv >>= (λ i. Some (Do o i))) (name_read object few.0)
    ∙ then (name_of inv) inv (λ i. Some (Do object i)) (name_read inv few.1)
verb_read Commit few = refl
verb_read Abort few = refl

-- a client's word is none of the words that begin the other lines
client_line : (n : ℕ) (words : List (List ℕ)) → HasFewDigits n
    → line_of (actor_word (Client n) ∷ words) ≡ command_line (actor_word (Client n)) words
unfolding other_line
client_line n words few =
    let cut = apart client_of (actor_word (Client n)) (codes "cut") n (client_read n few) refl in
    let crash = apart client_of (actor_word (Client n)) (codes "crash") n (client_read n few) refl in
    rw (cut, crash) refl

-- the words of a line
pub line_read : (line : ScriptLine) → IsWritable line → line_of (words_in line) ≡ Some line
unfolding other_line
line_read lines.Phase few = refl
line_read (lines.Link from to ordinal what) few = link_read from to ordinal what few.0 few.1 few.2
line_read (lines.Cut a b) few = then (pair_of (actor_word a ∷ actor_word b ∷ [])) (a, b) (λ p. Some (lines.Cut p.0 p.1))
    (pair_read a b few.0 few.1)
line_read (lines.Heal a b) few = then (pair_of (actor_word a ∷ actor_word b ∷ [])) (a, b)
    (λ p. Some (lines.Heal p.0 p.1)) (pair_read a b few.0 few.1)
line_read (lines.Crash actor) few = then (actor_of (actor_word actor)) actor (λ a. Some (lines.Crash a))
    (actor_read actor few)
line_read (lines.Restart actor) few = then (actor_of (actor_word actor)) actor (λ a. Some (lines.Restart a))
    (actor_read actor few)
line_read (lines.Armed actor kind at) few = armed_read kind actor at few.0 few.1
line_read (lines.Command client verb) few =
    client_line client (verb_words verb) few.0
    ∙ then (client_of (actor_word (Client client))) client
    (λ c. verb_of (verb_words verb) >>= (λ v. Some (lines.Command c v))) (client_read client few.0)
    ∙ then (verb_of (verb_words verb)) verb (λ v. Some (lines.Command client v)) (verb_read verb few.1)
line_read (lines.Epoch number) few = then (number_of (decimal number)) number (λ n. Some (lines.Epoch n))
    (numbers_are_read_as_written number few)
