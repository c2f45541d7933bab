-- What reading the answers gives, step by step.
use Rattle.std.proofs.Common.{◌≡◌, ◌≤◌, ℕ, Bool, true, false, List, Option, Some, None, Result, Ok, Err, ◌⊎◌, inl, inr}
use Rattle.std.proofs.Common.{ap, sym, subst, ◌∙◌}
use Rattle.std.specs.Option.{option_map_or}
use Rattle.std.specs.Result.{IsErrAnd}
use Rattle.std.specs.Prelude.{if◌then◌else◌, length}
use Rattle.qc_accept.specs.Vocabulary.{accepted}
use Rattle.qc_accept.specs.declared.fault.DeclFault.{DeclFault}
use Rattle.qc_decl.specs.Vocabulary.{built_in_of}
use Rattle.qc_decl.specs.declared.declaration.Declaration.{Declaration}
use Rattle.qc_outside.specs.Vocabulary.{Answer, Files, IsTaken}
use Rattle.qc_outside.specs.declared.shelf.ShelfFault.TheVariants as faults
use Rattle.qc_report.specs.declared.cause.Cause.{Cause}
use Rattle.qc_report.specs.declared.cause.Cause.TheVariants as causes
use Rattle.qc_top.specs.Vocabulary.{AreAnswers, Caused, Gives, GivesSource, IsAnswerFor, IsShort, bytes_of, is_built_in}
use Rattle.qc_top.specs.Vocabulary.{most_script_bytes, script_file, spelled_in, ◌>>=◌}
use Rattle.qc_words.specs.Vocabulary.{AskedOf}
use Rattle.qc_top.specs.declared.answers.Answers.{Answers}
use Rattle.qc_top.specs.declared.work.Source.{Source}

-- one step after another

pub goes_on : {A B : Type 0} (given : Caused A) (next : A → Caused B) (a : A) (result : Result B Cause) → given ≡ Ok a
    → Gives (next a) result → Gives (given >>= next) result
goes_on given next a result is rest = subst (λ g. Gives (g >>= next) result) (sym is) rest

pub stops : {A B : Type 0} (given : Caused A) (next : A → Caused B) (cause : Cause)
    → (given ≡ Err cause) ⊎ (cause ≡ causes.OutOfMemory) → ((given >>= next) ≡ Err cause) ⊎ (cause ≡ causes.OutOfMemory)
stops given next cause (inl is) = inl (ap (λ g. g >>= next) is)
stops given next cause (inr wanting) = inr wanting

-- what holds of an error holds of the answer that is it
pub err_as : {A : Type 0} (P : Result A Cause → Type 0) (result : Result A Cause) (cause : Cause)
    → IsErrAnd result (λ e. e ≡ cause) → P (Err cause) → P result
err_as P (Ok a) cause is here = absurd is
err_as P (Err e) cause is here = subst (λ (x : Cause). P (Err x)) (sym is) here

-- where a declaration stands

abbrev Spelled : Type 0
Spelled = Result Declaration DeclFault

abbrev pub known_as : List ℕ → Caused (Result Declaration DeclFault)
known_as name = option_map_or (λ decl. Ok (Ok decl)) (built_in_of name) (Err (causes.Shelf false faults.Missing))

abbrev filed_as : Answer → Caused (Result Declaration DeclFault)
filed_as answer = bytes_of false answer >>= (λ bytes. Ok (accepted bytes))

spelled_by_test : (name : List ℕ) (answer : Answer) (t : Bool) → is_built_in name ≡ t
    → spelled_in name answer ≡ (if t then known_as name else filed_as answer)
spelled_by_test name answer t is = ap (λ (b : Bool). let c : Caused Spelled =
    if b then known_as name else filed_as answer in c) is

pub built_in_given : (name : List ℕ) (answer : Answer) (result : Result Source Cause) → is_built_in name ≡ true
    → GivesSource (known_as name) result → GivesSource (spelled_in name answer) result
built_in_given name answer result is given =
    subst (λ (c : Caused Spelled). GivesSource c result) (sym (spelled_by_test name answer true is)) given

pub bytes_given : (name : List ℕ) (answer : Answer) (bytes : List ℕ) → is_built_in name ≡ false
    → bytes_of false answer ≡ Ok bytes → spelled_in name answer ≡ Ok (accepted bytes)
bytes_given name answer bytes is given =
    spelled_by_test name answer false is ∙ ap
    (λ (c : Caused (List ℕ)). let s : Caused Spelled = c >>= (λ b. Ok (accepted b)) in s) given

pub no_bytes_given : (name : List ℕ) (answer : Answer) (cause : Cause) → is_built_in name ≡ false
    → bytes_of false answer ≡ Err cause → spelled_in name answer ≡ Err cause
no_bytes_given name answer cause is given =
    spelled_by_test name answer false is ∙ ap
    (λ (c : Caused (List ℕ)). let s : Caused Spelled = c >>= (λ b. Ok (accepted b)) in s) given

-- a script's bytes are within their limit, since the shelf keeps to it

taken_short : (files : Option Files) (name : List ℕ) (limit : ℕ) (bytes : List ℕ) → IsTaken files name limit bytes
    → length bytes ≤ limit
taken_short None name limit bytes taken = taken
taken_short (Some files) name limit bytes taken = taken.1

answer_short : {S : Type 0} (gives : S → List ℕ → ℕ → Answer → S → Type 0) (files : Option Files)
    (name : Option (List ℕ)) (before after : S) (answer : Answer)
    → IsAnswerFor gives files name most_script_bytes before after answer → IsShort answer
answer_short gives files (Some name) before after (Ok bytes) given =
    taken_short files name most_script_bytes bytes given.of_file
answer_short gives files (Some name) before after (Err fault) given = tt
answer_short gives files None before after answer given = subst IsShort (sym given.1) tt

pub answers_short : {S : Type 0} (gives : S → List ℕ → ℕ → Answer → S → Type 0) (files : Option Files) (asked : AskedOf)
    (before after : S) (answers : Answers)
    → AreAnswers gives files asked before after answers → IsShort answers.script
answers_short gives files asked before after answers are =
    answer_short gives files (script_file asked answers.decl) are.between after answers.script are.script
