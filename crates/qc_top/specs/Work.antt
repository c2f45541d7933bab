-- What a call has to do: what its words come to, by what the shelf answered for the files that they name.
use Rattle.std.specs.Prelude.{◌≡◌, ℕ, Bool, true, false, List, Result, Ok, Err, IsOk, if◌then◌else◌, ◌⊎◌}
use Rattle.std.specs.Option.{option_map_or}
use Rattle.qc_accept.specs.Vocabulary.{accepted}
use Rattle.qc_accept.specs.declared.fault.DeclFault.{DeclFault}
use Rattle.qc_decl.specs.declared.declaration.Declaration.{Declaration}
use Rattle.qc_decl.specs.Vocabulary.{built_in_of, three}
use Rattle.qc_gen.specs.Vocabulary.{load_of}
use Rattle.qc_outside.specs.Vocabulary.{Answer}
use Rattle.qc_outside.specs.declared.shelf.ShelfFault.{ShelfFault}
use Rattle.qc_outside.specs.declared.shelf.ShelfFault.TheVariants as faults
use Rattle.qc_report.specs.declared.cause.Cause.{Cause}
use Rattle.qc_report.specs.declared.cause.Cause.TheVariants as causes
use Rattle.qc_script.specs.Vocabulary.{Refusal, script_of}
use Rattle.qc_script.specs.declared.script.Script.{Script}
use Rattle.qc_script.specs.declared.script.ScriptFault.TheVariants.{Line}
use Rattle.qc_top.specs.Answers.{is_built_in}
use Rattle.qc_top.specs.declared.answers.Answers.{Answers}
use Rattle.qc_top.specs.declared.work.Work.{Work}
use Rattle.qc_top.specs.declared.work.Work.TheVariants as works
use Rattle.qc_top.specs.declared.work.Output.TheVariants.{Text, Summary}
use Rattle.qc_words.specs.Vocabulary.{AskedOf, Check, Load, Run}

-- what there is, or the cause for which there is nothing
abbrev pub Caused : Type 0 → Type 0
Caused A = Result A Cause

abbrev pub and_then : {A B : Type 0} → (A → Caused B) → Caused A → Caused B
and_then next (Ok a) = next a
and_then next (Err cause) = Err cause

infixl 10 ◌>>=◌
abbrev pub ◌>>=◌ : {A B : Type 0} → Caused A → (A → Caused B) → Caused B
given >>= next = and_then next given

-- the cause for a file that wasn't given, a script's or a declaration's; want of memory is no fault of the shelf
abbrev pub cause_of_shelf : Bool → ShelfFault → Cause
cause_of_shelf script faults.Missing = causes.Shelf script faults.Missing
cause_of_shelf script faults.TooLong = causes.Shelf script faults.TooLong
cause_of_shelf script faults.Failed = causes.Shelf script faults.Failed
cause_of_shelf script faults.OutOfMemory = causes.OutOfMemory

-- the bytes that were given
abbrev pub bytes_of : Bool → Answer → Caused (List ℕ)
bytes_of script (Ok bytes) = Ok bytes
bytes_of script (Err fault) = Err (cause_of_shelf script fault)

-- What stands under a declaration's name: a declaration, or why it is refused. A name that begins with `@` is that of a
-- built-in one, or of none; each other is a file's.
abbrev pub spelled_in : List ℕ → Answer → Caused (Result Declaration DeclFault)
spelled_in name answer =
    if is_built_in name
    then option_map_or (λ decl. Ok (Ok decl)) (built_in_of name) (Err (causes.Shelf false faults.Missing))
    else bytes_of false answer >>= (λ bytes. Ok (accepted bytes))

abbrev pub unless_refused : Result Declaration DeclFault → Caused Declaration
unless_refused (Ok decl) = Ok decl
unless_refused (Err fault) = Err (causes.Declaration fault)

-- a script that is read, or its first line that is refused
abbrev pub unless_a_line_is : Result Script Refusal → Caused Script
unless_a_line_is (Ok script) = Ok script
unless_a_line_is (Err refusal) = Err (causes.Script (Line refusal.number refusal.kind))

-- the run of the script that bytes spell
abbrev pub run_of : Declaration → List ℕ → Caused Work
run_of decl bytes = unless_a_line_is (script_of decl bytes) >>= (λ script. Ok (works.Run decl script Text))

abbrev pub script_work : Answer → Result Declaration DeclFault → Caused Work
script_work answer spelled = bytes_of true answer >>= (λ bytes. unless_refused spelled >>= (λ decl. run_of decl bytes))

abbrev pub accept_work : Result Declaration DeclFault → Caused Work
accept_work spelled = unless_refused spelled >>= (λ decl. Ok (works.Accept decl))

-- a load is a run over `@three`, of which a summary is printed
abbrev pub load_work : ℕ → ℕ → Work
load_work count seed = works.Run three (load_of count seed) (Summary count seed)

-- What is asked. The first cause for which there is nothing to do is told, in this order: the declaration's file, the
-- script's, the declaration, and the first line that is refused of the script.
abbrev pub work_of : AskedOf → Answers → Caused Work
work_of (Check decl) answers = spelled_in decl answers.decl >>= accept_work
work_of (Run decl script workers dir) answers = spelled_in decl answers.decl >>= script_work answers.script
work_of (Load count seed workers) answers = Ok (load_work count seed)

-- A shelf that failed is blamed on the file that it failed at: on the declaration's only where its name is a file's,
-- and on the script's only where one is asked and something stands under the declaration's name.

abbrev pub IsDeclBlamed : AskedOf → Answers → Type 0
IsDeclBlamed (Check decl) answers = (is_built_in decl ≡ false) × (answers.decl ≡ Err faults.Failed)
IsDeclBlamed (Run decl script workers dir) answers = (is_built_in decl ≡ false) × (answers.decl ≡ Err faults.Failed)
IsDeclBlamed (Load count seed workers) answers = ⊥

abbrev pub IsScriptBlamed : AskedOf → Answers → Type 0
IsScriptBlamed (Check decl) answers = ⊥
IsScriptBlamed (Run decl script workers dir) answers =
    IsOk (spelled_in decl answers.decl) × (answers.script ≡ Err faults.Failed)
IsScriptBlamed (Load count seed workers) answers = ⊥

abbrev pub IsBlamed : AskedOf → Answers → Bool → Type 0
IsBlamed asked answers false = IsDeclBlamed asked answers
IsBlamed asked answers true = IsScriptBlamed asked answers

-- what code gives is what there is; want of memory may come in its place
abbrev pub Gives : {A : Type 0} → Caused A → Result A Cause → Type 0
Gives given (Ok a) = given ≡ Ok a
Gives given (Err cause) = (given ≡ Err cause) ⊎ (cause ≡ causes.OutOfMemory)

-- the causes for which there is nothing to do
abbrev pub IsRefusal : Cause → Type 0
IsRefusal (causes.Shelf script fault) = Unit {0}
IsRefusal (causes.Declaration fault) = Unit {0}
IsRefusal (causes.Script fault) = Unit {0}
IsRefusal causes.Usage = ⊥
IsRefusal causes.OutOfMemory = Unit {0}
IsRefusal causes.Done = ⊥
IsRefusal causes.Sink = ⊥
IsRefusal (causes.Rack fault) = ⊥
IsRefusal (causes.Full what number) = ⊥
