-- A shelf that failed is blamed on the file that it failed at.
use Rattle.std.proofs.Common.{◌≡◌, ℕ, Bool, true, false, List, Option, None, Some, Result, Ok, Err, refl, ap, sym}
use Rattle.std.proofs.Common.{subst, ◌∙◌, ◌⊎◌, inl, inr}
use Rattle.std.specs.Option.{option_map_or}
use Rattle.std.specs.Prelude.{if◌then◌else◌, IsOk}
use Rattle.qc_accept.specs.Vocabulary.{accepted}
use Rattle.qc_accept.specs.declared.fault.DeclFault.{DeclFault}
use Rattle.qc_decl.specs.Vocabulary.{built_in_of}
use Rattle.qc_decl.specs.declared.declaration.Declaration.{Declaration}
use Rattle.qc_outside.specs.Vocabulary.{Answer, Rose}
use Rattle.qc_outside.specs.declared.shelf.ShelfFault.TheVariants as faults
use Rattle.qc_report.specs.declared.cause.Cause.{Cause}
use Rattle.qc_report.specs.declared.cause.Cause.TheVariants as causes
use Rattle.qc_script.specs.Vocabulary.{Refusal, script_of}
use Rattle.qc_script.specs.declared.script.Script.{Script}
use Rattle.qc_top.proofs.Ends.{the_err}
use Rattle.qc_top.specs.Vocabulary.{Caused, Gives, IsBlamed, IsCounted, accept_work, bytes_of, is_built_in, run_of}
use Rattle.qc_top.specs.Vocabulary.{script_work, spelled_in, unless_a_line_is, unless_refused, work_of, ◌>>=◌}
use Rattle.qc_words.specs.Vocabulary.{AskedOf, Check, Load, Run}
use Rattle.qc_top.specs.declared.answers.Answers.{Answers}
use Rattle.qc_top.specs.declared.work.Work.{Work}
use Rattle.qc_top.specs.declared.work.Work.TheVariants as works
use Rattle.qc_top.specs.declared.work.Output.TheVariants as outputs

-- the blame for a failure
abbrev failed : Bool → Cause
failed script = causes.Shelf script faults.Failed

-- an answer whose cause is a failure's is a failure, of the file that is blamed
record IsFailed (script blamed : Bool) (answer : Answer) : Type 0 where
  pub file : script ≡ blamed
  pub answer_is : answer ≡ Err faults.Failed

answer_failed : (script blamed : Bool) (answer : Answer) → bytes_of script answer ≡ Err (failed blamed)
    → IsFailed script blamed answer
answer_failed script blamed (Ok bytes) is = absurd (let never : ⊥ = cc in never)
answer_failed script blamed (Err faults.Missing) is = absurd (let never : ⊥ = cc in never)
answer_failed script blamed (Err faults.TooLong) is = absurd (let never : ⊥ = cc in never)
answer_failed script blamed (Err faults.OutOfMemory) is = absurd (let never : ⊥ = cc in never)
answer_failed script blamed (Err faults.Failed) is =
    record { file = let same : script ≡ blamed = cc in same; answer_is = refl }

-- a cause that comes of two steps comes of the first, or of the second
came_of : {A B : Type 0} (given : Caused A) (next : A → Caused B) (cause : Cause) → (given >>= next) ≡ Err cause
    → (given ≡ Err cause) ⊎ ((a : A) × (given ≡ Ok a) × (next a ≡ Err cause))
came_of (Ok a) next cause is = inr (a, refl, is)
came_of (Err why) next cause is = let same : why ≡ cause = cc in
    inl (ap (λ (c : Cause). let g : Caused _ = Err c in g) same)

-- nothing stands under the declaration's name
record IsDeclFailed (blamed : Bool) (name : List ℕ) (answer : Answer) : Type 0 where
  pub file : false ≡ blamed
  pub named : is_built_in name ≡ false
  pub answer_is : answer ≡ Err faults.Failed

decl_failed : (name : List ℕ) (answer : Answer) (blamed : Bool) → spelled_in name answer ≡ Err (failed blamed)
    → IsDeclFailed blamed name answer
decl_failed name answer blamed is = by (is_built_in name) refl is
  where
    known : (o : Option Declaration) → option_map_or
        (λ d. (let given : Caused (Result Declaration DeclFault) = Ok (Ok d) in given)) o
        (Err (causes.Shelf false faults.Missing)) ≡ Err (failed blamed) → IsDeclFailed blamed name answer
    known None is = absurd (let never : ⊥ = cc in never)
    known (Some decl) is = absurd (let never : ⊥ = cc in never)

    taken : is_built_in name ≡ false → (bytes_of false answer ≡ Err (failed blamed))
        ⊎ ((bytes : List ℕ) × (bytes_of false answer ≡ Ok bytes)
        × ((let given : Caused (Result Declaration DeclFault) = Ok (accepted bytes) in given) ≡ Err (failed blamed)))
        → IsDeclFailed blamed name answer
    taken test (inl none) = let f : IsFailed false blamed answer = answer_failed false blamed answer none in
        record { file = f.file; named = test; answer_is = f.answer_is }
    taken test (inr (bytes, there, none)) = absurd (let never : ⊥ = cc in never)

    by : (t : Bool) → is_built_in name ≡ t
        → (if t then option_map_or (λ d. (let given : Caused (Result Declaration DeclFault) = Ok (Ok d) in given))
        (built_in_of name) (Err (causes.Shelf false faults.Missing)) else bytes_of false answer >>=
        (λ bytes. Ok (accepted bytes))) ≡ Err (failed blamed)
        → IsDeclFailed blamed name answer
    by true test is = known (built_in_of name) is
    by false test is = taken test (came_of (bytes_of false answer) (λ bytes. Ok (accepted bytes)) (failed blamed) is)

-- neither a declaration nor a script blames the shelf

never_refused : (spelled : Result Declaration DeclFault) (blamed : Bool) → unless_refused spelled ≡ Err (failed blamed)
    → ⊥
never_refused (Ok decl) blamed is = cc
never_refused (Err fault) blamed is = cc

never_read : (read : Result Script Refusal) (blamed : Bool) → unless_a_line_is read ≡ Err (failed blamed) → ⊥
never_read (Ok script) blamed is = cc
never_read (Err refusal) blamed is = cc

never_run : (decl : Declaration) (bytes : List ℕ) (blamed : Bool) → run_of decl bytes ≡ Err (failed blamed) → ⊥
never_run decl bytes blamed is = by (came_of (unless_a_line_is (script_of decl bytes))
    (λ script. Ok (works.Run decl script outputs.Text)) (failed blamed) is)
  where
    by : (unless_a_line_is (script_of decl bytes) ≡ Err (failed blamed))
        ⊎ ((script : Script) × (unless_a_line_is (script_of decl bytes) ≡ Ok script)
        × ((let given : Caused Work = Ok (works.Run decl script outputs.Text) in given) ≡ Err (failed blamed))) → ⊥
    by (inl none) = never_read (script_of decl bytes) blamed none
    by (inr (script, there, none)) = cc

never_accepted : (spelled : Result Declaration DeclFault) (blamed : Bool) → accept_work spelled ≡ Err (failed blamed)
    → ⊥
never_accepted spelled blamed is = by (came_of (unless_refused spelled) (λ decl. Ok (works.Accept decl))
    (failed blamed) is)
  where
    by : (unless_refused spelled ≡ Err (failed blamed))
        ⊎ ((decl : Declaration) × (unless_refused spelled ≡ Ok decl)
        × ((let given : Caused Work = Ok (works.Accept decl) in given) ≡ Err (failed blamed))) → ⊥
    by (inl none) = never_refused spelled blamed none
    by (inr (decl, there, none)) = cc

-- something stands under the declaration's name
script_failed : (answer : Answer) (spelled : Result Declaration DeclFault) (blamed : Bool)
    → script_work answer spelled ≡ Err (failed blamed) → IsFailed true blamed answer
script_failed answer spelled blamed is =
    by (came_of (bytes_of true answer) (λ bytes. unless_refused spelled >>= (λ decl. run_of decl bytes))
    (failed blamed) is)
  where
    later : (bytes : List ℕ) → (unless_refused spelled ≡ Err (failed blamed))
        ⊎ ((decl : Declaration) × (unless_refused spelled ≡ Ok decl) × (run_of decl bytes ≡ Err (failed blamed))) → ⊥
    later bytes (inl none) = never_refused spelled blamed none
    later bytes (inr (decl, there, none)) = never_run decl bytes blamed none

    by : (bytes_of true answer ≡ Err (failed blamed))
        ⊎ ((bytes : List ℕ) × (bytes_of true answer ≡ Ok bytes)
        × ((unless_refused spelled >>= (λ decl. run_of decl bytes)) ≡ Err (failed blamed)))
        → IsFailed true blamed answer
    by (inl none) = answer_failed true blamed answer none
    by (inr (bytes, there, none)) = absurd (later bytes
        (came_of (unless_refused spelled) (λ decl. run_of decl bytes) (failed blamed) none))

-- the right file is blamed

check_blamed : (decl : List ℕ) (answers : Answers) (script : Bool) → work_of (Check decl) answers ≡ Err (failed script)
    → IsBlamed (Check decl) answers script
check_blamed decl answers script is = by (came_of (spelled_in decl answers.decl) accept_work (failed script) is)
  where
    by : (spelled_in decl answers.decl ≡ Err (failed script))
        ⊎ ((s : Result Declaration DeclFault) × (spelled_in decl answers.decl ≡ Ok s)
        × (accept_work s ≡ Err (failed script))) → IsBlamed (Check decl) answers script
    by (inl none) = let f : IsDeclFailed script decl answers.decl = decl_failed decl answers.decl script none in
        subst (λ (b : Bool). IsBlamed (Check decl) answers b) f.file (f.named, f.answer_is)
    by (inr (s, there, none)) = absurd (never_accepted s script none)

run_blamed : (decl name : List ℕ) (workers : ℕ) (dir : Option (List ℕ)) (answers : Answers) (script : Bool)
    → work_of (Run decl name workers dir) answers ≡ Err (failed script)
    → IsBlamed (Run decl name workers dir) answers script
run_blamed decl name workers dir answers script is =
    by (came_of (spelled_in decl answers.decl) (script_work answers.script) (failed script) is)
  where
    by : (spelled_in decl answers.decl ≡ Err (failed script))
        ⊎ ((s : Result Declaration DeclFault) × (spelled_in decl answers.decl ≡ Ok s)
        × (script_work answers.script s ≡ Err (failed script))) → IsBlamed (Run decl name workers dir) answers script
    by (inl none) = let f : IsDeclFailed script decl answers.decl = decl_failed decl answers.decl script none in
        subst (λ (b : Bool). IsBlamed (Run decl name workers dir) answers b) f.file (f.named, f.answer_is)
    by (inr (s, there, none)) =
        let f : IsFailed true script answers.script = script_failed answers.script s script none in
        let stands : IsOk (spelled_in decl answers.decl) =
        subst (λ (r : Caused (Result Declaration DeclFault)). IsOk r) (sym there) refl in
        subst (λ (b : Bool). IsBlamed (Run decl name workers dir) answers b) f.file (stands, f.answer_is)

blamed_for : (asked : AskedOf) (answers : Answers) (script : Bool) → work_of asked answers ≡ Err (failed script)
    → IsBlamed asked answers script
blamed_for (Check decl) answers script is = check_blamed decl answers script is
blamed_for (Run decl name workers dir) answers script is = run_blamed decl name workers dir answers script is
blamed_for (Load count seed workers) answers script is = absurd (let never : ⊥ = cc in never)

pub blames : (asked : AskedOf) (answers : Answers) (cause : Cause) → Gives (work_of asked answers) (the_err cause)
    → (script : Bool) → cause ≡ causes.Shelf script faults.Failed → IsBlamed asked answers script
blames asked answers cause (inl is) script same =
    blamed_for asked answers script (is ∙ ap (λ (c : Cause). let r : Caused Work = Err c in r) same)
blames asked answers cause (inr wanting) script same = absurd (let never : ⊥ = cc in never)

-- where the shelf is blamed, its count of faults rose

decl_rose : (asked : AskedOf) (answers : Answers) → IsBlamed asked answers false → answers.decl ≡ Err faults.Failed
decl_rose (Check decl) answers blamed = blamed.1
decl_rose (Run decl name workers dir) answers blamed = blamed.1
decl_rose (Load count seed workers) answers blamed = absurd blamed

script_rose : (asked : AskedOf) (answers : Answers) → IsBlamed asked answers true → answers.script ≡ Err faults.Failed
script_rose (Check decl) answers blamed = absurd blamed
script_rose (Run decl name workers dir) answers blamed = blamed.1
script_rose (Load count seed workers) answers blamed = absurd blamed

pub blame_rose : (asked : AskedOf) (answers : Answers) (script : Bool) (before now : ℕ) → IsBlamed asked answers script
    → IsCounted before now answers → Rose before now
blame_rose asked answers false before now blamed counted = counted.decl (decl_rose asked answers blamed)
blame_rose asked answers true before now blamed counted = counted.script (script_rose asked answers blamed)
