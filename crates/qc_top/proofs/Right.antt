-- What the words come to can be done: its declaration keeps the rules, and a script that is run names what is declared.
use Rattle.std.proofs.Common.{◌≡◌, ℕ, Bool, true, false, cond, List, Option, Some, None, Result, Ok, Err, refl, ap}
use Rattle.std.proofs.Common.{subst}
use Rattle.std.specs.Option.{option_map_or}
use Rattle.std.specs.Prelude.{if◌then◌else◌, codes}
use Rattle.std.specs.Str.{bytes_eq}
use Rattle.qc_accept.proofs.Accepting.{accepted_declarations_keep_the_rules}
use Rattle.qc_accept.specs.Vocabulary.{accepted}
use Rattle.qc_accept.specs.declared.fault.DeclFault.{DeclFault}
use Rattle.qc_decl.proofs.BuiltInRules.{one_accepted, three_accepted}
use Rattle.qc_decl.specs.Vocabulary.{IsAccepted, built_in_of, one, three}
use Rattle.qc_decl.specs.declared.declaration.Declaration.{Declaration}
use Rattle.qc_outside.specs.Vocabulary.{Answer}
use Rattle.qc_outside.specs.declared.shelf.ShelfFault.TheVariants as faults
use Rattle.qc_report.specs.declared.cause.Cause.TheVariants as causes
use Rattle.qc_script.proofs.SoundScripts.{scripts_name_what_is_declared}
use Rattle.qc_script.specs.Vocabulary.{IsScriptFor, Refusal, script_of}
use Rattle.qc_script.specs.declared.script.Script.{Script}
use Rattle.qc_top.specs.Vocabulary.{Caused, IsRight, accept_work, bytes_of, is_built_in, load_work, run_of, script_work}
use Rattle.qc_top.specs.Vocabulary.{spelled_in, unless_a_line_is, unless_refused, work_of, ◌>>=◌}
use Rattle.qc_words.specs.Vocabulary.{AskedOf, Check, Load, Run}
use Rattle.qc_gen.specs.Vocabulary.{load_of, load_text}
use Rattle.qc_gen.proofs.Loads.{loads_read}
use Rattle.qc_top.specs.declared.answers.Answers.{Answers}
use Rattle.qc_top.specs.declared.work.Work.{Work}
use Rattle.qc_top.specs.declared.work.Work.TheVariants.{Accept}
use Rattle.qc_top.specs.declared.work.Work.TheVariants as works
use Rattle.qc_top.specs.declared.work.Output.TheVariants as outputs

-- what comes of two steps came of the first
record Came {A B : Type 0} (given : Caused A) (next : A → Caused B) (b : B) : Type 0 where
  pub first : A
  pub is : given ≡ Ok first
  pub rest : next first ≡ Ok b

came : {A B : Type 0} (given : Caused A) (next : A → Caused B) (b : B) → (given >>= next) ≡ Ok b → Came given next b
came (Ok a) next b is = record { first = a; is = refl; rest = is }
came (Err cause) next b is = absurd (let never : ⊥ = cc in never)

-- of two answers that are equal, the values are
pub inner : {A : Type 0} (a b : A) → (let given : Caused A = Ok a in given) ≡ Ok b → a ≡ b
inner a b is = cc

abbrev the_ok : Declaration → Result Declaration DeclFault
the_ok decl = Ok decl

-- a built-in declaration

known : (name : List ℕ) (decl : Declaration) → built_in_of name ≡ Some decl → IsAccepted decl
known name decl is = by (bytes_eq name (codes "@one")) (bytes_eq name (codes "@three")) is
  where
    by : (a b : Bool) → cond a (Some one) (cond b (Some three) None) ≡ Some decl → IsAccepted decl
    by true b is = let same : one ≡ decl = cc in subst IsAccepted same one_accepted
    by false true is = let same : three ≡ decl = cc in subst IsAccepted same three_accepted
    by false false is = absurd (let never : ⊥ = cc in never)

-- what stands under a declaration's name

abbrev IsRightly : Result Declaration DeclFault → Type 0
IsRightly (Ok decl) = IsAccepted decl
IsRightly (Err fault) = Unit {0}

rightly : (bytes : List ℕ) (spelled : Result Declaration DeclFault) → accepted bytes ≡ spelled → IsRightly spelled
rightly bytes (Ok decl) is = accepted_declarations_keep_the_rules bytes decl is
rightly bytes (Err fault) is = tt

spelled_is : (name : List ℕ) (answer : Answer) (spelled : Result Declaration DeclFault)
    → spelled_in name answer ≡ Ok spelled → IsRightly spelled
spelled_is name answer spelled is = by (is_built_in name) is
  where
    built_in : (o : Option Declaration) → built_in_of name ≡ o
        → option_map_or (λ d. (let given : Caused (Result Declaration DeclFault) = Ok (Ok d) in given)) o
        (Err (causes.Shelf false faults.Missing)) ≡ Ok spelled → IsRightly spelled
    built_in None none is = absurd (let never : ⊥ = cc in never)
    built_in (Some decl) some is = let same : the_ok decl ≡ spelled = cc in subst IsRightly same (known name decl some)

    taken : (given : Caused (List ℕ)) → (given >>= (λ bytes. Ok (accepted bytes))) ≡ Ok spelled → IsRightly spelled
    taken (Ok bytes) is = rightly bytes spelled (inner (accepted bytes) spelled is)
    taken (Err cause) is = absurd (let never : ⊥ = cc in never)

    by : (t : Bool) → (if t then option_map_or
        (λ d. (let given : Caused (Result Declaration DeclFault) = Ok (Ok d) in given)) (built_in_of name)
        (Err (causes.Shelf false faults.Missing)) else bytes_of false answer >>= (λ bytes. Ok (accepted bytes)))
        ≡ Ok spelled
        → IsRightly spelled
    by true is = built_in (built_in_of name) refl is
    by false is = taken (bytes_of false answer) is

declared_is : (spelled : Result Declaration DeclFault) (decl : Declaration) → IsRightly spelled
    → unless_refused spelled ≡ Ok decl → IsAccepted decl
declared_is (Ok d) decl right is = let same : d ≡ decl = cc in subst IsAccepted same right
declared_is (Err fault) decl right is = absurd (let never : ⊥ = cc in never)

-- a run of a script that was read

read_is : (read : Result Script Refusal) (script : Script) → unless_a_line_is read ≡ Ok script → read ≡ Ok script
read_is (Ok s) script is = ap (λ (x : Script). let r : Result Script Refusal = Ok x in r) (inner s script is)
read_is (Err refusal) script is = absurd (let never : ⊥ = cc in never)

run_is : (decl : Declaration) (bytes : List ℕ) (work : Work) → IsAccepted decl → run_of decl bytes ≡ Ok work
    → IsRight work
run_is decl bytes work right is =
    let c : Came (unless_a_line_is (script_of decl bytes)) (λ script. Ok (works.Run decl script outputs.Text)) work =
    came (unless_a_line_is (script_of decl bytes)) (λ script. Ok (works.Run decl script outputs.Text)) work is in
    let sound : IsScriptFor decl c.first = scripts_name_what_is_declared decl bytes c.first
    (read_is (script_of decl bytes) c.first c.is) in
    subst IsRight (inner (works.Run decl c.first outputs.Text) work c.rest)
    (record { accepted = right; declared = sound })

accept_is : (spelled : Result Declaration DeclFault) (work : Work) → IsRightly spelled → accept_work spelled ≡ Ok work
    → IsRight work
accept_is spelled work right is =
    let d : Came (unless_refused spelled) (λ decl. Ok (Accept decl)) work =
    came (unless_refused spelled) (λ decl. Ok (Accept decl)) work is in
    let same : Accept d.first ≡ work = let e = d.rest in cc in
    subst IsRight same (declared_is spelled d.first right d.is)

script_is : (answer : Answer) (spelled : Result Declaration DeclFault) (work : Work) → IsRightly spelled
    → script_work answer spelled ≡ Ok work → IsRight work
script_is answer spelled work right is =
    let b : Came (bytes_of true answer) (λ bytes. unless_refused spelled >>= (λ decl. run_of decl bytes)) work =
    came (bytes_of true answer) (λ bytes. unless_refused spelled >>= (λ decl. run_of decl bytes)) work is in
    let d : Came (unless_refused spelled) (λ decl. run_of decl b.first) work =
    came (unless_refused spelled) (λ decl. run_of decl b.first) work b.rest in
    run_is d.first b.first work (declared_is spelled d.first right d.is) d.rest

-- a load can be run
load_is : (count seed : ℕ) → IsRight (load_work count seed)
load_is count seed = record {
  accepted = three_accepted;
  declared = scripts_name_what_is_declared three (load_text count seed) (load_of count seed) (loads_read count seed);
}

pub work_is : (asked : AskedOf) (answers : Answers) (work : Work) → work_of asked answers ≡ Ok work → IsRight work
work_is (Check decl) answers work is =
    let c : Came (spelled_in decl answers.decl) accept_work work =
    came (spelled_in decl answers.decl) accept_work work is in
    accept_is c.first work (spelled_is decl answers.decl c.first c.is) c.rest
work_is (Run decl script workers dir) answers work is =
    let c : Came (spelled_in decl answers.decl) (script_work answers.script) work =
    came (spelled_in decl answers.decl) (script_work answers.script) work is in
    script_is answers.script c.first work (spelled_is decl answers.decl c.first c.is) c.rest
work_is (Load count seed workers) answers work is =
    subst IsRight (inner (load_work count seed) work is) (load_is count seed)
