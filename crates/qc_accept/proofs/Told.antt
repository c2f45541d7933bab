-- What a field's reading answers, and what follows it.
use Rattle.std.proofs.Common.{◌≡◌, ◌≢◌, ℕ, List, Option, None, Result, Ok, Err, refl, ap, sym, ◌∙◌, subst}
use Rattle.std.specs.Prelude.{MatchResult}
use Rattle.qc_accept.specs.declared.fault.DeclFault.{DeclFault}
use Rattle.qc_accept.specs.declared.fault.DeclFault.TheVariants.{OutOfMemory, Field}
use Rattle.qc_accept.specs.declared.fault.Wrong.{Wrong}
use Rattle.qc_accept.specs.declared.fault.Wrong.TheVariants.{Form}
use Rattle.qc_list.specs.Vocabulary.{◌>>=◌}
use Rattle.qc_accept.specs.Vocabulary.{Answer, IsAnswer, IsReading, told}

-- what follows an answer
pub then_ok : {A B : Type 0} (answer : Answer A) (next : A → Answer B) (a : A) (b : Answer B) → answer ≡ Ok a
    → next a ≡ b → (answer >>= next) ≡ b
then_ok {A} answer next a b is then = ap (λ (o : Answer A). o >>= next) is ∙ then

-- and what follows a fault
pub then_err : {A B : Type 0} (answer : Answer A) (next : A → Answer B) (fault : DeclFault)
    → (fault ≢ OutOfMemory → answer ≡ Err fault)
    → fault ≢ OutOfMemory → (answer >>= next) ≡ Err fault
then_err {A} answer next fault is apart = ap (λ (o : Answer A). o >>= next) (is apart)

-- a field of its form, as it was read
pub told_ok : {A B : Type 0} (view : A → B) (path : List ℕ) (o : Option B) (read : Result A Wrong) (a : A)
    → IsReading view read o → read ≡ Ok a → told path o ≡ Ok (view a)
told_ok view path o read a reading is = ap (told path) (subst (λ r. IsReading view r o) is reading)

-- one that isn't
pub told_err : {A B : Type 0} (view : A → B) (path : List ℕ) (o : Option B) (read : Result A Wrong) (fault : DeclFault)
    → IsReading view read o
    → (fault ≢ OutOfMemory → (read ≡ Err Form) × (fault ≡ Field path)) → fault ≢ OutOfMemory → told path o ≡ Err fault
told_err view path o read fault reading is apart =
    let p : (read ≡ Err Form) × (fault ≡ Field path) = is apart in
    let none : o ≡ None = subst (λ r. IsReading view r o) p.0 reading refl in
    ap (told path) none ∙ ap Err (sym p.1)

-- whichever it is
pub told_answers : {A B : Type 0} (view : A → B) (path : List ℕ) (o : Option B) (read : Result A Wrong)
    (result : Result A DeclFault) → IsReading view read o
    → MatchResult result (λ value. read ≡ Ok value) (λ e. e ≢ OutOfMemory → (read ≡ Err Form) × (e ≡ Field path))
    → IsAnswer view result (told path o)
told_answers view path o read (Ok a) reading is = told_ok view path o read a reading is
told_answers view path o read (Err fault) reading is = told_err view path o read fault reading is

-- the last of two answers
pub then_answers : {A B C : Type 0} (view : A → B) (result : Result A DeclFault) (answer : Answer C)
    (next : C → Answer B) (c : C) → answer ≡ Ok c
    → IsAnswer view result (next c) → IsAnswer view result (answer >>= next)
then_answers {A} {B} {C} view result answer next c is rest =
    subst (λ (o : Answer C). IsAnswer view result (o >>= next)) (sym is) rest
