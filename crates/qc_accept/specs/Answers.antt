-- What reading gives: what was read, or the first fault.
use Rattle.std.specs.Prelude.{◌≡◌, ◌≢◌, List, [], ◌∷◌, Option, Some, None, Result, Ok, Err, option_and_then}
use Rattle.qc_list.specs.Vocabulary.{◌>>=◌}
use Rattle.qc_accept.specs.declared.fault.DeclFault.{DeclFault}
use Rattle.qc_accept.specs.declared.fault.DeclFault.TheVariants.{OutOfMemory}
use Rattle.qc_accept.specs.declared.fault.Wrong.{Wrong}
use Rattle.qc_accept.specs.declared.fault.Wrong.TheVariants.{Form}

abbrev pub Answer : Type 0 → Type 0
Answer A = Result A DeclFault

-- each item in turn adds to what was read so far, up to the first fault
abbrev pub each : {A B : Type 0} → (A → B → Answer A) → A → List B → Answer A
each add so_far [] = Ok so_far
each add so_far (item ∷ items) = add so_far item >>= (λ next. each add next items)

-- the same of the items of one value: nothing is read of them where one isn't of its form
abbrev pub read_each : {A B : Type 0} → (A → B → Option A) → A → List B → Option A
read_each add so_far [] = Some so_far
read_each add so_far (item ∷ items) = option_and_then (λ next. read_each add next items) (add so_far item)

-- What code answers, seen as the definition's value, is the answer there is. Want of memory may come in place of any.
abbrev pub IsAnswer : {A B : Type 0} → (A → B) → Result A DeclFault → Answer B → Type 0
IsAnswer view (Ok value) answer = answer ≡ Ok (view value)
IsAnswer view (Err fault) answer = fault ≢ OutOfMemory → answer ≡ Err fault

-- the same of a value that isn't of its form
abbrev pub IsReading : {A B : Type 0} → (A → B) → Result A Wrong → Option B → Type 0
IsReading view (Ok value) read = read ≡ Some (view value)
IsReading view (Err wrong) read = wrong ≡ Form → read ≡ None
