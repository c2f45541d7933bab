-- Searches by number: what a first answer, and no answer, say of each number below the bound.
use Rattle.std.proofs.Common.{◌≡◌, ℕ, zero, suc, ◌+◌, ◌<◌, ◌≤◌, Option, Some, None, refl, sym, ap, ◌∙◌, ⊎_elim, arith}
use Rattle.std.proofs.Common.{add-one}
use Rattle.std.specs.Option.{option_or}
use Rattle.std.specs.Prelude.{IsSome}
use Rattle.std.proofs.lemmas.Bool.{cases_lt}
use Rattle.qc_list.specs.Vocabulary.{first_below}

-- two answers of which neither is something
pub none_parts : {A : Type 0} (o p : Option A) → option_or o p ≡ None → (o ≡ None) × (p ≡ None)
none_parts None p none = (refl, none)
none_parts (Some x) p none = absurd (let never : ⊥ = cc in never)

pub none_from : {A : Type 0} (o p : Option A) → o ≡ None → p ≡ None → option_or o p ≡ None
none_from None p first second = second
none_from (Some x) p first second = first

-- one number more without an answer
pub first_more : {A : Type 0} (n : ℕ) (answer : ℕ → Option A) → first_below n answer ≡ None → answer n ≡ None
    → first_below (n + 1) answer ≡ None
first_more n answer none here = rw add-one (none_from (first_below n answer) (answer n) none here)

-- the first answer is that of the whole search
pub first_here : {A : Type 0} (bound n : ℕ) (answer : ℕ → Option A) (x : A) → n < bound → first_below n answer ≡ None
    → answer n ≡ Some x → first_below bound answer ≡ Some x
first_here zero n answer x l none here = absurd (omega arith)
first_here (suc bound) n answer x l none here = ⊎_elim
    (λ (less : n < bound). ap (λ o. option_or o (answer bound)) (first_here bound n answer x less none here))
    (λ (past : bound ≤ n). let same : n ≡ bound = omega arith in
    ap (λ o. option_or o (answer bound)) (ap (λ (m : ℕ). first_below m answer) (sym same) ∙ none) ∙ ap answer (sym same)
    ∙ here)
    (cases_lt n bound)

-- the same of an answer that is something
pub first_found : {A : Type 0} (bound n : ℕ) (answer : ℕ → Option A) (o : Option A) → n < bound
    → first_below n answer ≡ None → o ≡ answer n → IsSome o → o ≡ first_below bound answer
first_found bound n answer None l none here some = absurd (let never : ⊥ = cc in never)
first_found bound n answer (Some x) l none here some = sym (first_here bound n answer x l none (sym here))

-- a search without an answer has none below its bound
pub none_below : {A : Type 0} (bound : ℕ) (answer : ℕ → Option A) → first_below bound answer ≡ None → (n : ℕ)
    → n < bound → answer n ≡ None
none_below zero answer none n less = absurd (omega arith)
none_below (suc bound) answer none n less =
    let both : (first_below bound answer ≡ None)
    × (answer bound ≡ None) = none_parts (first_below bound answer) (answer bound) none in
    ⊎_elim (λ (below : n < bound). none_below bound answer both.0 n below)
    (λ (past : bound ≤ n). let last : n ≡ bound = omega arith in ap answer last ∙ both.1) (cases_lt n bound)

-- and the other way round
pub below_none : {A : Type 0} (bound : ℕ) (answer : ℕ → Option A) → ((n : ℕ) → n < bound → answer n ≡ None)
    → first_below bound answer ≡ None
below_none zero answer none = refl
below_none (suc bound) answer none = none_from (first_below bound answer) (answer bound)
    (below_none bound answer (λ n less. none n (omega arith))) (none bound (omega arith))
