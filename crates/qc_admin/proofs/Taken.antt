-- What is taken for an Ask: its place is its number less the first one.
use Rattle.std.proofs.Common.{◌≡◌, ℕ, zero, suc, ◌+◌, ◌-◌, ◌≤◌, ◌<◌, ◌==◌, ◌&&◌, Bool, true, false, cond, List, [], ◌∷◌}
use Rattle.std.proofs.Common.{length, map, take, get_or, set, Option, Some, None, is_none, is_some, refl, sym, ap, ◌∙◌}
use Rattle.std.proofs.Common.{subst, arith}
use Rattle.std.specs.List.{count_by, list_all, slice_get}
use Rattle.std.specs.Prelude.{nat_le, nat_lt}
use Rattle.std.proofs.lemmas.Bool.{eq-eqb, leb-false, leb-true, lt-ltb, ltb-true, ne_eqb}
use Rattle.std.proofs.lemmas.List.Sums.{sum_by-cons}
use Rattle.qc_msg.specs.declared.message.Outcome.{Outcome}
use Rattle.qc_epoch.specs.Vocabulary.{Question, all_taken, is_number, most_asks, taken_for}
use Rattle.qc_admin.specs.declared.questions.Query.{Query}
use Rattle.qc_admin.specs.Vocabulary.{asked_from, is_open, number_at, open_at, open_place, question_of, shown, unasked}
use Rattle.qc_admin.specs.Vocabulary.{waiting_in}

-- one question, with what is taken for it

abbrev with_taken : Option Outcome → Query → Query
with_taken outcome q = record q { taken = Some outcome }

abbrev take_one : Option Outcome → Query → Query
take_one outcome q = cond (is_none q.taken) (with_taken outcome q) q

one : (number : ℕ) (outcome : Option Outcome) (n : Option ℕ) (q : Query)
    → taken_for number outcome (question_of n q) ≡ question_of n (cond (is_number number n) (take_one outcome q) q)
one number outcome n q = by (is_number number n) (is_none q.taken)
  where
    by : (b t : Bool) → cond b (cond t (record (question_of n q) { taken = Some outcome }) (question_of n q))
        (question_of n q)
        ≡ question_of n (cond b (cond t (with_taken outcome q) q) q)
    by true true = refl
    by true false = refl
    by false t = refl

-- all of them, from a place on

taken_from : ℕ → ℕ → ℕ → Option Outcome → List Query → List Query
taken_from first place number outcome [] = []
taken_from first place number outcome (q ∷ qs) =
    cond (is_number number (number_at first place)) (take_one outcome q) q ∷ taken_from first
    (place + 1) number outcome qs

taken_asked : (first place number : ℕ) (outcome : Option Outcome) (qs : List Query)
    → map (taken_for number outcome) (asked_from first place qs) ≡ asked_from first place
    (taken_from first place number outcome qs)
unfolding taken_from
taken_asked first place number outcome [] = refl
taken_asked first place number outcome (q ∷ qs) =
    ap (λ x. x ∷ map (taken_for number outcome) (asked_from first (place + 1) qs))
    (one number outcome (number_at first place) q)
    ∙ ap (λ rest. question_of (number_at first place)
    (cond (is_number number (number_at first place)) (take_one outcome q) q) ∷ rest)
    (taken_asked first (place + 1) number outcome qs)

-- a question with another number

other : (first place number : ℕ) → (first + place ≡ number → ⊥) → is_number number (number_at first place) ≡ false
other first place number not = by (nat_lt place most_asks)
  where
    by : (t : Bool) → is_number number (cond t (Some (first + place)) None) ≡ false
    by true = ne_eqb (first + place) number not
    by false = refl

elsewhere : (first place number : ℕ) (outcome : Option Outcome) (qs : List Query) → number < first + place
    → taken_from first place number outcome qs ≡ qs
unfolding taken_from
elsewhere first place number outcome [] low = refl
elsewhere first place number outcome (q ∷ qs) low =
    ap (λ b. cond b (take_one outcome q) q ∷ taken_from first (place + 1) number outcome qs)
    (other first place number (λ e. omega arith))
    ∙ ap (λ rest. q ∷ rest) (elsewhere first (place + 1) number outcome qs (omega arith))

unasked_stay : (number : ℕ) (outcome : Option Outcome) (qs : List Query)
    → map (taken_for number outcome) (unasked qs) ≡ unasked qs
unasked_stay number outcome [] = refl
unasked_stay number outcome (q ∷ qs) = ap (λ rest. question_of None q ∷ rest) (unasked_stay number outcome qs)

-- where nothing waits at the place of the number, nothing changes
shut : (first place j number at : ℕ) (outcome : Option Outcome) (qs : List Query) → number ≡ first + at → at ≡ place + j
    → (nat_lt at most_asks && is_open (slice_get qs j)) ≡ false → taken_from first place number outcome qs ≡ qs
unfolding taken_from
shut first place j number at outcome [] is here none = refl
shut first place zero number at outcome (q ∷ qs) is here none =
    ap (λ x. x ∷ taken_from first (place + 1) number outcome qs)
    (by (nat_lt place most_asks) (is_none q.taken)
    (subst (λ (p : ℕ). (nat_lt p most_asks && is_none q.taken) ≡ false) (same at place (omega arith)) none))
    ∙ ap (λ rest. q ∷ rest) (elsewhere first (place + 1) number outcome qs (omega arith))
  where
    same : (a b : ℕ) → a ≡ b → a ≡ b
    same a b e = e

    by : (t b : Bool) → (t && b) ≡ false → cond (is_number number (cond t (Some (first + place)) None))
        (cond b (with_taken outcome q) q) q ≡ q
    by true true e = absurd (let never : ⊥ = cc in never)
    by true false e = both (is_number number (Some (first + place)))
      where
        both : (x : Bool) → cond x q q ≡ q
        both true = refl
        both false = refl
    by false b e = refl
shut first place (suc j) number at outcome (q ∷ qs) is here none =
    ap (λ b. cond b (take_one outcome q) q ∷ taken_from first (place + 1) number outcome qs)
    (other first place number (λ e. omega arith))
    ∙ ap (λ rest. q ∷ rest) (shut first (place + 1) j number at outcome qs is (omega arith) none)

-- where something does, it is taken for it
opened : (first place j number at : ℕ) (outcome : Option Outcome) (d : Query) (qs : List Query) → number ≡ first + at
    → at ≡ place + j
    → (nat_lt at most_asks && is_open (slice_get qs j)) ≡ true
    → taken_from first place number outcome qs ≡ set qs j (with_taken outcome (get_or qs j d))
unfolding taken_from
opened first place j number at outcome d [] is here open_there = absurd (by (nat_lt at most_asks) open_there)
  where
    by : (t : Bool) → (t && false) ≡ true → ⊥
    by true e = let never : ⊥ = cc in never
    by false e = let never : ⊥ = cc in never
opened first place zero number at outcome d (q ∷ qs) is here open_there =
    ap (λ x. x ∷ taken_from first (place + 1) number outcome qs)
    (by (nat_lt place most_asks) (is_none q.taken)
    (subst (λ (p : ℕ). (nat_lt p most_asks && is_none q.taken) ≡ true) (same at place (omega arith)) open_there))
    ∙ ap (λ rest. with_taken outcome q ∷ rest) (elsewhere first (place + 1) number outcome qs (omega arith))
  where
    same : (a b : ℕ) → a ≡ b → a ≡ b
    same a b e = e

    by : (t b : Bool) → (t && b) ≡ true → cond (is_number number (cond t (Some (first + place)) None))
        (cond b (with_taken outcome q) q) q ≡ with_taken outcome q
    by true true e = ap (λ x. cond x (with_taken outcome q) q) (eq-eqb (first + place) number (omega arith))
    by true false e = absurd (let never : ⊥ = cc in never)
    by false b e = absurd (let never : ⊥ = cc in never)
opened first place (suc j) number at outcome d (q ∷ qs) is here open_there =
    ap (λ b. cond b (take_one outcome q) q ∷ taken_from first (place + 1) number outcome qs)
    (other first place number (λ e. omega arith))
    ∙ ap (λ rest. q ∷ rest) (opened first (place + 1) j number at outcome d qs is (omega arith) open_there)

-- by the place that the code finds

pub taken_none : (first : Option ℕ) (number : ℕ) (outcome : Option Outcome) (qs : List Query)
    → open_at first qs number ≡ None
    → map (taken_for number outcome) (shown first qs) ≡ shown first qs
taken_none None number outcome qs none = unasked_stay number outcome qs
taken_none (Some first) number outcome qs none =
    taken_asked first 0 number outcome qs ∙ ap (asked_from first 0) (by (nat_le first number) refl none)
  where
    within : (t : Bool) → (nat_lt (number - first) most_asks && is_open (slice_get qs (number - first))) ≡ t
        → cond t (Some (number - first)) None ≡ None → first ≤ number
        → taken_from first 0 number outcome qs ≡ qs
    within true is e low = absurd (let never : ⊥ = cc in never)
    within false is e low = shut first 0 (number - first) number (number - first) outcome qs (omega arith)
        (omega arith) is

    by : (t : Bool) → nat_le first number ≡ t → cond t (open_place qs (number - first)) None ≡ None
        → taken_from first 0 number outcome qs ≡ qs
    by true is e = within (nat_lt (number - first) most_asks && is_open (slice_get qs (number - first))) refl e
        (leb-true first number is)
    by false is e = elsewhere first 0 number outcome qs
        (let low : number < first = leb-false first number is in omega arith)

-- what is at the place that is found
pub record IsPlace (first : ℕ) (qs : List Query) (number place : ℕ) : Type 0 where
  pub number_is : number ≡ first + place
  pub asked : place < most_asks
  pub waits : is_open (slice_get qs place) ≡ true

pub place_found : (first number : ℕ) (qs : List Query) (place : ℕ) → open_at (Some first) qs number ≡ Some place
    → IsPlace first qs number place
place_found first number qs place found = by (nat_le first number) refl found
  where
    both : (a b : Bool) → (a && b) ≡ true → (a ≡ true) × (b ≡ true)
    both true true e = (refl, refl)
    both true false e = absurd (let never : ⊥ = cc in never)
    both false b e = absurd (let never : ⊥ = cc in never)

    within : (t : Bool) → (nat_lt (number - first) most_asks && is_open (slice_get qs (number - first))) ≡ t
        → cond t (Some (number - first)) None ≡ Some place → first ≤ number → IsPlace first qs number place
    within true is e low =
        let same : number - first ≡ place = cc in
        let tests = both (nat_lt (number - first) most_asks) (is_open (slice_get qs (number - first))) is in
        subst (IsPlace first qs number) same (record
        { number_is = omega arith; asked = ltb-true (number - first) most_asks tests.0; waits = tests.1 })
    within false is e low = absurd (let never : ⊥ = cc in never)

    by : (t : Bool) → nat_le first number ≡ t → cond t (open_place qs (number - first)) None ≡ Some place
        → IsPlace first qs number place
    by true is e = within (nat_lt (number - first) most_asks && is_open (slice_get qs (number - first))) refl e
        (leb-true first number is)
    by false is e = absurd (let never : ⊥ = cc in never)

pub taken_some : (first : Option ℕ) (number place : ℕ) (outcome : Option Outcome) (d : Query) (qs : List Query)
    → open_at first qs number ≡ Some place
    → map (taken_for number outcome) (shown first qs) ≡ shown first
    (set qs place (with_taken outcome (get_or qs place d)))
taken_some None number place outcome d qs found = absurd (let never : ⊥ = cc in never)
taken_some (Some first) number place outcome d qs found =
    let p = place_found first number qs place found in
    taken_asked first 0 number outcome qs
    ∙ ap (asked_from first 0) (opened first 0 place number place outcome d qs p.number_is (omega arith)
    (ap (λ b. b && is_open (slice_get qs place)) (lt-ltb place most_asks p.asked) ∙ p.waits))

-- how many wait

waiting : ℕ → List Query → ℕ
waiting n qs = count_by (λ (q : Query). is_none q.taken) (take n qs)

more_wait : (n : ℕ) (q : Query) (qs : List Query) → waiting (suc n) (q ∷ qs) ≡ cond (is_none q.taken) 1 0 + waiting n qs
unfolding waiting
more_wait n q qs = sum_by-cons (λ (x : Query). cond (is_none x.taken) 1 0) q (take n qs)

one_fewer : (n place : ℕ) (outcome : Option Outcome) (d : Query) (qs : List Query) → place < n
    → is_open (slice_get qs place) ≡ true
    → waiting n qs ≡ suc (waiting n (set qs place (with_taken outcome (get_or qs place d))))
one_fewer zero place outcome d qs low is = absurd (omega arith)
one_fewer (suc n) place outcome d [] low is = absurd (let never : ⊥ = cc in never)
one_fewer (suc n) zero outcome d (q ∷ qs) low is =
    let before = more_wait n q qs in
    let after = more_wait n (with_taken outcome q) qs in
    let here : ◌≡◌ {A = ℕ} (cond (is_none q.taken) 1 0) 1 = ap (λ b. cond b 1 0) is in
    omega (arith, before, after, here)
one_fewer (suc n) (suc place) outcome d (q ∷ qs) low is =
    let before = more_wait n q qs in
    let after = more_wait n q (set qs place (with_taken outcome (get_or qs place d))) in
    let rest = one_fewer n place outcome d qs (omega arith) is in
    omega (arith, before, after, rest)

pub waiting_less : (first : Option ℕ) (number place : ℕ) (outcome : Option Outcome) (d : Query) (qs : List Query)
    → open_at first qs number ≡ Some place
    → waiting_in qs ≡ suc (waiting_in (set qs place (with_taken outcome (get_or qs place d))))
unfolding waiting
waiting_less None number place outcome d qs found = absurd (let never : ⊥ = cc in never)
waiting_less (Some first) number place outcome d qs found =
    let p = place_found first number qs place found in
    one_fewer most_asks place outcome d qs p.asked p.waits

pub place_inside : (first : Option ℕ) (number place : ℕ) (qs : List Query) → open_at first qs number ≡ Some place
    → place < length qs
place_inside None number place qs found = absurd (let never : ⊥ = cc in never)
place_inside (Some first) number place qs found = by place qs (place_found first number qs place found).waits
  where
    by : (j : ℕ) (xs : List Query) → is_open (slice_get xs j) ≡ true → j < length xs
    by j [] e = absurd (let never : ⊥ = cc in never)
    by zero (x ∷ xs) e = omega arith
    by (suc j) (x ∷ xs) e = let rest = by j xs e in omega arith

-- nothing is waited for where none waits

none_waits : (n : ℕ) (q : Query) (qs : List Query) (rest : Bool) → rest ≡ (waiting n qs == 0)
    → (is_some q.taken && rest) ≡ (waiting (suc n) (q ∷ qs) == 0)
none_waits n q qs rest is = by q.taken refl
  where
    by : (o : Option (Option Outcome)) → q.taken ≡ o → (is_some o && rest) ≡ (waiting (suc n) (q ∷ qs) == 0)
    by None none =
        let more : waiting (suc n) (q ∷ qs) ≡ 1 + waiting n qs = more_wait n q qs
        ∙ ap (λ (o : Option (Option Outcome)). cond (is_none o) 1 0 + waiting n qs) none in
        sym (ne_eqb (waiting (suc n) (q ∷ qs)) 0 (λ e. omega arith))
    by (Some taken) some =
        let more : waiting (suc n) (q ∷ qs) ≡ 0 + waiting n qs = more_wait n q qs
        ∙ ap (λ (o : Option (Option Outcome)). cond (is_none o) 1 0 + waiting n qs) some in
        let same : waiting (suc n) (q ∷ qs) ≡ waiting n qs = omega arith in
        is ∙ ap (λ (k : ℕ). k == 0) (sym same)

all_unasked : (n : ℕ) (qs : List Query) → list_all (λ (q : Question). is_some q.taken) (take n (unasked qs)) ≡
    (waiting n qs == 0)
unfolding waiting
all_unasked zero qs = refl
all_unasked (suc n) [] = refl
all_unasked (suc n) (q ∷ qs) = none_waits n q qs (list_all (λ (x : Question). is_some x.taken) (take n (unasked qs)))
    (all_unasked n qs)

all_asked : (first place n : ℕ) (qs : List Query)
    → list_all (λ (q : Question). is_some q.taken) (take n (asked_from first place qs)) ≡ (waiting n qs == 0)
unfolding waiting
all_asked first place zero qs = refl
all_asked first place (suc n) [] = refl
all_asked first place (suc n) (q ∷ qs) =
    none_waits n q qs (list_all (λ (x : Question). is_some x.taken) (take n (asked_from first (place + 1) qs)))
    (all_asked first (place + 1) n qs)

pub all_shown : (first : Option ℕ) (qs : List Query) → all_taken (shown first qs) ≡ (waiting_in qs == 0)
unfolding waiting
all_shown None qs = all_unasked most_asks qs
all_shown (Some first) qs = all_asked first 0 most_asks qs
