-- Asks that get consecutive numbers, one question after another: so the first number gives them all.
use Rattle.std.proofs.Common.{◌≡◌, ℕ, zero, suc, ◌+◌, ◌-◌, ◌≤◌, ◌<◌, Bool, true, false, cond, List, [], ◌∷◌, ◌++◌}
use Rattle.std.proofs.Common.{length, take, Option, Some, None, is_none, refl, sym, ap, ◌∙◌, append_assoc, arith}
use Rattle.std.specs.List.{AllByRecursion as Every}
use Rattle.std.specs.Prelude.{nat_lt}
use Rattle.std.proofs.lemmas.Bool.{le-ltb, lt-ltb}
use Rattle.qc_epoch.specs.Vocabulary.{Question, most_asks, numbered_first}
use Rattle.qc_admin.specs.declared.questions.Query.{Query}
use Rattle.qc_admin.specs.Vocabulary.{asked_from, is_unasked, number_at, numbered_all, question_of, unasked}
use Rattle.qc_admin.specs.Vocabulary.{with_numbers}

-- all of these have numbers
abbrev AreNumbered : List Question → Type 0
AreNumbered qs = Every (λ (q : Question). is_none q.number ≡ false) qs

-- the first one without a number is behind those that have one
first_behind : (done rest : List Question) (q : Question) (number : ℕ) → AreNumbered done → is_none q.number ≡ true
    → numbered_first (done ++ q ∷ rest) number ≡ done ++ record q { number = Some number } ∷ rest
first_behind [] rest q number all new = ap
    (λ b. cond b (record q { number = Some number } ∷ rest) (q ∷ numbered_first rest number)) new
first_behind (d ∷ ds) rest q number all new =
    ap (λ b. cond b (record d { number = Some number } ∷ (ds ++ q ∷ rest)) (d ∷ numbered_first (ds ++ q ∷ rest) number))
    all.0
    ∙ ap (λ qs. d ∷ qs) (first_behind ds rest q number all.1 new)

numbered_more : (done : List Question) (q : Question) → AreNumbered done → is_none q.number ≡ false
    → AreNumbered (done ++ q ∷ [])
numbered_more [] q all new = (new, tt)
numbered_more (d ∷ ds) q all new = (all.0, numbered_more ds q all.1 new)

-- behind the last Ask, nothing is asked
past : (first place : ℕ) (qs : List Query) → most_asks ≤ place → unasked qs ≡ asked_from first place qs
past first place [] far = refl
past first place (q ∷ qs) far =
    ap (λ (b : Bool). question_of (cond b (Some (first + place)) None) q ∷ unasked qs)
    (sym (le-ltb place most_asks far))
    ∙ ap (λ rest. question_of (number_at first place) q ∷ rest) (past first (place + 1) qs (omega arith))

-- Asks from a place on get their numbers
from_place : (first place left : ℕ) (done : List Question) (qs : List Query) → AreNumbered done
    → left ≡ most_asks - place
    → numbered_all (length (take left (unasked qs))) (first + place) (done ++ unasked qs) ≡ done
    ++ asked_from first place qs
from_place first place zero done qs all is = ap (λ rest. done ++ rest) (past first place qs (omega arith))
from_place first place (suc left) done [] all is = refl
from_place first place (suc left) done (q ∷ qs) all is =
    let here : nat_lt place most_asks ≡ true = test place most_asks (omega arith) in
    let numbered : number_at first place ≡ Some (first + place) =
    ap (λ (b : Bool). cond b (Some (first + place)) None) here in
    let now : Question = question_of (Some (first + place)) q in
    let counted : length (take left (unasked qs)) ≡ length (take left (unasked qs)) = refl in
    ap (λ rest. numbered_all (length (take left (unasked qs))) (first + place + 1) rest)
    (first_behind done (unasked qs) (question_of None q) (first + place) all refl)
    ∙ ap (λ rest. numbered_all (length (take left (unasked qs))) (first + place + 1) rest)
    (sym (append_assoc done (now ∷ []) (unasked qs)))
    ∙ ap (λ (n : ℕ). numbered_all (length (take left (unasked qs))) n ((done ++ now ∷ []) ++ unasked qs))
    (next first place)
    ∙ from_place first (place + 1) left (done ++ now ∷ []) qs (numbered_more done now all refl) (omega arith)
    ∙ append_assoc done (now ∷ []) (asked_from first (place + 1) qs)
    ∙ ap (λ (n : Option ℕ). done ++ question_of n q ∷ asked_from first (place + 1) qs) (sym numbered)
  where
    next : (a b : ℕ) → a + b + 1 ≡ a + (b + 1)
    next a b = omega arith

    test : (a b : ℕ) → a < b → nat_lt a b ≡ true
    test a b low = lt-ltb a b low

none_asked : (qs : List Query) → is_unasked (unasked qs) ≡ true
none_asked [] = refl
none_asked (q ∷ qs) = none_asked qs

pub numbers_shown : (first : ℕ) (qs : List Query) → asked_from first 0 qs ≡ with_numbers (unasked qs) first
numbers_shown first qs =
    sym (ap (λ b. cond b (numbered_all (length (take most_asks (unasked qs))) first (unasked qs)) (unasked qs))
    (none_asked qs)
    ∙ ap (λ (n : ℕ). numbered_all (length (take most_asks (unasked qs))) n (unasked qs)) (from_zero first)
    ∙ from_place first 0 most_asks [] qs tt refl)
  where
    from_zero : (n : ℕ) → n ≡ n + 0
    from_zero n = omega arith

pub numbers_stay : (first later : ℕ) (qs : List Query)
    → asked_from first 0 qs ≡ with_numbers (asked_from first 0 qs) later
numbers_stay first later [] = refl
numbers_stay first later (q ∷ qs) = refl
