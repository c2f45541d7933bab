-- Distinct commit records have no more operations than any list that has them all; and records of which those of each
-- home are distinct are distinct.
use Rattle.std.proofs.Common.{◌≡◌, ◌⊎◌, ◌≤◌, ◌<◌, ◌+◌, ◌==◌, ℕ, zero, suc, Bool, true, false, cond, List, [], ◌∷◌, inl}
use Rattle.std.proofs.Common.{inr, filter, get_or, length, refl, sym, ap, ◌∙◌, subst, arith, eq-eqb}
use Rattle.std.specs.Prelude.{sum_by}
use Rattle.std.specs.List.{AllPairs}
use Rattle.std.proofs.lemmas.List.Sums.{sum_by-cons}
use Rattle.qc_entry.specs.declared.record.Commit.{Commit as CommitRecord}
use Rattle.qc_list.specs.Vocabulary.{In}
use Rattle.qc_list.proofs.Members.{In-filter}
use Rattle.qc_msg.specs.Vocabulary.{answered}
use Rattle.theory_onecopy.specs.Vocabulary.{IsBeforeAll, IsOrdered}

abbrev pub answers_of : CommitRecord → ℕ
answers_of c = answered c.ops

abbrev pub Differ : CommitRecord → CommitRecord → Type 0
Differ c d = c ≡ d → ⊥

-- records in an order that none is before itself in have no more operations than a list that has them

record IsWithout (x : CommitRecord) (ys : List CommitRecord) : Type 0 where
  rest : List CommitRecord
  sum : sum_by answers_of ys ≡ answers_of x + sum_by answers_of rest
  others : (y : CommitRecord) → In y ys → (y ≡ x) ⊎ In y rest

cut : (x : CommitRecord) (ys : List CommitRecord) → In x ys → IsWithout x ys
cut x [] among = absurd among
cut x (y ∷ ys) (inl same) = record {
  rest = ys;
  sum = sum_by-cons answers_of y ys ∙ ap (λ (c : CommitRecord). answers_of c + sum_by answers_of ys) (sym same);
  others = λ z among. elim among [ inl here ↦ inl (here ∙ sym same) | inr there ↦ inr there ];
}
cut x (y ∷ ys) (inr there) =
    let w : IsWithout x ys = cut x ys there in
    record {
      rest = y ∷ w.rest;
      sum = (
          let all : sum_by answers_of (y ∷ ys) ≡ answers_of y + sum_by answers_of ys = sum_by-cons answers_of y ys in
          let more : sum_by answers_of (y ∷ w.rest) ≡ answers_of y + sum_by answers_of w.rest =
          sum_by-cons answers_of y w.rest in
          let its : sum_by answers_of ys ≡ answers_of x + sum_by answers_of w.rest = w.sum in
          omega arith
          );
      others = λ z among. elim among [
        | inl here ↦ inr (inl here)
        | inr more ↦ elim
            (w.others z more) [ inl is ↦ inl is | inr left ↦ inr (inr left) ]
      ];
    }

module _ (before : CommitRecord → CommitRecord → Type 0) (never : (c : CommitRecord) → before c c → ⊥) where
  pub ordered_within : (xs ys : List CommitRecord) → IsOrdered before xs → ((c : CommitRecord) → In c xs → In c ys)
      → sum_by answers_of xs ≤ sum_by answers_of ys
  ordered_within [] ys order among = let none : sum_by answers_of [] ≡ 0 = refl in omega arith
  ordered_within (x ∷ xs) ys order among =
      let w : IsWithout x ys = cut x ys (among x (inl refl)) in
      let its : sum_by answers_of ys ≡ answers_of x + sum_by answers_of w.rest = w.sum in
      let first : sum_by answers_of (x ∷ xs) ≡ answers_of x + sum_by answers_of xs = sum_by-cons answers_of x xs in
      let less : sum_by answers_of xs ≤ sum_by answers_of w.rest =
      ordered_within xs w.rest order.1 (λ y there. elim (w.others y (among y (inr there))) [
        | inl same ↦ absurd (never x (subst (before x) same (order.0 y there)))
        | inr left ↦ left
      ]) in
      omega arith

-- distinct by their homes

first_differs : (t : Bool) (x : CommitRecord) (ys : List CommitRecord) → t ≡ true
    → IsOrdered Differ (cond t (x ∷ ys) ys) → IsBeforeAll Differ x ys
first_differs true x ys is order = order.0
first_differs false x ys is order = absurd (let never : ⊥ = cc in never)

others_differ : (t : Bool) (x : CommitRecord) (ys : List CommitRecord) → IsOrdered Differ (cond t (x ∷ ys) ys)
    → IsOrdered Differ ys
others_differ true x ys order = order.1
others_differ false x ys order = order

pub distinct_by : (home : CommitRecord → ℕ) (xs : List CommitRecord)
    → ((x : CommitRecord) → In x xs → IsOrdered Differ (filter (λ (c : CommitRecord). home c == home x) xs))
    → IsOrdered Differ xs
distinct_by home [] each = tt
distinct_by home (x ∷ xs) each = (
  (λ y there same. first_differs (home x == home x) x (filter (λ (c : CommitRecord). home c == home x) xs)
      (eq-eqb (home x) (home x) refl) (each x (inl refl)) y
      (In-filter (λ (c : CommitRecord). home c == home x) y xs there (eq-eqb (home y) (home x) (ap home (sym same))))
      same),
  distinct_by home xs (λ y there. others_differ (home x == home y) x
      (filter (λ (c : CommitRecord). home c == home y) xs) (each y (inr there))),
)

-- records whose stamps rise are distinct

record IsAt (y : CommitRecord) (cs : List CommitRecord) (d : CommitRecord) : Type 0 where
  place : ℕ
  within : place < length cs
  is : get_or cs place d ≡ y

find : (y : CommitRecord) (cs : List CommitRecord) (d : CommitRecord) → In y cs → IsAt y cs d
find y [] d among = absurd among
find y (c ∷ cs) d (inl same) = record { place = zero; within = omega arith; is = sym same }
find y (c ∷ cs) d (inr there) = let w : IsAt y cs d = find y cs d there in
    record { place = suc w.place; within = (let less : w.place < length cs = w.within in omega arith); is = w.is }

pub rising_distinct : (cs : List CommitRecord) → AllPairs (λ (c d : CommitRecord). c.stamp.clock < d.stamp.clock) cs
    → IsOrdered Differ cs
rising_distinct [] rise = tt
rising_distinct (c ∷ cs) rise = (
  first,
  rising_distinct cs
      (λ i j d l m. rise (suc i) (suc j) d (omega arith) (omega arith)),
)
  where
    first : IsBeforeAll Differ c cs
    first y there same =
        let w : IsAt y cs c = find y cs c there in
        let less : c.stamp.clock < (get_or cs w.place c).stamp.clock =
        rise zero (suc w.place) c (omega arith) (let l : w.place < length cs = w.within in omega arith) in
        let one : (get_or cs w.place c).stamp.clock ≡ y.stamp.clock = ap (λ (x : CommitRecord). x.stamp.clock) w.is in
        let other : c.stamp.clock ≡ y.stamp.clock = ap (λ (x : CommitRecord). x.stamp.clock) same in
        omega arith
