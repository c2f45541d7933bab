-- The arms of one actor among those of all: what waits in its disk's account, or none.
use Rattle.std.proofs.Common.{◌≡◌, ℕ, ◌+◌, ◌==◌, Bool, true, false, not, List, [], ◌∷◌, filter, map, cond, Option, Some}
use Rattle.std.proofs.Common.{None, refl, sym, ◌∙◌, ap, if◌then◌else◌}
use Rattle.std.proofs.lemmas.Bool.{eqb-true, eqb-false, eq-eqb, ne_eqb}
use Rattle.qc_promise.specs.Vocabulary.{Arm, Calls, DiskArm, waiting_after, with_calls}

-- the test on numbers

pub test_sym : (a b : ℕ) → (a == b) ≡ (b == a)
test_sym a b = by (a == b) refl
  where
    by : (t : Bool) → (a == b) ≡ t → (a == b) ≡ (b == a)
    by true is = is ∙ sym (eq-eqb b a (sym (eqb-true a b is)))
    by false is = is ∙ sym (ne_eqb b a (λ e. eqb-false a b is (sym e)))

abbrev pub of_actor : ℕ → Arm → Bool
of_actor a x = x.actor == a

abbrev pub arm_of : ℕ → DiskArm → Arm
arm_of a w = record { actor = a; kind = w.kind; at = w.at; calls = w.calls }

abbrev pub arms_of : ℕ → Option DiskArm → List Arm
arms_of a None = []
arms_of a (Some w) = arm_of a w ∷ []

-- those of the other actors
pub others : (a b : ℕ) (xs : List Arm)
    → filter (of_actor a) (filter (λ (x : Arm). not (x.actor == b)) xs) ≡ cond (b == a) [] (filter (of_actor a) xs)
others a b [] = by (b == a)
  where
    by : (t : Bool) → ◌≡◌ {A = List Arm} [] (cond t [] [])
    by true = refl
    by false = refl
others a b (x ∷ xs) = by (others a b xs) (x.actor == b) (x.actor == a) (b == a) refl refl refl
  where
    by : filter (of_actor a) (filter (λ (y : Arm). not (y.actor == b)) xs) ≡ cond (b == a) [] (filter (of_actor a) xs)
        → (s t u : Bool) → (x.actor == b) ≡ s → (x.actor == a) ≡ t → (b == a) ≡ u
        → filter (of_actor a)
        (cond (not s) (x ∷ filter (λ (y : Arm). not (y.actor == b)) xs)
        (filter (λ (y : Arm). not (y.actor == b)) xs)) ≡ cond u [] (cond t (x ∷ filter (of_actor a) xs)
        (filter (of_actor a) xs))
    by ih true true true is_b is_a both = ih ∙ rw both refl
    by ih true false true is_b is_a both = ih ∙ rw both refl
    by ih false true true is_b is_a both =
        absurd (eqb-false x.actor b is_b (eqb-true x.actor a is_a ∙ sym (eqb-true b a both)))
    by ih false false true is_b is_a both = rw is_a (ih ∙ rw both refl)
    by ih true true false is_b is_a both =
        absurd (eqb-false b a both (sym (eqb-true x.actor b is_b) ∙ eqb-true x.actor a is_a))
    by ih true false false is_b is_a both = ih ∙ rw both refl
    by ih false true false is_b is_a both = rw is_a (ap (λ (l : List Arm). x ∷ l) (ih ∙ rw both refl))
    by ih false false false is_b is_a both = rw is_a (ih ∙ rw both refl)

-- more calls
abbrev called_if : Bool → Calls → Arm → Arm
called_if test calls x =
    if test
    then record x { calls = record { fewest = x.calls.fewest + calls.fewest; most = x.calls.most + calls.most } }
    else x

actor_stays : (e : ℕ) (calls : Calls) (x : Arm) → (with_calls e calls x).actor ≡ x.actor
actor_stays e calls x = by (x.actor == e)
  where
    by : (t : Bool) → (called_if t calls x).actor ≡ x.actor
    by true = refl
    by false = refl

pub called_parts : (a e : ℕ) (calls : Calls) (xs : List Arm)
    → filter (of_actor a) (map (with_calls e calls) xs) ≡ map (with_calls e calls) (filter (of_actor a) xs)
called_parts a e calls [] = refl
called_parts a e calls (x ∷ xs) =
    rw (ap (λ (n : ℕ). n == a) (actor_stays e calls x)) (by (called_parts a e calls xs) (x.actor == a))
  where
    by : filter (of_actor a) (map (with_calls e calls) xs) ≡ map (with_calls e calls) (filter (of_actor a) xs)
        → (t : Bool) → cond t (with_calls e calls x ∷ filter (of_actor a) (map (with_calls e calls) xs))
        (filter (of_actor a) (map (with_calls e calls) xs))
        ≡ map (with_calls e calls) (cond t (x ∷ filter (of_actor a) xs) (filter (of_actor a) xs))
    by ih true = ap (λ (l : List Arm). with_calls e calls x ∷ l) ih
    by ih false = ih

pub called_arms : (a e : ℕ) (calls : Calls) (w : Option DiskArm)
    → map (with_calls e calls) (arms_of a w) ≡ arms_of a (if e == a then waiting_after calls w else w)
called_arms a e calls None = by (e == a)
  where
    by : (t : Bool) → [] ≡ arms_of a (if t then None else None)
    by true = refl
    by false = refl
called_arms a e calls (Some w) = rw (test_sym a e) (by (e == a))
  where
    by : (t : Bool) → called_if t calls (arm_of a w) ∷ []
        ≡ arms_of a (if t then waiting_after calls (Some w) else Some w)
    by true = refl
    by false = refl
