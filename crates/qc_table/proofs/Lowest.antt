-- What the scan for the lowest response answers.
use Rattle.std.proofs.Common.{◌≡◌, ℕ, ◌<◌, ◌≤◌, ◌⊎◌, Bool, true, false, cond, min, List, [], ◌∷◌, Option, Some, None}
use Rattle.std.proofs.Common.{refl, sym, ap, ◌∙◌, inl, inr, ⊎_elim, eq-eqb, arith}
use Rattle.std.specs.Prelude.{IsSome, ◌==◌, ◌&&◌, ◌||◌, fold}
use Rattle.std.proofs.lemmas.Bool.{cases_lt, or_from, or_left, or_right, ne_eqb}
use Rattle.qc_table.specs.declared.row.Row.{Row}
use Rattle.qc_table.specs.Vocabulary.{event, lower, lowest_in, lowest_with, next_in}
use Rattle.qc_table.proofs.Legal.{is_legal, legal_cons, none_where_illegal}

-- what a scan from a lowest response so far answers
record Scanned (state inv : ℕ) (rows : List Row) (best result : Option ℕ) : Type 0 where
  nothing : result ≡ None → best ≡ None
  illegal : result ≡ None → (k : ℕ) → is_legal rows state (event inv k) ≡ false
  legal : (m : ℕ) → result ≡ Some m → (best ≡ Some m) ⊎ (is_legal rows state (event inv m) ≡ true)
  lowest : (m k : ℕ) → result ≡ Some m → k < m → is_legal rows state (event inv k) ≡ false
  below : (m b : ℕ) → result ≡ Some m → best ≡ Some b → m ≤ b

-- a row of another state or invocation allows none of these events
other : (a b c : Bool) → (a && b) ≡ false → (a && (b && c)) ≡ false
other true true c e = absurd (cc)
other true false c e = refl
other false b c e = refl

-- a row of this state and invocation allows its response
here : (a b c : Bool) → (a && b) ≡ true → (a && (b && c)) ≡ c
here true true c e = refl
here true false c e = absurd (cc)
here false b c e = absurd (cc)

-- a row that isn't for this invocation changes nothing
passed : (state inv : ℕ) (row : Row) (rows : List Row) (best result : Option ℕ)
    → ((row.state == state) && (row.inv == inv)) ≡ false → Scanned state inv rows best result
    → Scanned state inv (row ∷ rows) best result
passed state inv row rows best result apart s =
    let same : (k : ℕ) → is_legal (row ∷ rows) state (event inv k) ≡ is_legal rows state (event inv k) =
    λ k. legal_cons row rows state (event inv k)
    ∙ ap (λ b. b || is_legal rows state (event inv k))
    (other (row.state == state) (row.inv == inv) (row.resp == k) apart) in
    record {
      nothing = s.nothing;
      illegal = λ e k. same k ∙ s.illegal e k;
      legal = λ m e. rw (same m) (s.legal m e);
      lowest = λ m k e l. same k ∙ s.lowest m k e l;
      below = s.below;
    }

-- a row for this invocation counts
counted : (state inv : ℕ) (row : Row) (rows : List Row) (best result : Option ℕ)
    → ((row.state == state) && (row.inv == inv)) ≡ true → Scanned state inv rows (lower best row.resp) result
    → Scanned state inv (row ∷ rows) best result
counted state inv row rows best result fits s =
    let same : (k : ℕ) → is_legal (row ∷ rows) state (event inv k) ≡
    ((row.resp == k) || is_legal rows state (event inv k)) =
    λ k. legal_cons row rows state (event inv k)
    ∙ ap (λ b. b || is_legal rows state (event inv k))
    (here (row.state == state) (row.inv == inv) (row.resp == k) fits) in
    by best refl same s
  where
    by : (o : Option ℕ) → best ≡ o → ((k : ℕ)
        → is_legal (row ∷ rows) state (event inv k) ≡ ((row.resp == k) || is_legal rows state (event inv k)))
        → Scanned state inv rows (lower o row.resp) result → Scanned state inv (row ∷ rows) best result
    by None eo same s = record {
      nothing = λ e. eo;
      illegal = λ e. absurd (let never : Some row.resp ≡ None = s.nothing e in let none : ⊥ = cc in none);
      legal = λ m e. inr (same m ∙ ⊎_elim (λ h. or_left (row.resp == m) (is_legal rows state (event inv m))
          (eq-eqb row.resp m (let own : row.resp ≡ m = cc in own)))
          (λ h. or_right (row.resp == m) (is_legal rows state (event inv m)) h) (s.legal m e));
      lowest = λ m k e l. same k ∙ or_from (row.resp == k) (is_legal rows state (event inv k))
          (ne_eqb row.resp k (let within : m ≤ row.resp = s.below m row.resp e refl in omega arith)) (s.lowest m k e l);
      below = λ m b e eb. absurd (let none : ⊥ = cc in none);
    }
    by (Some b) eo same s = let kept : (m : ℕ) → min b row.resp ≡ m
        → (best ≡ Some m) ⊎ (is_legal (row ∷ rows) state (event inv m) ≡ true) =
        λ m least. ⊎_elim (λ less. let own : b ≡ m = omega arith in inl (eo ∙ ap Some own))
        (λ more. inr (same m ∙ or_left (row.resp == m) (is_legal rows state (event inv m))
        (eq-eqb row.resp m (omega arith)))) (cases_lt b row.resp) in record {
          nothing = λ e. absurd (let never : Some (min b row.resp) ≡ None = s.nothing e in let none : ⊥ = cc in none);
          illegal = λ e. absurd (let never : Some (min b row.resp) ≡ None = s.nothing e in let none : ⊥ = cc in none);
          legal = λ m e. ⊎_elim (λ h. kept m (let least : min b row.resp ≡ m = cc in least))
              (λ h. inr (same m ∙ or_right (row.resp == m) (is_legal rows state (event inv m)) h)) (s.legal m e);
          lowest = λ m k e l. same k ∙ or_from (row.resp == k) (is_legal rows state (event inv k))
              (ne_eqb row.resp k (let within : m ≤ min b row.resp = s.below m (min b row.resp) e refl in omega arith))
              (s.lowest m k e l);
          below = λ m c e eb. let own : b ≡ c = (let found : Some b ≡ Some c = sym eo ∙ eb in cc) in
              let within : m ≤ min b row.resp = s.below m (min b row.resp) e refl in omega arith;
        }

-- the scan answers so
scanned : (state inv : ℕ) (rows : List Row) (best : Option ℕ)
    → Scanned state inv rows best (fold (lowest_with state inv) best rows)
scanned state inv [] best = record {
  nothing = λ e. e;
  illegal = λ e k. refl;
  legal = λ m e. inl e;
  lowest = λ m k e l. refl;
  below = λ m b e eb. omega (arith, let same : Some m ≡ Some b = sym e ∙ eb in let s : m ≡ b = cc in s);
}
scanned state inv (row ∷ rows) best = by ((row.state == state) && (row.inv == inv)) refl
    (scanned state inv rows (lowest_with state inv best row))
  where
    by : (b : Bool) → ((row.state == state) && (row.inv == inv)) ≡ b
        → Scanned state inv rows (cond b (lower best row.resp) best)
        (fold (lowest_with state inv) (cond b (lower best row.resp) best) rows)
        → Scanned state inv (row ∷ rows) best (fold (lowest_with state inv) (cond b (lower best row.resp) best) rows)
    by true e s = counted state inv row rows best _ e s
    by false e s = passed state inv row rows best _ e s

-- where there is no lowest response, none is legal
pub none_legal : (rows : List Row) (state inv : ℕ) → lowest_in rows state inv ≡ None → (k : ℕ)
    → next_in rows state (event inv k) ≡ None
none_legal rows state inv e k = none_where_illegal _ ((scanned state inv rows None).illegal e k)

-- the lowest response is legal
pub lowest_legal : (rows : List Row) (state inv resp : ℕ) → lowest_in rows state inv ≡ Some resp
    → IsSome (next_in rows state (event inv resp))
lowest_legal rows state inv resp e = by ((scanned state inv rows None).legal resp e)
  where
    by : (None ≡ Some resp) ⊎ (is_legal rows state (event inv resp) ≡ true)
        → is_legal rows state (event inv resp) ≡ true
    by (inl never) = absurd (let none : ⊥ = cc in none)
    by (inr l) = l

-- and no lower one is
pub none_lower : (rows : List Row) (state inv resp : ℕ) → lowest_in rows state inv ≡ Some resp → (k : ℕ) → k < resp
    → next_in rows state (event inv k) ≡ None
none_lower rows state inv resp e k l = none_where_illegal _ ((scanned state inv rows None).lowest resp k e l)
