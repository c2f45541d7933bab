-- Groups have what a search for a covering triple looks at.
use Rattle.std.proofs.Common.{◌≡◌, ℕ, zero, suc, ◌<◌, ◌≤◌, ◌⊎◌, Bool, true, false, cond, List, [], ◌∷◌, ◌++◌, All}
use Rattle.std.proofs.Common.{length, get_or, set, refl, sym, ap, ◌∙◌, inl, inr, suc-le-suc, zero-lt-suc, arith}
use Rattle.std.specs.Prelude.{◌==◌, ◌&&◌, ◌||◌}
use Rattle.std.specs.List.{list_any}
use Rattle.std.proofs.lemmas.Bool.{eqb-true, eqb-false, eq-eqb, ne_eqb}
use Rattle.std.proofs.lemmas.List.{get_or-set_same, get_or-set_other}
use Rattle.std.proofs.lemmas.List.Folds.{list_any_none}
use Rattle.qc_cert.specs.Vocabulary.{AreStates, any_within, covers, is_covered, outs_at, parts_within, place_of}
use Rattle.qc_cert.proofs.Shared.{or_deep}
use Rattle.qc_cert.specs.declared.triple.Triple.{Triple}
use Rattle.qc_table.specs.Vocabulary.{is_within}
use Rattle.qc_list.proofs.Booleans.{or_false}

-- of a list's first triple
head_of : (t : Triple) (ts : List Triple) → All AreStates (t ∷ ts) → AreStates t
head_of t ts all = all 0 t (zero-lt-suc (length ts))

tail_of : (t : Triple) (ts : List Triple) → All AreStates (t ∷ ts) → All AreStates ts
tail_of t ts all k d l = all (suc k) d (suc-le-suc l)

-- two triples of one group have the same states
same_states : (a b : Triple) → a.log < 64 → b.log < 64 → place_of a.view a.log ≡ place_of b.view b.log
    → ((a.view == b.view) ≡ true) × ((a.log == b.log) ≡ true)
same_states a b la lb e = (eq-eqb a.view b.view (omega arith), eq-eqb a.log b.log (omega arith))

-- triples of two groups don't cover each other
apart : (a b : Triple) → (place_of a.view a.log ≡ place_of b.view b.log → ⊥) → covers a b ≡ false
apart a b ne = by (a.view == b.view) (a.log == b.log) refl refl
  where
    by : (v w : Bool) → (a.view == b.view) ≡ v → (a.log == b.log) ≡ w → (v && (w && is_within a.out b.out)) ≡ false
    by false w e f = refl
    by true false e f = refl
    by true true e f = let views : a.view ≡ b.view = eqb-true a.view b.view e in
        let logs : a.log ≡ b.log = eqb-true a.log b.log f in absurd (ne (omega arith))

together : (a b : Triple) → (a.view == b.view) ≡ true → (a.log == b.log) ≡ true → is_within a.out b.out ≡ covers a b
together a b e f = rw (e, f) refl

-- the group of two states tells whether a triple of them is covered
pub covered_in : (list : List Triple) (t : Triple) → All AreStates list → t.log < 64
    → list_any (λ o. is_within o t.out) (outs_at list (place_of t.view t.log)) ≡ is_covered list t
covered_in [] t all l = refl
covered_in (a ∷ list) t all l = by (place_of a.view a.log == place_of t.view t.log) refl
    (covered_in list t (tail_of a list all) l)
  where
    by : (b : Bool) → (place_of a.view a.log == place_of t.view t.log) ≡ b
        → list_any (λ o. is_within o t.out) (outs_at list (place_of t.view t.log)) ≡ is_covered list t
        → list_any (λ o. is_within o t.out) (cond b (a.out ∷ outs_at list (place_of t.view t.log))
        (outs_at list (place_of t.view t.log))) ≡ (covers a t || is_covered list t)
    by true e more =
        let states : ((a.view == t.view) ≡ true)
        × ((a.log == t.log) ≡ true) = same_states a t (head_of a list all).1 l (eqb-true _ _ e) in
        ap (λ b. b || list_any (λ o. is_within o t.out) (outs_at list (place_of t.view t.log)))
        (together a t states.0 states.1) ∙ ap (λ b. covers a t || b) more
    by false e more =
        let none : covers a t ≡ false = apart a t
        (λ same. let t : true ≡ false = sym (eq-eqb _ _ same) ∙ e in let never : ⊥ = cc in never) in
        more ∙ sym (ap (λ b. b || is_covered list t) none)

-- a triple with a state past all states isn't covered
pub uncovered_past : (list : List Triple) (t : Triple) → All AreStates list → (64 ≤ t.view) ⊎ (64 ≤ t.log)
    → is_covered list t ≡ false
uncovered_past list t all past = list_any_none (λ a. covers a t) list (λ k d l. by (get_or list k d) (all k d l) past)
  where
    logs : (v w b : Bool) → w ≡ false → (v && (w && b)) ≡ false
    logs false w b e = refl
    logs true false b e = refl
    logs true true b e = absurd (let never : ⊥ = cc in never)

    by : (a : Triple) → AreStates a → (64 ≤ t.view) ⊎ (64 ≤ t.log) → covers a t ≡ false
    by a states (inl v) = rw (ne_eqb a.view t.view
        (λ (e : a.view ≡ t.view). let n : a.view < 64 = states.0 in omega arith)) refl
    by a states (inr v) = logs (a.view == t.view) (a.log == t.log) (is_within a.out t.out)
        (ne_eqb a.log t.log (λ (e : a.log ≡ t.log). let n : a.log < 64 = states.1 in omega arith))

-- a triple that was added to its group
pub group_added : (groups : List (List (List ℕ))) (t : Triple) (place : ℕ) (new : List (List ℕ))
    → place ≡ place_of t.view t.log → place < length groups
    → ((out : ℕ) → parts_within new out ≡ (parts_within (get_or groups place []) out || is_within t.out out))
    → (group out : ℕ) → parts_within (get_or (set groups place new) group []) out ≡
    (parts_within (get_or groups group []) out || any_within (outs_at (t ∷ []) group) out)
group_added groups t place new at within more group out = by (place_of t.view t.log == group) refl
  where
    by : (b : Bool) → (place_of t.view t.log == group) ≡ b
        → parts_within (get_or (set groups place new) group []) out ≡
        (parts_within (get_or groups group []) out || any_within (cond b (t.out ∷ []) []) out)
    by true e =
        let same : group ≡ place = sym (eqb-true _ _ e) ∙ sym at in
        ap (λ g. parts_within (get_or (set groups place new) g []) out) same
        ∙ ap (λ p. parts_within p out) (get_or-set_same groups place new [] within)
        ∙ more out
        ∙ ap (λ g. parts_within (get_or groups g []) out || is_within t.out out) (sym same)
        ∙ ap (λ b. parts_within (get_or groups group []) out || b) (sym (or_false (is_within t.out out)))
    by false e =
        ap (λ p. parts_within p out) (get_or-set_other groups place group new []
        (λ (same : group ≡ place). eqb-false _ _ e (sym at ∙ sym same)))
        ∙ sym (or_false (parts_within (get_or groups group []) out))

-- the first of the triples that are left
first_at : (t : Triple) (ts : List Triple) (group out : ℕ)
    → any_within (outs_at (t ∷ ts) group) out ≡
    (any_within (outs_at (t ∷ []) group) out || any_within (outs_at ts group) out)
first_at t ts group out = by (place_of t.view t.log == group)
  where
    by : (b : Bool) → any_within (cond b (t.out ∷ outs_at ts group) (outs_at ts group)) out ≡
        (any_within (cond b (t.out ∷ []) []) out || any_within (outs_at ts group) out)
    by true = ap (λ b. b || any_within (outs_at ts group) out) (sym (or_false (is_within t.out out)))
    by false = refl

-- what a group has with the first of them, and what the others add
pub group_more : (new old : Bool) (t : Triple) (ts : List Triple) (group out : ℕ)
    → new ≡ (old || any_within (outs_at (t ∷ []) group) out)
    → (new || any_within (outs_at ts group) out) ≡ (old || any_within (outs_at (t ∷ ts) group) out)
group_more new old t ts group out more =
    ap (λ b. b || any_within (outs_at ts group) out) more
    ∙ sym (or_deep old (any_within (outs_at (t ∷ []) group) out) (any_within (outs_at ts group) out))
    ∙ ap (λ b. old || b) (sym (first_at t ts group out))

-- a group more that covers nothing
pub empty_more : (groups : List (List (List ℕ))) (new : List (List ℕ))
    → ((place out : ℕ) → parts_within (get_or groups place []) out ≡ false) → ((out : ℕ) → parts_within new out ≡ false)
    → (place out : ℕ) → parts_within (get_or (groups ++ new ∷ []) place []) out ≡ false
empty_more [] new none it zero out = it out
empty_more [] new none it (suc place) out = refl
empty_more (g ∷ groups) new none it zero out = none zero out
empty_more (g ∷ groups) new none it (suc place) out = empty_more groups new (λ p o. none (suc p) o) it place out

-- a group that covers what it covered
pub group_kept : (groups : List (List (List ℕ))) (at : ℕ) (new : List (List ℕ)) → at < length groups
    → ((out : ℕ) → parts_within new out ≡ parts_within (get_or groups at []) out)
    → (place out : ℕ) → parts_within (get_or (set groups at new) place []) out ≡ parts_within
    (get_or groups place []) out
group_kept groups at new within same place out = by (at == place) refl
  where
    by : (b : Bool) → (at == place) ≡ b → parts_within (get_or (set groups at new) place []) out ≡ parts_within
        (get_or groups place []) out
    by true e =
        let is : at ≡ place = eqb-true at place e in
        ap (λ k. parts_within (get_or (set groups at new) k []) out) (sym is)
        ∙ ap (λ g. parts_within g out) (get_or-set_same groups at new [] within)
        ∙ same out
        ∙ ap (λ k. parts_within (get_or groups k []) out) is
    by false e = ap (λ g. parts_within g out)
        (get_or-set_other groups at place new [] (λ (is : place ≡ at). eqb-false at place e (sym is)))
