-- Parts of a group: what is within a set, and how it grows as sets are added.
use Rattle.std.proofs.Common.{◌≡◌, ◌⊎◌, inl, inr, ℕ, zero, suc, ◌+◌, ◌-◌, ◌^◌, ◌%◌, ◌*◌, ◌<◌, ◌≤◌, Bool, true, false}
use Rattle.std.proofs.Common.{List, [], ◌∷◌, ◌++◌, All, length, get_or, set as put, bit_and, refl, sym, ap, subst, ◌∙◌}
use Rattle.std.proofs.Common.{arith, w64}
use Rattle.std.specs.Prelude.{◌==◌, ◌||◌}
use Rattle.std.specs.Int.{bit_at, bit_not, trailing_zeros}
use Rattle.std.proofs.lemmas.Bool.{cases_lt, eqb-true, eqb-false, eq-eqb, false_from_ne_true, true≢false}
use Rattle.std.proofs.lemmas.Nat.{and_le_l}
use Rattle.std.proofs.lemmas.List.{get_or_default, get_or_past, get_or-set_same, get_or-set_other}
use Rattle.std.proofs.lemmas.List.Elements.{All-push}
use Rattle.std.proofs.lemmas.List.Folds.{list_any-append, list_any_at, list_any_none}
use Rattle.std.proofs.lemmas.Nat.Bits.{bit_at-lt, bit_at_and, bit_at_not, bit_at_clear_same, bit_at_clear_other}
use Rattle.std.proofs.lemmas.Nat.Bits.{bit_at-trailing_zeros}
use Rattle.qc_cert.specs.Vocabulary.{AreParted, any_within, parts_within, sets_of}
use Rattle.qc_cert.proofs.Computed.{within_true}
use Rattle.qc_table.specs.Vocabulary.{has, is_within}
use Rattle.qc_list.proofs.Booleans.{or_false}
use Rattle.qc_table.proofs.Sets.{below_64}

-- ---- parts
-- a part's sets have its event, so that none is within a set that hasn't
pub passed_over : (sets : List ℕ) (event out : ℕ) → All (λ s. has s event ≡ true) sets → has out event ≡ false
    → any_within sets out ≡ false
passed_over sets event out all lacks = list_any_none (λ s. is_within s out) sets (λ k d l.
    false_from_ne_true (is_within (get_or sets k d) out) (λ (here : is_within (get_or sets k d) out ≡ true).
    true≢false (sym (within_true (get_or sets k d) out here event (all k d l)) ∙ lacks)))

-- where the events of the set are looked at in two lots, and no part of either has one that is within it, none has
pub none_looked : (parts : List (List ℕ)) (out high : ℕ) → AreParted parts → out < 2 ^ 64 → high < 2 ^ 64
    → ((k : ℕ) → has (bit_and out high) k ≡ true → any_within (get_or parts k []) out ≡ false)
    → ((k : ℕ) → has (bit_and out (bit_not w64 high)) k ≡ true → any_within (get_or parts k []) out ≡ false)
    → parts_within parts out ≡ false
none_looked parts out high parted small fits first second =
    list_any_none (λ sets. any_within sets out) parts
    (λ k d l. ap (λ sets. any_within sets out) (get_or_default parts k d [] l) ∙ at k)
  where
    at : (k : ℕ) → any_within (get_or parts k []) out ≡ false
    at k = by (has out k) (has high k) refl refl where
      by : (b c : Bool) → has out k ≡ b → has high k ≡ c → any_within (get_or parts k []) out ≡ false
      by false c e f = passed_over (get_or parts k []) k out (parted k) e
      by true true e f =
          let one : bit_at out k ≡ 1 = eqb-true (bit_at out k) 1 e in
          let other : bit_at high k ≡ 1 = eqb-true (bit_at high k) 1 f in
          first k (eq-eqb (bit_at (bit_and out high) k) 1 (omega (arith, bit_at_and out high k)))
      by true false e f =
          let one : bit_at out k ≡ 1 = eqb-true (bit_at out k) 1 e in
          let other : bit_at high k ≡ 0 = grind (arith, bit_at-lt high k, eqb-false (bit_at high k) 1 f) in
          let turned : bit_at (bit_not w64 high) k ≡ 1 - bit_at high k =
          bit_at_not w64 high k fits (below_64 out k small e) in
          second k (eq-eqb (bit_at (bit_and out (bit_not w64 high)) k) 1
          (omega (arith, bit_at_and out (bit_not w64 high) k)))

-- a part with one that is within it
pub some_looked : (parts : List (List ℕ)) (out event : ℕ) → any_within (get_or parts event []) out ≡ true
    → parts_within parts out ≡ true
some_looked parts out event here = by (cases_lt event (length parts))
  where
    by : (event < length parts) ⊎ (length parts ≤ event) → parts_within parts out ≡ true
    by (inl l) = list_any_at (λ sets. any_within sets out) parts event [] l here
    by (inr past) = absurd (true≢false (sym here ∙ ap (λ sets. any_within sets out) (get_or_past parts event [] past)))

-- a part more, without sets
pub parted_more : (parts : List (List ℕ)) → AreParted parts → AreParted (parts ++ [] ∷ [])
parted_more parts parted event = subst (λ sets. All (λ s. has s event ≡ true) sets) (sym (same parts event))
    (parted event)
  where
    same : (parts : List (List ℕ)) (event : ℕ) → get_or (parts ++ [] ∷ []) event [] ≡ get_or parts event []
    same [] zero = refl
    same [] (suc event) = refl
    same (sets ∷ parts) zero = refl
    same (sets ∷ parts) (suc event) = same parts event

-- a set more in the part of one of its events
pub parted_added : (parts : List (List ℕ)) (event set : ℕ) → AreParted parts → has set event ≡ true
    → event < length parts
    → AreParted (put parts event (get_or parts event [] ++ set ∷ []))
parted_added parts event set parted here l other = by (event == other) refl
  where
    new : List (List ℕ)
    new = put parts event (get_or parts event [] ++ set ∷ [])

    by : (b : Bool) → (event == other) ≡ b → All (λ s. has s other ≡ true) (get_or new other [])
    by true e =
        let same : event ≡ other = eqb-true event other e in
        subst (λ k. All (λ s. has s k ≡ true) (get_or new k [])) same
        (subst (λ sets. All (λ s. has s event ≡ true) sets)
        (sym (get_or-set_same parts event (get_or parts event [] ++ set ∷ []) [] l))
        (All-push (λ s. has s event ≡ true) (get_or parts event []) set (parted event) here))
    by false e =
        subst (λ sets. All (λ s. has s other ≡ true) sets)
        (sym (get_or-set_other parts event other (get_or parts event [] ++ set ∷ []) []
        (λ (same : other ≡ event). eqb-false event other e (sym same))))
        (parted other)

-- ---- the events of a set, lowest first
-- the set without its lowest event
abbrev pub without : ℕ → ℕ → ℕ
without rest event = bit_and rest (bit_not w64 (1 * 2 ^ event % 2 ^ 64))

pub without_same : (rest event : ℕ) → event < 64 → has (without rest event) event ≡ false
without_same rest event l = ap (λ n. n == 1) (bit_at_clear_same w64 rest event l)

pub without_other : (rest event k : ℕ) → event < 64 → k < 64 → (k ≡ event → ⊥) → has (without rest event) k ≡ has rest k
without_other rest event k l kl ne = ap (λ n. n == 1) (bit_at_clear_other w64 rest event l k kl ne)

pub without_small : (rest event : ℕ) → rest < 2 ^ 64 → without rest event < 2 ^ 64
without_small rest event small = let less : without rest event ≤ rest =
    and_le_l rest (bit_not w64 (1 * 2 ^ event % 2 ^ 64)) in omega (arith, less, small)

-- without its lowest event a set has only events that are higher
pub left_more : (rest turn : ℕ) → 0 < rest → rest < 2 ^ 64 → ((k : ℕ) → has rest k ≡ true → turn ≤ k)
    → (k : ℕ) → has (without rest (trailing_zeros w64 rest)) k ≡ true → turn + 1 ≤ k
left_more rest turn some small left k here = by (k == low) refl
  where
    low : ℕ
    low = trailing_zeros w64 rest

    lowest : (low < 64) × (bit_at rest low ≡ 1) × ((i : ℕ) → i < low → bit_at rest i ≡ 0)
    lowest = bit_at-trailing_zeros w64 rest some small

    within : k < 64
    within = below_64 (without rest low) k (without_small rest low small) here

    by : (b : Bool) → (k == low) ≡ b → turn + 1 ≤ k
    by true e =
        let same : k ≡ low = eqb-true k low e in
        absurd (true≢false (sym here ∙ ap (has (without rest low)) same ∙ without_same rest low lowest.0))
    by false e =
        let old : has rest k ≡ true = sym (without_other rest low k lowest.0 within (eqb-false k low e)) ∙ here in
        let from : turn ≤ low = left low (eq-eqb (bit_at rest low) 1 lowest.1) in
        above from old (cases_lt k low)
      where
        above : turn ≤ low → has rest k ≡ true → (k < low) ⊎ (low ≤ k) → turn + 1 ≤ k
        above from old (inl l) = absurd (let one : bit_at rest k ≡ 1 = eqb-true (bit_at rest k) 1 old in
            let none : bit_at rest k ≡ 0 = lowest.2 k l in omega arith)
        above from old (inr past) = let ne : k ≡ low → ⊥ = eqb-false k low e in grind (arith, from, past, ne)

-- the part of its lowest event was looked at
pub looked_more : (parts : List (List ℕ)) (out events rest : ℕ) → events < 2 ^ 64 → 0 < rest → rest < 2 ^ 64
    → any_within (get_or parts (trailing_zeros w64 rest) []) out ≡ false
    → ((k : ℕ) → has events k ≡ true → has rest k ≡ false → any_within (get_or parts k []) out ≡ false)
    → (k : ℕ) → has events k ≡ true → has (without rest (trailing_zeros w64 rest)) k ≡ false
    → any_within (get_or parts k []) out ≡ false
looked_more parts out events rest small some fits here looked k has_it lacks = by (k == low) refl
  where
    low : ℕ
    low = trailing_zeros w64 rest

    by : (b : Bool) → (k == low) ≡ b → any_within (get_or parts k []) out ≡ false
    by true e = ap (λ n. any_within (get_or parts n []) out) (eqb-true k low e) ∙ here
    by false e = looked k has_it (sym (without_other rest low k (bit_at-trailing_zeros w64 rest some fits).0
        (below_64 events k small has_it) (eqb-false k low e)) ∙ lacks)

-- the lowest event of a set is one of it
pub lowest_has : (set : ℕ) → 0 < set → set < 2 ^ 64
    → (trailing_zeros w64 set < 64) × (has set (trailing_zeros w64 set) ≡ true)
lowest_has set some small = let low = bit_at-trailing_zeros w64 set some small in
    (low.0, eq-eqb (bit_at set (trailing_zeros w64 set)) 1 low.1)

pub or_deep : (a b c : Bool) → (a || (b || c)) ≡ ((a || b) || c)
or_deep true b c = refl
or_deep false b c = refl

pub any_more : (sets : List ℕ) (s out : ℕ) → any_within (sets ++ s ∷ []) out ≡ (any_within sets out || is_within s out)
any_more sets s out = list_any-append (λ o. is_within o out) sets (s ∷ [])
    ∙ ap (λ b. any_within sets out || b) (or_false (is_within s out))

-- one part more
pub part_more : (parts : List (List ℕ)) (sets : List ℕ) (out : ℕ)
    → parts_within (parts ++ sets ∷ []) out ≡ (parts_within parts out || any_within sets out)
part_more parts sets out = list_any-append (λ sets. any_within sets out) parts (sets ∷ [])
    ∙ ap (λ b. parts_within parts out || b) (or_false (any_within sets out))

-- a set more in the rest of a group
pub set_added : (blocks : List (List ℕ)) (rest : List ℕ) (s out : ℕ)
    → parts_within (sets_of blocks (rest ++ s ∷ [])) out ≡ (parts_within (sets_of blocks rest) out || is_within s out)
set_added blocks rest s out =
    part_more blocks (rest ++ s ∷ []) out
    ∙ ap (λ b. parts_within blocks out || b) (any_more rest s out)
    ∙ or_deep (parts_within blocks out) (any_within rest out) (is_within s out)
    ∙ ap (λ b. b || is_within s out) (sym (part_more blocks rest out))

-- a block of the rest, where none is left
pub rest_closed : (old new : List (List ℕ)) (rest left : List ℕ) (out : ℕ) → left ≡ []
    → parts_within new out ≡ (parts_within old out || any_within rest out)
    → parts_within (sets_of new left) out ≡ parts_within (sets_of old rest) out
rest_closed old new rest left out none closed =
    part_more new left out
    ∙ ap (λ sets. parts_within new out || any_within sets out) none
    ∙ or_false (parts_within new out)
    ∙ closed
    ∙ sym (part_more old rest out)

-- a part without sets covers nothing more
pub part_none : (parts : List (List ℕ)) (out : ℕ) → parts_within (parts ++ [] ∷ []) out ≡ parts_within parts out
part_none parts out = part_more parts [] out ∙ or_false (parts_within parts out)

or_later : (a b c : Bool) → ((a || c) || b) ≡ ((a || b) || c)
or_later true b c = refl
or_later false true true = refl
or_later false true false = refl
or_later false false true = refl
or_later false false false = refl

-- a set that was added to one of the parts
pub part_grown : (parts : List (List ℕ)) (place s out : ℕ) → place < length parts
    → parts_within (put parts place (get_or parts place [] ++ s ∷ [])) out ≡ (parts_within parts out || is_within s out)
part_grown [] place s out l = absurd (omega (arith, l))
part_grown (sets ∷ parts) zero s out l = ap (λ b. b || parts_within parts out) (any_more sets s out)
    ∙ or_later (any_within sets out) (parts_within parts out) (is_within s out)
part_grown (sets ∷ parts) (suc place) s out l =
    ap (λ b. any_within sets out || b) (part_grown parts place s out (omega (arith, l)))
    ∙ or_deep (any_within sets out) (parts_within parts out) (is_within s out)
