-- Thresholds above the weight of all sites.
use Rattle.std.proofs.Common.{◌≡◌, ℕ, zero, suc, ◌<◌, ◌≤◌, false, List, [], ◌∷◌, None, length, get_or, refl, ap, subst}
use Rattle.std.proofs.Common.{⊎_elim, arith}
use Rattle.std.specs.Prelude.{nat_lt, slice_get, unwrap_or}
use Rattle.std.specs.List.{list_any}
use Rattle.std.proofs.lemmas.Bool.{cases_lt, ltb-false, le-ltb, or_from, or_parts}
use Rattle.std.proofs.lemmas.Option.{slice_get_past, unwrap_or-slice_get}
use Rattle.qc_plan.specs.Vocabulary.{need_of}

-- the threshold at a place of a list, and 0 where there is none
abbrev pub need_in : List ℕ → ℕ → ℕ
need_in list place = unwrap_or (slice_get list place) 0

-- where no threshold of a list is above all weight, each is light
light_in : (all : ℕ) (list : List ℕ) → list_any (nat_lt all) list ≡ false → (place : ℕ) → need_in list place ≤ all
light_in all [] e place = omega arith
light_in all (need ∷ list) e zero = ltb-false all need (or_parts (nat_lt all need) (list_any (nat_lt all) list) e).0
light_in all (need ∷ list) e (suc place) =
    light_in all list (or_parts (nat_lt all need) (list_any (nat_lt all) list) e).1 place

-- and the other way round
none_above : (all : ℕ) (list : List ℕ) → ((place : ℕ) → need_in list place ≤ all) → list_any (nat_lt all) list ≡ false
none_above all [] light = refl
none_above all (need ∷ list) light = or_from (nat_lt all need) (list_any (nat_lt all) list)
    (le-ltb all need (light zero)) (none_above all list (λ place. light (suc place)))

-- an object's thresholds stand in its list
need_at : (needs : List (List ℕ)) (object place : ℕ)
    → need_of needs object place ≡ need_in (get_or needs object []) place
need_at needs object place = ap (λ (list : List ℕ). need_in list place) (unwrap_or-slice_get needs object [])

-- where no listed object is heavy, each threshold is light
pub all_light : (all : ℕ) (needs : List (List ℕ)) (count : ℕ) → length needs ≤ count
    → ((object : ℕ) → object < count → list_any (nat_lt all) (get_or needs object []) ≡ false)
    → (object place : ℕ) → need_of needs object place ≤ all
all_light all needs count few light object place =
    ⊎_elim (λ (within : object < count). rw (need_at needs object place)
    (light_in all (get_or needs object []) (light object within) place))
    (λ (past : count ≤ object). let none : slice_get needs object ≡ None = slice_get_past needs object (omega arith) in
    rw none (omega arith))
    (cases_lt object count)

-- and the other way round
pub none_heavy : (all : ℕ) (needs : List (List ℕ)) → ((object place : ℕ) → need_of needs object place ≤ all)
    → (object : ℕ) → list_any (nat_lt all) (get_or needs object []) ≡ false
none_heavy all needs light object = none_above all (get_or needs object [])
    (λ place. subst (λ n. n ≤ all) (need_at needs object place) (light object place))
