-- The triples of a list by their two states.
use Rattle.std.specs.Prelude.{◌≡◌, ℕ, Bool, ◌+◌, ◌*◌, ◌^◌, ◌<◌, ◌≤◌, ◌==◌, ◌||◌, All, List, [], ◌∷◌, ◌++◌, length, true}
use Rattle.std.specs.Prelude.{slice_index_or, if◌then◌else◌}
use Rattle.std.specs.List.{list_any}
use Rattle.qc_cert.specs.Firsts.{firsts, distinct}
use Rattle.qc_cert.specs.declared.triple.Triple.{Triple}
use Rattle.qc_table.specs.Vocabulary.{has, is_within, most_states}
use Rattle.qc_cert.specs.Tables.{most_sets}

-- both states are below the most states
abbrev pub AreStates : Triple → Type 0
AreStates t = (t.view < most_states) × (t.log < most_states)

-- the number of the group of two states
abbrev pub place_of : ℕ → ℕ → ℕ
place_of view log = view * most_states + log

-- what the triples of a group leave out, in the list's order
abbrev pub outs_at : List Triple → ℕ → List ℕ
outs_at [] place = []
outs_at (t ∷ ts) place = if place_of t.view t.log == place then t.out ∷ outs_at ts place else outs_at ts place

-- whether one of these sets is within a set
abbrev pub any_within : List ℕ → ℕ → Bool
any_within sets out = list_any (λ s. is_within s out) sets

-- whether one of the sets of some parts is
abbrev pub parts_within : List (List ℕ) → ℕ → Bool
parts_within parts out = list_any (λ sets. any_within sets out) parts

-- each set of a part, of which there is one for each event, has that event
abbrev pub AreParted : List (List ℕ) → Type 0
AreParted parts = (event : ℕ) → All (λ s. has s event ≡ true) (slice_index_or parts event [])

-- the sets of a group: blocks, and the rest
abbrev pub sets_of : List (List ℕ) → List ℕ → List (List ℕ)
sets_of blocks rest = blocks ++ rest ∷ []

-- The sets of a group stand once more in parts, but the empty one, if nothing went wrong.
pub record IsGroup (has_empty is_whole : Bool) (parts blocks : List (List ℕ)) (rest : List ℕ) : Type 0 where
  pub parted : AreParted parts
  pub few : length rest ≤ most_sets
  pub small : All (λ s. s < 2 ^ 64) rest
  pub empty : has_empty ≡ true → (out : ℕ) → parts_within (sets_of blocks rest) out ≡ true
  pub same : is_whole ≡ true
      → (out : ℕ) → parts_within (sets_of blocks rest) out ≡ (has_empty || parts_within parts out)

-- groups of a list's triples, each once, and marks of those that stand nowhere before
pub record IsGrouped (list : List Triple) (marks : List Bool) (groups : List (List (List ℕ))) : Type 0 where
  pub all : length groups ≡ most_states * most_states
  pub states : All AreStates list
  pub first : marks ≡ firsts list
  pub outs : (place out : ℕ)
      → parts_within (slice_index_or groups place []) out ≡ any_within (outs_at (distinct list) place) out
