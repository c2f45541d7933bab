-- Dependency relations: on which events an invocation depends (Herlihy 1986).
use Rattle.std.specs.Prelude.{ℕ, Bool, ◌==◌, ◌&&◌, List, fold, replicate, set, get_or}
use Rattle.std.specs.List.{list_any}
use Rattle.qc_table.specs.Limits.{most_invocations}
use Rattle.qc_table.specs.Sets.{has, with_member}
use Rattle.qc_table.specs.declared.relation.Pair.{Pair}

-- a relation is the list of the sets of events on which each invocation depends; this is the set of one of them
abbrev pub depended : List ℕ → ℕ → ℕ
depended relation inv = get_or relation inv 0

-- whether the invocation depends on the event
abbrev pub depends : List ℕ → ℕ → ℕ → Bool
depends relation inv event = has (depended relation inv) event

-- the relation with one pair more
abbrev pub with_pair : List ℕ → Pair → List ℕ
with_pair relation pair = set relation pair.inv (with_member (depended relation pair.inv) pair.event)

-- the relation of these pairs
abbrev pub relation_of : List Pair → List ℕ
relation_of pairs = fold with_pair (replicate most_invocations 0) pairs

-- whether the pair is among these
abbrev pub is_given : List Pair → ℕ → ℕ → Bool
is_given pairs inv event = list_any (λ (p : Pair). (p.inv == inv) && (p.event == event)) pairs
