-- A type with what each triple asks of it.
use Rattle.std.specs.Prelude.{◌≡◌, ℕ, ◌+◌, ◌*◌, ◌<◌, ◌↔◌, List, length, true, IsBitSet, IsSome, slice_index_or}
use Rattle.qc_cert.specs.Views.{inv_of}
use Rattle.qc_table.specs.Vocabulary.{event, events_of, has, most_invocations, next_in}
use Rattle.qc_table.specs.declared.kind.Kind.{Kind}

-- a set has the events of an invocation, and none that the type hasn't
pub record AreEvents (kind : Kind) (inv set : ℕ) : Type 0 where
  pub all : (e : ℕ) → e < length (events_of kind.table.rows) → inv_of kind e ≡ inv → has set e ≡ true
  pub within : (e : ℕ) → has set e ≡ true → e < length (events_of kind.table.rows)

-- the sets of each invocation's events, as far as there are some
abbrev pub AreOwn : Kind → List ℕ → Type 0
AreOwn kind sets = (inv : ℕ) → inv < length sets → AreEvents kind inv (slice_index_or sets inv 0)

-- the responses of a state, as a set of bits
abbrev pub AreAllowed : Kind → ℕ → ℕ → ℕ → Type 0
AreAllowed kind state inv set = (k : ℕ) → IsBitSet set k ↔ IsSome (next_in kind.table.rows state (event inv k))

-- those of each state and each invocation, as far as there are some
abbrev pub AreLegal : Kind → List ℕ → Type 0
AreLegal kind sets =
    (state inv : ℕ) → inv < most_invocations → state * most_invocations + inv < length sets
    → AreAllowed kind state inv (slice_index_or sets (state * most_invocations + inv) 0)

-- what is told of a type once
pub record IsIndexedKind (kind : Kind) (own legal : List ℕ) : Type 0 where
  pub events : AreOwn kind own
  pub responses : AreLegal kind legal
