-- Closed sets of positions of a history, views, and exact relations: what a relation is to give, for every legal
-- history. The idea is Herlihy's (1986). Sets of positions, and exactness in both directions, are this project's own
-- words for it.
use Rattle.std.specs.Prelude.{◌≡◌, ℕ, suc, ◌<◌, Bool, IsTrue, List, [], ◌∷◌, Option, Some, is_some, if◌then◌else◌}
use Rattle.std.specs.Prelude.{slice_get, option_and_then}
use Rattle.std.specs.Option.{option_map_or}
use Rattle.qc_table.specs.Vocabulary.{IsLegal, after, depends, event, events_of, next_in, step_of}
use Rattle.qc_table.specs.declared.kind.Kind.{Kind}
use Rattle.qc_table.specs.declared.row.Event.{Event}

-- A history is a list of events of the type, by their numbers. The invocation of one:
abbrev pub inv_of : Kind → ℕ → ℕ
inv_of kind number = option_map_or (λ (e : Event). e.inv) (slice_get (events_of kind.table.rows) number) 0

-- the state that a history leads to from the start, or none
abbrev pub state_after : Kind → List ℕ → Option ℕ
state_after kind history = after (step_of kind.table.rows) kind.table.start history

abbrev pub IsLegalFor : Kind → List ℕ → Type 0
IsLegalFor kind history = IsLegal (step_of kind.table.rows) kind.table.start history

-- whether the history may go on with this response to the invocation
abbrev pub allows : Kind → List ℕ → ℕ → ℕ → Bool
allows kind history inv resp =
    is_some (option_and_then (λ state. next_in kind.table.rows state (event inv resp)) (state_after kind history))

-- A set of positions is closed where it has, with each position, each earlier one on whose event the invocation there
-- depends.
abbrev pub IsClosed : Kind → List ℕ → (ℕ → Bool) → Type 0
IsClosed kind history set =
    (p q e f : ℕ) → slice_get history p ≡ Some e → slice_get history q ≡ Some f → q < p
    → IsTrue (set p) → IsTrue (depends kind.relation (inv_of kind e) f) → IsTrue (set q)

-- It is a view for an invocation where it also has each position on whose event that invocation depends.
pub record IsView (kind : Kind) (history : List ℕ) (inv : ℕ) (set : ℕ → Bool) : Type 0 where
  pub closed : IsClosed kind history set
  pub complete : (q f : ℕ) → slice_get history q ≡ Some f → IsTrue (depends kind.relation inv f) → IsTrue (set q)

-- the items at the positions of the set, in their order
abbrev pub picked : {A : Type 0} → (ℕ → Bool) → List A → List A
picked set [] = []
picked set (e ∷ es) = if set 0 then e ∷ picked (λ p. set (suc p)) es else picked (λ p. set (suc p)) es

-- what was read is legal, and allows an invocation just the responses that the whole history allows
pub record IsFaithful (kind : Kind) (history : List ℕ) (inv : ℕ) (read : List ℕ) : Type 0 where
  pub legal : IsLegalFor kind read
  pub same : (resp : ℕ) → allows kind read inv resp ≡ allows kind history inv resp

-- A relation is exact where each view of each legal history is faithful for its invocation.
abbrev pub IsExact : Kind → Type 0
IsExact kind =
    (history : List ℕ) (inv : ℕ) (set : ℕ → Bool) → IsLegalFor kind history → IsView kind history inv set
    → IsFaithful kind history inv (picked set history)
