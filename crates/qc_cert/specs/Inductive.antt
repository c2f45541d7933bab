-- Certificates: lists of triples that show by four rules, checked state by state, that a relation is exact.
use Rattle.std.specs.Prelude.{◌≡◌, ℕ, Bool, false, IsTrue, List, slice_get, Some, is_some}
use Rattle.qc_cert.specs.Views.{inv_of}
use Rattle.qc_cert.specs.declared.triple.Triple.{Triple}
use Rattle.qc_table.specs.Vocabulary.{IsWithin, depends, event, has, next_in, step_of, with_member}
use Rattle.qc_table.specs.declared.kind.Kind.{Kind}

-- A triple says: where the log's events lead to the state `log`, and those that the view has lead to `view`, the events
-- left out are among `out`.
abbrev pub triple : ℕ → ℕ → ℕ → Triple
triple view log out = record { view = view; log = log; out = out }

-- the first covers the second: the same states, and nothing left out that the second doesn't leave out
pub record Covers (a b : Triple) : Type 0 where
  pub view : a.view ≡ b.view
  pub log : a.log ≡ b.log
  pub out : IsWithin a.out b.out

-- some triple of the list covers this one
pub record IsCovered (list : List Triple) (t : Triple) : Type 0 where
  pub place : ℕ
  pub by : Triple
  pub listed : slice_get list place ≡ Some by
  pub covers : Covers by t

-- the invocation depends on nothing that is left out
abbrev pub IsFree : Kind → ℕ → ℕ → Type 0
IsFree kind inv out = (e : ℕ) → IsTrue (has out e) → depends kind.relation inv e ≡ false

-- whether the response is legal for the invocation in this state
abbrev pub is_allowed : Kind → ℕ → ℕ → ℕ → Bool
is_allowed kind state inv resp = is_some (next_in kind.table.rows state (event inv resp))

-- A list is inductive where the start is covered, and what each of its triples may become by one event more is covered
-- too: an event that the view leaves out, and one that both take. An invocation that depends on nothing left out has to
-- have the same legal responses in both states.
pub record IsInductive (kind : Kind) (list : List Triple) : Type 0 where
  pub begun : IsCovered list (triple kind.table.start kind.table.start 0)
  pub left_out : (place : ℕ) (t : Triple) (e h : ℕ) → slice_get list place ≡ Some t
      → step_of kind.table.rows t.log e ≡ Some h
      → IsCovered list (triple t.view h (with_member t.out e))
  pub equal : (place : ℕ) (t : Triple) (inv resp : ℕ) → slice_get list place ≡ Some t → IsFree kind inv t.out
      → is_allowed kind t.view inv resp ≡ is_allowed kind t.log inv resp
  pub taken : (place : ℕ) (t : Triple) (e g h : ℕ) → slice_get list place ≡ Some t → IsFree kind (inv_of kind e) t.out
      → step_of kind.table.rows t.view e ≡ Some g → step_of kind.table.rows t.log e ≡ Some h
      → IsCovered list (triple g h t.out)
