-- What an inductive list says of each closed set of positions of each legal history.
use Rattle.std.specs.Prelude.{◌≡◌, ℕ, Bool, false, IsTrue, List, slice_get, Some}
use Rattle.qc_cert.specs.Views.{state_after, picked}
use Rattle.qc_cert.specs.declared.triple.Triple.{Triple}
use Rattle.qc_table.specs.Vocabulary.{has}
use Rattle.qc_table.specs.declared.kind.Kind.{Kind}

-- the event stands at some position outside the set
pub record StandsOutside (history : List ℕ) (set : ℕ → Bool) (e : ℕ) : Type 0 where
  pub position : ℕ
  pub stands : slice_get history position ≡ Some e
  pub outside : set position ≡ false

-- Some triple of the list has, as its view, the state that the picked events lead to, so they are a legal history; as
-- its log, the state that the whole history leads to; and it leaves out only events that stand at positions outside
-- the set.
pub record IsAccountedFor (kind : Kind) (list : List Triple) (history : List ℕ) (set : ℕ → Bool) : Type 0 where
  pub place : ℕ
  pub by : Triple
  pub listed : slice_get list place ≡ Some by
  pub view : state_after kind (picked set history) ≡ Some by.view
  pub log : state_after kind history ≡ Some by.log
  pub out : (e : ℕ) → IsTrue (has by.out e) → StandsOutside history set e
