-- Transactions of other clients that are open, and were so before this phase.
use Rattle.std.specs.Prelude.{◌≡◌, ◌≢◌, ℕ, List, [], ◌∷◌, ◌++◌, Option, Some, fold, option_map}
use Rattle.qc_decl.specs.Vocabulary.{client_actor}
use Rattle.qc_decl.specs.declared.declaration.Declaration.{Declaration}
use Rattle.qc_msg.specs.declared.step.Step.{Step}
use Rattle.qc_msg.specs.declared.step.Step.TheVariants as steps
use Rattle.qc_msg.specs.Vocabulary.{Entry}
use Rattle.qc_promise.specs.Vocabulary.{Account, Current, account}
use Rattle.qc_stamp.specs.declared.stamp.TxId.{TxId}

-- the transaction that a client has begun and that hasn't ended: it was told no Committed, Aborted or Dropped of it

abbrev pub name_of : Account → Option TxId
name_of d = option_map (λ (t : Current). t.tx) d.current

abbrev pub begun_by : Declaration → ℕ → List Entry → Option TxId
begun_by decl a h = name_of (account decl a h)

-- a history before its last phase, and all of it

pub record Parts : Type 0 where
  pub earlier : List Entry
  pub whole : List Entry

abbrev pub no_parts : Parts
no_parts = record { earlier = []; whole = [] }

abbrev pub goes_on : Parts → Entry → Parts
goes_on p e = record { earlier = p.earlier; whole = p.whole ++ e ∷ [] }

abbrev pub phase_begins : Parts → Entry → Parts
phase_begins p e = record { earlier = p.whole; whole = p.whole ++ e ∷ [] }

abbrev pub parts_by : Parts → Entry → Step → Parts
parts_by p e (steps.Phase k) = phase_begins p e
parts_by p e (steps.Cut a b) = goes_on p e
parts_by p e (steps.Heal a b) = goes_on p e
parts_by p e (steps.Armed actor kind at) = goes_on p e
parts_by p e (steps.Called command) = goes_on p e
parts_by p e (steps.Got n) = goes_on p e
parts_by p e (steps.Lost n) = goes_on p e
parts_by p e (steps.Wrote written) = goes_on p e
parts_by p e (steps.Sent n to message) = goes_on p e
parts_by p e (steps.Told reply) = goes_on p e
parts_by p e (steps.Fell cause pending) = goes_on p e
parts_by p e (steps.Rose records) = goes_on p e
parts_by p e (steps.Damaged offset) = goes_on p e

abbrev pub parts : List Entry → Parts
parts h = fold (λ (p : Parts) (e : Entry). parts_by p e e.step) no_parts h

-- the history before the last phase began
abbrev pub before_phase : List Entry → List Entry
before_phase h = (parts h).earlier

-- a transaction of another client than this actor, which that one began in an earlier phase, and which hasn't ended
pub record IsOpenElsewhere (decl : Declaration) (a : ℕ) (h : List Entry) (tx : TxId) : Type 0 where
  pub elsewhere : client_actor decl tx.client ≢ a
  pub still : begun_by decl (client_actor decl tx.client) h ≡ Some tx
  pub earlier : begun_by decl (client_actor decl tx.client) (before_phase h) ≡ Some tx
