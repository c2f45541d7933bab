-- What adding steps to the history asks, and what it gives.
use Rattle.std.specs.Prelude.{◌≡◌, ℕ, ◌+◌, ◌≤◌, List, [], ◌∷◌, ◌++◌, length}
use Rattle.qc_msg.specs.Vocabulary.{Entry, by, marked}
use Rattle.qc_msg.specs.declared.step.Step.{Step}
use Rattle.qc_pass.specs.declared.token.Pass.{Pass}
use Rattle.qc_pass.specs.declared.token.Passes.{Passes}
use Rattle.qc_pass.specs.declared.token.Right.{Right}
use Rattle.qc_pass.specs.Vocabulary.{Met, all, number, pass_table, right_table, room, table_of}
use Rattle.qc_fabric.specs.Logs.{Logged}
use Rattle.qc_fabric.specs.FabricStates.{most_history}
use Rattle.qc_fabric.specs.Tells.{Fed}
use Rattle.qc_fabric.specs.declared.feed.HistoryWriter.{HistoryWriter}

-- these entries were added to the log
pub record HasGrown (old new : Logged) (entries : List Entry) : Type 0 where
  pub history : new.history ≡ old.history ++ entries
  pub room : new.room + length entries ≡ old.room

-- so many steps may be added: the pass and the right are of these passes' table, and the log has room for the steps,
-- with which it has at most the most steps of a history
pub record CanAdd (passes : Passes Step) (right : Right Step) (log : Logged) (pass : Pass Step) (steps : ℕ)
    : Type 0 where
  pub pass_table_is : pass_table pass ≡ table_of passes
  pub right_table_is : right_table right ≡ table_of passes
  pub room : steps ≤ log.room
  pub bound : length log.history + steps ≤ most_history

-- the step of the pass p was added, as it met the right r: they are q and t now
pub record HasAdded (r : Right Step) (old : Logged) (p : Pass Step) (t : Right Step) (new : Logged) (q : Pass Step)
    (step : Step) : Type 0 where
  pub met : Met p r q t (step ∷ []) (room p)
  pub all : all t ≡ all r ++ marked (number p) step ∷ []
  pub log : HasGrown old new (marked (number p) step ∷ [])

-- a writer may add so many steps by this right
abbrev pub CanWrite : HistoryWriter → Right Step → ℕ → Type 0
CanWrite w right steps = CanAdd w.passes.now right w.log.now w.pass.now steps

-- the writer v has added these steps by the right r: they are w and t now, and the writer is of the same log and pass
pub record HasWritten (v : HistoryWriter) (r : Right Step) (w : HistoryWriter) (t : Right Step) (steps : List Step)
    : Type 0 where
  pub fed : Fed v.pass.now r w.pass.now t steps
  pub log : HasGrown v.log.now w.log.now (by (number v.pass.now) steps)
  pub same_passes : w.passes.now ≡ v.passes.now
  pub same_log : w.log.ghost_name ≡ v.log.ghost_name
  pub same_pass : w.pass.ghost_name ≡ v.pass.ghost_name

-- it has added some of the steps, and these are left
pub record HasWrittenPart (v : HistoryWriter) (r : Right Step) (w : HistoryWriter) (t : Right Step)
    (steps rest : List Step) : Type 0 where
  pub done : List Step
  pub written : HasWritten v r w t done
  pub split : done ++ rest ≡ steps
