-- The parts of a record: what it has of each, kind by kind.
use Rattle.std.specs.Prelude.{[], ℕ, List, ◌∷◌}
use Rattle.std.specs.Option.{option_map_or}
use Rattle.qc_entry.specs.declared.line.Line.{Line}
use Rattle.qc_entry.specs.declared.line.Op.{Op}
use Rattle.qc_entry.specs.declared.line.OwnLine.{OwnLine}
use Rattle.qc_entry.specs.declared.line.ReadLock.{ReadLock}
use Rattle.qc_msg.specs.declared.record.Record.{Record}
use Rattle.qc_msg.specs.declared.record.Record.TheVariants as records
use Rattle.qc_msg.specs.Vocabulary.{Finished, commit_of, decide_in, done_in, install_in, prepare_in}
use Rattle.qc_msg.specs.declared.payload.EpochStart.{EpochStart}
use Rattle.qc_entry.specs.declared.record.Prepared.{Prepared}
use Rattle.qc_entry.specs.declared.record.Commit.{Commit}

-- the clients of its transaction, beside those of its lines
abbrev pub clients_of : Record → List ℕ
clients_of written =
    option_map_or (λ (p : Prepared). p.tx.client ∷ []) (prepare_in written)
    (option_map_or (λ (f : Finished). f.tx.client ∷ []) (done_in written)
    (option_map_or (λ (c : Commit). c.tx.client ∷ []) (commit_of written) []))

abbrev pub epochs_of : Record → List ℕ
epochs_of records.Life = []
epochs_of (records.Prepare p) = p.epoch ∷ []
epochs_of (records.Done tx clock) = []
epochs_of (records.Close epoch) = epoch ∷ []
epochs_of (records.Install start) = start.epoch ∷ []
epochs_of (records.Commit c) = []
epochs_of (records.Decide start) = start.epoch ∷ []

-- its own clocks, beside those of its lines
abbrev pub clocks_of : Record → List ℕ
clocks_of records.Life = []
clocks_of (records.Prepare p) = []
clocks_of (records.Done tx clock) = clock ∷ []
clocks_of (records.Close epoch) = []
clocks_of (records.Install start) = start.clock ∷ []
clocks_of (records.Commit c) = c.stamp.clock ∷ []
clocks_of (records.Decide start) = start.clock ∷ []

abbrev pub locks_of : Record → List ReadLock
locks_of written = option_map_or (λ (p : Prepared). p.locks) (prepare_in written) []

abbrev pub owns_of : Record → List OwnLine
owns_of written = option_map_or (λ (p : Prepared). p.own) (prepare_in written) []

abbrev pub lines_of : Record → List Line
lines_of written =
    option_map_or (λ (p : Prepared). p.lines) (prepare_in written)
    (option_map_or (λ (i : EpochStart). i.lines) (install_in written)
    (option_map_or (λ (i : EpochStart). i.lines) (decide_in written) []))

abbrev pub ops_of : Record → List Op
ops_of written = option_map_or (λ (c : Commit). c.ops) (commit_of written) []
