-- A site's clock: the greatest of the lines and Decisions that it took in its present life, whatever became of them,
-- of the clocks with which it installed epochs since, and of what stood in the records that it rose with (Lamport
-- 1978).
use Rattle.std.specs.Prelude.{ℕ, max, List, [], ◌∷◌, ◌++◌, fold}
use Rattle.std.specs.List.{flat_map}
use Rattle.std.specs.Option.{option_map_or}
use Rattle.qc_entry.specs.declared.record.Prepared.{Prepared}
use Rattle.qc_msg.specs.declared.message.Envelope.{Envelope}
use Rattle.qc_msg.specs.declared.message.Message.{Message}
use Rattle.qc_msg.specs.declared.message.Outcome.{Outcome}
use Rattle.qc_msg.specs.declared.message.Outcome.TheVariants.{Committed, Aborted, Active}
use Rattle.qc_msg.specs.declared.message.Want.{Want}
use Rattle.qc_msg.specs.declared.message.Want.TheVariants.{Read, Append, Prepare}
use Rattle.qc_msg.specs.declared.record.Record.{Record}
use Rattle.qc_msg.specs.Vocabulary.{Decided, Deed, Finished, Requested, decision_in, done_in, got_in}
use Rattle.qc_msg.specs.declared.payload.EpochStart.{EpochStart}
use Rattle.qc_msg.specs.Vocabulary.{install_in, installing_in, prepare_in, request_in, written_in}
use Rattle.qc_promise.specs.Lifetimes.{lifetime}
pub use Rattle.qc_entry.specs.Vocabulary.{clocks_of}

-- what was taken

abbrev pub clocks_in_want : Want → List ℕ
clocks_in_want (Read read) = []
clocks_in_want (Append object view own) = clocks_of view
clocks_in_want Prepare = []

abbrev pub clocks_in_outcome : Outcome → List ℕ
clocks_in_outcome (Committed stamp) = stamp.clock ∷ []
clocks_in_outcome Aborted = []
clocks_in_outcome Active = []

abbrev pub clocks_in : Message → List ℕ
clocks_in m =
    option_map_or (λ (q : Requested). clocks_in_want q.want) (request_in m)
    (option_map_or (λ (x : Decided). clocks_in_outcome x.verdict) (decision_in m)
    (option_map_or (λ (i : EpochStart). clocks_of i.lines) (installing_in m) []))

-- what was written: an Install's own clock

abbrev pub clocks_written : Record → List ℕ
clocks_written r = option_map_or (λ (i : EpochStart). i.clock ∷ []) (install_in r) []

abbrev pub clocks_at : Deed → List ℕ
clocks_at d =
    option_map_or (λ (e : Envelope). clocks_in e.message) (got_in d) (option_map_or clocks_written (written_in d) [])

-- what records name

abbrev pub clocks_in_record : Record → List ℕ
clocks_in_record r =
    option_map_or (λ (p : Prepared). clocks_of p.lines) (prepare_in r)
    (option_map_or (λ (f : Finished). f.clock ∷ []) (done_in r)
    (option_map_or (λ (i : EpochStart). clocks_of i.lines ++ i.clock ∷ []) (install_in r) []))

abbrev pub clock_shown : List Deed → ℕ
clock_shown ds =
    fold max 0 (flat_map clocks_in_record (lifetime ds).kept ++ flat_map clocks_at (lifetime ds).since)
