-- Words for what records tell: the lives that they begin, their clocks, and what is in order in them.
use Rattle.std.specs.Prelude.{[], MatchOption, ℕ, Bool, true, false, List, ◌∷◌, map, ◌||◌, is_some}
use Rattle.std.specs.Option.{option_map_or}
use Rattle.qc_entry.specs.declared.line.Line.{Line}
use Rattle.qc_entry.specs.Vocabulary.{IsAscending}
use Rattle.qc_list.specs.Vocabulary.{Ascends}
use Rattle.qc_lock.specs.Vocabulary.{lock_cmp, own_cmp}
use Rattle.qc_msg.specs.declared.record.Record.{Record}
use Rattle.qc_msg.specs.declared.record.Record.TheVariants as records
use Rattle.qc_msg.specs.Vocabulary.{Finished, done_in, install_in, prepare_in, is_life, close_in}
use Rattle.qc_msg.specs.declared.payload.EpochStart.{EpochStart}
use Rattle.qc_entry.specs.declared.record.Prepared.{Prepared}
use Rattle.qc_entry.specs.declared.record.Commit.{Commit}
pub use Rattle.qc_entry.specs.Vocabulary.{clocks_of}

-- whether a life begins with the record: that of a rise, or of a closed epoch
abbrev pub begins_life : Record → Bool
begins_life written = is_life written || is_some (close_in written)

-- whether it is that of a rise
abbrev pub is_rise : Record → Bool
is_rise written = is_life written

-- the clocks in a site's record
abbrev pub clocks_in : Record → List ℕ
clocks_in written =
    option_map_or (λ (p : Prepared). clocks_of p.lines) (prepare_in written)
    (option_map_or (λ (f : Finished). f.clock ∷ []) (done_in written)
    (option_map_or (λ (i : EpochStart). i.clock ∷ clocks_of i.lines) (install_in written) []))

-- the locks, own lines and lines of a site's record
abbrev pub IsRecordSorted : Record → Type 0
IsRecordSorted written =
    MatchOption (prepare_in written)
    (MatchOption (install_in written) (Unit {0}) (λ (i : EpochStart). IsAscending i.lines))
    (λ (p : Prepared). Ascends lock_cmp p.locks × Ascends own_cmp p.own × IsAscending p.lines)
