-- Where a transaction ends at a site: as a Decision on it is taken. And where a promise of it is over.
use Rattle.std.specs.Prelude.{◌&&◌, Bool, true, false, is_some, List}
use Rattle.std.specs.List.{list_any}
use Rattle.std.specs.Option.{option_map_or}
use Rattle.qc_stamp.specs.declared.stamp.TxId.{TxId}
use Rattle.qc_stamp.specs.Vocabulary.{same_tx}
use Rattle.qc_entry.specs.declared.record.Prepared.{Prepared}
use Rattle.qc_msg.specs.declared.message.Outcome.{Outcome}
use Rattle.qc_msg.specs.declared.message.Outcome.TheVariants.{Committed, Aborted, Active}
use Rattle.qc_msg.specs.declared.record.Record.{Record}
use Rattle.qc_msg.specs.Vocabulary.{Decided, Deed, Finished, decided_in, done_in, install_in, prepare_in, written_in}
pub use Rattle.qc_msg.specs.Vocabulary.{is_final}

-- a Decision on the transaction of which the test holds
abbrev pub is_decision : (Outcome → Bool) → TxId → Deed → Bool
is_decision test tx d = option_map_or (λ (x : Decided). same_tx x.tx tx && test x.verdict) (decided_in d) false

-- a transaction ends as a Decision on it is taken, other than Active

abbrev pub is_ended : TxId → List Deed → Bool
is_ended tx ds = list_any (is_decision is_final tx) ds

-- a promise of a transaction is over as a Decision Aborted on it is taken, as its Done is written, as another promise
-- of it takes its place, and as an epoch is installed

abbrev pub is_aborted : Outcome → Bool
is_aborted (Committed stamp) = false
is_aborted Aborted = true
is_aborted Active = false

abbrev pub redeems : TxId → Record → Bool
redeems tx r =
    option_map_or (λ (p : Prepared). same_tx p.tx tx) (prepare_in r)
    (option_map_or (λ (f : Finished). same_tx f.tx tx) (done_in r) (is_some (install_in r)))

abbrev pub frees : TxId → Deed → Bool
frees tx d = option_map_or (redeems tx) (written_in d) (is_decision is_aborted tx d)

abbrev pub is_over : TxId → List Deed → Bool
is_over tx ds = list_any (frees tx) ds
