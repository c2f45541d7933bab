-- What a site's records say, those that it rose with among them: its life, its epoch, the epoch that it has closed its
-- own for, and what it promised last of a transaction.
use Rattle.std.specs.Prelude.{ℕ, ◌+◌, ◌||◌, cond, List, fold, is_some, Option, None, option_and_then, Some}
use Rattle.std.specs.Option.{option_map_or, option_or}
use Rattle.qc_stamp.specs.declared.stamp.TxId.{TxId}
use Rattle.qc_stamp.specs.Vocabulary.{first_life, same_tx}
use Rattle.qc_entry.specs.declared.record.Prepared.{Prepared}
use Rattle.qc_msg.specs.declared.record.Record.{Record}
use Rattle.qc_msg.specs.Vocabulary.{Deed, close_in, first_epoch, install_in, is_life, prepare_in}
use Rattle.qc_msg.specs.declared.payload.EpochStart.{EpochStart}
use Rattle.qc_promise.specs.Lifetimes.{records_in}

-- Life: 1, and 1 more for each record of a rise and of a closed epoch.

abbrev pub life_by : ℕ → Record → ℕ
life_by before r = cond (is_life r || is_some (close_in r)) (before + 1) before

abbrev pub life_shown : List Deed → ℕ
life_shown ds = fold life_by first_life (records_in ds)

-- Epoch: that of the last Install.

abbrev pub epoch_by : ℕ → Record → ℕ
epoch_by before r = option_map_or (λ (i : EpochStart). i.epoch) (install_in r) before

abbrev pub epoch_shown : List Deed → ℕ
epoch_shown ds = fold epoch_by first_epoch (records_in ds)

-- The epoch that the site has closed its own for: that of the last Close since the last Install, if there is one.

abbrev pub closed_by : Option ℕ → Record → Option ℕ
closed_by before r = cond (is_some (install_in r)) None (option_or (close_in r) before)

abbrev pub closed_shown : List Deed → Option ℕ
closed_shown ds = fold closed_by None (records_in ds)

-- The last Prepare of a transaction among records, since the last Install.

abbrev pub prepare_of : TxId → Record → Option Prepared
prepare_of tx r = option_and_then (λ (p : Prepared). cond (same_tx p.tx tx) (Some p) None) (prepare_in r)

abbrev pub prepare_by : TxId → Option Prepared → Record → Option Prepared
prepare_by tx before r = cond (is_some (install_in r)) None (option_or (prepare_of tx r) before)

abbrev pub last_prepare : TxId → List Record → Option Prepared
last_prepare tx rs = fold (prepare_by tx) None rs
