-- The last Prepare of each transaction, one record after another, kept in a map.
use Rattle.std.specs.Prelude.{◌≡◌, List, option_map}
use Rattle.std.specs.BTreeMap.{get}
use Rattle.qc_stamp.specs.Vocabulary.{tx_cmp}
use Rattle.qc_stamp.specs.declared.stamp.TxId.{TxId}
use Rattle.qc_msg.specs.declared.record.Record.{Record}
use Rattle.qc_promise.specs.Vocabulary.{last_prepare}
use Rattle.qc_text.specs.declared.prepares.Prepares.{Prepares}

-- what the map has of each transaction is its last Prepare among these records
abbrev pub AreLast : Prepares → List Record → Type 0
AreLast prepares before = (tx : TxId) → option_map (λ p. p.now) (get tx_cmp prepares.last tx) ≡ last_prepare tx before
