-- The merged log, by the stamps that clients told: `with_shut` and `with_promised` of `qc_epoch`, where the stamps are
-- looked up in a map.
use Rattle.std.specs.Prelude.{List, fold, Option, Some, None}
use Rattle.std.specs.BTreeMap.{get}
use Rattle.qc_stamp.specs.declared.stamp.Stamp.{Stamp}
use Rattle.qc_stamp.specs.declared.stamp.TxId.{TxId}
use Rattle.qc_stamp.specs.Vocabulary.{tx_cmp}
use Rattle.qc_entry.specs.declared.line.Line.{Line}
use Rattle.qc_entry.specs.declared.record.Prepared.{Prepared}
use Rattle.qc_entry.specs.Vocabulary.{union}
use Rattle.qc_epoch.specs.Vocabulary.{ShutSite, promised_lines}
use Rattle.qc_admin.specs.declared.stamps.Stamps.{Stamps}

-- the stamp that is kept for a transaction

abbrev pub stamp_by : Option (Option Stamp) → Option Stamp
stamp_by None = None
stamp_by (Some stamp) = stamp

abbrev pub stamp_at : Stamps → TxId → Option Stamp
stamp_at s tx = stamp_by (get tx_cmp s.stamps tx)

-- lines with those of a promise; with those of a site

abbrev pub with_promised_by : (TxId → Option Stamp) → List Line → Prepared → List Line
with_promised_by stamps lines p = union lines (promised_lines p (stamps p.tx))

abbrev pub with_shut_by : (TxId → Option Stamp) → List Line → ShutSite → List Line
with_shut_by stamps lines s = fold (with_promised_by stamps) (union lines s.log) s.prepared
