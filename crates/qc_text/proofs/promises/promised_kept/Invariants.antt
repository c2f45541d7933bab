use Rattle.std.proofs.Common.{◌≡◌, List, [], drop}
use Rattle.std.specs.Prelude.{fold}
use Rattle.qc_stamp.specs.declared.stamp.TxId.{TxId}
use Rattle.qc_text.specs.Vocabulary.{IsSetOf, holders_with}
use Rattle.qc_text.proofs.promises.promised_kept.Given as goal

abbrev pub invariant-records : goal.invariant-records
invariant-records l =
    (txs : List TxId) × IsSetOf txs l.holders
    × (fold holders_with txs (drop l.written-index l.kept) ≡ fold holders_with [] l.kept)
