use Rattle.std.proofs.Common.{◌≡◌, List, [], drop, map}
use Rattle.std.specs.Prelude.{fold}
use Rattle.qc_stamp.specs.declared.stamp.TxId.{TxId}
use Rattle.qc_text.specs.Vocabulary.{IsSetOf, deed_of, holders_with, promised_at}
use Rattle.qc_text.proofs.promises.promised_after.Given as goal

abbrev pub invariant-deeds : goal.invariant-deeds
invariant-deeds l =
    (txs : List TxId) × IsSetOf txs l.holders
    × (fold promised_at txs (map deed_of (drop l.deed-index l.deeds)) ≡ fold promised_at (fold holders_with [] l.kept)
    (map deed_of l.deeds))
