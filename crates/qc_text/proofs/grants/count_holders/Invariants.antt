use Rattle.std.proofs.Common.{◌≡◌, List, [], drop, map}
use Rattle.std.specs.Prelude.{fold}
use Rattle.qc_stamp.specs.declared.stamp.TxId.{TxId}
use Rattle.qc_text.specs.Vocabulary.{IsSetOf, deed_of, holders_from, holders_with, promised_at}
use Rattle.qc_text.proofs.grants.count_holders.Given as goal

abbrev pub invariant-deeds : goal.invariant-deeds
invariant-deeds l =
    (txs : List TxId) × IsSetOf txs l.holders
    × (holders_from txs (map deed_of (drop l.place l.holding.since.now))
    ≡ holders_from (fold promised_at (fold holders_with [] l.current.kept.now) (map deed_of l.holding.before.now))
    (map deed_of l.holding.since.now))
