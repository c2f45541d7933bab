use Rattle.std.proofs.Common.{◌≡◌, ◌++◌, length, reverse}
use Rattle.std.specs.BTreeSet.{contains}
use Rattle.qc_stamp.specs.Vocabulary.{tx_cmp}
use Rattle.qc_stamp.specs.declared.stamp.TxId.{TxId}
use Rattle.qc_recover.specs.Vocabulary.{last_of}
use Rattle.qc_recover.proofs.Last.{unseen}
use Rattle.qc_recover.proofs.commits.LastCommits.into_list.Given as goal

abbrev pub invariant-commits : goal.invariant-commits
invariant-commits l =
    unseen (λ (tx : TxId). contains tx_cmp l.seen tx) (last_of l.commits.items) ++ reverse l.last.items ≡ l.fn.self

abbrev pub decreases-commits : goal.decreases-commits
decreases-commits l = length l.commits.items
