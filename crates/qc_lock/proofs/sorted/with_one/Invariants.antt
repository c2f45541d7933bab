use Rattle.std.proofs.Common.{◌≡◌, ◌≤◌, ◌-◌, ◌++◌, length, drop}
use Rattle.qc_lock.specs.Vocabulary.{inserted}
use Rattle.qc_lock.proofs.sorted.with_one.Given as goal

abbrev pub invariant-items : goal.invariant-items
invariant-items g l = (l.i ≤ length l.items)
    × (l.all.items ++ inserted g.T.ByKey.key_cmp (drop l.i l.items) l.item
    ≡ inserted g.T.ByKey.key_cmp l.items l.item)

abbrev pub decreases-items : goal.decreases-items
decreases-items g l = length l.items - l.i
