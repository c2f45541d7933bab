use Rattle.std.proofs.Common.{◌≡◌, drop, fold}
use Rattle.qc_lock.specs.Vocabulary.{inserted}
use Rattle.qc_lock.proofs.sorted.with_all.Given as goal

abbrev pub invariant-others : goal.invariant-others
invariant-others g l =
    fold (inserted g.T.ByKey.key_cmp) l.all.items (drop l.item-index l.others)
    ≡ fold (inserted g.T.ByKey.key_cmp) l.items l.others
