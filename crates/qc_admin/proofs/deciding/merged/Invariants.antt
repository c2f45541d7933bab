use Rattle.std.proofs.Common.{◌≡◌, [], drop, fold}
use Rattle.qc_admin.specs.Vocabulary.{stamp_at, with_shut_by}
use Rattle.qc_admin.proofs.deciding.merged.Given as goal

abbrev pub invariant-shuts : goal.invariant-shuts
invariant-shuts l =
    fold (with_shut_by (stamp_at l.stamps)) l.lines (drop l.shut-index l.shut-items) ≡ fold
    (with_shut_by (stamp_at l.stamps)) [] l.shuts
