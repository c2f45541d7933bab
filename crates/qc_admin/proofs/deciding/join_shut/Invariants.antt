use Rattle.std.proofs.Common.{◌≡◌, drop, fold}
use Rattle.qc_admin.specs.Vocabulary.{stamp_at, with_promised_by, with_shut_by}
use Rattle.qc_admin.proofs.deciding.join_shut.Given as goal

abbrev pub invariant-loop-promise : goal.invariant-loop-promise
invariant-loop-promise l =
    fold (with_promised_by (stamp_at l.stamps)) l.lines (drop l.promise-index l.promise-items)
    ≡ with_shut_by (stamp_at l.stamps) l.fn.lines l.shut
