use Rattle.std.proofs.lemmas.Result.{on_ok_weaker, err_from_is_err_and}
use Rattle.std.proofs.Common.{arith}
use Rattle.qc_outside.specs.Vocabulary.{HasPassed}
use Rattle.qc_outside.proofs.Fuses.{burns_more, burns_wider, one_burns, one_refused, refused_wider}
use Rattle.qc_journal.proofs.Append.{written_through, lasts_through}
use Rattle.qc_journal.proofs.writing.write_through.Goals as goal

pub returns-clause-moments : goal.returns-clause-moments
returns-clause-moments g c =
    written_through c.args.at c.args.bytes.now _ _ _ c.write_at.ensures.moments c.in_ok-write_at.ensures.written
    c.sync.ensures.moments

pub returns-clause-lasting : goal.returns-clause-lasting
returns-clause-lasting g c =
    on_ok_weaker c.sync.result
    (λ synced. lasts_through c.args.at c.args.bytes.now _ _ _ c.in_ok-write_at.ensures.written synced)
    c.sync.ensures.lasting

pub returns-in_err-write_at-clause-fuse : goal.returns-in_err-write_at-clause-fuse
returns-in_err-write_at-clause-fuse g c =
    let p = err_from_is_err_and c.from_residual.result c.from_residual.ensures.1 in
    rw (p.1, p.2)
    (refused_wider _ 1 1 1 2 _ _ (omega arith) (omega arith) (one_refused _ _ _ c.in_err-write_at.ensures.fuse))

pub returns-clause-fuse : goal.returns-clause-fuse
returns-clause-fuse g c =
    let first : HasPassed 1 1 (g.D.Disk.fuse c.args.disk.now) (g.D.Disk.fuse c.write_at.new.self) =
    one_burns _ _ _ c.in_ok-write_at.ensures.fuse in
    burns_wider c.sync.result 2 2 2 1 2 2 _ _ (omega arith) (omega arith) (omega arith)
    (burns_more c.sync.result 1 1 1 1 1 _ _ _ first (one_burns c.sync.result _ _ c.sync.ensures.fuse))
