use Rattle.std.proofs.lemmas.Result.{on_ok_weaker}
use Rattle.std.proofs.Common.{arith}
use Rattle.qc_outside.proofs.Fuses.{burns_more, burns_wider}
use Rattle.qc_journal.specs.Vocabulary.{HoldsWithOrWithout}
use Rattle.qc_journal.proofs.Append.{without, both}
use Rattle.qc_journal.proofs.writing.lay.Goals as goal

pub returns-in_err-write_behind-clause-moments : goal.returns-in_err-write_behind-clause-moments
returns-in_err-write_behind-clause-moments g c bodies rests =
    without bodies c.args.body.now _ _ (c.write_behind.ensures.moments bodies rests)

pub returns-clause-moments : goal.returns-clause-moments
returns-clause-moments g c bodies rests =
    let body = c.args.body.now in
    let behind = c.in_ok-write_behind.ensures.behind bodies body c.requires.frame rests in
    both (HoldsWithOrWithout bodies body) _ _ _ (without bodies body _ _ (c.write_behind.ensures.moments bodies rests))
    (c.open_gate.ensures.moments bodies body c.requires.body behind)

pub returns-clause-added : goal.returns-clause-added
returns-clause-added g c =
    on_ok_weaker c.open_gate.result
    (λ added bodies rests. added bodies c.args.body.now c.requires.body
    (c.in_ok-write_behind.ensures.behind bodies c.args.body.now c.requires.frame rests))
    c.open_gate.ensures.added

pub returns-clause-fuse : goal.returns-clause-fuse
returns-clause-fuse g c =
    burns_wider c.open_gate.result 3 4 4 1 4 4 _ _ (omega arith) (omega arith) (omega arith)
    (burns_more c.open_gate.result 2 2 1 2 2 _ _ _ c.in_ok-write_behind.ensures.fuse c.open_gate.ensures.fuse)
