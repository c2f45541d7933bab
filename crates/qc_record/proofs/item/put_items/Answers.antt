use Rattle.std.proofs.Common.{◌++◌, ap, ◌∙◌, None}
use Rattle.qc_record.specs.Vocabulary.{items_spelled}
use Rattle.qc_record.proofs.Loop.{put_more, take_whole}
use Rattle.qc_record.proofs.item.put_items.Goals as goal

pub loop-item-preserved : goal.loop-item-preserved
loop-item-preserved g c = put_more g.T.Item.form None c.args.items.now c.loop-item.item-index c.item-item.result
    c.args.out.now.items c.loop-item.out.items c.put.new.out.items c.loop-item-test.true c.item-item.is
    c.loop-item.invariant c.in_ok-put.ensures

pub returns : goal.returns
returns g c = c.loop-item.invariant ∙ ap (λ t. c.args.out.now.items ++ items_spelled g.T.Item.form None t)
    (take_whole c.args.items.now c.loop-item.item-index c.loop-item-test.false)
