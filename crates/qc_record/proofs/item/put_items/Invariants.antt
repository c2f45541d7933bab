use Rattle.std.proofs.Common.{◌≡◌, ◌++◌, take, None}
use Rattle.qc_record.specs.Vocabulary.{items_spelled}
use Rattle.qc_record.proofs.item.put_items.Given as goal

abbrev pub invariant-loop-item : goal.invariant-loop-item
invariant-loop-item g l = l.out.items ≡ l.initial.out.items ++ items_spelled g.T.Item.form None
    (take l.item-index l.items)
