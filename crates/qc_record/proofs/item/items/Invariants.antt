use Rattle.std.proofs.Common.{◌≡◌, ◌-◌, None}
use Rattle.qc_record.specs.Vocabulary.{items_at}
use Rattle.qc_record.proofs.Loop.{with_front}
use Rattle.qc_record.proofs.item.items.Given as goal

abbrev pub invariant-loop : goal.invariant-loop
invariant-loop g l = with_front l.items.items (items_at g.T.Item.form l.before (l.count - l.counter) l.rest)
    ≡ items_at g.T.Item.form None l.count l.bytes
