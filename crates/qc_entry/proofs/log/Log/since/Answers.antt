use Rattle.qc_list.proofs.Order.{ascends-filter}
use Rattle.qc_entry.specs.Vocabulary.{line_cmp}
use Rattle.qc_entry.proofs.log.Log.since.Goals as goal

pub invariant_of-result : goal.invariant_of-result
invariant_of-result c = rw (c.in_ok-later.ensures, c.as_slice.ensures.value)
    (ascends-filter line_cmp _ _ c.self.invariant)
