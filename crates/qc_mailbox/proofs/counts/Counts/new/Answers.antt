use Rattle.std.proofs.Common.{◌*◌, refl}
use Rattle.qc_mailbox.proofs.Counting.{few_none}
use Rattle.qc_mailbox.proofs.counts.Counts.new.Goals as goal
use Rattle.qc_link.specs.Vocabulary.{most_actors}

pub invariant_of-result : goal.invariant_of-result
invariant_of-result c = (refl, few_none (most_actors * most_actors))
