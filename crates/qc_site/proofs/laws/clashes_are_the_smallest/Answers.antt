use Rattle.qc_site.proofs.Refusals.{append_clash_is_smallest, read_clash_is_smallest}
use Rattle.qc_site.proofs.laws.clashes_are_the_smallest.Goals as goal

pub returns : goal.returns
returns c = record { read = read_clash_is_smallest; append = append_clash_is_smallest }
