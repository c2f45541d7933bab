use Rattle.qc_recover.proofs.SortedRecords.{risen_sorted}
use Rattle.qc_recover.proofs.laws.risen_sites_are_sorted.Goals as goal

pub returns : goal.returns
returns c = λ decl number rs each. risen_sorted number rs each
