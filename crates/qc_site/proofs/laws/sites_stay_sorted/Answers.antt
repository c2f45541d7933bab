use Rattle.qc_site.proofs.Sorted.{after_sorted, stays_sorted}
use Rattle.qc_site.proofs.laws.sites_stay_sorted.Goals as goal

pub returns : goal.returns
returns c = record { message = stays_sorted; deeds = after_sorted }
