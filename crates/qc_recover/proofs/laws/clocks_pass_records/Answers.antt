use Rattle.qc_recover.specs.Vocabulary.{nothing_kept}
use Rattle.qc_recover.proofs.SiteLaws.{clocks_passed}
use Rattle.qc_recover.proofs.laws.clocks_pass_records.Goals as goal

pub returns : goal.returns
returns c = λ number rs r clock member within. clocks_passed nothing_kept rs r clock member within
