use Rattle.qc_recover.specs.Clients as by_client
use Rattle.qc_recover.specs.Sites as by_site
use Rattle.qc_recover.proofs.ClientLaws as clients
use Rattle.qc_recover.proofs.SiteLaws as sites
use Rattle.qc_recover.proofs.laws.lives_are_counted.Goals as goal

pub returns-clause-site : goal.returns-clause-site
returns-clause-site c = λ number rs. sites.lives_from by_site.nothing_kept rs

pub returns-clause-client : goal.returns-clause-client
returns-clause-client c = λ client rs. clients.lives_from by_client.nothing_kept rs
