use Rattle.std.proofs.Common.{subst, sym}
use Rattle.qc_site.specs.Vocabulary.{AreOfClients}
use Rattle.qc_site.proofs.Holders.{clients-promised}
use Rattle.qc_site.proofs.site.Site.close_for.Goals as goal

pub invariant_of-self : goal.invariant_of-self
invariant_of-self c = (
  subst AreOfClients (sym c.in_ok-held.ensures) (clients-promised c.self.inside.prepared c.self.invariant.1),
  c.self.invariant.1,
)
