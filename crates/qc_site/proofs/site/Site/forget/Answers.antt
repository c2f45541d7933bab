use Rattle.std.proofs.Common.{subst, sym}
use Rattle.qc_site.specs.Vocabulary.{AreByClients, AreOfClients}
use Rattle.qc_site.proofs.Holders.{by_clients-without, clients-without}
use Rattle.qc_site.proofs.site.Site.forget.Goals as goal

pub invariant_of-self : goal.invariant_of-self
invariant_of-self c = (
  subst AreOfClients (sym c.drop_tx.ensures) (clients-without c.self.inside.held c.args.tx c.self.invariant.0),
  subst AreByClients (sym c.remove.ensures.after)
      (by_clients-without c.self.inside.prepared c.args.tx c.self.invariant.1),
)
