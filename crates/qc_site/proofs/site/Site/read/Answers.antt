use Rattle.std.proofs.Common.{subst, sym, [], ◌∷◌}
use Rattle.qc_site.specs.Vocabulary.{AreOfClients}
use Rattle.qc_site.proofs.Holders.{clients-held, read_client}
use Rattle.qc_site.proofs.site.Site.read.Goals as goal

pub invariant_of-self : goal.invariant_of-self
invariant_of-self c = (
  subst AreOfClients (sym c.in-Ok.ensures.ok)
      (clients-held c.self.inside.held c.args.requester.tx
      (record { object = c.args.read.object; inv = c.args.read.inv } ∷ []) [] c.self.invariant.0 c.requires.client),
  c.self.invariant.1,
)

pub clashing-requires-clause-client : goal.clashing-requires-clause-client
clashing-requires-clause-client c =
    read_client _ c.self.inside.held c.args.requester.tx c.args.read.object c.args.read.inv _ c.self.invariant.0
    (rw c.in-Err-Conflict.field-0-is at c.in-Err-Conflict.ensures.told)
