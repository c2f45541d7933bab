use Rattle.std.proofs.Common.{◌≡◌, ◌<◌, subst, sym, [], Some}
use Rattle.qc_decl.specs.Vocabulary.{most_clients}
use Rattle.qc_lock.specs.declared.clash.LockFault.TheVariants.{Conflict}
use Rattle.qc_lock.specs.Vocabulary.{append_clash, with_held}
use Rattle.qc_site.specs.Vocabulary.{AreOfClients}
use Rattle.qc_site.proofs.Holders.{clients-held, append_client}
use Rattle.qc_site.proofs.site.Site.append.Goals as goal

pub invariant_of-self-in-Ok : goal.invariant_of-self-in-Ok
invariant_of-self-in-Ok c = (
  subst AreOfClients (sym (rw c.in-Ok.is at c.try_append-held.ensures.ok))
      (clients-held c.self.inside.held c.args.requester.tx [] c.items.result.now c.self.invariant.0 c.requires.client),
  c.self.invariant.1,
)

pub clashing-requires-clause-client : goal.clashing-requires-clause-client
clashing-requires-clause-client c =
    let fault : c.in-Err-Conflict.field-0 ≡ Conflict c.in-Err-Conflict.clash =
    rw c.in-Err-Conflict.is at c.in-Err-Conflict.field-0-is in
    let told : append_clash c.unwrap-kind.result.now.relation c.self.inside.held c.args.requester.tx c.items.result.now
    ≡ Some c.in-Err-Conflict.clash = rw fault at (rw c.in-Err-Conflict.is at c.try_append-held.ensures.told) in
    append_client _ c.self.inside.held c.args.requester.tx _ c.in-Err-Conflict.clash c.self.invariant.0 told
