use Rattle.std.proofs.Common.{rules, ◌≡◌, Some, refl, subst}
use Rattle.qc_process.specs.Vocabulary.{OpenJournal, StoreView}
use Rattle.qc_process.proofs.Appending.{Shows}
use Rattle.qc_process.proofs.Beginnings.{stays_begun}
use Rattle.qc_process.proofs.store.Store.into_disk.Goals as goal

pub returns-in-Some-clause-begun : goal.returns-in-Some-clause-begun
returns-in-Some-clause-begun g c tells decl a h up is =
    let j = c.in-Some.journal in
    let was : c.store.inside.journal ≡ Some j = search rules in
    let o : OpenJournal = record { end = j.end; records = j.records } in
    let shows : Shows c.args.self (g.D.Disk.told j.disk.inner)
    (record { armed = j.disk.arm.armed; unarmed = g.D.Disk.faults j.disk.inner }) (Some o) =
    subst (λ (s : StoreView). Shows s (g.D.Disk.told j.disk.inner)
    (record { armed = j.disk.arm.armed; unarmed = g.D.Disk.faults j.disk.inner }) (Some o)) c.store.view_is
    (record { told_is = rw was refl; fuse_is = rw was refl; journal_is = rw was refl }) in
    rw c.inner.ensures.same (stays_begun tells decl a h c.args.self o _ _ _ shows c.crash.ensures.begun is)
