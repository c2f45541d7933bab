use Rattle.std.proofs.Common.{rules, ◌≡◌, Some, None, refl, subst}
use Rattle.qc_process.specs.Vocabulary.{OpenJournal, StoreView}
use Rattle.qc_process.proofs.Appending.{Shows}
use Rattle.qc_process.proofs.Crashes.{crash_of, damaged_of, given_up_of}
use Rattle.qc_process.proofs.store.Store.crash.Goals as goal

pub returns-clause-goes : goal.returns-clause-goes
returns-clause-goes g c decl a tells h now goes is =
    let j = c.in-Some.journal in
    let was : c.self.inside.journal ≡ Some j = search rules in
    let none : c.take.new.self ≡ None = search rules in
    let o : OpenJournal = record { end = j.end; records = j.records } in
    let shows : Shows c.args.self.now (g.D.Disk.told j.disk.inner)
    (record { armed = j.disk.arm.armed; unarmed = g.D.Disk.faults j.disk.inner }) (Some o) =
    subst (λ (s : StoreView). Shows s (g.D.Disk.told j.disk.inner)
    (record { armed = j.disk.arm.armed; unarmed = g.D.Disk.faults j.disk.inner }) (Some o)) c.self.view_is
    (record { told_is = rw was refl; fuse_is = rw was refl; journal_is = rw was refl }) in
    crash_of tells decl a h c.args.self.now _ o _ _ _ _ shows
    (record { told_is = rw none refl; fuse_is = rw none refl; journal_is = rw none refl })
    c.crash.ensures.tells c.crash.ensures.holds c.crash.ensures.account now goes is

pub returns-clause-damaged : goal.returns-clause-damaged
returns-clause-damaged g c tells decl a h now bodies offset is unfit goes =
    let j = c.in-Some.journal in
    let was : c.self.inside.journal ≡ Some j = search rules in
    let none : c.take.new.self ≡ None = search rules in
    let o : OpenJournal = record { end = j.end; records = j.records } in
    let shows : Shows c.args.self.now (g.D.Disk.told j.disk.inner)
    (record { armed = j.disk.arm.armed; unarmed = g.D.Disk.faults j.disk.inner }) (Some o) =
    subst (λ (s : StoreView). Shows s (g.D.Disk.told j.disk.inner)
    (record { armed = j.disk.arm.armed; unarmed = g.D.Disk.faults j.disk.inner }) (Some o)) c.self.view_is
    (record { told_is = rw was refl; fuse_is = rw was refl; journal_is = rw was refl }) in
    damaged_of tells decl a h c.args.self.now _ o _ _ _ _ shows
    (record { told_is = rw none refl; fuse_is = rw none refl; journal_is = rw none refl })
    c.crash.ensures.tells c.crash.ensures.holds c.crash.ensures.account now bodies offset unfit goes is

pub returns-clause-given_up : goal.returns-clause-given_up
returns-clause-given_up g c tells decl a h bodies is =
    let j = c.in-Some.journal in
    let was : c.self.inside.journal ≡ Some j = search rules in
    let none : c.take.new.self ≡ None = search rules in
    let o : OpenJournal = record { end = j.end; records = j.records } in
    let shows : Shows c.args.self.now (g.D.Disk.told j.disk.inner)
    (record { armed = j.disk.arm.armed; unarmed = g.D.Disk.faults j.disk.inner }) (Some o) =
    subst (λ (s : StoreView). Shows s (g.D.Disk.told j.disk.inner)
    (record { armed = j.disk.arm.armed; unarmed = g.D.Disk.faults j.disk.inner }) (Some o)) c.self.view_is
    (record { told_is = rw was refl; fuse_is = rw was refl; journal_is = rw was refl }) in
    let down : StoreView = record {
      told = g.D.Disk.told c.crash.result.inner;
      fuse = record { armed = c.crash.result.arm.armed; unarmed = g.D.Disk.faults c.crash.result.inner };
      journal = None;
      spelling = None;
    } in
    rw none (given_up_of tells decl a h c.args.self.now down o _ _ _ _ shows
    (record { told_is = refl; fuse_is = refl; journal_is = refl })
    c.crash.ensures.tells c.crash.ensures.holds c.crash.ensures.account bodies is)
