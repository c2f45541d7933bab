use Rattle.std.proofs.Common.{rules, ◌≡◌, Some, None, refl, sym, subst}
use Rattle.qc_process.specs.Vocabulary.{OpenJournal, StoreView}
use Rattle.qc_process.proofs.Appending.{Shows, broken_appended, done_appended, none_appended}
use Rattle.qc_process.proofs.store.Store.append.Goals as goal

pub returns-in_default-clause-goes : goal.returns-in_default-clause-goes
returns-in_default-clause-goes g c tells decl a h now turn first spells goes is =
    none_appended tells decl a h now turn first c.args.self.now _ (search rules) (search rules) (search rules)
    (search rules) spells goes is

pub returns-in-Ok-clause-goes : goal.returns-in-Ok-clause-goes
returns-in-Ok-clause-goes g c tells decl a h now turn first spells goes is =
    let j = c.in-Some-take.journal in
    let was : c.self.inside.journal ≡ Some j = search rules in
    let had : c.self.inside.spelling ≡ Some c.in-Some.bytes = search rules in
    let o : OpenJournal = record { end = j.end; records = j.records } in
    let shows : Shows c.args.self.now (g.D.Disk.told j.disk.inner)
    (record { armed = j.disk.arm.armed; unarmed = g.D.Disk.faults j.disk.inner }) (Some o) =
    subst (λ (s : StoreView). Shows s (g.D.Disk.told j.disk.inner)
    (record { armed = j.disk.arm.armed; unarmed = g.D.Disk.faults j.disk.inner }) (Some o)) c.self.view_is
    (record { told_is = rw was refl; fuse_is = rw was refl; journal_is = rw was refl }) in
    let body_is : c.args.self.now.spelling ≡ Some c.as_slice.result.now =
    subst (λ (s : StoreView). s.spelling ≡ Some c.as_slice.result.now) c.self.view_is
    (rw (had, c.as_slice.ensures.value) refl) in
    done_appended tells decl a h now turn first c.args.self.now _ o c.as_slice.result.now _ _ _ _ shows body_is spells
    c.in-Ok.ensures.tells _ (record { told_is = refl; fuse_is = refl; journal_is = refl }) c.in-Ok.ensures.written
    c.in-Ok.ensures.records c.in-Ok.ensures.account goes is

pub returns-clause-goes : goal.returns-clause-goes
returns-clause-goes g c tells decl a h now turn first spells goes is =
    let j = c.in-Some-take.journal in
    let was : c.self.inside.journal ≡ Some j = search rules in
    let had : c.self.inside.spelling ≡ Some c.in-Some.bytes = search rules in
    let none : c.take-2.new.self ≡ None = search rules in
    let o : OpenJournal = record { end = j.end; records = j.records } in
    let shows : Shows c.args.self.now (g.D.Disk.told j.disk.inner)
    (record { armed = j.disk.arm.armed; unarmed = g.D.Disk.faults j.disk.inner }) (Some o) =
    subst (λ (s : StoreView). Shows s (g.D.Disk.told j.disk.inner)
    (record { armed = j.disk.arm.armed; unarmed = g.D.Disk.faults j.disk.inner }) (Some o)) c.self.view_is
    (record { told_is = rw was refl; fuse_is = rw was refl; journal_is = rw was refl }) in
    let body_is : c.args.self.now.spelling ≡ Some c.as_slice.result.now =
    subst (λ (s : StoreView). s.spelling ≡ Some c.as_slice.result.now) c.self.view_is
    (rw (had, c.as_slice.ensures.value) refl) in
    broken_appended tells decl a h now turn first c.args.self.now _ o c.as_slice.result.now _ _ _ _ shows body_is spells
    c.in-Err.ensures.tells_err c.in-Err.kind
    (record { told_is = rw none refl; fuse_is = rw none refl; journal_is = rw none refl })
    c.in-Err.ensures.holds c.in-Err.ensures.account_err (rw (sym c.ended_by.ensures) goes) is
