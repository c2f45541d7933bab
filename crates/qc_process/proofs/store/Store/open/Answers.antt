use Rattle.std.proofs.Common.{rules, ◌≡◌, Some, None, refl, sym, ◌∙◌, subst}
use Rattle.qc_journal.specs.Vocabulary.{IsNoJournal, lists}
use Rattle.qc_outside.specs.Vocabulary.{Told, as_read}
use Rattle.qc_process.specs.Vocabulary.{OpenJournal, StoreView}
use Rattle.qc_process.proofs.Appending.{Shows}
use Rattle.qc_process.proofs.Openings.{said_of_old}
use Rattle.qc_process.proofs.Reopened.{fell_of, length_lists, opened_of, torn_of}
use Rattle.qc_process.proofs.store.Store.open.Goals as goal

pub returns-in-Ok-clause-opened : goal.returns-in-Ok-clause-opened
returns-in-Ok-clause-opened g c tells decl a h is =
    let d = c.in-Some.disk in
    let was : c.self.inside.disk ≡ Some d = search rules in
    let none : c.self.inside.journal ≡ None = search rules in
    let o : OpenJournal = record { end = c.in-Ok.journal.end; records = c.in-Ok.journal.records } in
    let shows : Shows c.args.self.now (g.D.Disk.told d.inner)
    (record { armed = d.arm.armed; unarmed = g.D.Disk.faults d.inner }) None =
    subst (λ (s : StoreView). Shows s (g.D.Disk.told d.inner)
    (record { armed = d.arm.armed; unarmed = g.D.Disk.faults d.inner }) None) c.self.view_is
    (record { told_is = rw (none, was) refl; fuse_is = rw (none, was) refl; journal_is = rw none refl }) in
    opened_of tells decl a h c.args.self.now _ _ _ _ _ shows c.in-Ok.ensures.tells _ o (lists c.in-Ok.bodies.items)
    (record { told_is = refl; fuse_is = refl; journal_is = refl }) c.in-Ok.ensures.opened c.in-Ok.ensures.given
    c.in-Ok.ensures.rests (c.in-Ok.ensures.records ∙ sym (length_lists c.in-Ok.bodies.items)) c.in-Ok.ensures.account is

pub returns-in-Err-clause-fell : goal.returns-in-Err-clause-fell
returns-in-Err-clause-fell g c kind decl a fell tells h now goes is =
    let d = c.in-Some.disk in
    let was : c.self.inside.disk ≡ Some d = search rules in
    let none : c.self.inside.journal ≡ None = search rules in
    let shows : Shows c.args.self.now (g.D.Disk.told d.inner)
    (record { armed = d.arm.armed; unarmed = g.D.Disk.faults d.inner }) None =
    subst (λ (s : StoreView). Shows s (g.D.Disk.told d.inner)
    (record { armed = d.arm.armed; unarmed = g.D.Disk.faults d.inner }) None) c.self.view_is
    (record { told_is = rw (none, was) refl; fuse_is = rw (none, was) refl; journal_is = rw none refl }) in
    fell_of tells decl a h c.args.self.now _ _ _ _ _ shows c.in-Err.ensures.tells_err now
    (record { told_is = rw none refl; fuse_is = rw none refl; journal_is = rw none refl }) c.in-Err.ensures.holds kind
    (λ t of. c.in-Err.ensures.account_fell t kind fell of) goes is

pub returns-in-Err-clause-torn : goal.returns-in-Err-clause-torn
returns-in-Err-clause-torn g c offset decl a torn tells h now goes is =
    let d = c.in-Some.disk in
    let was : c.self.inside.disk ≡ Some d = search rules in
    let none : c.self.inside.journal ≡ None = search rules in
    let shows : Shows c.args.self.now (g.D.Disk.told d.inner)
    (record { armed = d.arm.armed; unarmed = g.D.Disk.faults d.inner }) None =
    subst (λ (s : StoreView). Shows s (g.D.Disk.told d.inner)
    (record { armed = d.arm.armed; unarmed = g.D.Disk.faults d.inner }) None) c.self.view_is
    (record { told_is = rw (none, was) refl; fuse_is = rw (none, was) refl; journal_is = rw none refl }) in
    torn_of tells decl a h c.args.self.now _ _ _ _ _ shows c.in-Err.ensures.tells_err now
    (record { told_is = rw none refl; fuse_is = rw none refl; journal_is = rw none refl }) c.in-Err.ensures.holds offset
    (λ bodies pending t told holds. c.in-Err.ensures.torn offset bodies pending t torn told holds)
    (λ t of. c.in-Err.ensures.account_torn t offset torn of) goes is

pub returns-in-Err-clause-no_journal : goal.returns-in-Err-clause-no_journal
returns-in-Err-clause-no_journal g c offset t torn told =
    let d = c.in-Some.disk in
    let was : c.self.inside.disk ≡ Some d = search rules in
    let none : c.self.inside.journal ≡ None = search rules in
    let told_is : c.args.self.now.told ≡ g.D.Disk.told d.inner =
    subst (λ (s : StoreView). s.told ≡ g.D.Disk.told d.inner) c.self.view_is (rw (none, was) refl) in
    said_of_old (λ (x : Told). IsNoJournal offset (as_read x.now)) _ _ t (c.in-Err.ensures.broken offset torn)
    (sym told_is ∙ told)
