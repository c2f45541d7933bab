use Rattle.std.proofs.Common.{Option, sym, ◌∙◌, ap, subst, arith}
use Rattle.std.proofs.lemmas.Result.{err_from_is_err_and}
use Rattle.qc_outside.specs.Vocabulary.{HasPassed, Since, Tells, Told, as_read}
use Rattle.qc_outside.proofs.Fuses.{uncounted_burns, one_burns, one_refused, passed_more, refused_more}
use Rattle.qc_journal.specs.Vocabulary.{Holds, IsAtRest, IsLeftAtOpen, lists}
use Rattle.qc_journal.proofs.Opening.{short_writes, short_opened, long_moments}
use Rattle.qc_journal.proofs.Fuses.{disk_refused, journal_more, reading_passed, reading_refused}
use Rattle.qc_journal.proofs.reading.start.Goals as goal

-- of what was told before the length was asked
abbrev Moments : Option Told → Option Told → Type 0
Moments a b = Tells a b (λ old new. Since (IsLeftAtOpen old.now) old new)

pub returns-in_err-write_through-clause-moments : goal.returns-in_err-write_through-clause-moments
returns-in_err-write_through-clause-moments g c =
    subst (λ a. Moments a (g.D.Disk.told c.write_through.new.disk)) c.len.ensures.same
    (short_writes c.in_ok-len.len _ _ c.if-len-le1.true
    (λ t tells. c.in_ok-len.ensures.len t (sym c.len.ensures.same ∙ tells)) c.write_through.ensures.moments)

pub returns-then-len-le1-clause-moments : goal.returns-then-len-le1-clause-moments
returns-then-len-le1-clause-moments g c =
    subst (λ a. Moments a (g.D.Disk.told c.write_through.new.disk)) c.len.ensures.same
    (short_writes c.in_ok-len.len _ _ c.if-len-le1.true
    (λ t tells. c.in_ok-len.ensures.len t (sym c.len.ensures.same ∙ tells)) c.write_through.ensures.moments)

pub returns-then-len-le1-clause-opened : goal.returns-then-len-le1-clause-opened
returns-then-len-le1-clause-opened g c =
    let bodies = lists c.new.result.items in
    subst (λ a. Tells a (g.D.Disk.told c.write_through.new.disk)
    (λ old new. Holds bodies (as_read old.now) × IsAtRest 0 bodies new)) c.len.ensures.same
    (short_opened c.in_ok-len.len bodies _ _ c.if-len-le1.true (ap lists c.new.ensures.items)
    (λ t tells. c.in_ok-len.ensures.len t (sym c.len.ensures.same ∙ tells)) c.in_ok-write_through.ensures.lasting)

pub returns-in_err-sync-clause-moments : goal.returns-in_err-sync-clause-moments
returns-in_err-sync-clause-moments g c =
    subst (λ a. Moments a (g.D.Disk.told c.sync.new.self)) c.len.ensures.same (long_moments _ _ c.sync.ensures.moments)

pub returns-clause-moments : goal.returns-clause-moments
returns-clause-moments g c =
    subst (λ a. Moments a (g.D.Disk.told c.read_records.new.disk)) c.len.ensures.same
    (subst (λ b. Moments (g.D.Disk.told c.len.new.self) b) (sym c.read_records.ensures.same)
    (long_moments _ _ c.sync.ensures.moments))

pub returns-in_err-sync-clause-fuse_err : goal.returns-in_err-sync-clause-fuse_err
returns-in_err-sync-clause-fuse_err g c =
    let p = err_from_is_err_and c.from_residual-in_err-sync.result c.from_residual-in_err-sync.ensures.1 in
    let asked : HasPassed 0 0 (g.D.Disk.fuse c.args.disk.now) (g.D.Disk.fuse c.len.new.self) =
    uncounted_burns _ _ _ c.in_ok-len.ensures.fuse in
    rw (p.1, p.2) (disk_refused _ 1 1 0 2 1 _ _ (omega arith) (omega arith)
    (refused_more _ 0 0 1 1 _ _ _ asked (one_refused _ _ _ c.in_err-sync.ensures.fuse)))

pub returns-clause-fuse : goal.returns-clause-fuse
returns-clause-fuse g c =
    let asked : HasPassed 0 0 (g.D.Disk.fuse c.args.disk.now) (g.D.Disk.fuse c.len.new.self) =
    uncounted_burns _ _ _ c.in_ok-len.ensures.fuse in
    let synced : HasPassed 1 1 (g.D.Disk.fuse c.len.new.self) (g.D.Disk.fuse c.sync.new.self) =
    one_burns _ _ _ c.in_ok-sync.ensures.fuse in
    reading_passed c.read_records.result (λ r. lists r.1.items) _ _
    (journal_more c.read_records.result 1 0 0 0 _ _ _ (passed_more 0 0 1 1 _ _ _ asked synced)
    c.read_records.ensures.fuse)

pub returns-clause-fuse_err : goal.returns-clause-fuse_err
returns-clause-fuse_err g c =
    let asked : HasPassed 0 0 (g.D.Disk.fuse c.args.disk.now) (g.D.Disk.fuse c.len.new.self) =
    uncounted_burns _ _ _ c.in_ok-len.ensures.fuse in
    let synced : HasPassed 1 1 (g.D.Disk.fuse c.len.new.self) (g.D.Disk.fuse c.sync.new.self) =
    one_burns _ _ _ c.in_ok-sync.ensures.fuse in
    reading_refused c.read_records.result _ _
    (journal_more c.read_records.result 1 0 0 0 _ _ _ (passed_more 0 0 1 1 _ _ _ asked synced)
    c.read_records.ensures.fuse)
