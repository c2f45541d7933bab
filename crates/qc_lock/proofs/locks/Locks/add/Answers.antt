use Rattle.std.proofs.Common.{◌≡◌, ◌==◌, ◌&&◌, ◌<◌, ◌+◌, ◌||◌, Bool, true, false, length, refl, sym, ap, subst, List}
use Rattle.qc_entry.specs.declared.line.OwnLine.{OwnLine}
use Rattle.qc_entry.specs.declared.line.ReadLock.{ReadLock}
use Rattle.qc_lock.specs.Vocabulary.{AreSorted, has_line, has_read, lock_cmp, own_cmp, with_locks, with_owns}
use Rattle.qc_list.specs.Vocabulary.{Ascends}
use Rattle.qc_lock.proofs.Entries.{entry_some}
use Rattle.qc_lock.proofs.Indexing.{fold_any}
use Rattle.qc_lock.proofs.Order.{sorted-find, ascends-locks, ascends-owns}
use Rattle.qc_lock.proofs.locks.Locks.add.Goals as goal
use Rattle.qc_lock.proofs.locks.Locks.add.Goals.{else-is_empty-via-then-is_empty+else-is_empty-2}
use Rattle.qc_lock.proofs.locks.Locks.add.Goals.{else-is_empty-via-else-is_empty}

never_all : (a b : Bool) → b ≡ false → (a && b) ≡ false
never_all true b h = h
never_all false b h = refl

pub put-requires-clause-full : goal.put-requires-clause-full
put-requires-clause-full c =
    let test : ((length c.args.locks.now == 0) && (length c.args.own.now == 0)) ≡ false =
    elim c.else-is_empty.branch [
      | else-is_empty-via-then-is_empty+else-is_empty-2 w ↦ never_all (length c.args.locks.now == 0)
          (length c.args.own.now == 0) (sym w.if-is_empty-2.ensures)
      | else-is_empty-via-else-is_empty w ↦ ap (λ b. b && (length c.args.own.now == 0)) (sym w.if-is_empty.ensures)
    ] in
    let locks : c.in_ok-all.all ≡ with_locks c.locks_of.result.now c.args.locks.now = c.in_ok-all.ensures in
    let own : c.in_ok-lines.lines ≡ with_owns c.own_of.result.now c.args.own.now = c.in_ok-lines.ensures in
    subst (λ (ls : List ReadLock). 0 < length ls + length c.in_ok-lines.lines) (sym locks)
    (subst (λ (os : List OwnLine). 0 < length (with_locks c.locks_of.result.now c.args.locks.now) + length os) (sym own)
    (entry_some c.locks_of.result.now c.args.locks.now c.own_of.result.now c.args.own.now test))

pub put-requires-clause-locks : goal.put-requires-clause-locks
put-requires-clause-locks c =
    let sorted : AreSorted c.args.self.now = subst AreSorted c.self.view_is c.self.invariant.sound.sorted in
    let locks : c.in_ok-all.all ≡ with_locks c.locks_of.result.now c.args.locks.now = c.in_ok-all.ensures in
    subst (λ (ls : List ReadLock). Ascends lock_cmp ls) (sym locks)
    (ascends-locks c.locks_of.result.now c.args.locks.now
    (subst (λ (ls : List ReadLock). Ascends lock_cmp ls) (sym c.locks_of.ensures)
    (sorted-find c.args.self.now c.args.tx sorted).0))

pub put-requires-clause-own : goal.put-requires-clause-own
put-requires-clause-own c =
    let sorted : AreSorted c.args.self.now = subst AreSorted c.self.view_is c.self.invariant.sound.sorted in
    let own : c.in_ok-lines.lines ≡ with_owns c.own_of.result.now c.args.own.now = c.in_ok-lines.ensures in
    subst (λ (os : List OwnLine). Ascends own_cmp os) (sym own)
    (ascends-owns c.own_of.result.now c.args.own.now
    (subst (λ (os : List OwnLine). Ascends own_cmp os) (sym c.own_of.ensures)
    (sorted-find c.args.self.now c.args.tx sorted).1))

pub put-requires-clause-reads : goal.put-requires-clause-reads
put-requires-clause-reads c = λ object inv passes.
    let locks : c.in_ok-all.all ≡ with_locks c.locks_of.result.now c.args.locks.now = c.in_ok-all.ensures in
    subst (λ (ls : List ReadLock). (has_read ls object inv || has_read c.args.locks.now object inv) ≡ true)
    c.locks_of.ensures
    (fold_any lock_cmp (λ (l : ReadLock). (l.object == object) && (l.inv == inv)) c.locks_of.result.now c.args.locks.now
    (subst (λ (ls : List ReadLock). has_read ls object inv ≡ true) locks passes))

pub put-requires-clause-lines : goal.put-requires-clause-lines
put-requires-clause-lines c = λ object event passes.
    let own : c.in_ok-lines.lines ≡ with_owns c.own_of.result.now c.args.own.now = c.in_ok-lines.ensures in
    subst (λ (os : List OwnLine). (has_line os object event || has_line c.args.own.now object event) ≡ true)
    c.own_of.ensures
    (fold_any own_cmp (λ (l : OwnLine). (l.object == object) && (l.event == event)) c.own_of.result.now c.args.own.now
    (subst (λ (os : List OwnLine). has_line os object event ≡ true) own passes))
