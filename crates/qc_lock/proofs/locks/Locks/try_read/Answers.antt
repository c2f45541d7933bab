use Rattle.std.proofs.Common.{rules, ◌≡◌, true, sym, subst}
use Rattle.qc_lock.specs.Vocabulary.{AreSorted, has_lock}
use Rattle.qc_lock.proofs.Order.{held_already}
use Rattle.qc_lock.proofs.locks.Locks.try_read.Goals as goal

pub returns-then-contains-clause-ok : goal.returns-then-contains-clause-ok
returns-then-contains-clause-ok c =
    let sorted : AreSorted c.args.self.now = subst AreSorted c.self.view_is c.self.invariant.sound.sorted in
    let member : has_lock c.args.self.now c.args.tx (record { object = c.args.object; inv = c.args.inv }) ≡ true =
    search rules in
    sym (held_already c.args.self.now c.args.tx (record { object = c.args.object; inv = c.args.inv }) sorted member)
