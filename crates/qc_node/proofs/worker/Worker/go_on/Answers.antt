use Rattle.std.proofs.Common.{ℕ, ◌<◌, sym, subst}
use Rattle.qc_node.proofs.Lines.{was_armed, was_crashed, was_restarted}
use Rattle.qc_node.proofs.worker.Worker.go_on.Goals as goal

pub index-requires : goal.index-requires
index-requires g c =
    subst (λ (n : ℕ). c.in-Some-Armed.actor < n) (sym c.args.self.now.cells.now.whole)
    (was_armed g.N.RunName.declaration g.N.RunName.script c.requires.runnable c.in-Some-Armed.field-0
    c.in-Some-Armed.ensures c.in-Some-Armed.actor c.in-Some-Armed.field-0-1 c.in-Some-Armed.field-0-2
    c.in-Some-Armed.field-0-is)

pub index-requires-in-Some-Crash : goal.index-requires-in-Some-Crash
index-requires-in-Some-Crash g c =
    subst (λ (n : ℕ). c.in-Some-Crash.actor < n) (sym c.args.self.now.cells.now.whole)
    (was_crashed g.N.RunName.declaration g.N.RunName.script c.requires.runnable c.in-Some-Crash.field-0
    c.in-Some-Crash.ensures c.in-Some-Crash.actor c.in-Some-Crash.field-0-is)

pub index-requires-in-Some-Restart : goal.index-requires-in-Some-Restart
index-requires-in-Some-Restart g c =
    subst (λ (n : ℕ). c.in-Some-Restart.actor < n) (sym c.args.self.now.cells.now.whole)
    (was_restarted g.N.RunName.declaration g.N.RunName.script c.requires.runnable c.in-Some-Restart.field-0
    c.in-Some-Restart.ensures c.in-Some-Restart.actor c.in-Some-Restart.field-0-is)
