use Rattle.std.proofs.Common.{◌≡◌, ◌∙◌, subst}
use Rattle.std.specs.Prelude.{vec_len, option_copied}
use Rattle.qc_decl.specs.Vocabulary.{actors, controller}
use Rattle.qc_decl.specs.declared.declaration.Declaration.{Declaration}
use Rattle.laws_turns.proofs.Downs.{who_is_down_only_tells}
use Rattle.qc_node.specs.Vocabulary.{AreProcesses, IsHandedBelow}
use Rattle.qc_node.proofs.Starts.{all_handed, empty_before, started_tells}
use Rattle.qc_node.proofs.runs.run_named.Goals as goal

pub make-requires-clause-down : goal.make-requires-clause-down
make-requires-clause-down g c = who_is_down_only_tells g.N.RunName.declaration

pub cells_of-cells-requires-clause-processes : goal.cells_of-cells-requires-clause-processes
cells_of-cells-requires-clause-processes g c κs within =
    subst (λ (d : Declaration). vec_len c.in_ok-processes.processes ≡ actors d) c.requires.declaration
    c.in_ok-processes.ensures.whole

pub cells_of-cells-requires-clause-begun : goal.cells_of-cells-requires-clause-begun
cells_of-cells-requires-clause-begun g c κs within =
    subst (λ (d : Declaration). AreProcesses g.N.RunName.tells d c.in_ok-processes.processes.items)
    c.requires.declaration
    (c.in_ok-processes.ensures.each g.N.RunName.tells (λ is. c.requires.tells ∙ is))

pub run_cells-requires-clause-tells : goal.run_cells-requires-clause-tells
run_cells-requires-clause-tells g c κs within =
    started_tells (option_copied c.args.job.now.dir) (controller c.args.job.now.decl.now)
    (g.K.Rack.places c.args.rack.now)
    (g.K.Rack.places c.start.new.rack) c.in_ok-processes.ensures.started.places ∙ c.requires.tells

pub run_cells-requires-clause-handed : goal.run_cells-requires-clause-handed
run_cells-requires-clause-handed g c κs within =
    all_handed (option_copied c.args.job.now.dir) (controller g.N.RunName.declaration) (g.K.Rack.places c.args.rack.now)
    (g.K.Rack.places c.start.new.rack)
    (subst
    (λ (d : Declaration). IsHandedBelow (option_copied c.args.job.now.dir) (controller d)
    (g.K.Rack.places c.args.rack.now)
    (g.K.Rack.places c.start.new.rack)) c.requires.declaration c.in_ok-processes.ensures.started.places)

pub returns-clause-spent : goal.returns-clause-spent
returns-clause-spent g c short =
    c.run_cells.ensures.spent (g.K.Rack.faults c.args.rack.now) c.in_ok-processes.ensures.started.later short

pub returns-clause-empty : goal.returns-clause-empty
returns-clause-empty g c =
    empty_before (option_copied c.args.job.now.dir) g.N.RunName.declaration (g.K.Rack.places c.args.rack.now)
    (g.K.Rack.places c.start.new.rack)
    (subst
    (λ (d : Declaration). IsHandedBelow (option_copied c.args.job.now.dir) (controller d)
    (g.K.Rack.places c.args.rack.now)
    (g.K.Rack.places c.start.new.rack)) c.requires.declaration c.in_ok-processes.ensures.started.places)
