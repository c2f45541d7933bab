use Rattle.std.proofs.Common.{List, ◌∙◌, ap}
use Rattle.qc_lock.specs.Vocabulary.{read_clash}
use Rattle.qc_lock.specs.declared.held.Held.{Held}
use Rattle.qc_lock.proofs.Searching.{read_found}
use Rattle.qc_lock.proofs.locks.Locks.read_clash.Goals as goal

pub returns : goal.returns
returns c =
    read_found c.args.relation.now c.self.inside.entries c.self.inside.index.writers c.args.tx c.args.object c.args.inv
    c.read_clash.result
    c.self.invariant.sound.single c.self.invariant.lines c.read_clash.ensures
    ∙ ap (λ (held : List Held). read_clash c.args.relation.now held c.args.tx c.args.object c.args.inv) c.self.view_is
