use Rattle.std.proofs.Common.{List, ◌∙◌, ap}
use Rattle.qc_lock.specs.Vocabulary.{append_clash}
use Rattle.qc_lock.specs.declared.held.Held.{Held}
use Rattle.qc_lock.proofs.Searching.{append_found}
use Rattle.qc_lock.proofs.locks.Locks.append_clash.Goals as goal

pub returns : goal.returns
returns c =
    append_found c.args.relation.now c.self.inside.entries c.self.inside.index.readers c.args.tx c.args.own.now
    c.append_clash.result
    c.self.invariant.sound.single c.self.invariant.reads c.append_clash.ensures
    ∙ ap (λ (held : List Held). append_clash c.args.relation.now held c.args.tx c.args.own.now) c.self.view_is
