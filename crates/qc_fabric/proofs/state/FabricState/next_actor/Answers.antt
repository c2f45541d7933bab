use Rattle.std.proofs.Common.{rules, ◌≡◌, ◌≤◌, arith, subst}
use Rattle.qc_decl.specs.Vocabulary.{actors}
use Rattle.qc_mailbox.proofs.Picking.{picks_are_made_by_trays}
use Rattle.qc_fabric.specs.Vocabulary.{Shown, next_actor}
use Rattle.qc_fabric.proofs.state.FabricState.next_actor.Goals as goal
use Rattle.qc_link.specs.Vocabulary.{most_actors}

pub returns : goal.returns
returns g c =
    let few : actors g.N.RunName.declaration ≤ most_actors = omega (arith, c.self.invariant.few) in
    let is : c.pick.result ≡ next_actor g.N.RunName.declaration g.N.RunName.script c.self.inside.inputs.items
    c.self.inside.held.items c.self.inside.log.history =
    search (rules, picks_are_made_by_trays g.N.RunName.declaration g.N.RunName.script) in
    subst (λ (v : Shown). c.pick.result ≡ next_actor g.N.RunName.declaration g.N.RunName.script v.open_inputs v.held
    v.history) c.self.view_is is
