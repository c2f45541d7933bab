use Rattle.std.proofs.Common.{rules, ◌≡◌, ◌≤◌, None, true, false, arith, sym, slice_get, subst}
use Rattle.std.specs.Prelude.{is_some}
use Rattle.qc_decl.specs.Vocabulary.{actors}
use Rattle.qc_mailbox.specs.Vocabulary.{picked_in, either}
use Rattle.qc_fabric.specs.Vocabulary.{IsStopped, Shown, has_any}
use Rattle.qc_fabric.proofs.Stopped.{is_nothing, stopped_inputs, stopped_picks, stops, was_nothing}
use Rattle.qc_fabric.proofs.state.FabricState.quiet.Goals as goal
use Rattle.qc_link.specs.Vocabulary.{most_actors}
use Rattle.qc_list.proofs.Options.{none_of}

pub returns-then-any-clause-all : goal.returns-then-any-clause-all
returns-then-any-clause-all g c = λ s.
    (let none : has_any c.args.self.now.open_inputs ≡ false = stopped_inputs _ _ _ _ s in
    let some : has_any c.args.self.now.open_inputs ≡ true = search rules in
    absurd (let no : ⊥ = cc in no))

pub returns-clause-only : goal.returns-clause-only
returns-clause-only g c = λ is.
    (let few : actors g.N.RunName.declaration ≤ most_actors = omega (arith, c.self.invariant.few) in
    let none : has_any c.self.inside.inputs.items ≡ false = search rules in
    let left : is_some (slice_get c.self.inside.mailboxes.inboxes.controls 0) ≡ false = search rules in
    let nobody : c.pick.result ≡ None = is_nothing c.pick.result c.is_none.result c.is_none.ensures is in
    let picks : picked_in g.N.RunName.declaration
    (either c.self.inside.inputs.items c.self.inside.inputs.items) c.self.inside.mailboxes.inboxes ≡ None =
    search rules in
    subst (λ (v : Shown). IsStopped g.N.RunName.declaration g.N.RunName.script v.history v.open_inputs) c.self.view_is
    (stops g.N.RunName.declaration g.N.RunName.script c.self.inside.log.history c.self.inside.inputs.items
    c.self.inside.mailboxes.inboxes c.self.invariant.kept few none
    (none_of (slice_get c.self.inside.mailboxes.inboxes.controls 0) left) picks))

pub returns-clause-all : goal.returns-clause-all
returns-clause-all g c = λ s.
    (let few : actors g.N.RunName.declaration ≤ most_actors = omega (arith, c.self.invariant.few) in
    let here : IsStopped g.N.RunName.declaration g.N.RunName.script c.self.inside.log.history c.self.inside.inputs.items
    =
    subst (λ (v : Shown). IsStopped g.N.RunName.declaration g.N.RunName.script v.history v.open_inputs)
    (sym c.self.view_is) s in
    let picks : picked_in g.N.RunName.declaration
    (either c.self.inside.inputs.items c.self.inside.inputs.items) c.self.inside.mailboxes.inboxes ≡ None =
    stopped_picks g.N.RunName.declaration g.N.RunName.script c.self.inside.log.history c.self.inside.inputs.items
    c.self.inside.mailboxes.inboxes c.self.invariant.kept few here in
    let nobody : c.pick.result ≡ None = search rules in
    was_nothing c.pick.result c.is_none.result c.is_none.ensures nobody)
