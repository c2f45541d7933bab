use Rattle.std.proofs.Common.{rules, ◌≡◌, ◌+◌, ◌<◌, ◌≤◌, ◌∙◌, ◌∷◌, ◌++◌, [], Some, None, length, arith, ap, refl, sym}
use Rattle.std.proofs.Common.{subst}
use Rattle.qc_mailbox.specs.Vocabulary.{after_take, tray_at}
use Rattle.qc_mailbox.proofs.Bounds.{calls_few}
use Rattle.qc_msg.specs.Vocabulary.{marked, step_of}
use Rattle.qc_pass.specs.Vocabulary.{Met, all, number, room}
use Rattle.qc_fabric.specs.Vocabulary.{HasGrown, HasNext, HasNone, IsInputFor, Shown, most_history}
use Rattle.qc_fabric.proofs.KeptParts.{other_memory}
use Rattle.qc_fabric.proofs.Ready.{input_as, input_there}
use Rattle.qc_fabric.proofs.Taking.{next_for, none_for, takes_on, took, waits}
use Rattle.qc_fabric.proofs.state.FabricState.take.Goals as goal
use Rattle.qc_link.specs.Vocabulary.{most_actors}

pub input_for-requires : goal.input_for-requires
input_for-requires g c = omega (arith, c.requires.actor, c.self.invariant.few, c.number-actor.ensures)

pub returns-in_default-clause-told : goal.returns-in_default-clause-told
returns-in_default-clause-told g c =
    let is : IsInputFor g.N.RunName.declaration c.self.inside.log.history c.self.inside.mailboxes.inboxes
    c.self.inside.inputs.items (number c.args.pass.now) None =
    input_as c.args.decl.now g.N.RunName.declaration c.self.inside.log.history c.self.inside.mailboxes.inboxes
    c.as_slice-inputs.result.now c.self.inside.inputs.items c.number-actor.result (number c.args.pass.now) None
    c.requires.declaration c.as_slice-inputs.ensures.value c.number-actor.ensures c.in_default.ensures in
    waits c.self.invariant _ _ c.leave.ensures.saw (search rules) (search rules)
    (none_for c.self.invariant (number c.args.pass.now) c.requires.actor is)

pub returns-in_default-clause-exact : goal.returns-in_default-clause-exact
returns-in_default-clause-exact g c =
    let is : IsInputFor g.N.RunName.declaration c.self.inside.log.history c.self.inside.mailboxes.inboxes
    c.self.inside.inputs.items (number c.args.pass.now) None =
    input_as c.args.decl.now g.N.RunName.declaration c.self.inside.log.history c.self.inside.mailboxes.inboxes
    c.as_slice-inputs.result.now c.self.inside.inputs.items c.number-actor.result (number c.args.pass.now) None
    c.requires.declaration c.as_slice-inputs.ensures.value c.number-actor.ensures c.in_default.ensures in
    subst (λ (v : Shown). HasNone g.N.RunName.declaration g.N.RunName.script v.open_inputs
    (number c.args.pass.now) v.history) c.self.view_is
    (none_for c.self.invariant (number c.args.pass.now) c.requires.actor is)

pub given_of-requires : goal.given_of-requires
given_of-requires g c =
    let is : IsInputFor g.N.RunName.declaration c.self.inside.log.history c.self.inside.mailboxes.inboxes
    c.self.inside.inputs.items (number c.args.pass.now) (Some c.in-Some.input) =
    input_as c.args.decl.now g.N.RunName.declaration c.self.inside.log.history c.self.inside.mailboxes.inboxes
    c.as_slice-inputs.result.now c.self.inside.inputs.items c.number-actor.result (number c.args.pass.now)
    (Some c.in-Some.input)
    c.requires.declaration c.as_slice-inputs.ensures.value c.number-actor.ensures c.in-Some.ensures in
    input_there g.N.RunName.declaration g.N.RunName.script c.self.inside.log.history c.self.inside.mailboxes.inboxes
    (number c.args.pass.now) c.in-Some.input c.self.invariant.kept
    (omega (arith, c.requires.actor, c.self.invariant.few)) is.2

pub invariant_of-self : goal.invariant_of-self
invariant_of-self g c = other_memory c.self.invariant c.reserve.new.self c.self.inside.mailboxes
    c.self.inside.held.items c.in_err-reserve.ensures.same refl
    (omega (arith, c.self.invariant.log_room, c.in_err-reserve.ensures.kept)) c.self.invariant.mail_room
    c.self.invariant.helds

pub take-requires-2-clause-calls : goal.take-requires-2-clause-calls
take-requires-2-clause-calls g c =
    let low : c.number-actor.result < most_actors =
    omega (arith, c.requires.actor, c.self.invariant.few, c.number-actor.ensures) in
    let few : (tray_at c.self.inside.mailboxes.inboxes.trays c.number-actor.result).calls ≤ length
    c.self.inside.log.history = calls_few g.N.RunName.script c.self.inside.log.history
    c.self.inside.mailboxes.inboxes c.number-actor.result c.self.invariant.kept low in
    omega (arith, few, c.self.invariant.bound)

pub invariant_of-self-2 : goal.invariant_of-self-2
invariant_of-self-2 g c =
    let p = c.args.pass.now in
    let is : IsInputFor g.N.RunName.declaration c.self.inside.log.history c.self.inside.mailboxes.inboxes
    c.self.inside.inputs.items (number c.args.pass.now) (Some c.in-Some.input) =
    input_as c.args.decl.now g.N.RunName.declaration c.self.inside.log.history c.self.inside.mailboxes.inboxes
    c.as_slice-inputs.result.now c.self.inside.inputs.items c.number-actor.result (number c.args.pass.now)
    (Some c.in-Some.input)
    c.requires.declaration c.as_slice-inputs.ensures.value c.number-actor.ensures c.in-Some.ensures in
    let next : HasNext g.N.RunName.declaration g.N.RunName.script c.self.inside.inputs.items
    (number c.args.pass.now) c.self.inside.log.history c.in_ok-given.given =
    next_for c.self.invariant (number c.args.pass.now) c.requires.actor c.in-Some.input c.in_ok-given.given is
    c.in_ok-given.ensures in
    let met : Met p c.in-Some-take.right c.add-right.new.pass c.add-right.result (step_of c.in_ok-given.given ∷ [])
    (room p) = subst (λ s. Met p c.in-Some-take.right c.add-right.new.pass c.add-right.result (s ∷ []) (room p))
    c.step_of-step.ensures c.add-right.ensures.met in
    let all_is : all c.add-right.result ≡ all c.in-Some-take.right ++ marked (number p) (step_of c.in_ok-given.given)
    ∷ [] = c.add-right.ensures.all ∙ ap (λ s. all c.in-Some-take.right ++ marked (number p) s ∷ [])
    c.step_of-step.ensures in
    let grown : HasGrown c.reserve.new.self c.add-right.new.log (marked (number p) (step_of c.in_ok-given.given) ∷ []) =
    subst (λ s. HasGrown c.reserve.new.self c.add-right.new.log (marked (number p) s ∷ [])) c.step_of-step.ensures
    c.add-right.ensures.log in
    let fits : (c.self.inside.reserved + c.self.inside.spare) + 1 ≤ c.reserve.new.self.room = search (rules, arith) in
    let bound : length c.self.inside.log.history + ((c.self.inside.reserved + c.self.inside.spare) + 1) ≤ most_history =
    search (rules, arith) in
    rw (c.set.ensures, c.number-actor.ensures)
    (takes_on c.self.invariant c.in-Some-take.right
    (sym c.take.ensures.value ∙ c.in-Some-take.is) p c.add-right.new.pass c.add-right.result c.in_ok-given.given
    c.requires.actor next met all_is
    c.reserve.new.self c.add-right.new.log c.take-2.new.self c.in_ok-reserve.ensures.same fits bound grown
    c.take-2.ensures.room (c.take-2.ensures.inboxes
    ∙ ap (λ a. after_take c.self.inside.mailboxes.inboxes a) c.number-actor.ensures))

pub returns-clause-told : goal.returns-clause-told
returns-clause-told g c =
    let p = c.args.pass.now in
    let is : IsInputFor g.N.RunName.declaration c.self.inside.log.history c.self.inside.mailboxes.inboxes
    c.self.inside.inputs.items (number c.args.pass.now) (Some c.in-Some.input) =
    input_as c.args.decl.now g.N.RunName.declaration c.self.inside.log.history c.self.inside.mailboxes.inboxes
    c.as_slice-inputs.result.now c.self.inside.inputs.items c.number-actor.result (number c.args.pass.now)
    (Some c.in-Some.input)
    c.requires.declaration c.as_slice-inputs.ensures.value c.number-actor.ensures c.in-Some.ensures in
    let next : HasNext g.N.RunName.declaration g.N.RunName.script c.self.inside.inputs.items
    (number c.args.pass.now) c.self.inside.log.history c.in_ok-given.given =
    next_for c.self.invariant (number c.args.pass.now) c.requires.actor c.in-Some.input c.in_ok-given.given is
    c.in_ok-given.ensures in
    let met : Met p c.in-Some-take.right c.add-right.new.pass c.add-right.result (step_of c.in_ok-given.given ∷ [])
    (room p) = subst (λ s. Met p c.in-Some-take.right c.add-right.new.pass c.add-right.result (s ∷ []) (room p))
    c.step_of-step.ensures c.add-right.ensures.met in
    let all_is : all c.add-right.result ≡ all c.in-Some-take.right ++ marked (number p) (step_of c.in_ok-given.given)
    ∷ [] = c.add-right.ensures.all ∙ ap (λ s. all c.in-Some-take.right ++ marked (number p) s ∷ [])
    c.step_of-step.ensures in
    took c.self.invariant c.in-Some-take.right
    (sym c.take.ensures.value ∙ c.in-Some-take.is) p c.add-right.new.pass c.add-right.result c.in_ok-given.given
    c.requires.actor next met all_is

pub returns-clause-exact : goal.returns-clause-exact
returns-clause-exact g c =
    let is : IsInputFor g.N.RunName.declaration c.self.inside.log.history c.self.inside.mailboxes.inboxes
    c.self.inside.inputs.items (number c.args.pass.now) (Some c.in-Some.input) =
    input_as c.args.decl.now g.N.RunName.declaration c.self.inside.log.history c.self.inside.mailboxes.inboxes
    c.as_slice-inputs.result.now c.self.inside.inputs.items c.number-actor.result (number c.args.pass.now)
    (Some c.in-Some.input)
    c.requires.declaration c.as_slice-inputs.ensures.value c.number-actor.ensures c.in-Some.ensures in
    let next : HasNext g.N.RunName.declaration g.N.RunName.script c.self.inside.inputs.items
    (number c.args.pass.now) c.self.inside.log.history c.in_ok-given.given =
    next_for c.self.invariant (number c.args.pass.now) c.requires.actor c.in-Some.input c.in_ok-given.given is
    c.in_ok-given.ensures in
    subst (λ (v : Shown). HasNext g.N.RunName.declaration g.N.RunName.script v.open_inputs
    (number c.args.pass.now) v.history c.in_ok-given.given) c.self.view_is next
