use Rattle.std.proofs.Common.{rules, ◌≡◌, ◌+◌, ◌≤◌, ◌∙◌, ◌∷◌, ◌++◌, [], ap, arith, length, refl, sym, subst}
use Rattle.qc_msg.specs.Vocabulary.{marked}
use Rattle.qc_msg.specs.declared.step.Control.TheVariants as controls
use Rattle.qc_msg.specs.declared.step.Step.TheVariants as steps
use Rattle.qc_pass.specs.Vocabulary.{Met, all, number, room}
use Rattle.qc_fabric.specs.Vocabulary.{Arms, HasGrown, MayDo, Shown, most_history}
use Rattle.qc_fabric.proofs.Fed.{met_as}
use Rattle.qc_fabric.proofs.KeptParts.{other_memory}
use Rattle.qc_fabric.proofs.Lines.{armed, arms_on}
use Rattle.qc_fabric.proofs.Ordered.{first_within}
use Rattle.qc_fabric.proofs.state.FabricState.arm.Goals as goal

pub control-requires : goal.control-requires
control-requires g c = first_within c.self.invariant

pub invariant_of-self : goal.invariant_of-self
invariant_of-self g c = other_memory c.self.invariant c.reserve.new.self c.self.inside.mailboxes
    c.self.inside.held.items c.in_err-reserve.ensures.same refl
    (omega (arith, c.self.invariant.log_room, c.in_err-reserve.ensures.kept)) c.self.invariant.mail_room
    c.self.invariant.helds

pub invariant_of-self-2 : goal.invariant_of-self-2
invariant_of-self-2 g c =
    let p = c.args.pass.now in
    let k = c.args.controller.now in
    let x = steps.Armed (number p) c.args.kind c.args.at in
    let may : MayDo g.N.RunName.declaration g.N.RunName.script c.self.inside.log.history c.self.inside.inputs.items
    (controls.Armed (number p) c.args.kind c.args.at) =
    subst (λ (v : Shown). MayDo g.N.RunName.declaration g.N.RunName.script v.history v.open_inputs
    (controls.Armed (number p) c.args.kind c.args.at)) (sym c.self.view_is) c.requires.may in
    let m1 : Met p c.in-Some-take.right c.look-right.new.pass c.look-right.result [] (room p) =
    met_as c.look-right.ensures.met refl c.room-kept.ensures in
    let mc : Met k c.look-right.result c.add-right.new.pass c.add-right.result (x ∷ []) (room k) =
    subst (λ a. Met k c.look-right.result c.add-right.new.pass c.add-right.result
    (steps.Armed a c.args.kind c.args.at ∷ []) (room k)) c.number-actor.ensures c.add-right.ensures.met in
    let ac : all c.add-right.result ≡ all c.look-right.result ++ marked (number k) x ∷ [] = c.add-right.ensures.all
    ∙ ap (λ a. all c.look-right.result ++ marked (number k) (steps.Armed a c.args.kind c.args.at) ∷ [])
    c.number-actor.ensures in
    let m2 : Met c.look-right.new.pass c.add-right.result c.look-right-2.new.pass c.look-right-2.result [] (room p) =
    met_as c.look-right-2.ensures.met refl c.room-kept.ensures in
    let grown : HasGrown c.reserve.new.self c.add-right.new.log (marked (number k) x ∷ []) =
    subst (λ a. HasGrown c.reserve.new.self c.add-right.new.log
    (marked (number k) (steps.Armed a c.args.kind c.args.at) ∷ [])) c.number-actor.ensures c.add-right.ensures.log
    in
    let fits : (c.self.inside.reserved + c.self.inside.spare) + 1 ≤ c.reserve.new.self.room = search (rules, arith) in
    let bound : length c.self.inside.log.history + ((c.self.inside.reserved + c.self.inside.spare) + 1) ≤ most_history =
    search (rules, arith) in
    arms_on c.self.invariant c.in-Some-take.right
    (sym c.take.ensures.value ∙ c.in-Some-take.is) p _ _ k _ _ _ _ c.args.kind c.args.at c.requires.numbers.0 may m1
    c.look-right.ensures.all mc ac m2 c.look-right-2.ensures.all
    c.reserve.new.self c.add-right.new.log c.control.new.self c.in_ok-reserve.ensures.same fits bound grown
    c.control.ensures.room c.control.ensures.inboxes

pub returns-clause-ok : goal.returns-clause-ok
returns-clause-ok g c =
    let p = c.args.pass.now in
    let k = c.args.controller.now in
    let x = steps.Armed (number p) c.args.kind c.args.at in
    let may : MayDo g.N.RunName.declaration g.N.RunName.script c.self.inside.log.history c.self.inside.inputs.items
    (controls.Armed (number p) c.args.kind c.args.at) =
    subst (λ (v : Shown). MayDo g.N.RunName.declaration g.N.RunName.script v.history v.open_inputs
    (controls.Armed (number p) c.args.kind c.args.at)) (sym c.self.view_is) c.requires.may in
    let m1 : Met p c.in-Some-take.right c.look-right.new.pass c.look-right.result [] (room p) =
    met_as c.look-right.ensures.met refl c.room-kept.ensures in
    let mc : Met k c.look-right.result c.add-right.new.pass c.add-right.result (x ∷ []) (room k) =
    subst (λ a. Met k c.look-right.result c.add-right.new.pass c.add-right.result
    (steps.Armed a c.args.kind c.args.at ∷ []) (room k)) c.number-actor.ensures c.add-right.ensures.met in
    let ac : all c.add-right.result ≡ all c.look-right.result ++ marked (number k) x ∷ [] = c.add-right.ensures.all
    ∙ ap (λ a. all c.look-right.result ++ marked (number k) (steps.Armed a c.args.kind c.args.at) ∷ [])
    c.number-actor.ensures in
    let m2 : Met c.look-right.new.pass c.add-right.result c.look-right-2.new.pass c.look-right-2.result [] (room p) =
    met_as c.look-right-2.ensures.met refl c.room-kept.ensures in
    let grown : HasGrown c.reserve.new.self c.add-right.new.log (marked (number k) x ∷ []) =
    subst (λ a. HasGrown c.reserve.new.self c.add-right.new.log
    (marked (number k) (steps.Armed a c.args.kind c.args.at) ∷ [])) c.number-actor.ensures c.add-right.ensures.log
    in
    subst (λ (v : Shown). Arms g.N.RunName.declaration p c.look-right-2.new.pass v.history c.add-right.new.log.history
    c.args.kind c.args.at) c.self.view_is
    (armed c.self.invariant c.in-Some-take.right
    (sym c.take.ensures.value ∙ c.in-Some-take.is) p _ _ k _ _ _ _ c.args.kind c.args.at c.requires.numbers.0 may m1
    c.look-right.ensures.all mc ac m2 c.look-right-2.ensures.all
    c.reserve.new.self c.add-right.new.log c.in_ok-reserve.ensures.same grown)
