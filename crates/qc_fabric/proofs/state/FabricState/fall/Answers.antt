use Rattle.std.proofs.Common.{rules, ◌≡◌, ◌+◌, ◌≤◌, ◌∙◌, ap, arith, length, refl, sym, subst}
use Rattle.qc_mailbox.specs.Vocabulary.{Inboxes, after_fall_by_line, with_control_gone}
use Rattle.qc_msg.specs.declared.step.Control.TheVariants.{Crash}
use Rattle.qc_pass.specs.Vocabulary.{number}
use Rattle.qc_fabric.specs.Vocabulary.{FallsByLine, MayDo, Shown, most_history}
use Rattle.qc_fabric.proofs.KeptParts.{other_memory}
use Rattle.qc_fabric.proofs.Lines.{falls_on, fell_by_line}
use Rattle.qc_fabric.proofs.state.FabricState.fall.Goals as goal

pub invariant_of-self : goal.invariant_of-self
invariant_of-self g c = other_memory c.self.invariant c.reserve.new.self c.self.inside.mailboxes
    c.self.inside.held.items c.in_err-reserve.ensures.same refl
    (omega (arith, c.self.invariant.log_room, c.in_err-reserve.ensures.kept)) c.self.invariant.mail_room
    c.self.invariant.helds

pub invariant_of-self-2 : goal.invariant_of-self-2
invariant_of-self-2 g c =
    let p = c.args.pass.now in
    let may : MayDo g.N.RunName.declaration g.N.RunName.script c.self.inside.log.history c.self.inside.inputs.items
    (Crash (number p)) = subst (λ (v : Shown). MayDo g.N.RunName.declaration g.N.RunName.script v.history
    v.open_inputs (Crash (number p))) (sym c.self.view_is) c.requires.may in
    let fits : (c.self.inside.reserved + c.self.inside.spare) + 1 ≤ c.reserve.new.self.room = search (rules, arith) in
    let bound : length c.self.inside.log.history + ((c.self.inside.reserved + c.self.inside.spare) + 1) ≤ most_history =
    search (rules, arith) in
    let boxes : c.end_line.new.self.inboxes ≡ after_fall_by_line c.self.inside.mailboxes.inboxes (number p) =
    c.end_line.ensures.inboxes ∙ (ap (λ (i : Inboxes). with_control_gone i) c.fall.ensures.inboxes
    ∙ ap (λ a. after_fall_by_line c.self.inside.mailboxes.inboxes a) c.number-actor.ensures) in
    falls_on c.self.invariant c.in-Some-take.right
    (sym c.take.ensures.value ∙ c.in-Some-take.is) p c.add-right.new.pass c.add-right.result c.requires.actor may
    c.add-right.ensures.met c.add-right.ensures.all
    c.reserve.new.self c.add-right.new.log c.end_line.new.self c.in_ok-reserve.ensures.same fits bound
    c.add-right.ensures.log (c.end_line.ensures.room ∙ c.fall.ensures.room) boxes

pub returns-clause-ok : goal.returns-clause-ok
returns-clause-ok g c =
    let p = c.args.pass.now in
    let may : MayDo g.N.RunName.declaration g.N.RunName.script c.self.inside.log.history c.self.inside.inputs.items
    (Crash (number p)) = subst (λ (v : Shown). MayDo g.N.RunName.declaration g.N.RunName.script v.history
    v.open_inputs (Crash (number p))) (sym c.self.view_is) c.requires.may in
    subst (λ (v : Shown). FallsByLine (g.C.Conduct.lawful g.N.RunName.declaration)
    (g.C.Conduct.fits g.N.RunName.declaration) g.N.RunName.declaration g.N.RunName.script p c.add-right.new.pass
    v.history c.add-right.new.log.history) c.self.view_is
    (fell_by_line c.self.invariant c.in-Some-take.right
    (sym c.take.ensures.value ∙ c.in-Some-take.is) p c.add-right.new.pass c.add-right.result c.requires.actor may
    c.add-right.ensures.met c.add-right.ensures.all
    c.reserve.new.self c.add-right.new.log c.in_ok-reserve.ensures.same c.add-right.ensures.log)
