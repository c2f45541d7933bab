use Rattle.std.proofs.Common.{rules, ◌≡◌, ◌+◌, ◌≤◌, ◌∙◌, Some, None, arith, length, refl, sym, slice_get, subst}
use Rattle.qc_script.specs.Vocabulary.{controls_left}
use Rattle.qc_fabric.specs.Vocabulary.{Shown, full_of, most_history}
use Rattle.qc_fabric.proofs.KeptParts.{other_memory}
use Rattle.qc_fabric.proofs.Ordered.{acts_on, first_within}
use Rattle.qc_fabric.proofs.state.FabricState.act.Goals as goal

pub control-requires : goal.control-requires
control-requires g c = first_within c.self.invariant

pub invariant_of-self : goal.invariant_of-self
invariant_of-self g c = other_memory c.self.invariant c.reserve.new.self c.self.inside.mailboxes
    c.self.inside.held.items c.in_err-reserve.ensures.same refl
    (omega (arith, c.self.invariant.log_room, c.in_err-reserve.ensures.kept)) c.self.invariant.mail_room
    c.self.invariant.helds

pub invariant_of-self-2 : goal.invariant_of-self-2
invariant_of-self-2 g c =
    let first : slice_get (controls_left g.N.RunName.script c.self.inside.log.history) 0 ≡ Some c.args.line =
    subst (λ (v : Shown). slice_get (controls_left g.N.RunName.script v.history) 0 ≡ Some c.args.line)
    (sym c.self.view_is) c.requires.first in
    let under : full_of c.self.inside.log.history ≡ None =
    subst (λ (v : Shown). full_of v.history ≡ None) (sym c.self.view_is) c.requires.below in
    let fits : (c.self.inside.reserved + c.self.inside.spare) + 1 ≤ c.reserve.new.self.room = search (rules, arith) in
    let bound : length c.self.inside.log.history + ((c.self.inside.reserved + c.self.inside.spare) + 1) ≤ most_history =
    search (rules, arith) in
    acts_on c.self.invariant c.in-Some-take.right
    (sym c.take.ensures.value ∙ c.in-Some-take.is) c.args.pass.now c.add-right.new.pass c.add-right.result
    c.args.line c.step_of-step.result c.requires.controller first under c.step_of-step.ensures
    c.add-right.ensures.met c.add-right.ensures.all
    c.reserve.new.self c.add-right.new.log c.control.new.self c.in_ok-reserve.ensures.same fits bound
    c.add-right.ensures.log c.control.ensures.room c.control.ensures.inboxes
