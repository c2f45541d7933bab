use Rattle.std.proofs.Common.{rules, ◌≡◌, ◌+◌, ◌<◌, ◌≤◌, ◌∙◌, List, Some, ap, arith, get_or, length, refl, sym}
use Rattle.std.proofs.Common.{slice_get, subst}
use Rattle.std.proofs.lemmas.Option.{slice_get-get_or}
use Rattle.qc_msg.specs.declared.step.Control.TheVariants.{Phase}
use Rattle.qc_script.specs.declared.script.PhaseLines.{PhaseLines}
use Rattle.qc_script.specs.declared.script.Script.{Script}
use Rattle.qc_fabric.specs.Vocabulary.{MayDo, Shown, most_history}
use Rattle.qc_fabric.proofs.KeptParts.{other_memory}
use Rattle.qc_fabric.proofs.Ordered.{begins_on}
use Rattle.qc_fabric.proofs.state.FabricState.begin_phase.Goals as goal

pub invariant_of-self : goal.invariant_of-self
invariant_of-self g c = other_memory c.self.invariant c.reserve.new.self c.self.inside.mailboxes
    c.self.inside.held.items c.in_err-reserve.ensures.same refl
    (omega (arith, c.self.invariant.log_room, c.in_err-reserve.ensures.kept)) c.self.invariant.mail_room
    c.self.invariant.helds

pub invariant_of-self-in_err-begin_phase : goal.invariant_of-self-in_err-begin_phase
invariant_of-self-in_err-begin_phase g c =
    other_memory c.self.invariant c.reserve.new.self c.begin_phase.new.self c.self.inside.held.items
    c.in_ok-reserve.ensures.same c.in_err-begin_phase.ensures.err
    (omega (arith, c.self.invariant.log_room, c.in_ok-reserve.ensures.kept))
    (omega (arith, c.self.invariant.mail_room, c.begin_phase.ensures.room)) c.self.invariant.helds

pub invariant_of-self-2 : goal.invariant_of-self-2
invariant_of-self-2 g c =
    let may : MayDo g.N.RunName.declaration g.N.RunName.script c.self.inside.log.history c.self.inside.inputs.items
    (Phase c.args.phase) = subst (λ (v : Shown). MayDo g.N.RunName.declaration g.N.RunName.script v.history
    v.open_inputs (Phase c.args.phase)) (sym c.self.view_is) c.requires.may in
    let within : c.self.inside.phase < length c.self.inside.script.phases =
    omega (
      arith,
      may.next.2,
      c.self.invariant.phase_is,
      ap (λ (s : Script). length s.phases) c.self.invariant.script_is,
    ) in
    let here : slice_get c.self.inside.script.phases c.self.inside.phase ≡ Some c.index-items-self.result =
    slice_get-get_or c.self.inside.script.phases c.self.inside.phase c.index-items-self.result within
    ∙ ap Some (sym (subst (λ (v : List PhaseLines). c.index-items-self.result
    ≡ get_or v c.self.inside.phase c.index-items-self.result) c.items.ensures c.index-items-self.is)) in
    let there : slice_get g.N.RunName.script.phases c.self.inside.phase ≡ Some c.index-items-self.result =
    ap (λ (s : Script). slice_get s.phases c.self.inside.phase) (sym c.self.invariant.script_is) ∙ here in
    let fits : (c.self.inside.reserved + c.self.inside.spare) + 1 ≤ c.reserve.new.self.room = search (rules, arith) in
    let bound : length c.self.inside.log.history + ((c.self.inside.reserved + c.self.inside.spare) + 1) ≤ most_history =
    search (rules, arith) in
    begins_on c.self.invariant c.in-Some-take.right
    (sym c.take.ensures.value ∙ c.in-Some-take.is) c.args.pass.now c.add-right.new.pass c.add-right.result
    c.args.phase c.index-items-self.result c.requires.controller may there c.add-right.ensures.met
    c.add-right.ensures.all
    c.reserve.new.self c.add-right.new.log c.begin_phase.new.self c.in_ok-reserve.ensures.same fits bound
    c.add-right.ensures.log c.begin_phase.ensures.room c.in_ok-begin_phase.ensures.ok
