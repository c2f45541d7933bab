use Rattle.std.proofs.Common.{rules, ◌≡◌, ◌+◌, ◌≤◌, ◌∙◌, Some, true, arith, length, refl, sym, slice_get}
use Rattle.qc_mailbox.specs.Vocabulary.{is_held}
use Rattle.qc_pass.specs.Vocabulary.{number}
use Rattle.qc_fabric.specs.Vocabulary.{most_history}
use Rattle.qc_fabric.proofs.Fed.{bit_set}
use Rattle.qc_fabric.proofs.Gains.{saw}
use Rattle.qc_fabric.proofs.KeptParts.{other_memory, unarmed_of}
use Rattle.qc_fabric.proofs.Kept.{reserves_on}
use Rattle.qc_fabric.proofs.state.FabricState.reserve.Goals as goal

pub invariant_of-self : goal.invariant_of-self
invariant_of-self g c = other_memory c.self.invariant c.reserve.new.self c.self.inside.mailboxes
    c.self.inside.held.items c.in_err-reserve.ensures.same refl
    (omega (arith, c.self.invariant.log_room, c.in_err-reserve.ensures.kept)) c.self.invariant.mail_room
    c.self.invariant.helds

pub invariant_of-self-in_err-reserve-2 : goal.invariant_of-self-in_err-reserve-2
invariant_of-self-in_err-reserve-2 g c =
    other_memory c.self.invariant c.reserve.new.self c.reserve-2.new.self c.self.inside.held.items
    c.in_ok-reserve.ensures.same c.in_err-reserve-2.ensures.same
    (omega (arith, c.self.invariant.log_room, c.in_ok-reserve.ensures.kept))
    (omega (arith, c.self.invariant.mail_room, c.in_err-reserve-2.ensures.kept)) c.self.invariant.helds

pub invariant_of-self-2 : goal.invariant_of-self-2
invariant_of-self-2 g c =
    let p = c.args.pass.now in
    let set : is_held c.self.inside.inputs.items (number p) ≡ true = search rules in
    let is_open : slice_get c.self.inside.inputs.items (number p) ≡ Some true =
    bit_set c.self.inside.inputs.items (number p) set in
    let log_fits : (c.self.inside.reserved + c.self.inside.spare) + c.in_ok-size.size ≤ c.reserve.new.self.room =
    search (rules, arith) in
    let mail_fits : (c.self.inside.reserved + c.self.inside.spare) + c.in_ok-size.size ≤ c.reserve-2.new.self.room =
    search (rules, arith) in
    let bound : length c.self.inside.log.history +
    ((c.self.inside.reserved + c.self.inside.spare) + c.in_ok-size.size) ≤ most_history = search (rules, arith) in
    reserves_on c.self.invariant c.in-Some-take.right
    (sym c.take.ensures.value ∙ c.in-Some-take.is) p c.look-right.new.pass c.look-right.result c.in_ok-size.size
    is_open c.requires.room c.look-right.ensures.met c.look-right.ensures.all
    c.reserve.new.self c.reserve-2.new.self c.in_ok-reserve.ensures.same c.in_ok-reserve-2.ensures.same log_fits
    mail_fits bound

pub returns-clause-ok : goal.returns-clause-ok
returns-clause-ok g c = (
  saw _ _ _ _ _ c.look-right.ensures.met c.look-right.ensures.all
      (unarmed_of c.self.invariant c.in-Some-take.right (sym c.take.ensures.value ∙ c.in-Some-take.is)),
  c.look-right.ensures.met.room_is ∙ c.in_ok-size.ensures,
)
