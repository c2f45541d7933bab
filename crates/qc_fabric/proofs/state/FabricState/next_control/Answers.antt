use Rattle.std.proofs.Common.{◌≡◌, ◌∙◌, List, ap, slice_get, subst}
use Rattle.qc_mailbox.proofs.Bounds.{trays_show_controls}
use Rattle.qc_msg.specs.declared.step.Control.{Control}
use Rattle.qc_script.specs.Vocabulary.{controls_left}
use Rattle.qc_fabric.specs.Vocabulary.{Shown}
use Rattle.qc_fabric.proofs.state.FabricState.next_control.Goals as goal

pub returns : goal.returns
returns g c =
    let is : c.next_control.result ≡ slice_get (controls_left g.N.RunName.script c.self.inside.log.history) 0 =
    c.next_control.ensures ∙ ap (λ (cs : List Control). slice_get cs 0)
    (trays_show_controls g.N.RunName.script c.self.inside.log.history c.self.inside.mailboxes.inboxes
    c.self.invariant.kept) in
    subst (λ (v : Shown). c.next_control.result ≡ slice_get (controls_left g.N.RunName.script v.history) 0)
    c.self.view_is is
