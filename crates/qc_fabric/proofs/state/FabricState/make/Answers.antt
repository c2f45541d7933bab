use Rattle.std.proofs.Common.{◌≡◌, ◌+◌, ◌∙◌, ap, replicate, false}
use Rattle.qc_decl.specs.Vocabulary.{actors}
use Rattle.qc_decl.specs.declared.declaration.Declaration.{Declaration}
use Rattle.qc_mailbox.specs.Vocabulary.{empty_inboxes}
use Rattle.qc_fabric.specs.Vocabulary.{Logged}
use Rattle.qc_fabric.proofs.Kept.{starts}
use Rattle.qc_fabric.proofs.state.FabricState.make.Goals as goal

pub invariant_of-result : goal.invariant_of-result
invariant_of-result g c =
    let n : c.args.decl.now.sites + c.args.decl.now.clients + 1 ≡ actors g.N.RunName.declaration =
    ap (λ (d : Declaration). d.sites + d.clients + 1) c.requires.declaration in
    starts (g.C.Conduct.lawful g.N.RunName.declaration)
    (g.C.Conduct.fits g.N.RunName.declaration) g.N.RunName.declaration g.N.RunName.script g.N.RunName.table
    c.args.script c.new-2.result c.in_ok-mailboxes.mailboxes c.in_ok-inputs.inputs.items c.in_ok-held.held.items _
    c.args.right
    c.requires.script (ap (λ (l : Logged). l.history) c.new-2.ensures)
    (c.in_ok-mailboxes.ensures.inboxes ∙ ap empty_inboxes c.requires.script)
    (c.in_ok-inputs.ensures ∙ ap (λ k. replicate k false) n)
    (c.in_ok-held.ensures ∙ ap (λ k. replicate k false) n) c.requires.table c.requires.right c.requires.sound
    c.requires.few c.requires.down
