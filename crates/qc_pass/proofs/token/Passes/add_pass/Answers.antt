use Rattle.qc_pass.proofs.Making.{sets_up}
use Rattle.qc_pass.proofs.token.Passes.add_pass.Goals as goal

pub returns-clause-set_up : goal.returns-clause-set_up
returns-clause-set_up g c =
    let right = c.split_pass-pass.ensures.right in
    sets_up _ c.args.right.now _ c.args.each.now.items _ c.split_pass-pass.result c.requires.set_up
    c.split_pass-pass.ensures.pass right.0 right.1 right.2 right.3 c.in_ok-push.ensures.items
