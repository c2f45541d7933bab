use Rattle.tests_admin.proofs.Taking.{after_loss}
use Rattle.tests_admin.proofs.admins.lose.Goals as goal

pub returns : goal.returns
returns c =
    after_loss c.args.decl.now c.args.admin.now c.lose.new.self c.args.number c.lose.result c.requires.accepted
    c.requires.fits c.lose.ensures.ok
