use Rattle.tests_admin.proofs.Taking.{after_message}
use Rattle.tests_admin.proofs.admins.hear.Goals as goal

pub returns : goal.returns
returns c =
    after_message c.args.decl.now c.args.admin.now c.hear.new.self c.args.message.now c.hear.result c.requires.accepted
    c.requires.fits c.requires.message c.hear.ensures.ok
