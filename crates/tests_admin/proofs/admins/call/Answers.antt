use Rattle.tests_admin.proofs.Taking.{after_command}
use Rattle.tests_admin.proofs.admins.call.Goals as goal

pub returns : goal.returns
returns c =
    after_command c.args.decl.now c.args.admin.now c.command.new.self c.args.command c.command.result
    c.requires.accepted c.requires.fits c.command.ensures.ok
