-- A command keeps the client young.
use Rattle.tests_actors.proofs.Young.{after_command, young_fits}
use Rattle.tests_actors.proofs.clients.call.Goals as goal

pub command-requires-clause-fits : goal.command-requires-clause-fits
command-requires-clause-fits c =
    young_fits c.args.decl.now c.args.client.now c.args.age c.requires.accepted c.requires.young c.requires.few

pub returns : goal.returns
returns c =
    after_command c.args.decl.now c.args.client.now c.command.new.self c.args.age c.args.command c.command.result
    c.requires.accepted c.requires.young c.command.ensures.ok
