-- A message keeps the client young.
use Rattle.tests_actors.proofs.Young.{after_message, few_promised, young_fits}
use Rattle.tests_actors.proofs.clients.hear.Goals as goal

pub hear-requires-clause-fits : goal.hear-requires-clause-fits
hear-requires-clause-fits c =
    young_fits c.args.decl.now c.args.client.now c.args.age c.requires.accepted c.requires.young c.requires.few

pub hear-requires-clause-promise : goal.hear-requires-clause-promise
hear-requires-clause-promise c = few_promised c.args.message.now c.requires.told

pub returns : goal.returns
returns c =
    after_message c.args.decl.now c.args.client.now c.hear.new.self c.args.age c.args.from 77 c.args.message.now
    c.hear.result c.requires.told c.requires.young c.hear.ensures.ok
