-- A lost request keeps the client young.
use Rattle.tests_actors.proofs.Young.{after_lost, young_fits}
use Rattle.tests_actors.proofs.clients.lose.Goals as goal

pub lose-requires-clause-fits : goal.lose-requires-clause-fits
lose-requires-clause-fits c =
    young_fits c.args.decl.now c.args.client.now c.args.age c.requires.accepted c.requires.young c.requires.few

pub returns : goal.returns
returns c =
    after_lost c.args.decl.now c.args.client.now c.lose.new.self c.args.age c.args.number c.lose.result c.requires.young
    c.lose.ensures.ok
