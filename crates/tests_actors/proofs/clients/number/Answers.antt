-- Numbers keep the client young.
use Rattle.qc_client.specs.Vocabulary.{ClientFits}
use Rattle.tests_actors.proofs.Young.{after_numbers, young_fits}
use Rattle.tests_actors.proofs.clients.number.Goals as goal

pub sent-requires-clause-front : goal.sent-requires-clause-front
sent-requires-clause-front c =
    let fits : ClientFits c.args.client.now =
    young_fits c.args.decl.now c.args.client.now c.args.age c.requires.accepted c.requires.young c.requires.few in
    fits.front.few

pub returns : goal.returns
returns c =
    after_numbers c.args.decl.now c.args.client.now c.sent.new.self c.args.age c.args.first c.requires.young
    c.sent.ensures
