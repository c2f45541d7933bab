-- A client that rises from records with small clocks is young.
use Rattle.std.proofs.Common.{subst}
use Rattle.qc_client.specs.Vocabulary.{ClientMove}
use Rattle.tests_actors.specs.Young.{IsYoung}
use Rattle.tests_actors.proofs.ClientJournals.{risen_young}
use Rattle.tests_actors.proofs.client_rises.rise.Goals as goal

pub returns : goal.returns
returns c =
    subst (λ (m : ClientMove). IsYoung c.args.decl.now m.client 0) c.in_ok-risen.ensures
    (risen_young c.args.decl.now 1 c.args.records.now c.requires.small)
