use Rattle.qc_recover.specs.Clients.{nothing_kept}
use Rattle.qc_recover.proofs.ClientLaws.{clocks_passed, clocks_reached}
use Rattle.qc_recover.proofs.laws.clocks_are_the_greatest.Goals as goal

pub returns-clause-passed : goal.returns-clause-passed
returns-clause-passed c = λ client rs commit member. clocks_passed nothing_kept rs commit member

pub returns-clause-reached : goal.returns-clause-reached
returns-clause-reached c = λ client rs. clocks_reached nothing_kept rs
