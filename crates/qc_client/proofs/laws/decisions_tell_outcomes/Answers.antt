use Rattle.qc_client.specs.Vocabulary.{after_inputs, new_client}
use Rattle.qc_client.proofs.Names.{all-well}
use Rattle.qc_client.proofs.Outcomes.{takes-tells}
use Rattle.qc_client.proofs.laws.decisions_tell_outcomes.Goals as goal

pub returns : goal.returns
returns c = λ decl number inputs given ready. takes-tells decl (after_inputs decl (new_client number) inputs) given
    (all-well decl number inputs ready)
