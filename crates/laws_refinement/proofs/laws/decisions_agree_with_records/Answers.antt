use Rattle.laws_refinement.proofs.NetLaws.{decisions_agree_with_records}
use Rattle.laws_refinement.proofs.laws.decisions_agree_with_records.Goals as goal

pub returns : goal.returns
returns c decl net e tx verdict accepted reached sent is =
    decisions_agree_with_records decl accepted net reached e tx verdict sent is
