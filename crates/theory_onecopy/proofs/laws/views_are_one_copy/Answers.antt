use Rattle.theory_onecopy.proofs.Walk.{views_are_one_copy}
use Rattle.theory_onecopy.proofs.laws.views_are_one_copy.Goals as goal

pub returns : goal.returns
returns c decl all exact v = views_are_one_copy decl exact all v
