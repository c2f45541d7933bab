use Rattle.std.proofs.Common.{◌∷◌, ◌++◌, refl}
use Rattle.theory_onecopy.proofs.Seen.{answers_are_from_views}
use Rattle.theory_onecopy.proofs.laws.answers_are_from_views.Goals as goal

pub returns : goal.returns
returns c decl before after b v = answers_are_from_views decl (before ++ b ∷ after) v before b after refl
