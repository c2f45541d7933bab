-- What is due of one of a site's deeds.
use Rattle.std.proofs.Common.{ℕ, zero, suc, List, [], ◌∷◌, ◌++◌}
use Rattle.qc_decl.specs.declared.declaration.Declaration.{Declaration}
use Rattle.qc_msg.specs.Vocabulary.{Deed}
use Rattle.qc_promise.specs.Vocabulary.{AreDue, IsDueAt}

abbrev pub PostAt : ℕ → Declaration → List Deed → List Deed → Type 0
PostAt k decl before [] = Unit {0}
PostAt zero decl before (d ∷ after) = IsDueAt decl before d after
PostAt (suc k) decl before (d ∷ after) = PostAt k decl (before ++ d ∷ []) after

pub post_at : (k : ℕ) (decl : Declaration) (before ds : List Deed) → AreDue decl before ds → PostAt k decl before ds
post_at k decl before [] all = tt
post_at zero decl before (d ∷ after) all = all.0
post_at (suc k) decl before (d ∷ after) all = post_at k decl (before ++ d ∷ []) after all.1
