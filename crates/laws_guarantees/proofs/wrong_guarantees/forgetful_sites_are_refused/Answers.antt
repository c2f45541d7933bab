use Rattle.std.proofs.Common.{◌≡◌, true, false, refl}
use Rattle.laws_guarantees.proofs.wrong_guarantees.forgetful_sites_are_refused.Goals as goal

pub returns-clause-kept : goal.returns-clause-kept
returns-clause-kept c = record { held = refl; fits = refl }

pub returns-clause-nothing : goal.returns-clause-nothing
returns-clause-nothing c r = let held : false ≡ true = r.held in let never : ⊥ = cc in never

pub returns-clause-refused : goal.returns-clause-refused
returns-clause-refused c r = let held : false ≡ true = r.held in let never : ⊥ = cc in never

pub returns-clause-ended : goal.returns-clause-ended
returns-clause-ended c r = let held : false ≡ true = r.held in let never : ⊥ = cc in never
