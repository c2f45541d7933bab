-- A number that is between two others.
use Rattle.std.proofs.Common.{◌≡◌, ℕ, ◌≤◌, nat_le, true}
use Rattle.std.proofs.lemmas.Bool.{leb-true}
use Rattle.qc_decl.specs.Vocabulary.{is_between}
use Rattle.qc_list.proofs.Booleans.{and_parts}

pub between : (first last n : ℕ) → is_between first last n ≡ true → (first ≤ n) × (n ≤ last)
between first last n is = let parts = and_parts (nat_le first n) (nat_le n last) is in
    (leb-true first n parts.0, leb-true n last parts.1)
