-- Deeds as code has them, one at a time.
use Rattle.std.proofs.Common.{◌≡◌, ℕ, ◌+◌, ◌<◌, List, [], ◌∷◌, ◌++◌, length, get_or, map, take, drop, ap, ◌∙◌}
use Rattle.std.proofs.lemmas.List.{map-append}
use Rattle.qc_text.specs.Vocabulary.{deed_of}
use Rattle.qc_text.specs.declared.deeds.Deed.{Deed as Found}
use Rattle.qc_text.proofs.More.{more}
use Rattle.qc_list.proofs.Places.{drop_at}

-- the deed at a place, and those after it
pub found_rest : (xs : List Found) (i : ℕ) (x d : Found) → i < length xs → x ≡ get_or xs i d
    → map deed_of (drop i xs) ≡ deed_of x ∷ map deed_of (drop (i + 1) xs)
found_rest xs i x d l e = ap (map deed_of) (drop_at xs i x d l e)

pub found_more : (xs : List Found) (i : ℕ) (x d : Found) → i < length xs → x ≡ get_or xs i d
    → map deed_of (take (i + 1) xs) ≡ map deed_of (take i xs) ++ deed_of x ∷ []
found_more xs i x d l e = ap (map deed_of) (more xs i x d l e) ∙ map-append deed_of (take i xs) (x ∷ [])
