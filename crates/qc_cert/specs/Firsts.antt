-- Which triples of a list stand nowhere before: those that a check looks at.
use Rattle.std.specs.Prelude.{ℕ, suc, Bool, not, ◌==◌, ◌&&◌, ◌++◌, List, [], ◌∷◌, Option, None, if◌then◌else◌}
use Rattle.std.specs.List.{list_any}
use Rattle.std.specs.Option.{option_or}
use Rattle.qc_cert.specs.Faults.{triple_fault}
use Rattle.qc_cert.specs.declared.fault.CertFault.{CertFault}
use Rattle.qc_cert.specs.declared.triple.Triple.{Triple}
use Rattle.qc_table.specs.declared.kind.Kind.{Kind}

abbrev pub is_same : Triple → Triple → Bool
is_same a b = (a.view == b.view) && ((a.log == b.log) && (a.out == b.out))

abbrev pub is_among : List Triple → Triple → Bool
is_among list t = list_any (λ a. is_same a t) list

-- for each triple of the second list, whether none equal to it stands before it there or in the first list
abbrev pub firsts_after : List Triple → List Triple → List Bool
firsts_after before [] = []
firsts_after before (t ∷ ts) = not (is_among before t) ∷ firsts_after (before ++ t ∷ []) ts

abbrev pub firsts : List Triple → List Bool
firsts list = firsts_after [] list

-- the triples with a mark
abbrev pub marked : List Bool → List Triple → List Triple
marked [] ts = []
marked (m ∷ ms) [] = []
marked (m ∷ ms) (t ∷ ts) = if m then t ∷ marked ms ts else marked ms ts

-- the triples of a list, each once
abbrev pub distinct : List Triple → List Triple
distinct list = marked (firsts list) list

-- the first fault of the triples with a mark, from a place on
abbrev pub marked_fault : Kind → List Triple → ℕ → List Bool → List Triple → Option CertFault
marked_fault kind list place [] ts = None
marked_fault kind list place (m ∷ ms) [] = None
marked_fault kind list place (m ∷ ms) (t ∷ ts) =
    option_or (if m then triple_fault kind list place t else None) (marked_fault kind list (suc place) ms ts)
