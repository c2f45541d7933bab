-- Names as the declaration gives them.
use Rattle.std.specs.Prelude.{ℕ, List, [], Option, slice_get, unwrap_or, option_and_then}
use Rattle.std.specs.Option.{option_map_or}
use Rattle.qc_decl.specs.declared.declaration.Declaration.{Declaration}
use Rattle.qc_decl.specs.declared.declaration.KindNames.{KindNames}
use Rattle.qc_decl.specs.Vocabulary.{name_at}

-- the names of an object's type
abbrev pub names_of : Declaration → ℕ → Option KindNames
names_of decl object = option_and_then (λ kind. slice_get decl.kind_names kind) (slice_get decl.objects object)

abbrev pub object_name : Declaration → ℕ → List ℕ
object_name decl object = name_at decl.object_names object

abbrev pub invocation_name : Declaration → ℕ → ℕ → List ℕ
invocation_name decl object inv = option_map_or (λ (n : KindNames). name_at n.invs inv) (names_of decl object) []

abbrev pub response_name : Declaration → ℕ → ℕ → List ℕ
response_name decl object resp = option_map_or (λ (n : KindNames). name_at n.resps resp) (names_of decl object) []

abbrev pub state_name : Declaration → ℕ → ℕ → List ℕ
state_name decl object state = option_map_or (λ (n : KindNames). name_at n.states state) (names_of decl object) []
