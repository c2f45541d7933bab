-- The built-in declarations: `@one` has one site, one client, and one register over 0 and 1; `@three` has three sites
-- and three clients, and each quorum is two of the sites.
use Rattle.std.specs.Prelude.{ℕ, List, [], ◌∷◌, Option, Some, None, cond, codes}
use Rattle.std.specs.Str.{bytes_eq}
use Rattle.qc_decl.specs.declared.declaration.KindNames.{KindNames}
use Rattle.qc_decl.specs.declared.declaration.Declaration.{Declaration}
use Rattle.qc_plan.specs.declared.plan.Plan.{Plan}
use Rattle.qc_table.specs.declared.row.Row.{Row}
use Rattle.qc_table.specs.Vocabulary.{Rules, relation_of}
use Rattle.qc_table.specs.declared.kind.Kind.{Kind}
use Rattle.qc_table.specs.declared.relation.Pair.{Pair}

abbrev pub row : ℕ → ℕ → ℕ → ℕ → Row
row state inv resp next = record { state = state; inv = inv; resp = resp; next = next }

-- The register: invocations R, W0, W1 and responses 0, 1, ok have the numbers 0, 1, 2.
abbrev pub register_rows : List Row
register_rows = row 0 0 0 0 ∷ row 1 0 1 1 ∷ row 0 1 2 0 ∷ row 1 1 2 0 ∷ row 0 2 2 1 ∷ row 1 2 2 1 ∷ []

abbrev pub register : Rules
register = record { states = 2; invs = 3; resps = 3; start = 0; rows = register_rows }

-- R depends on the events W0:ok and W1:ok, numbered 2 and 3.
abbrev pub register_pairs : List Pair
register_pairs = record { inv = 0; event = 2 } ∷ record { inv = 0; event = 3 } ∷ []

abbrev pub register_kind : Kind
register_kind = record { table = register; relation = relation_of register_pairs }

abbrev pub register_names : KindNames
register_names = record {
  name = codes "register";
  states = codes "0" ∷ codes "1" ∷ [];
  invs = codes "R" ∷ codes "W0" ∷ codes "W1" ∷ [];
  resps = codes "0" ∷ codes "1" ∷ codes "ok" ∷ [];
}

-- R needs so much weight to read; W0:ok and W1:ok need it to append.
abbrev pub register_plan : List ℕ → ℕ → Plan
register_plan weights need =
    record { weights = weights; initial = (need ∷ 0 ∷ 0 ∷ []) ∷ []; last = (0 ∷ 0 ∷ need ∷ need ∷ []) ∷ [] }

-- the register on so many sites of these weights, with so many clients
abbrev pub register_store : ℕ → List ℕ → ℕ → Declaration
register_store actors weights need = record {
  sites = actors;
  clients = actors;
  kinds = register_kind ∷ [];
  objects = 0 ∷ [];
  plans = register_plan weights need ∷ [];
  kind_names = register_names ∷ [];
  object_names = codes "x" ∷ [];
}

abbrev pub one : Declaration
one = register_store 1 (1 ∷ []) 1

abbrev pub three : Declaration
three = register_store 3 (1 ∷ 1 ∷ 1 ∷ []) 2

-- the built-in declaration of a name
abbrev pub built_in_of : List ℕ → Option Declaration
built_in_of name = cond (bytes_eq name (codes "@one")) (Some one)
    (cond (bytes_eq name (codes "@three")) (Some three) None)
