-- The declarations of the runs, beside the built-in ones.
use Rattle.std.specs.Prelude.{ℕ, List, [], ◌∷◌, ◌++◌, codes, length, take}
use Rattle.qc_decl.specs.Vocabulary.{register, register_kind, register_names, register_pairs, register_plan, row}
use Rattle.qc_decl.specs.declared.declaration.Declaration.{Declaration}
use Rattle.qc_decl.specs.declared.declaration.KindNames.{KindNames}
use Rattle.qc_plan.specs.declared.plan.Plan.{Plan}
use Rattle.qc_table.specs.Vocabulary.{Rules, relation_of}
use Rattle.qc_table.specs.declared.kind.Kind.{Kind}
use Rattle.qc_table.specs.declared.row.Row.{Row}

-- so many sites, and objects of one type, with a plan for each epoch; of the objects the first two have names
abbrev pub store : ℕ → Kind → KindNames → List ℕ → List Plan → Declaration
store actors kind names objects plans = record {
  sites = actors;
  clients = actors;
  kinds = kind ∷ [];
  objects = objects;
  plans = plans;
  kind_names = names ∷ [];
  object_names = take (length objects) (codes "x" ∷ codes "y" ∷ []);
}

-- a register that moves from the first site to the second and the third
abbrev pub moving_register : Declaration
moving_register =
    store 3 register_kind register_names (0 ∷ [])
    (register_plan (1 ∷ 0 ∷ 0 ∷ []) 1 ∷ register_plan (0 ∷ 1 ∷ 0 ∷ []) 1 ∷ register_plan (0 ∷ 0 ∷ 1 ∷ []) 1 ∷ [])

-- the built-in register at three sites, two of which are each quorum, with a second epoch
abbrev pub three_in_two_epochs : Declaration
three_in_two_epochs =
    store 3 register_kind register_names (0 ∷ [])
    (register_plan (1 ∷ 1 ∷ 1 ∷ []) 2 ∷ register_plan (1 ∷ 1 ∷ 1 ∷ []) 2 ∷ [])

-- Of two registers at two sites an event is written at either site, and read at both; so the close needs both.
abbrev pub two_registers_plan : Plan
two_registers_plan = record {
  weights = 1 ∷ 1 ∷ [];
  initial = (2 ∷ 0 ∷ 0 ∷ []) ∷ (2 ∷ 0 ∷ 0 ∷ []) ∷ [];
  last = (0 ∷ 0 ∷ 1 ∷ 1 ∷ []) ∷ (0 ∷ 0 ∷ 1 ∷ 1 ∷ []) ∷ [];
}

-- the two registers, in two epochs with this plan
abbrev pub two_registers : Declaration
two_registers = store 2 register_kind register_names (0 ∷ 0 ∷ []) (two_registers_plan ∷ two_registers_plan ∷ [])

-- A latch is armed, fired and looked at. Firing it has an effect where it is armed, and is answered ok in any case; a
-- look tells whether it has fired. So Fire depends on Arm:ok and Look on Fire:ok, and a log that has a Fire without
-- its Arm misleads.
abbrev pub arm_rows : List Row
arm_rows = row 0 0 0 1 ∷ row 1 0 0 1 ∷ row 2 0 0 2 ∷ []

-- Fire: an armed latch has fired, any other stays
abbrev pub fire_rows : List Row
fire_rows = row 0 1 0 0 ∷ row 1 1 0 2 ∷ row 2 1 0 2 ∷ []

-- Look: whether it has fired
abbrev pub look_rows : List Row
look_rows = row 0 2 1 0 ∷ row 1 2 1 1 ∷ row 2 2 2 2 ∷ []

-- unarmed, armed and fired are the states 0, 1 and 2
abbrev pub latch : Rules
latch = record {
  states = 3;
  invs = 3;
  resps = 3;
  start = 0;
  rows = arm_rows ++ fire_rows ++ look_rows;
}

-- Fire depends on Arm:ok, and Look on Fire:ok
abbrev pub latch_kind : Kind
latch_kind = record {
  table = latch;
  relation = relation_of (record { inv = 1; event = 0 } ∷ record { inv = 2; event = 1 } ∷ []);
}

-- at two sites Arm is appended at one and read at both, Fire is appended at both and read at one
abbrev pub latch_plan : Plan
latch_plan = record { weights = 1 ∷ 1 ∷ []; initial = (0 ∷ 2 ∷ 1 ∷ []) ∷ []; last = (1 ∷ 2 ∷ 0 ∷ 0 ∷ []) ∷ [] }

abbrev pub latch_names : KindNames
latch_names = record {
  name = codes "latch";
  states = codes "idle" ∷ codes "armed" ∷ codes "fired" ∷ [];
  invs = codes "Arm" ∷ codes "Fire" ∷ codes "Look" ∷ [];
  resps = codes "ok" ∷ codes "no" ∷ codes "yes" ∷ [];
}

-- the latch at two sites
abbrev pub latch_store : Declaration
latch_store = store 2 latch_kind latch_names (0 ∷ []) (latch_plan ∷ [])

-- a ticket can be taken once: then Take has no response
abbrev pub ticket : Rules
ticket = record { states = 2; invs = 1; resps = 1; start = 0; rows = row 0 0 0 1 ∷ [] }

-- Take depends on Take:ok
abbrev pub ticket_kind : Kind
ticket_kind = record { table = ticket; relation = relation_of (record { inv = 0; event = 0 } ∷ []) }

abbrev pub ticket_names : KindNames
ticket_names = record {
  name = codes "ticket";
  states = codes "free" ∷ codes "taken" ∷ [];
  invs = codes "Take" ∷ [];
  resps = codes "ok" ∷ [];
}

-- the ticket at one site
abbrev pub ticket_store : Declaration
ticket_store =
    store 1 ticket_kind ticket_names (0 ∷ [])
    (record { weights = 1 ∷ []; initial = (1 ∷ []) ∷ []; last = (1 ∷ []) ∷ [] } ∷ [])

-- a register whose relation names an invocation that the type lacks, as dependent on the write of 1
abbrev pub extra_kind : Kind
extra_kind = record { table = register; relation = relation_of (record { inv = 7; event = 3 } ∷ register_pairs) }

-- this register at one site
abbrev pub extra_store : Declaration
extra_store = store 1 extra_kind register_names (0 ∷ []) (register_plan (1 ∷ []) 1 ∷ [])
