-- What a declaration says of an object.
use Rattle.std.specs.Prelude.{ℕ, ◌==◌, ◌-◌, cond, List, [], Option, None, slice_get, option_map, option_and_then}
use Rattle.std.specs.Prelude.{unwrap_or}
use Rattle.std.specs.Option.{option_map_or}
use Rattle.qc_decl.specs.declared.declaration.Declaration.{Declaration}
use Rattle.qc_plan.specs.declared.plan.Plan.{Plan}
use Rattle.qc_plan.specs.Vocabulary.{need_of}
use Rattle.qc_table.specs.Vocabulary.{Rules, events_of}
use Rattle.qc_table.specs.declared.kind.Kind.{Kind}
use Rattle.qc_table.specs.declared.row.Event.{Event}

-- the type of an object
abbrev pub kind_at : Declaration → ℕ → Option Kind
kind_at decl object = option_and_then (slice_get decl.kinds) (slice_get decl.objects object)

-- the table of an object's type, or none where the object isn't declared
abbrev pub table_at : Declaration → ℕ → Option Rules
table_at decl object = option_and_then (λ kind. option_map (λ (k : Kind). k.table) (slice_get decl.kinds kind))
    (slice_get decl.objects object)

-- the plan of an epoch, from epoch 1
abbrev pub plan_in : Declaration → ℕ → Option Plan
plan_in decl epoch = cond (epoch == 0) None (slice_get decl.plans (epoch - 1))

-- the weight that a read round needs in an epoch
abbrev pub read_need_of : Declaration → ℕ → ℕ → ℕ → ℕ
read_need_of decl epoch object inv = option_map_or (λ (p : Plan). need_of p.initial object inv) (plan_in decl epoch) 0

-- the weight that an append round needs in an epoch
abbrev pub append_need_of : Declaration → ℕ → ℕ → ℕ → ℕ
append_need_of decl epoch object event = option_map_or (λ (p : Plan). need_of p.last object event)
    (plan_in decl epoch) 0

-- the weights of an epoch's plan; no transaction runs in an epoch that isn't declared
abbrev pub weights_of : Declaration → ℕ → List ℕ
weights_of decl epoch = option_map_or (λ (p : Plan). p.weights) (plan_in decl epoch) []

-- the dependency relation of an object's type; no run asks for an object that isn't declared, which depends on nothing
abbrev pub relation_at : Declaration → ℕ → List ℕ
relation_at decl object = option_map_or (λ (k : Kind). k.relation) (kind_at decl object) []

-- the response of an event, or 0 where there is no such event
abbrev pub resp_of : Declaration → ℕ → ℕ → ℕ
resp_of decl object event =
    unwrap_or
    (option_and_then (λ (rules : Rules). option_map (λ (e : Event). e.resp) (slice_get (events_of rules.rows) event))
    (table_at decl object)) 0
