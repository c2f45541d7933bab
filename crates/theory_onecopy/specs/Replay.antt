-- A replay of committed operations on one copy of each object, and the states that it ends in.
use Rattle.std.specs.Prelude.{ℕ, List, Option, Some, None, fold, map, slice_get, slice_set, option_map, option_and_then}
use Rattle.std.specs.Option.{option_map_or}
use Rattle.qc_entry.specs.declared.line.Op.{Op}
use Rattle.qc_entry.specs.declared.record.Commit.{Commit}
use Rattle.qc_decl.specs.declared.declaration.Declaration.{Declaration}
use Rattle.qc_decl.specs.Vocabulary.{table_at}
use Rattle.qc_table.specs.Vocabulary.{Rules, event, event_number, events_of, first_of, step_of}
use Rattle.qc_table.specs.declared.kind.Kind.{Kind}

-- an absent operation stands where no response is legal, and keeps the state
abbrev pub kept : ℕ → Option ℕ → Option ℕ
kept state None = Some state
kept state (Some number) = None

-- the state after an invocation with this response, or with none
abbrev pub state_after : Rules → ℕ → ℕ → Option ℕ → Option ℕ
state_after rules state inv None = kept state (first_of rules.rows state inv)
state_after rules state inv (Some resp) =
    option_and_then (step_of rules.rows state) (event_number (events_of rules.rows) (event inv resp))

-- an object that isn't declared has no row, so just an absent operation stands there
abbrev pub unlisted : List ℕ → Option ℕ → Option (List ℕ)
unlisted states None = Some states
unlisted states (Some resp) = None

-- the states after an operation on an object of these rules, or of none
abbrev pub states_by : Option Rules → List ℕ → Op → Option (List ℕ)
states_by None states op = unlisted states op.resp
states_by (Some rules) states op =
    option_and_then
    (λ state. option_map (λ next. slice_set states op.object next) (state_after rules state op.inv op.resp))
    (slice_get states op.object)

-- the states after an operation, none where its object has no such step
abbrev pub states_after : Declaration → List ℕ → Op → Option (List ℕ)
states_after decl states op = states_by (table_at decl op.object) states op

-- the states after one operation more; where a step was missing, one stays missing
abbrev pub replayed : Declaration → Option (List ℕ) → Op → Option (List ℕ)
replayed decl None op = None
replayed decl (Some states) op = states_after decl states op

-- the start state of a type
abbrev pub start_of : Declaration → ℕ → ℕ
start_of decl kind = option_map_or (λ (k : Kind). k.table.start) (slice_get decl.kinds kind) 0

-- the start state of each object
abbrev pub starts : Declaration → List ℕ
starts decl = map (start_of decl) decl.objects

-- the states after all operations of a transaction
abbrev pub replay_commit : Declaration → Option (List ℕ) → Commit → Option (List ℕ)
replay_commit decl states commit = fold (replayed decl) states commit.ops

-- the states after all operations of the transactions, in their order, from the start states
abbrev pub replay : Declaration → List Commit → Option (List ℕ)
replay decl commits = fold (replay_commit decl) (Some (starts decl)) commits
