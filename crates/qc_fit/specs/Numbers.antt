-- Whether a number is declared: an actor's, a client's, an epoch's, and those of an object's type; and whether a clock
-- leaves room for a run.
use Rattle.std.specs.Prelude.{ℕ, ◌^◌, Bool, true, false, ◌==◌, ◌&&◌, nat_le, nat_lt, length, Option, Some, None}
use Rattle.std.specs.Prelude.{is_some}
use Rattle.std.specs.Option.{option_map_or}
use Rattle.qc_decl.specs.Vocabulary.{administrator, client_actor, is_client, plan_in, table_at}
use Rattle.qc_decl.specs.declared.declaration.Declaration.{Declaration}
use Rattle.qc_table.specs.Vocabulary.{Rules, events_of}

-- The number below which the records before a record stay, so that lives, which records count, stay below 2^32.
abbrev pub most_records : ℕ
most_records = 2 ^ 31

-- The greatest clock of a record that fits, half of the greatest that is spelled: what rises from it doesn't get there.
abbrev pub greatest_clock : ℕ
greatest_clock = 2 ^ 61

abbrev pub is_clock : ℕ → Bool
is_clock clock = nat_le clock greatest_clock

-- Actors. Sites and clients have their tests in `qc_decl`.

abbrev pub is_administrator : Declaration → ℕ → Bool
is_administrator decl actor = actor == administrator decl

-- the actor is the client of this number
abbrev pub is_this_client : Declaration → ℕ → ℕ → Bool
is_this_client decl actor client = is_client decl actor && (actor == client_actor decl client)

-- What a declaration has.

abbrev pub has_client : Declaration → ℕ → Bool
has_client decl client = nat_lt client decl.clients

abbrev pub has_epoch : Declaration → ℕ → Bool
has_epoch decl epoch = is_some (plan_in decl epoch)

-- What an object's type has. An object that isn't declared has none of it.

abbrev pub has_invocation : Declaration → ℕ → ℕ → Bool
has_invocation decl object inv = option_map_or (λ (t : Rules). nat_lt inv t.invs) (table_at decl object) false

-- no response is one that every object has
abbrev pub has_response : Declaration → ℕ → Option ℕ → Bool
has_response decl object None = true
has_response decl object (Some resp) =
    option_map_or (λ (t : Rules). nat_lt resp t.resps) (table_at decl object) false

abbrev pub has_event : Declaration → ℕ → ℕ → Bool
has_event decl object event =
    option_map_or (λ (t : Rules). nat_lt event (length (events_of t.rows))) (table_at decl object) false
