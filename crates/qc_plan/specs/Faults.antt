-- The first fault of a plan: no weight; then the first object with a threshold above all weight; then the first object,
-- invocation and event that can miss each other.
use Rattle.std.specs.Prelude.{ℕ, ◌+◌, Bool, ◌==◌, ◌&&◌, ◌||◌, nat_lt, nat_le, List, [], length, Option, Some, None}
use Rattle.std.specs.Prelude.{Result, Ok, Err, if◌then◌else◌, get_or, slice_get, option_and_then}
use Rattle.std.specs.List.{list_any}
use Rattle.std.specs.Option.{option_or}
use Rattle.qc_plan.specs.Need.{need_of}
use Rattle.qc_plan.specs.Weights.{total}
use Rattle.qc_plan.specs.declared.fault.PlanFault.{PlanFault}
use Rattle.qc_plan.specs.declared.fault.PlanFault.TheVariants.{NoWeight, TooHeavy, CanMiss}
use Rattle.qc_plan.specs.declared.plan.Plan.{Plan}
use Rattle.qc_table.specs.Vocabulary.{depends, events_of}
use Rattle.qc_list.specs.Vocabulary.{first_below}
use Rattle.qc_table.specs.declared.kind.Kind.{Kind}

-- whether an object has a threshold above the weight of all sites
abbrev pub is_heavy : Plan → ℕ → Bool
is_heavy plan object =
    list_any (nat_lt (total plan.weights)) (get_or plan.initial object [])
    || list_any (nat_lt (total plan.weights)) (get_or plan.last object [])

-- an object with such a threshold
abbrev pub heavy_fault : Plan → ℕ → Option PlanFault
heavy_fault plan object = if is_heavy plan object then Some (TooHeavy object) else None

-- whether an initial quorum of the invocation and a final quorum of the event can miss each other
abbrev pub can_miss : Plan → ℕ → ℕ → ℕ → Bool
can_miss plan object inv event =
    nat_le (need_of plan.initial object inv + need_of plan.last object event) (total plan.weights)

-- an invocation and an event on which it depends
abbrev pub pair_fault : Plan → Kind → ℕ → ℕ → ℕ → Option PlanFault
pair_fault plan kind object inv event =
    if depends kind.relation inv event && can_miss plan object inv event then Some (CanMiss object inv event) else None

-- an object of this type: its first invocation and event that can miss each other
abbrev pub kind_fault : Plan → ℕ → Kind → Option PlanFault
kind_fault plan object kind =
    first_below kind.table.invs
    (λ inv. first_below (length (events_of kind.table.rows)) (pair_fault plan kind object inv))

-- an object, of the type whose number the list of objects gives
abbrev pub object_fault : Plan → List Kind → List ℕ → ℕ → Option PlanFault
object_fault plan kinds objects object =
    option_and_then (kind_fault plan object) (option_and_then (slice_get kinds) (slice_get objects object))

-- what is wrong with the plan, if anything
abbrev pub fault_of : Plan → List Kind → List ℕ → Option PlanFault
fault_of plan kinds objects =
    if total plan.weights == 0 then Some NoWeight
    else option_or (first_below (length objects) (heavy_fault plan))
    (first_below (length objects) (object_fault plan kinds objects))

-- what a checker answers about a plan with this fault
abbrev pub answer_of : Option PlanFault → Result (Unit {0}) PlanFault
answer_of None = Ok tt
answer_of (Some fault) = Err fault
