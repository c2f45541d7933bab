-- Which plans are admitted: those whose quorums meet wherever an invocation depends on an event (Herlihy 1986).
use Rattle.std.specs.Prelude.{◌≡◌, ℕ, ◌+◌, ◌<◌, ◌≤◌, IsTrue, List, length, slice_get, Some}
use Rattle.qc_plan.specs.Need.{need_of}
use Rattle.qc_plan.specs.Weights.{total}
use Rattle.qc_plan.specs.declared.plan.Plan.{Plan}
use Rattle.qc_table.specs.Vocabulary.{depends, events_of}
use Rattle.qc_table.specs.declared.kind.Kind.{Kind}

-- the sites have weight, no threshold is above it, and each initial quorum of an invocation and each final quorum of an
-- event on which it depends weigh more together than all sites
pub record IsAdmitted (plan : Plan) (kinds : List Kind) (objects : List ℕ) : Type 0 where
  pub weighs : 0 < total plan.weights
  pub initial_light : (object inv : ℕ) → need_of plan.initial object inv ≤ total plan.weights
  pub last_light : (object event : ℕ) → need_of plan.last object event ≤ total plan.weights
  pub meets : (object number : ℕ) (kind : Kind) (inv event : ℕ)
      → slice_get objects object ≡ Some number → slice_get kinds number ≡ Some kind
      → inv < kind.table.invs → event < length (events_of kind.table.rows) → IsTrue (depends kind.relation inv event)
      → total plan.weights < need_of plan.initial object inv + need_of plan.last object event

-- this weight adds with each threshold above 0 to more than all weight, so sites of it meet every such quorum
pub record Closes (plan : Plan) (weight : ℕ) : Type 0 where
  pub initial : (object inv : ℕ) → 0 < need_of plan.initial object inv
      → total plan.weights < weight + need_of plan.initial object inv
  pub last : (object event : ℕ) → 0 < need_of plan.last object event
      → total plan.weights < weight + need_of plan.last object event

-- the least such weight, which is 0 where no threshold is above 0; where no sites weigh just so much, a smaller number
-- may pick the same sites
pub record IsCloseWeight (plan : Plan) (weight : ℕ) : Type 0 where
  pub closes : Closes plan weight
  pub least : (lighter : ℕ) → Closes plan lighter → weight ≤ lighter
