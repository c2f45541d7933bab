-- What every accepted declaration has: counts within the limits, relations that are exact, quorums that meet, a
-- threshold for each invocation and event, and a name for each thing.
use Rattle.std.specs.Prelude.{◌≡◌, ℕ, ◌<◌, ◌≤◌, All, List, Some, length, map, slice_get}
use Rattle.qc_cert.specs.Vocabulary.{IsExact}
use Rattle.qc_decl.specs.Limits.{greatest_threshold, greatest_weight, most_clients, most_epochs, most_objects}
use Rattle.qc_decl.specs.Limits.{most_sites, most_types}
use Rattle.qc_decl.specs.Lookup.{kind_at}
use Rattle.qc_decl.specs.Names.{AreNames}
use Rattle.qc_decl.specs.declared.declaration.Declaration.{Declaration}
use Rattle.qc_decl.specs.declared.declaration.KindNames.{KindNames}
use Rattle.qc_plan.specs.Vocabulary.{IsAdmitted}
use Rattle.qc_plan.specs.declared.plan.Plan.{Plan}
use Rattle.qc_table.specs.Vocabulary.{IsSound, events_of}
use Rattle.qc_table.specs.declared.kind.Kind.{Kind}

-- a type's rows are sound, and its relation is exact
pub record IsRight (kind : Kind) : Type 0 where
  pub sound : IsSound kind.table
  pub exact : IsExact kind

-- an epoch's plan has a weight for each site, and is admitted
pub record IsGood (decl : Declaration) (plan : Plan) : Type 0 where
  pub weights : length plan.weights ≡ decl.sites
  pub admitted : IsAdmitted plan decl.kinds decl.objects

-- one list of thresholds for each object, with one threshold for each place that its type has
pub record AreThresholds (decl : Declaration) (places : Kind → ℕ) (lists : List (List ℕ)) : Type 0 where
  pub objects : length lists ≡ length decl.objects
  pub each_is : (object : ℕ) (kind : Kind) (list : List ℕ)
      → kind_at decl object ≡ Some kind → slice_get lists object ≡ Some list → length list ≡ places kind
  pub numbers : All (All (λ threshold. threshold ≤ greatest_threshold)) lists

-- initial quorums have a threshold for each invocation, and final ones for each event
pub record HasThresholds (decl : Declaration) (plan : Plan) : Type 0 where
  pub weights : All (λ weight. weight ≤ greatest_weight) plan.weights
  pub initial : AreThresholds decl (λ kind. kind.table.invs) plan.initial
  pub last : AreThresholds decl (λ kind. length (events_of kind.table.rows)) plan.last

-- each state, invocation and response of a type has a name
pub record HasNames (kind : Kind) (names : KindNames) : Type 0 where
  pub states : AreNames kind.table.states names.states
  pub invs : AreNames kind.table.invs names.invs
  pub resps : AreNames kind.table.resps names.resps

pub record IsAccepted (decl : Declaration) : Type 0 where
  pub has_site : 0 < decl.sites
  pub sites : decl.sites ≤ most_sites
  pub has_client : 0 < decl.clients
  pub clients : decl.clients ≤ most_clients
  pub has_type : 0 < length decl.kinds
  pub types : length decl.kinds ≤ most_types
  pub has_object : 0 < length decl.objects
  pub objects : length decl.objects ≤ most_objects
  pub has_epoch : 0 < length decl.plans
  pub epochs : length decl.plans ≤ most_epochs
  pub typed : (object number : ℕ) → slice_get decl.objects object ≡ Some number → number < length decl.kinds
  pub right : (number : ℕ) (kind : Kind) → slice_get decl.kinds number ≡ Some kind → IsRight kind
  pub good : (place : ℕ) (plan : Plan) → slice_get decl.plans place ≡ Some plan → IsGood decl plan
  pub thresholds : (place : ℕ) (plan : Plan) → slice_get decl.plans place ≡ Some plan → HasThresholds decl plan
  pub type_names : AreNames (length decl.kinds) (map (λ (names : KindNames). names.name) decl.kind_names)
  pub object_names : AreNames (length decl.objects) decl.object_names
  pub names : (number : ℕ) (kind : Kind) (names : KindNames)
      → slice_get decl.kinds number ≡ Some kind → slice_get decl.kind_names number ≡ Some names → HasNames kind names
