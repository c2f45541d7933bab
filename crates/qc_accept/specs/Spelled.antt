-- What the fields of a declaration say, in whatever order faults are told.
use Rattle.std.specs.Prelude.{◌≡◌, ℕ, List, [], Option, Some, codes, length, map, slice_get, option_and_then}
use Rattle.std.specs.Option.{option_map_or}
use Rattle.toml.specs.Data.{Data, Members, as_array, as_str, as_table, get_member}
use Rattle.qc_decl.specs.Vocabulary.{greatest_weight, most_clients, most_sites}
use Rattle.qc_decl.specs.declared.declaration.Declaration.{Declaration}
use Rattle.qc_plan.specs.declared.plan.Plan.{Plan}
use Rattle.qc_plan.specs.Vocabulary.{need_of}
use Rattle.qc_table.specs.Vocabulary.{events_of, relation_of, rules_of}
use Rattle.qc_table.specs.declared.relation.Pair.{Pair}
use Rattle.qc_table.specs.declared.row.Row.{Row}
use Rattle.qc_accept.specs.declared.epochs.Side.{Side}
use Rattle.qc_accept.specs.declared.epochs.Side.TheVariants.{Initial, Final}
use Rattle.qc_accept.specs.Accept.{all_names}
use Rattle.qc_accept.specs.Epochs.{EntryOf, StoreOf, entry_in}
use Rattle.qc_accept.specs.Fields.{listed, number_between}
use Rattle.qc_accept.specs.Objects.{ObjectsOf}
use Rattle.qc_accept.specs.Types.{TypeOf, TypesOf, pair_in, row_in, triple_in}

-- the items of the array under a key, and none where there is no array
abbrev pub array_at : Members → List ℕ → List Data
array_at table key = option_map_or listed (option_and_then as_array (get_member key table)) []

-- the items are what the texts of an array say: one for each text, in their order
abbrev pub AreTexts : {A : Type 0} → (List ℕ → Option A) → List Data → List A → Type 0
AreTexts read ds items = map (λ d. option_and_then read (as_str d)) ds ≡ map Some items

-- a type is what its table's texts say: its names, and by these its rows, its dependences and its triples
pub record IsSpelled (table : Members) (t : TypeOf) : Type 0 where
  pub states : AreTexts Some (array_at table (codes "states")) t.words.states
  pub invs : AreTexts Some (array_at table (codes "invocations")) t.words.invs
  pub resps : AreTexts Some (array_at table (codes "responses")) t.words.resps
  pub start : slice_get t.words.states t.words.start ≡ option_and_then as_str (get_member (codes "start") table)
  pub listed : List Row
  pub rows : AreTexts (row_in t.words) (array_at table (codes "rows")) listed
  pub ruled : t.kind.table ≡ rules_of (length t.words.states) (length t.words.invs)
      (length t.words.resps) t.words.start listed
  pub pairs : List Pair
  pub depends : AreTexts (pair_in t.words (events_of listed)) (array_at table (codes "depends")) pairs
  pub related : t.kind.relation ≡ relation_of pairs
  pub triples : AreTexts (triple_in t.words (events_of listed)) (array_at table (codes "triples")) t.triples

-- an item of an array is a text that lists this entry
pub record IsListed (store : StoreOf) (side : Side) (ds : List Data) (entry : EntryOf) : Type 0 where
  pub place : ℕ
  pub item : Data
  pub text : List ℕ
  pub at : slice_get ds place ≡ Some item
  pub is_text : as_str item ≡ Some text
  pub says : entry_in store side text ≡ Some entry

-- each threshold that is listed is the number that its text says, and each that isn't listed is 0
pub record AreListed (store : StoreOf) (side : Side) (ds : List Data) (needs : List (List ℕ)) : Type 0 where
  pub listed : (entry : EntryOf) → IsListed store side ds entry
      → need_of needs entry.object entry.place ≡ entry.threshold
  pub others : (object place : ℕ) → ((entry : EntryOf) → IsListed store side ds entry → entry.object ≡ object
      → entry.place ≡ place → ⊥)
      → need_of needs object place ≡ 0

-- the text under a key
abbrev pub text_at : Members → List ℕ → Option (List ℕ)
text_at table key = option_and_then as_str (get_member key table)

-- the table at a place of an array of tables
abbrev pub item_at : Members → List ℕ → ℕ → Option Members
item_at table key place = option_and_then as_table (slice_get (array_at table key) place)

-- the text under a key of such a table
abbrev pub item_text : Members → List ℕ → ℕ → List ℕ → Option (List ℕ)
item_text table key place name = option_and_then (λ item. text_at item name) (item_at table key place)

-- a type is the one that the table at its place spells
pub record IsTypeAt (table : Members) (number : ℕ) (t : TypeOf) : Type 0 where
  pub item : Members
  pub at : item_at table (codes "type") number ≡ Some item
  pub spelled : IsSpelled item t

-- a plan is the one that the table at its place spells
pub record IsPlanAt (table : Members) (store : StoreOf) (place : ℕ) (plan : Plan) : Type 0 where
  pub item : Members
  pub at : item_at table (codes "epoch") place ≡ Some item
  pub weights : map (number_between 0 greatest_weight) (array_at item (codes "weights")) ≡ map Some plan.weights
  pub initial : AreListed store Initial (array_at item (codes "initial")) plan.initial
  pub last : AreListed store Final (array_at item (codes "final")) plan.last

-- a declaration is what its document spells: of each array one thing for each table, in their order
pub record IsDeclared (table : Members) (decl : Declaration) : Type 0 where
  pub sites : option_and_then (number_between 1 most_sites) (get_member (codes "sites") table) ≡ Some decl.sites
  pub clients : option_and_then (number_between 1 most_clients) (get_member (codes "clients") table) ≡ Some decl.clients
  pub types : TypesOf
  pub objects : ObjectsOf
  pub kinds : decl.kinds ≡ map (λ (t : TypeOf). t.kind) types.list
  pub kind_names : decl.kind_names ≡ all_names types.names types.list
  pub object_kinds : decl.objects ≡ objects.kinds
  pub object_names : decl.object_names ≡ objects.names
  pub so_many_types : length types.list ≡ length (array_at table (codes "type"))
  pub so_many_objects : length objects.names ≡ length (array_at table (codes "object"))
  pub so_many_epochs : length decl.plans ≡ length (array_at table (codes "epoch"))
  pub type_at : (number : ℕ) (t : TypeOf) → slice_get types.list number ≡ Some t → IsTypeAt table number t
  pub type_name_at : (number : ℕ) (name : List ℕ) → slice_get types.names number ≡ Some name
      → item_text table (codes "type") number (codes "name") ≡ Some name
  pub object_name_at : (object : ℕ) (name : List ℕ) → slice_get objects.names object ≡ Some name
      → item_text table (codes "object") object (codes "name") ≡ Some name
  pub object_type_at : (object number : ℕ) → slice_get objects.kinds object ≡ Some number
      → item_text table (codes "object") object (codes "type") ≡ slice_get types.names number
  pub plan_at : (place : ℕ) (plan : Plan) → slice_get decl.plans place ≡ Some plan
      → IsPlanAt table (record { sites = decl.sites; types = types; objects = objects }) place plan
