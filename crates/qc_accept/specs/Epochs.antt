-- The epochs of a declaration, each with its plan.
use Rattle.std.specs.Prelude.{ℕ, ◌≤◌, All, zero, suc, Bool, ◌==◌, ◌&&◌, List, [], ◌∷◌, ◌++◌, length, Option, Some, None}
use Rattle.std.specs.Prelude.{Ok, if◌then◌else◌, codes, find, option_map, option_and_then}
use Rattle.std.specs.List.{list_any}
use Rattle.std.specs.Option.{option_map_or}
use Rattle.toml.specs.Data.{Data, Members, as_str}
use Rattle.qc_plan.specs.declared.plan.Plan.{Plan}
use Rattle.qc_decl.specs.Vocabulary.{greatest_weight, most_epochs, most_events, most_objects, most_sites}
use Rattle.qc_accept.specs.declared.epochs.Side.{Side}
use Rattle.qc_accept.specs.declared.epochs.Side.TheVariants.{Initial, Final}
use Rattle.qc_list.specs.Vocabulary.{◌>>=◌}
use Rattle.qc_accept.specs.Answers.{Answer, each, read_each}
use Rattle.qc_accept.specs.Fields.{told, items, optional, number_between, no_others, item_table, keys_path}
use Rattle.qc_accept.specs.Objects.{ObjectsOf, kind_of}
use Rattle.qc_accept.specs.Types.{AreFew, TypeOf, TypesOf, event_of_text}
use Rattle.qc_accept.specs.Words.{three, number_in, number_of}

-- what epochs stand on: the sites, the types and the objects
pub record StoreOf : Type 0 where
  pub sites : ℕ
  pub types : TypesOf
  pub objects : ObjectsOf

-- the numbers of it all fit a byte
pub record IsFit (store : StoreOf) : Type 0 where
  pub sites : store.sites ≤ most_sites
  pub objects : length store.objects.names ≤ most_objects
  pub words : All (λ (t : TypeOf). AreFew t.words) store.types.list
  pub events : All (λ (t : TypeOf). length t.events ≤ most_events) store.types.list

-- a threshold of an object, at the place of an invocation or an event
pub record EntryOf : Type 0 where
  pub object : ℕ
  pub place : ℕ
  pub threshold : ℕ

-- the place of an invocation in `initial`, and of an event in `final`
abbrev pub place_in : Side → TypeOf → List ℕ → Option ℕ
place_in Initial t text = number_of t.words.invs text
place_in Final t text = event_of_text t.words t.events text

-- how many places there are
abbrev pub places : Side → TypeOf → ℕ
places Initial t = length t.words.invs
places Final t = length t.events

-- an entry, `OBJECT INV NUMBER` or `OBJECT EVENT NUMBER`
abbrev pub entry_in : StoreOf → Side → List ℕ → Option EntryOf
entry_in store side text =
    option_and_then (λ ws.
    option_and_then (λ object.
    option_and_then (λ t.
    option_and_then (λ place.
    option_map (λ threshold. record { object = object; place = place; threshold = threshold })
    (number_in ws.2)) (place_in side t ws.1)) (kind_of store.types store.objects object))
    (number_of store.objects.names ws.0)) (three text)

-- whether an entry is of this object and place
abbrev pub is_at : ℕ → ℕ → EntryOf → Bool
is_at object place entry = (entry.object == object) && (entry.place == place)

-- the entries, with one whose place none of them has
abbrev pub with_entry : List EntryOf → EntryOf → Option (List EntryOf)
with_entry entries entry = if list_any (is_at entry.object entry.place) entries then None
    else Some (entries ++ entry ∷ [])

-- the entries, with the one that a value is
abbrev pub with_item : StoreOf → Side → List EntryOf → Data → Option (List EntryOf)
with_item store side entries d = option_and_then (with_entry entries) (option_and_then (entry_in store side) (as_str d))

abbrev pub entries_in : StoreOf → Side → List Data → Option (List EntryOf)
entries_in store side ds = read_each (with_item store side) [] ds

-- the threshold at a place, 0 where none is listed
abbrev pub threshold_of : List EntryOf → ℕ → ℕ → ℕ
threshold_of entries object place = option_map_or (λ (e : EntryOf). e.threshold) (find (is_at object place) entries) 0

-- the thresholds at the first places of an object
abbrev pub thresholds : List EntryOf → ℕ → ℕ → List ℕ
thresholds entries object zero = []
thresholds entries object (suc n) = thresholds entries object n ++ threshold_of entries object n ∷ []

-- how many places an object has
abbrev pub places_of : StoreOf → Side → ℕ → ℕ
places_of store side object = option_map_or (places side) (kind_of store.types store.objects object) 0

-- the thresholds of the first objects
abbrev pub needs_of : StoreOf → Side → List EntryOf → ℕ → List (List ℕ)
needs_of store side entries zero = []
needs_of store side entries (suc n) =
    needs_of store side entries n ++ thresholds entries n (places_of store side n) ∷ []

-- the thresholds of a side
abbrev pub needs : List ℕ → Members → StoreOf → List ℕ → Side → Answer (List (List ℕ))
needs path table store key side =
    optional path table key >>= (λ ds.
    told (path ++ key) (entries_in store side ds) >>= (λ entries.
    Ok (needs_of store side entries (length store.objects.names))))

-- the weights, one for each site
abbrev pub with_weight : List ℕ → Data → Option (List ℕ)
with_weight so_far d = option_map (λ w. so_far ++ w ∷ []) (number_between 0 greatest_weight d)

abbrev pub weights : List ℕ → Members → ℕ → Answer (List ℕ)
weights path table sites =
    items path table (codes "weights") sites sites
    >>= (λ ds. told (path ++ codes "weights") (read_each with_weight [] ds))

-- the keys of an epoch
abbrev pub epoch_keys : List (List ℕ)
epoch_keys = codes "weights" ∷ codes "initial" ∷ codes "final" ∷ []

-- a plan
abbrev pub plan_of : List ℕ → Members → StoreOf → Answer Plan
plan_of path table store =
    weights path table store.sites >>= (λ ws.
    needs path table store (codes "initial") Initial >>= (λ initial.
    needs path table store (codes "final") Final >>= (λ last.
    no_others path table epoch_keys >>= (λ _.
    Ok (record { weights = ws; initial = initial; last = last })))))

-- the plan that an item of the epochs is, the one at a place
abbrev pub plan_in : StoreOf → ℕ → Data → Answer Plan
plan_in store place d =
    item_table (codes "epoch") place d >>= (λ table. plan_of (keys_path (codes "epoch") place) table store)

-- one plan more
abbrev pub with_plan : StoreOf → List Plan → Data → Answer (List Plan)
with_plan store plans d =
    plan_in store (length plans) d >>= (λ plan. Ok (plans ++ plan ∷ []))

-- the plans
abbrev pub plans_of : List ℕ → Members → StoreOf → Answer (List Plan)
plans_of path table store = items path table (codes "epoch") 1 most_epochs >>= (λ ds. each (with_plan store) [] ds)
