-- The declaration that bytes spell, or its first fault.
--
-- The bytes are a TOML document. Its fields are read in the order of the keys and of the arrays; a type whose rows are
-- no table ends this. Then each type's triples have to show its relation exact, and then each epoch's plan has to be
-- admitted.
use Rattle.std.specs.Prelude.{◌≡◌, ℕ, ◌<◌, ◌≤◌, All, length, suc, List, [], ◌∷◌, ◌++◌, Option, Some, Ok, Err}
use Rattle.std.specs.Prelude.{if◌then◌else◌, codes, map, slice_get}
use Rattle.std.specs.Option.{option_map_or}
use Rattle.std.specs.Str.{is_utf8}
use Rattle.toml.specs.Data.{Members}
use Rattle.toml.specs.Parse.{parse_document}
use Rattle.qc_cert.specs.Faults as cert
use Rattle.qc_cert.specs.declared.fault.CertFault.{CertFault}
use Rattle.qc_cert.specs.declared.fault.CertFault.TheVariants.{NoStart, Uncovered, Unequal, OutOfMemory}
use Rattle.qc_cert.specs.declared.triple.Triple.{Triple}
use Rattle.qc_plan.specs.Faults as plan
use Rattle.qc_plan.specs.declared.fault.PlanFault.{PlanFault}
use Rattle.qc_plan.specs.declared.fault.PlanFault.TheVariants.{NoWeight, TooHeavy, CanMiss}
use Rattle.qc_plan.specs.declared.plan.Plan.{Plan}
use Rattle.qc_table.specs.Vocabulary.{Rules, events_of}
use Rattle.qc_table.specs.declared.kind.Kind.{Kind}
use Rattle.qc_table.specs.declared.row.Event.{Event}
use Rattle.qc_decl.specs.declared.declaration.Declaration.{Declaration}
use Rattle.qc_decl.specs.declared.declaration.KindNames.{KindNames}
use Rattle.qc_decl.specs.Vocabulary.{kind_at, most_clients, most_epochs, most_objects, most_sites, most_triples}
use Rattle.qc_decl.specs.Vocabulary.{most_types, names_of}
use Rattle.qc_accept.specs.declared.fault.DeclFault.TheVariants as decl
use Rattle.qc_list.specs.Vocabulary.{◌>>=◌}
use Rattle.qc_accept.specs.Answers.{Answer}
use Rattle.qc_accept.specs.Epochs.{plans_of}
use Rattle.qc_accept.specs.Fields.{number, no_others}
use Rattle.qc_accept.specs.Objects.{ObjectsOf, objects_of}
use Rattle.qc_accept.specs.Types.{TypeOf, TypesOf, WordsOf, types_of, name_at}

-- the document: UTF-8 that is TOML
abbrev pub document_of : List ℕ → Answer Members
document_of bytes = if is_utf8 bytes then option_map_or (λ t. Ok t) (parse_document bytes) (Err decl.NotToml)
    else Err decl.NotToml

-- a declaration, with each type's triples
pub record DraftOf : Type 0 where
  pub decl : Declaration
  pub triples : List (List Triple)

-- the names of a type and of its parts
abbrev pub names_of_words : List ℕ → WordsOf → KindNames
names_of_words name w = record { name = name; states = w.states; invs = w.invs; resps = w.resps }

abbrev pub kind_names : List ℕ → TypeOf → KindNames
kind_names name t = names_of_words name t.words

-- each type's names, with the types' names in the same order
abbrev pub all_names : List (List ℕ) → List TypeOf → List KindNames
all_names (name ∷ names) (t ∷ ts) = kind_names name t ∷ all_names names ts
all_names _ _ = []

abbrev pub draft : ℕ → ℕ → TypesOf → ObjectsOf → List Plan → DraftOf
draft sites clients types objects plans = record {
  decl = record {
    sites = sites;
    clients = clients;
    kinds = map (λ (t : TypeOf). t.kind) types.list;
    objects = objects.kinds;
    plans = plans;
    kind_names = all_names types.names types.list;
    object_names = objects.names;
  };
  triples = map (λ (t : TypeOf). t.triples) types.list;
}

-- the keys of a declaration
abbrev pub keys : List (List ℕ)
keys = codes "sites" ∷ codes "clients" ∷ codes "type" ∷ codes "object" ∷ codes "epoch" ∷ []

-- the fields behind the two counts
abbrev pub lists_of : List ℕ → Members → ℕ → ℕ → Answer DraftOf
lists_of path table sites clients =
    types_of path table >>= (λ types.
    objects_of path table types >>= (λ objects.
    plans_of path table (record { sites = sites; types = types; objects = objects }) >>= (λ plans.
    no_others path table keys >>= (λ _.
    Ok (draft sites clients types objects plans)))))

-- the fields
abbrev pub draft_of : Members → Answer DraftOf
draft_of table =
    number [] table (codes "sites") 1 most_sites >>= (λ sites.
    number [] table (codes "clients") 1 most_clients >>= (λ clients.
    lists_of [] table sites clients))

-- the name of an event, `INV:RESP`
abbrev pub event_name : KindNames → Rules → ℕ → List ℕ
event_name names table number =
    option_map_or (λ (e : Event). name_at names.invs e.inv ++ (codes ":" ++ name_at names.resps e.resp))
    (slice_get (events_of table.rows) number) []

-- the names that a certificate's fault has
abbrev pub cert_names : KindNames → Kind → CertFault → List (List ℕ)
cert_names names kind NoStart = names.name ∷ []
cert_names names kind (Uncovered place e taken) = names.name ∷ event_name names kind.table e ∷ []
cert_names names kind (Unequal place inv resp) = names.name ∷ name_at names.invs inv ∷ name_at names.resps resp ∷ []
cert_names names kind OutOfMemory = names.name ∷ []

abbrev pub certified : ℕ → KindNames → Kind → List Triple → Answer (Unit {0})
certified place names kind list =
    option_map_or (λ fault. Err (decl.Cert place fault (cert_names names kind fault))) (cert.fault_of kind list) (Ok tt)

-- each list is one that can be checked against its type: few triples, of the type's states
abbrev pub AreOfStates : Kind → List Triple → Type 0
AreOfStates kind list = (length list ≤ most_triples)
    × All (λ (t : Triple). (t.view < kind.table.states) × (t.log < kind.table.states)) list

pub record AreChecked (d : DraftOf) : Type 0 where
  pub few : length d.triples ≤ most_types
  pub names : length d.decl.kind_names ≡ length d.triples
  pub kinds : length d.decl.kinds ≡ length d.triples
  pub states : (place : ℕ) (kind : Kind) (list : List Triple) → slice_get d.decl.kinds place ≡ Some kind
      → slice_get d.triples place ≡ Some list
      → AreOfStates kind list

-- the types from a place on
abbrev pub all_certified : ℕ → List KindNames → List Kind → List (List Triple) → Answer (Unit {0})
all_certified place (names ∷ more) (kind ∷ kinds) (list ∷ lists) =
    certified place names kind list >>= (λ _. all_certified (suc place) more kinds lists)
all_certified place _ _ _ = Ok tt

-- the names that a plan's fault has
abbrev pub pair_names : Option KindNames → Option Kind → ℕ → ℕ → List (List ℕ)
pair_names (Some names) (Some kind) inv e = name_at names.invs inv ∷ event_name names kind.table e ∷ []
pair_names _ _ inv e = []

abbrev pub plan_names : Declaration → PlanFault → List (List ℕ)
plan_names d NoWeight = []
plan_names d (TooHeavy object) = name_at d.object_names object ∷ []
plan_names d (CanMiss object inv e) = name_at d.object_names object ∷ pair_names (names_of d object)
    (kind_at d object) inv e

abbrev pub admitted : Declaration → ℕ → Plan → Answer (Unit {0})
admitted d epoch p =
    option_map_or (λ fault. Err (decl.Plan epoch fault (plan_names d fault))) (plan.fault_of p d.kinds d.objects)
    (Ok tt)

-- a plan has no more weights than there may be sites, and thresholds for no more than the objects
pub record IsShaped (d : Declaration) (p : Plan) : Type 0 where
  pub weights : length p.weights ≤ most_sites
  pub initial : length p.initial ≤ length d.objects
  pub last : length p.last ≤ length d.objects

pub record ArePlanned (d : Declaration) : Type 0 where
  pub objects : length d.objects ≤ most_objects
  pub epochs : length d.plans ≤ most_epochs
  pub shaped : All (IsShaped d) d.plans

-- the plans from an epoch on
abbrev pub all_admitted : Declaration → ℕ → List Plan → Answer (Unit {0})
all_admitted d epoch [] = Ok tt
all_admitted d epoch (p ∷ ps) = admitted d epoch p >>= (λ _. all_admitted d (suc epoch) ps)

-- the declaration of a document
abbrev pub declared : Members → Answer Declaration
declared table =
    draft_of table >>= (λ d.
    all_certified 0 d.decl.kind_names d.decl.kinds d.triples >>= (λ _.
    all_admitted d.decl 1 d.decl.plans >>= (λ _.
    Ok d.decl)))

-- what `accept` answers, but for want of memory
abbrev pub accepted : List ℕ → Answer Declaration
accepted bytes = document_of bytes >>= declared
