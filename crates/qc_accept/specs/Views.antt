-- What the code's values stand for.
use Rattle.std.specs.Prelude.{ℕ, List, map, string_bytes}
use Rattle.toml.specs.Data.{Data, Members}
use Rattle.toml.specs.View.{view, table_view}
use Rattle.toml.specs.declared.value.Value.{Value}
use Rattle.qc_table.specs.declared.row.Event.{Event}
use Rattle.qc_accept.specs.declared.acceptance.Draft.{Draft}
use Rattle.qc_accept.specs.declared.epochs.Entry.{Entry}
use Rattle.qc_accept.specs.declared.epochs.Listed.{Listed}
use Rattle.qc_accept.specs.declared.epochs.Store.{Store}
use Rattle.qc_accept.specs.declared.fields.Fields.{Fields}
use Rattle.qc_accept.specs.declared.kinds.Types.{Types}
use Rattle.qc_accept.specs.declared.kinds.TypeRead.{TypeRead}
use Rattle.qc_accept.specs.declared.kinds.Words.{Words}
use Rattle.qc_accept.specs.declared.names.Events.{Events}
use Rattle.qc_accept.specs.declared.names.Index.{Index}
use Rattle.qc_accept.specs.declared.objects.ObjectsRead.{ObjectsRead}
use Rattle.qc_accept.specs.Accept.{DraftOf}
use Rattle.qc_accept.specs.Epochs.{EntryOf, StoreOf}
use Rattle.qc_accept.specs.Objects.{ObjectsOf}
use Rattle.qc_accept.specs.Types.{TypeOf, TypesOf, WordsOf}

-- the values of an array
abbrev pub data_of : List Value → List Data
data_of values = map view values

-- a table, and the path before its keys
abbrev pub table_in : Fields → Members
table_in fields = table_view fields.table.now

abbrev pub path_in : Fields → List ℕ
path_in fields = string_bytes fields.path

-- the names, and the events, in the order of their numbers
abbrev pub names_in : Index → List (List ℕ)
names_in index = map (λ k. k.now) index.texts.keys

abbrev pub events_in : Events → List Event
events_in events = events.events.keys

abbrev pub words_in : Words → WordsOf
words_in w = record { states = names_in w.states; start = w.start; invs = names_in w.invs; resps = names_in w.resps }

abbrev pub type_in : TypeRead → TypeOf
type_in t = record { words = words_in t.words; events = events_in t.events; kind = t.kind; triples = t.triples }

abbrev pub types_in : Types → TypesOf
types_in types = record { names = names_in types.names; list = map type_in types.list.items }

abbrev pub objects_in : ObjectsRead → ObjectsOf
objects_in objects = record { names = names_in objects.names; kinds = objects.kinds }

abbrev pub store_in : Store → StoreOf
store_in store =
    record { sites = store.sites; types = types_in store.types.now; objects = objects_in store.objects.now }

abbrev pub entry_of : Entry → EntryOf
entry_of e = record { object = e.object; place = e.place; threshold = e.threshold }

abbrev pub entry_at : (ℕ × ℕ) × ℕ → EntryOf
entry_at e = record { object = e.0.0; place = e.0.1; threshold = e.1 }

abbrev pub listed_in : Listed → List EntryOf
listed_in listed = map entry_at listed.thresholds.entries

abbrev pub draft_in : Draft → DraftOf
draft_in d = record { decl = d.decl; triples = d.triples }
