-- The types of a declaration.
use Rattle.std.specs.Prelude.{ℕ, ◌<◌, ◌≤◌, Bool, ◌==◌, ◌&&◌, nat_le, List, [], ◌∷◌, ◌++◌, length, Option, Some, None}
use Rattle.std.specs.Prelude.{Ok, Err, if◌then◌else◌, codes, count_by, unwrap_or, slice_get, option_map}
use Rattle.std.specs.Prelude.{option_and_then}
use Rattle.std.specs.List.{list_all, slice_split}
use Rattle.std.specs.Str.{bytes_eq}
use Rattle.toml.specs.Data.{Data, Members, as_str}
use Rattle.qc_cert.specs.declared.triple.Triple.{Triple}
use Rattle.qc_table.specs.Vocabulary.{Rules, events_of, fault_of, has, relation_of, rules_of, with_member}
use Rattle.qc_table.specs.declared.fault.TableFault.{TableFault}
use Rattle.qc_table.specs.declared.kind.Kind.{Kind}
use Rattle.qc_table.specs.declared.relation.Pair.{Pair}
use Rattle.qc_table.specs.declared.row.Event.{Event}
use Rattle.qc_table.specs.declared.row.Row.{Row}
use Rattle.qc_decl.specs.Vocabulary.{is_name, most_alike_triples, most_invocations, most_responses, most_rows}
use Rattle.qc_decl.specs.Vocabulary.{most_states, most_triples, most_types}
use Rattle.qc_accept.specs.declared.fault.DeclFault.TheVariants.{Table}
use Rattle.qc_list.specs.Vocabulary.{◌>>=◌}
use Rattle.qc_accept.specs.Answers.{Answer, each, read_each}
use Rattle.qc_accept.specs.Fields.{told, required, items, optional, names, name_among, with_name, no_others, item_table}
use Rattle.qc_accept.specs.Fields.{keys_path}
use Rattle.qc_accept.specs.Words.{two, three, four, number_of, event_in}

-- the words of a type: its states with the number of the one at the beginning, its invocations and its responses
pub record WordsOf : Type 0 where
  pub states : List (List ℕ)
  pub start : ℕ
  pub invs : List (List ℕ)
  pub resps : List (List ℕ)

-- the words are as few as the limits say
pub record AreFew (w : WordsOf) : Type 0 where
  pub states : length w.states ≤ most_states
  pub invs : length w.invs ≤ most_invocations
  pub resps : length w.resps ≤ most_responses

-- there is one of each, and the start is a state
pub record AreSome (w : WordsOf) : Type 0 where
  pub states : 0 < length w.states
  pub invs : 0 < length w.invs
  pub resps : 0 < length w.resps
  pub start : w.start < length w.states

-- a type as it is read, but for its name
pub record TypeOf : Type 0 where
  pub words : WordsOf
  pub events : List Event
  pub kind : Kind
  pub triples : List Triple

-- the types, with their names
pub record TypesOf : Type 0 where
  pub names : List (List ℕ)
  pub list : List TypeOf

-- the words
abbrev pub words : List ℕ → Members → Answer WordsOf
words path table =
    names path table (codes "states") most_states >>= (λ states.
    required path table (codes "start") >>= (λ d.
    told (path ++ codes "start") (name_among states d) >>= (λ start.
    names path table (codes "invocations") most_invocations >>= (λ invs.
    names path table (codes "responses") most_responses >>= (λ resps.
    Ok (record { states = states; start = start; invs = invs; resps = resps }))))))

-- the number in place of a name that isn't declared, which no type has; the rules of a table refuse it
abbrev pub unknown : ℕ
unknown = 255

-- the number of a name, or the unknown one; none where the name is ill-formed
abbrev pub number_or_unknown : List (List ℕ) → List ℕ → Option ℕ
number_or_unknown known text = if is_name text then Some (unwrap_or (number_of known text) unknown) else None

-- a row, `STATE INV RESP NEXT`
abbrev pub row_in : WordsOf → List ℕ → Option Row
row_in w text =
    option_and_then (λ ws.
    option_and_then (λ state.
    option_and_then (λ inv.
    option_and_then (λ resp.
    option_map (λ next. record { state = state; inv = inv; resp = resp; next = next })
    (number_or_unknown w.states ws.3)) (number_or_unknown w.resps ws.2)) (number_or_unknown w.invs ws.1))
    (number_or_unknown w.states ws.0)) (four text)

-- a list, with what a text says
abbrev pub with_read : {A : Type 0} → (List ℕ → Option A) → List A → Data → Option (List A)
with_read read so_far d = option_map (λ a. so_far ++ a ∷ []) (option_and_then read (as_str d))

abbrev pub rows_in : WordsOf → List Data → Option (List Row)
rows_in w ds = read_each (with_read (row_in w)) [] ds

-- the rows as a table, or its fault with the type's name
abbrev pub ruled : ℕ → List ℕ → Rules → Option TableFault → Answer Rules
ruled place name rules None = Ok rules
ruled place name rules (Some fault) = Err (Table place fault (name ∷ []))

abbrev pub table_of : ℕ → List ℕ → WordsOf → List Row → Answer Rules
table_of place name w rows =
    let rules = rules_of (length w.states) (length w.invs)
    (length w.resps) w.start rows in ruled place name rules (fault_of rules)

-- an event, `INV:RESP`, of a row
abbrev pub event_of_text : WordsOf → List Event → List ℕ → Option ℕ
event_of_text w events text = event_in w.invs w.resps events text

-- a dependence, `INV EVENT`
abbrev pub pair_in : WordsOf → List Event → List ℕ → Option Pair
pair_in w events text =
    option_and_then (λ ws.
    option_and_then (λ inv.
    option_map (λ e. record { inv = inv; event = e }) (event_of_text w events ws.1)) (number_of w.invs ws.0)) (two text)

abbrev pub pairs_in : WordsOf → List Event → List Data → Option (List Pair)
pairs_in w events ds = read_each (with_read (pair_in w events)) [] ds

-- a set of events, with one that it doesn't have yet
abbrev pub with_new : ℕ → ℕ → Option ℕ
with_new set e = if has set e then None else Some (with_member set e)

-- OUT: `-`, or distinct events joined by `,` (44)
abbrev pub out_in : WordsOf → List Event → List ℕ → Option ℕ
out_in w events text =
    if bytes_eq text (codes "-") then Some 0
    else read_each (λ set part. option_and_then (with_new set)
    (event_of_text w events part)) 0 (slice_split (λ b. b == 44) text)

-- a triple, `VIEW LOG OUT`
abbrev pub triple_in : WordsOf → List Event → List ℕ → Option Triple
triple_in w events text =
    option_and_then (λ ws.
    option_and_then (λ view.
    option_and_then (λ log.
    option_map (λ out. record { view = view; log = log; out = out })
    (out_in w events ws.2)) (number_of w.states ws.1)) (number_of w.states ws.0)) (three text)

-- not too many triples have the same two states
abbrev pub is_alike : Triple → Triple → Bool
is_alike a b = (a.view == b.view) && (a.log == b.log)

abbrev pub are_few_alike : List Triple → Bool
are_few_alike triples = list_all (λ t. nat_le (count_by (is_alike t) triples) most_alike_triples) triples

abbrev pub triples_in : WordsOf → List Event → List Data → Option (List Triple)
triples_in w events ds =
    if nat_le (length ds) most_triples
    then option_and_then (λ triples. if are_few_alike triples then Some triples else None)
    (read_each (with_read (triple_in w events)) [] ds)
    else None

-- the keys of a type
abbrev pub type_keys : List (List ℕ)
type_keys =
    codes "name" ∷ codes "states" ∷ codes "start" ∷ codes "invocations" ∷ codes "responses"
    ∷ codes "rows" ∷ codes "depends" ∷ codes "triples" ∷ []

-- what stands behind the rows of a type; events are those of the rows
abbrev pub relation : List ℕ → Members → WordsOf → List Event → Answer (List ℕ)
relation path table w events =
    optional path table (codes "depends") >>= (λ ds. told (path ++ codes "depends")
    (option_map relation_of (pairs_in w events ds)))

abbrev pub triples : List ℕ → Members → WordsOf → List Event → Answer (List Triple)
triples path table w events =
    optional path table (codes "triples") >>= (λ ds. told (path ++ codes "triples") (triples_in w events ds))

-- the rows
abbrev pub rows : List ℕ → Members → WordsOf → Answer (List Row)
rows path table w = items path table (codes "rows") 0 most_rows >>= (λ ds. told (path ++ codes "rows") (rows_in w ds))

-- a type behind its name
abbrev pub type_of : List ℕ → Members → ℕ → List ℕ → Answer TypeOf
type_of path table place name =
    words path table >>= (λ w.
    rows path table w >>= (λ rs.
    table_of place name w rs >>= (λ rules.
    relation path table w (events_of rules.rows) >>= (λ rel.
    triples path table w (events_of rules.rows) >>= (λ ts.
    no_others path table type_keys >>= (λ _.
    Ok (record {
      words = w;
      events = events_of rules.rows;
      kind = record {
        table = rules;
        relation = rel;
      };
      triples = ts;
    })))))))

-- a name by its number; no byte where there is none
abbrev pub name_at : List (List ℕ) → ℕ → List ℕ
name_at known k = unwrap_or (slice_get known k) []

-- one type more: its name, which no type before has, then the rest
abbrev pub with_rest : TypesOf → List (List ℕ) → List ℕ → Members → Answer TypesOf
with_rest types known path table =
    type_of path table (length types.names) (name_at known (length types.names)) >>= (λ t.
    Ok (record { names = known; list = types.list ++ t ∷ [] }))

abbrev pub with_type : TypesOf → Data → Answer TypesOf
with_type types d =
    let path = keys_path (codes "type") (length types.names) in
    item_table (codes "type") (length types.names) d >>= (λ table.
    required path table (codes "name") >>= (λ name.
    told (path ++ codes "name") (with_name types.names name) >>= (λ known.
    with_rest types known path table)))

-- the types
abbrev pub types_of : List ℕ → Members → Answer TypesOf
types_of path table = items path table (codes "type") 1 most_types
    >>= (λ ds. each with_type (record { names = []; list = [] }) ds)
