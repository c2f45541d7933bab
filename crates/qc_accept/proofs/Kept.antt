-- What the types of a declaration keep: limits, tables that are sound, and triples of their states.
use Rattle.std.proofs.Common.{◌≡◌, ℕ, suc, ◌+◌, ◌<◌, ◌≤◌, Bool, true, false, cond, ◌&&◌, not, List, [], ◌∷◌, ◌++◌}
use Rattle.std.proofs.Common.{length, Option, Some, None, Ok, refl, sym, ap, ◌∙◌, subst, arith}
use Rattle.std.specs.Prelude.{All, codes, nat_le, option_and_then}
use Rattle.std.specs.List.{list_any}
use Rattle.std.specs.Str.{bytes_eq}
use Rattle.std.proofs.lemmas.Bool.{leb-true}
use Rattle.std.proofs.lemmas.List.{length-append}
use Rattle.std.proofs.lemmas.List.Elements.{All-nil}
use Rattle.std.proofs.lemmas.List.Quantifiers.{position-Some}
use Rattle.std.proofs.lemmas.Option.{cond_some}
use Rattle.toml.specs.Data.{Data, Members, as_str}
use Rattle.qc_cert.specs.declared.triple.Triple.{Triple}
use Rattle.qc_table.specs.Vocabulary.{IsSound, Rules, events_of, fault_of, rules_of}
use Rattle.qc_table.specs.declared.fault.TableFault.{TableFault}
use Rattle.qc_table.specs.declared.row.Event.{Event}
use Rattle.qc_table.specs.declared.row.Row.{Row}
use Rattle.qc_decl.specs.Vocabulary.{AreNames, is_name, most_events, most_invocations, most_responses, most_states}
use Rattle.qc_decl.specs.Vocabulary.{most_triples, most_types}
use Rattle.qc_accept.specs.Vocabulary.{AreFew, AreOfStates, AreSome, TypeOf, TypesOf, WordsOf, are_few_alike}
use Rattle.qc_accept.specs.Vocabulary.{item_table, items, keys_path, name_among, name_at, names, no_others, number_of}
use Rattle.qc_accept.specs.Vocabulary.{optional, out_in, read_each, relation, required, rows, ruled, table_of, three}
use Rattle.qc_accept.specs.Vocabulary.{told, triple_in, triples, triples_in, type_keys, type_of, types_of, with_name}
use Rattle.qc_accept.specs.Vocabulary.{with_read, with_text, with_type, words}
use Rattle.qc_accept.proofs.Naming.{names_are, names_more, no_names}
use Rattle.qc_accept.proofs.Answered.{Came, came, Found, found, mapped, told_some, same_ok, each_keeps, read_each_keeps}
use Rattle.qc_accept.proofs.Answered.{so_many, one_more}
use Rattle.qc_list.proofs.Numbers.{zero_first}
use Rattle.qc_table.proofs.Few.{few_events}

-- a name more
pub name_more : (known : List (List ℕ)) (d : Data) (next : List (List ℕ)) → with_name known d ≡ Some next
    → length next ≡ suc (length known)
name_more known d next is =
    let f : Found (as_str d) (with_text known) next = found (as_str d) (with_text known) next is in
    let t = cond_some (is_name f.value && not (list_any (bytes_eq f.value) known)) (known ++ f.value ∷ []) next
    f.rest in
    let long : length (known ++ f.value ∷ []) ≡ length known + 1 = length-append known (f.value ∷ []) in
    ap length (sym t.1) ∙ (long ∙ omega arith)

-- distinct names, at least one
pub named : (path : List ℕ) (table : Members) (key : List ℕ) (most : ℕ) (ns : List (List ℕ))
    → names path table key most ≡ Ok ns → (0 < length ns) × (length ns ≤ most)
named path table key most ns is =
    let c : Came (items path table key 1 most) (λ ds. told (path ++ key) (read_each with_name [] ds)) ns =
    came (items path table key 1 most) (λ ds. told (path ++ key) (read_each with_name [] ds)) ns is in
    let many : (1 ≤ length c.value) × (length c.value ≤ most) = so_many path table key 1 most c.value c.first in
    let long : 0 + length c.value ≡ length ns =
    sym (read_each_keeps (λ n (a : List (List ℕ)). length a ≡ n) with_name
    (λ n a b next holds more. name_more a b next more ∙ ap suc holds) 0 [] c.value ns refl
    (told_some (path ++ key) (read_each with_name [] c.value) ns c.rest)) in
    (omega arith, omega arith)

-- a number among names
pub number_within : (known : List (List ℕ)) (text : List ℕ) (n : ℕ) → number_of known text ≡ Some n → n < length known
number_within known text n is = (position-Some (bytes_eq text) known n [] is).0

pub among_within : (known : List (List ℕ)) (d : Data) (n : ℕ) → name_among known d ≡ Some n → n < length known
among_within known d n is =
    let f : Found (as_str d) (number_of known) n = found (as_str d) (number_of known) n is in
    number_within known f.value n f.rest

-- the words are few and some, and their names distinct
pub record AreWords (w : WordsOf) : Type 0 where
  pub few : AreFew w
  pub some : AreSome w
  pub states : AreNames (length w.states) w.states
  pub invs : AreNames (length w.invs) w.invs
  pub resps : AreNames (length w.resps) w.resps

pub words_are : (path : List ℕ) (table : Members) (w : WordsOf) → words path table ≡ Ok w → AreWords w
words_are path table w is =
    let a = came (names path table (codes "states") most_states) _ w is in
    let b = came (required path table (codes "start")) _ w a.rest in
    let c = came (told (path ++ codes "start") (name_among a.value b.value)) _ w b.rest in
    let d = came (names path table (codes "invocations") most_invocations) _ w c.rest in
    let e = came (names path table (codes "responses") most_responses) _ w d.rest in
    let states : (0 < length a.value) × (length a.value ≤ most_states) =
    named path table (codes "states") most_states a.value a.first in
    let invs : (0 < length d.value) × (length d.value ≤ most_invocations) =
    named path table (codes "invocations") most_invocations d.value d.first in
    let resps : (0 < length e.value) × (length e.value ≤ most_responses) =
    named path table (codes "responses") most_responses e.value e.first in
    let start : c.value < length a.value =
    among_within a.value b.value c.value
    (told_some (path ++ codes "start") (name_among a.value b.value) c.value c.first) in
    subst AreWords
    (same_ok (record { states = a.value; start = c.value; invs = d.value; resps = e.value }) w e.rest) (record {
      few = record { states = states.1; invs = invs.1; resps = resps.1 };
      some = record { states = states.0; invs = invs.0; resps = resps.0; start = start };
      states = names_are path table (codes "states") most_states a.value a.first;
      invs = names_are path table (codes "invocations") most_invocations d.value d.first;
      resps = names_are path table (codes "responses") most_responses e.value e.first;
    })

-- no fault of the rows
pub ruled_ok : (place : ℕ) (name : List ℕ) (rules r : Rules) (fault : Option TableFault)
    → ruled place name rules fault ≡ Ok r → (fault ≡ None) × (rules ≡ r)
ruled_ok place name rules r None is = (refl, same_ok rules r is)
ruled_ok place name rules r (Some fault) is = absurd (let never : ⊥ = cc in never)

-- the table of rows is the one of the words
pub record IsTable (w : WordsOf) (rules : Rules) : Type 0 where
  pub sound : IsSound rules
  pub states : rules.states ≡ length w.states
  pub invs : rules.invs ≡ length w.invs
  pub resps : rules.resps ≡ length w.resps

pub table_is : (place : ℕ) (name : List ℕ) (w : WordsOf) (rs : List Row) (rules : Rules) → AreWords w
    → table_of place name w rs ≡ Ok rules → IsTable w rules
table_is place name w rs rules are is =
    let whole : Rules = rules_of (length w.states) (length w.invs) (length w.resps) w.start rs in
    let none = ruled_ok place name whole rules (fault_of whole) is in
    subst (IsTable w) none.1 (record {
      sound = record {
        has_state = are.some.states;
        has_inv = are.some.invs;
        has_resp = are.some.resps;
        states = are.few.states;
        invs = are.few.invs;
        resps = are.few.resps;
        begins = are.some.start;
        faultless = none.0;
      };
      states = refl;
      invs = refl;
      resps = refl;
    })

-- a triple is of the states
abbrev IsOf : ℕ → Triple → Type 0
IsOf states t = (t.view < states) × (t.log < states)

triple_of : (w : WordsOf) (events : List Event) (text : List ℕ) (t : Triple) → triple_in w events text ≡ Some t
    → IsOf (length w.states) t
triple_of w events text t is =
    let a = found (three text) _ t is in
    let b = found (number_of w.states a.value.0) _ t a.rest in
    let c = found (number_of w.states a.value.1) _ t b.rest in
    let d = mapped (out_in w events a.value.2) _ t c.rest in
    let view : b.value < length w.states = number_within w.states a.value.0 b.value b.first in
    let log : c.value < length w.states = number_within w.states a.value.1 c.value c.first in
    subst (IsOf (length w.states)) d.rest (view, log)

-- a list with what was read
read_more : {A : Type 0} (P : A → Type 0) (read : List ℕ → Option A) (so_far : List A) (d : Data) (next : List A)
    → ((text : List ℕ) (a : A) → read text ≡ Some a → P a) → All P so_far → with_read read so_far d ≡ Some next
    → All P next
read_more P read so_far d next each_is all is =
    let m = mapped (option_and_then read (as_str d)) (λ a. so_far ++ a ∷ []) next is in
    let f = found (as_str d) read m.value m.first in
    subst (All P) m.rest (one_more P so_far m.value all (each_is f.value m.value f.rest))

pub read_long : {A : Type 0} (read : List ℕ → Option A) (so_far : List A) (d : Data) (next : List A)
    → with_read read so_far d ≡ Some next → length next ≡ suc (length so_far)
read_long read so_far d next is =
    let m = mapped (option_and_then read (as_str d)) (λ a. so_far ++ a ∷ []) next is in
    let long : length (so_far ++ m.value ∷ []) ≡ length so_far + 1 = length-append so_far (m.value ∷ []) in
    ap length (sym m.rest) ∙ (long ∙ omega arith)

pub then_some : {A : Type 0} (b : Bool) (o : Option A) (a : A) → cond b o None ≡ Some a → (b ≡ true) × (o ≡ Some a)
then_some true o a is = (refl, is)
then_some false o a is = absurd (let never : ⊥ = cc in never)

-- the triples are few and of the states
pub triples_of_states : (w : WordsOf) (events : List Event) (ds : List Data) (ts : List Triple)
    → triples_in w events ds ≡ Some ts
    → (length ts ≤ most_triples) × All (IsOf (length w.states)) ts
triples_of_states w events ds ts is =
    let t = then_some (nat_le (length ds) most_triples) _ ts is in
    let f = found (read_each (with_read (triple_in w events)) [] ds) _ ts t.1 in
    let same : f.value ≡ ts = (cond_some (are_few_alike f.value) f.value ts f.rest).1 in
    let few : length ds ≤ most_triples = leb-true (length ds) most_triples t.0 in
    let long : length f.value ≡ 0 + length ds =
    read_each_keeps (λ n (a : List Triple). length a ≡ n) (with_read (triple_in w events))
    (λ n a b next holds more. read_long (triple_in w events) a b next more ∙ ap suc holds) 0 [] ds f.value refl f.first
    in
    subst (λ (xs : List Triple). (length xs ≤ most_triples) × All (IsOf (length w.states)) xs) same (
      omega arith,
      read_each_keeps (λ n. All (IsOf (length w.states))) (with_read (triple_in w events))
          (λ n a b next holds more. read_more (IsOf (length w.states)) (triple_in w events) a b next
          (triple_of w events) holds more) 0 [] ds f.value (All-nil (IsOf (length w.states))) f.first,
    )

-- what a type keeps
pub record IsTypeKept (t : TypeOf) : Type 0 where
  pub words : AreWords t.words
  pub events : length t.events ≤ most_events
  pub events_are : t.events ≡ events_of t.kind.table.rows
  pub table : IsSound t.kind.table
  pub triples : AreOfStates t.kind t.triples
  pub states : AreNames t.kind.table.states t.words.states
  pub invs : AreNames t.kind.table.invs t.words.invs
  pub resps : AreNames t.kind.table.resps t.words.resps

pub type_kept : (path : List ℕ) (table : Members) (place : ℕ) (name : List ℕ) (t : TypeOf)
    → type_of path table place name ≡ Ok t → IsTypeKept t
type_kept path table place name t is =
    let a = came (words path table) _ t is in
    let b = came (rows path table a.value) _ t a.rest in
    let c = came (table_of place name a.value b.value) _ t b.rest in
    let d = came (relation path table a.value (events_of c.value.rows)) _ t c.rest in
    let e = came (triples path table a.value (events_of c.value.rows)) _ t d.rest in
    let f = came (no_others path table type_keys) _ t e.rest in
    let g = came (optional path table (codes "triples")) _ e.value e.first in
    let are : AreWords a.value = words_are path table a.value a.first in
    let ruled : IsTable a.value c.value = table_is place name a.value b.value c.value are c.first in
    let few : (length e.value ≤ most_triples) × All (IsOf (length a.value.states)) e.value =
    triples_of_states a.value (events_of c.value.rows) g.value e.value
    (told_some (path ++ codes "triples") (triples_in a.value (events_of c.value.rows) g.value) e.value g.rest) in
    subst IsTypeKept
    (same_ok (record {
      words = a.value;
      events = events_of c.value.rows;
      kind = record { table = c.value; relation = d.value };
      triples = e.value;
    }) t f.rest)
    (record {
      words = are;
      events = few_events c.value ruled.sound.faultless;
      events_are = refl;
      table = ruled.sound;
      triples = (few.0, subst (λ n. All (IsOf n) e.value) (sym ruled.states) few.1);
      states = subst (λ n. AreNames n a.value.states) (sym ruled.states) are.states;
      invs = subst (λ n. AreNames n a.value.invs) (sym ruled.invs) are.invs;
      resps = subst (λ n. AreNames n a.value.resps) (sym ruled.resps) are.resps;
    })

-- so many types, each with a name
pub record AreTypes (n : ℕ) (types : TypesOf) : Type 0 where
  pub names : length types.names ≡ n
  pub named : AreNames n types.names
  pub long : length types.list ≡ n
  pub kept : All IsTypeKept types.list

pub type_more : (n : ℕ) (types : TypesOf) (d : Data) (next : TypesOf) → AreTypes n types → with_type types d ≡ Ok next
    → AreTypes (suc n) next
type_more n types d next are is =
    let path : List ℕ = keys_path (codes "type") (length types.names) in
    let a = came (item_table (codes "type") (length types.names) d) _ next is in
    let b = came (required path a.value (codes "name")) _ next a.rest in
    let c = came (told (path ++ codes "name") (with_name types.names b.value)) _ next b.rest in
    let e = came (type_of path a.value (length types.names) (name_at c.value (length types.names))) _ next c.rest in
    let long : length (types.list ++ e.value ∷ []) ≡ length types.list + 1 = length-append types.list (e.value ∷ []) in
    let before : length types.list ≡ n = are.long in
    subst (AreTypes (suc n))
    (same_ok (record { names = c.value; list = types.list ++ e.value ∷ [] }) next e.rest) (record {
      names =
          name_more types.names b.value c.value
          (told_some (path ++ codes "name") (with_name types.names b.value) c.value c.first) ∙ ap suc are.names;
      named =
          names_more n types.names b.value c.value are.named
          (told_some (path ++ codes "name") (with_name types.names b.value) c.value c.first);
      long = long ∙ omega arith;
      kept =
          one_more IsTypeKept types.list e.value are.kept
          (type_kept path a.value (length types.names) (name_at c.value (length types.names)) e.value e.first);
    })

pub record AreTypesKept (types : TypesOf) : Type 0 where
  pub some : 0 < length types.list
  pub few : length types.list ≤ most_types
  pub names : length types.names ≡ length types.list
  pub named : AreNames (length types.list) types.names
  pub kept : All IsTypeKept types.list

pub types_kept : (path : List ℕ) (table : Members) (types : TypesOf) → types_of path table ≡ Ok types
    → AreTypesKept types
types_kept path table types is =
    let c = came (items path table (codes "type") 1 most_types) _ types is in
    let many : (1 ≤ length c.value) × (length c.value ≤ most_types) =
    so_many path table (codes "type") 1 most_types c.value c.first in
    let are : AreTypes (0 + length c.value) types =
    each_keeps AreTypes with_type type_more 0 (record { names = []; list = [] }) c.value types
    (record { names = refl; named = no_names; long = refl; kept = All-nil IsTypeKept }) c.rest in
    let long : length types.list ≡ length c.value = are.long ∙ zero_first (length c.value) in
    record {
      some = omega arith;
      few = omega arith;
      names = are.names ∙ sym are.long;
      named = subst (λ n. AreNames n types.names) (sym are.long) are.named;
      kept = are.kept;
    }
