-- What the fields of a type say: items are what texts say, in their order.
use Rattle.std.proofs.Common.{◌≡◌, ℕ, List, [], ◌∷◌, ◌++◌, length, map, Option, Some, None, Ok, sym, ap, ◌∙◌, subst}
use Rattle.std.specs.Prelude.{◌&&◌, not, codes, nat_le, slice_get, option_map, option_and_then}
use Rattle.std.specs.List.{list_any}
use Rattle.std.specs.Str.{bytes_eq}
use Rattle.std.specs.Option.{option_map_or}
use Rattle.std.proofs.lemmas.List.{append-nil, append_assoc, map-append}
use Rattle.std.proofs.lemmas.Option.{cond_some}
use Rattle.toml.specs.Data.{Data, Items, Members, as_array, as_str, get_member}
use Rattle.qc_table.specs.Vocabulary.{Rules, events_of, fault_of, relation_of, rules_of}
use Rattle.qc_table.specs.declared.relation.Pair.{Pair}
use Rattle.qc_table.specs.declared.row.Event.{Event}
use Rattle.qc_table.specs.declared.row.Row.{Row}
use Rattle.qc_cert.specs.declared.triple.Triple.{Triple}
use Rattle.qc_decl.proofs.Places.{place_at}
use Rattle.qc_decl.specs.Vocabulary.{is_between, is_name, most_invocations, most_responses, most_rows, most_states}
use Rattle.qc_decl.specs.Vocabulary.{most_triples}
use Rattle.qc_accept.specs.Vocabulary.{AreTexts, IsSpelled, TypeOf, WordsOf, are_few_alike, array_at, items}
use Rattle.qc_accept.specs.Vocabulary.{items_between, listed, name_among, names, no_others, number_of, optional}
use Rattle.qc_accept.specs.Vocabulary.{pair_in, pairs_in, read_each, relation, required, row_in, rows, rows_in}
use Rattle.qc_accept.specs.Vocabulary.{table_of, told, triple_in, triples, triples_in, type_keys, type_of, with_name}
use Rattle.qc_accept.specs.Vocabulary.{with_read, with_text, words}
use Rattle.qc_accept.proofs.Answered.{came, found, mapped, same_ok, told_some}
use Rattle.qc_accept.proofs.Kept.{ruled_ok, then_some}

-- a reading of items one by one that adds one for each is the texts in their order
module _ {A : Type 0} (said : Data → Option A) (add : List A → Data → Option (List A))
    (grows : (so_far : List A) (d : Data) (next : List A) → add so_far d ≡ Some next
    → (a : A) × (said d ≡ Some a) × (so_far ++ a ∷ [] ≡ next)) where
  gathered : (so_far : List A) (ds : List Data) (all : List A) → read_each add so_far ds ≡ Some all
      → map Some so_far ++ map said ds ≡ map Some all
  gathered so_far [] all is = append-nil (map Some so_far) ∙ ap (map Some) (let same : so_far ≡ all = cc in same)
  gathered so_far (d ∷ ds) all is =
      let c = found (add so_far d) (λ next. read_each add next ds) all is in
      let g = grows so_far d c.value c.first in
      ap (λ (o : Option A). map Some so_far ++ o ∷ map said ds) g.1
      ∙ sym (append_assoc (map Some so_far) (Some g.0 ∷ []) (map said ds))
      ∙ ap (λ (os : List (Option A)). os ++ map said ds) (sym (map-append Some so_far (g.0 ∷ [])))
      ∙ ap (λ (xs : List A). map Some xs ++ map said ds) g.2
      ∙ gathered c.value ds all c.rest

  pub in_order : (ds : List Data) (all : List A) → read_each add [] ds ≡ Some all → map said ds ≡ map Some all
  in_order ds all is = gathered [] ds all is

-- texts that are read into a list
pub texts_in_order : {A : Type 0} (read : List ℕ → Option A) (ds : List Data) (items : List A)
    → read_each (with_read read) [] ds ≡ Some items → AreTexts read ds items
texts_in_order read ds items is =
    in_order (λ d. option_and_then read (as_str d)) (with_read read)
    (λ so_far d next more. let m = mapped (option_and_then read (as_str d)) (λ a. so_far ++ a ∷ []) next more in
    (m.value, m.first, m.rest)) ds items is

-- and names
pub names_in_order : (ds : List Data) (ns : List (List ℕ)) → read_each with_name [] ds ≡ Some ns → AreTexts Some ds ns
names_in_order ds ns is =
    in_order (λ d. option_and_then Some (as_str d)) with_name
    (λ so_far d next more.
    let c = found (as_str d) (with_text so_far) next more in
    let t = cond_some (is_name c.value && not (list_any (bytes_eq c.value) so_far))
    (so_far ++ c.value ∷ []) next c.rest in
    (c.value, ap (option_and_then Some) c.first, t.1)) ds ns is

-- the items of an array that has to be there
pub items_are : (path : List ℕ) (table : Members) (key : List ℕ) (least most : ℕ) (ds : List Data)
    → items path table key least most ≡ Ok ds → array_at table key ≡ ds
items_are path table key least most ds is =
    let c = came (required path table key) (λ d. told (path ++ key) (items_between least most d)) ds is in
    let member : get_member key table ≡ Some c.value = told_some (path ++ key) (get_member key table) c.value c.first in
    let a = found (as_array c.value) _ ds (told_some (path ++ key) (items_between least most c.value) ds c.rest) in
    let t = cond_some (is_between least most (length (listed a.value))) (listed a.value) ds a.rest in
    ap (λ (o : Option Data). option_map_or listed (option_and_then as_array o) []) member
    ∙ ap (λ (o : Option Items). option_map_or listed o []) a.first ∙ t.1

-- and of one that may be missing
pub optional_are : (path : List ℕ) (table : Members) (key : List ℕ) (ds : List Data) → optional path table key ≡ Ok ds
    → array_at table key ≡ ds
optional_are path table key ds is =
    by (get_member key table) (told_some (path ++ key)
    (option_map_or (λ d. option_map listed (as_array d)) (get_member key table) (Some [])) ds is)
  where
    by : (o : Option Data) → option_map_or (λ d. option_map listed (as_array d)) o (Some []) ≡ Some ds
        → option_map_or listed (option_and_then as_array o) [] ≡ ds
    by None none = cc
    by (Some d) some = let m = mapped (as_array d) listed ds some in
        ap (λ (o : Option Items). option_map_or listed o []) m.first ∙ m.rest

names_spelled : (path : List ℕ) (table : Members) (key : List ℕ) (most : ℕ) (ns : List (List ℕ))
    → names path table key most ≡ Ok ns → AreTexts Some (array_at table key) ns
names_spelled path table key most ns is =
    let c = came (items path table key 1 most) (λ ds. told (path ++ key) (read_each with_name [] ds)) ns is in
    subst (λ (ds : List Data). AreTexts Some ds ns) (sym (items_are path table key 1 most c.value c.first))
    (names_in_order c.value ns (told_some (path ++ key) (read_each with_name [] c.value) ns c.rest))

-- the words of a type
record AreSpelled (table : Members) (w : WordsOf) : Type 0 where
  states : AreTexts Some (array_at table (codes "states")) w.states
  invs : AreTexts Some (array_at table (codes "invocations")) w.invs
  resps : AreTexts Some (array_at table (codes "responses")) w.resps
  start : slice_get w.states w.start ≡ option_and_then as_str (get_member (codes "start") table)

words_spelled : (path : List ℕ) (table : Members) (w : WordsOf) → words path table ≡ Ok w → AreSpelled table w
words_spelled path table w is =
    let a = came (names path table (codes "states") most_states) _ w is in
    let b = came (required path table (codes "start")) _ w a.rest in
    let c = came (told (path ++ codes "start") (name_among a.value b.value)) _ w b.rest in
    let d = came (names path table (codes "invocations") most_invocations) _ w c.rest in
    let e = came (names path table (codes "responses") most_responses) _ w d.rest in
    let member : get_member (codes "start") table ≡ Some b.value =
    told_some (path ++ codes "start") (get_member (codes "start") table) b.value b.first in
    let n = found (as_str b.value) (number_of a.value) c.value
    (told_some (path ++ codes "start") (name_among a.value b.value) c.value c.first) in
    subst (AreSpelled table) (same_ok (record { states = a.value; start = c.value; invs = d.value; resps = e.value }) w
    e.rest) (record {
      states = names_spelled path table (codes "states") most_states a.value a.first;
      invs = names_spelled path table (codes "invocations") most_invocations d.value d.first;
      resps = names_spelled path table (codes "responses") most_responses e.value e.first;
      start = place_at a.value n.value c.value n.rest ∙ sym (ap (option_and_then as_str) member ∙ n.first);
    })

rows_spelled : (path : List ℕ) (table : Members) (w : WordsOf) (rs : List Row) → rows path table w ≡ Ok rs
    → AreTexts (row_in w) (array_at table (codes "rows")) rs
rows_spelled path table w rs is =
    let c = came (items path table (codes "rows") 0 most_rows)
    (λ ds. told (path ++ codes "rows") (rows_in w ds)) rs is in
    subst (λ (ds : List Data). AreTexts (row_in w) ds rs)
    (sym (items_are path table (codes "rows") 0 most_rows c.value c.first))
    (texts_in_order (row_in w) c.value rs (told_some (path ++ codes "rows") (rows_in w c.value) rs c.rest))

triples_spelled : (path : List ℕ) (table : Members) (w : WordsOf) (events : List Event) (ts : List Triple)
    → triples path table w events ≡ Ok ts
    → AreTexts (triple_in w events) (array_at table (codes "triples")) ts
triples_spelled path table w events ts is =
    let c = came (optional path table (codes "triples"))
    (λ ds. told (path ++ codes "triples") (triples_in w events ds)) ts is in
    let t = then_some (nat_le (length c.value) most_triples) _ ts
    (told_some (path ++ codes "triples") (triples_in w events c.value) ts c.rest) in
    let f = found (read_each (with_read (triple_in w events)) [] c.value) _ ts t.1 in
    let same : f.value ≡ ts = (cond_some (are_few_alike f.value) f.value ts f.rest).1 in
    subst (λ (ds : List Data). AreTexts (triple_in w events) ds ts)
    (sym (optional_are path table (codes "triples") c.value c.first))
    (texts_in_order (triple_in w events) c.value ts (f.first ∙ ap Some same))

record IsRelated (table : Members) (w : WordsOf) (events : List Event) (rel : List ℕ) : Type 0 where
  pairs : List Pair
  depends : AreTexts (pair_in w events) (array_at table (codes "depends")) pairs
  related : rel ≡ relation_of pairs

relation_spelled : (path : List ℕ) (table : Members) (w : WordsOf) (events : List Event) (rel : List ℕ)
    → relation path table w events ≡ Ok rel → IsRelated table w events rel
relation_spelled path table w events rel is =
    let c = came (optional path table (codes "depends"))
    (λ ds. told (path ++ codes "depends") (option_map relation_of (pairs_in w events ds))) rel is in
    let m = mapped (pairs_in w events c.value) relation_of rel
    (told_some (path ++ codes "depends") (option_map relation_of (pairs_in w events c.value)) rel c.rest) in
    record {
      pairs = m.value;
      depends = subst (λ (ds : List Data). AreTexts (pair_in w events) ds m.value)
          (sym (optional_are path table (codes "depends") c.value c.first))
          (texts_in_order (pair_in w events) c.value m.value m.first);
      related = sym m.rest;
    }

-- so a type is what its table's texts say
pub types_are_their_texts : (path : List ℕ) (table : Members) (place : ℕ) (name : List ℕ) (t : TypeOf)
    → type_of path table place name ≡ Ok t → IsSpelled table t
types_are_their_texts path table place name t is =
    let a = came (words path table) _ t is in
    let b = came (rows path table a.value) _ t a.rest in
    let c = came (table_of place name a.value b.value) _ t b.rest in
    let d = came (relation path table a.value (events_of c.value.rows)) _ t c.rest in
    let e = came (triples path table a.value (events_of c.value.rows)) _ t d.rest in
    let f = came (no_others path table type_keys) _ t e.rest in
    let whole : Rules = rules_of (length a.value.states) (length a.value.invs)
    (length a.value.resps) a.value.start b.value in
    let rules_are : whole ≡ c.value = (ruled_ok place name whole c.value (fault_of whole) c.first).1 in
    let listed : c.value.rows ≡ b.value = sym (ap (λ (r : Rules). r.rows) rules_are) in
    let w : AreSpelled table a.value = words_spelled path table a.value a.first in
    let r : IsRelated table a.value (events_of c.value.rows) d.value =
    relation_spelled path table a.value (events_of c.value.rows) d.value d.first in
    subst (IsSpelled table)
    (same_ok (record {
      words = a.value;
      events = events_of c.value.rows;
      kind = record { table = c.value; relation = d.value };
      triples = e.value;
    }) t f.rest)
    (record {
      states = w.states;
      invs = w.invs;
      resps = w.resps;
      start = w.start;
      listed = b.value;
      rows = rows_spelled path table a.value b.value b.first;
      ruled = sym rules_are;
      pairs = r.pairs;
      depends = subst (λ (rs : List Row). AreTexts (pair_in a.value (events_of rs))
          (array_at table (codes "depends")) r.pairs) listed r.depends;
      related = r.related;
      triples = subst (λ (rs : List Row). AreTexts (triple_in a.value (events_of rs))
          (array_at table (codes "triples")) e.value) listed
          (triples_spelled path table a.value (events_of c.value.rows) e.value e.first);
    })
