-- Reading what follows a type's name, one key after another.
use Rattle.std.proofs.Common.{◌≡◌, ◌≢◌, ℕ, suc, ◌+◌, ◌≤◌, List, [], ◌++◌, length, Ok, Err, refl, ap, sym, ◌∙◌, subst}
use Rattle.std.proofs.Common.{arith}
use Rattle.std.specs.Prelude.{codes}
use Rattle.toml.specs.Data.{Data, Members}
use Rattle.qc_cert.specs.declared.triple.Triple.{Triple}
use Rattle.qc_table.specs.Vocabulary.{Rules, events_of}
use Rattle.qc_table.specs.declared.row.Event.{Event}
use Rattle.qc_table.specs.declared.row.Row.{Row}
use Rattle.qc_decl.specs.Vocabulary.{most_events, most_rows}
use Rattle.qc_accept.specs.declared.fault.DeclFault.{DeclFault}
use Rattle.qc_accept.specs.declared.fault.DeclFault.TheVariants.{OutOfMemory}
use Rattle.qc_list.specs.Vocabulary.{◌>>=◌}
use Rattle.qc_accept.specs.Vocabulary.{Answer, TypeOf, WordsOf, items, no_others, relation, row_in, rows, rows_in}
use Rattle.qc_accept.specs.Vocabulary.{table_of, told, triples, type_keys, type_of, with_read, words}
use Rattle.qc_accept.proofs.Answered.{came, read_each_keeps, told_some, so_many}
use Rattle.qc_accept.proofs.Kept.{IsTable, read_long, table_is, words_are}
use Rattle.qc_accept.proofs.Told.{then_ok, then_err}
use Rattle.qc_table.proofs.Few.{few_events}

-- the rows are as few as their items
pub few_rows : (path : List ℕ) (table : Members) (w : WordsOf) (ds : List Data) (rs : List Row)
    → items path table (codes "rows") 0 most_rows ≡ Ok ds
    → told (path ++ codes "rows") (rows_in w ds) ≡ Ok rs → length rs ≤ most_rows
few_rows path table w ds rs a b =
    let many : (0 ≤ length ds) × (length ds ≤ most_rows) = so_many path table (codes "rows") 0 most_rows ds a in
    let long : length rs ≡ 0 + length ds =
    read_each_keeps (λ n (a : List Row). length a ≡ n) (with_read (row_in w))
    (λ n a b next holds more. read_long (row_in w) a b next more ∙ ap suc holds) 0 [] ds rs refl
    (told_some (path ++ codes "rows") (rows_in w ds) rs b) in
    omega arith

-- the events of a table that was read are few
pub events_few : (path : List ℕ) (table : Members) (place : ℕ) (name : List ℕ) (w : WordsOf) (rs : List Row)
    (rules : Rules) (events : List Event)
    → words path table ≡ Ok w → table_of place name w rs ≡ Ok rules → events ≡ events_of rules.rows
    → length events ≤ most_events
events_few path table place name w rs rules events a b is =
    let sound : IsTable w rules = table_is place name w rs rules (words_are path table w a) b in
    subst (λ (es : List Event). length es ≤ most_events) (sym is) (few_events rules sound.sound.faultless)

module _ (path : List ℕ) (table : Members) (place : ℕ) (name : List ℕ) where
  -- what follows the words, the table, the relation and the triples
  abbrev pub after_triples : WordsOf → Rules → List Event → List ℕ → List Triple → Answer TypeOf
  after_triples w rules events rel ts =
      no_others path table type_keys >>= (λ _. Ok
      (record { words = w; events = events; kind = record { table = rules; relation = rel }; triples = ts }))

  abbrev pub after_relation : WordsOf → Rules → List Event → List ℕ → Answer TypeOf
  after_relation w rules events rel = triples path table w events >>= after_triples w rules events rel

  abbrev pub after_rules : WordsOf → Rules → List Event → Answer TypeOf
  after_rules w rules events = relation path table w events >>= after_relation w rules events

  abbrev pub after_rows : WordsOf → List Row → Answer TypeOf
  after_rows w rs = table_of place name w rs >>= (λ rules. after_rules w rules (events_of rules.rows))

  abbrev pub after_words : WordsOf → Answer TypeOf
  after_words w = rows path table w >>= after_rows w

  -- the words
  pub no_words : (fault : DeclFault) → (fault ≢ OutOfMemory → words path table ≡ Err fault) → fault ≢ OutOfMemory
      → type_of path table place name ≡ Err fault
  no_words fault is apart = then_err (words path table) after_words fault is apart

  pub has_words : (w : WordsOf) (whole : Answer TypeOf) → words path table ≡ Ok w → after_words w ≡ whole
      → type_of path table place name ≡ whole
  has_words w whole is rest = then_ok (words path table) after_words w whole is rest

  pub has_rules : (w : WordsOf) (rs : List Row) (rules : Rules) (events : List Event) (whole : Answer TypeOf)
      → table_of place name w rs ≡ Ok rules
      → events ≡ events_of rules.rows → after_rules w rules events ≡ whole → after_rows w rs ≡ whole
  has_rules w rs rules events whole is same rest =
      then_ok (table_of place name w rs) (λ rules. after_rules w rules (events_of rules.rows)) rules whole is
      (subst (λ (es : List Event). after_rules w rules es ≡ whole) same rest)

  -- the rows and their table, in one
  pub no_ruled : (w : WordsOf) (fault : DeclFault)
      → (fault ≢ OutOfMemory → (rows path table w >>= table_of place name w) ≡ Err fault) → fault ≢ OutOfMemory
      → after_words w ≡ Err fault
  no_ruled w fault is apart = joined (rows path table w) (is apart)
    where
      joined : (read : Answer (List Row)) → (read >>= table_of place name w) ≡ Err fault
          → (read >>= after_rows w) ≡ Err fault
      joined (Ok rs) e = then_err (table_of place name w rs) (λ rules. after_rules w rules (events_of rules.rows)) fault
          (λ _. e) apart
      joined (Err other) e = let same : other ≡ fault = cc in
          ap (λ (f : DeclFault). let answer : Answer TypeOf = Err f in answer) same

  pub has_ruled : (w : WordsOf) (rules : Rules) (events : List Event) (whole : Answer TypeOf)
      → (rows path table w >>= table_of place name w) ≡ Ok rules
      → events ≡ events_of rules.rows → after_rules w rules events ≡ whole → after_words w ≡ whole
  has_ruled w rules events whole is same rest =
      let a = came (rows path table w) (table_of place name w) rules is in
      then_ok (rows path table w) (after_rows w) a.value whole a.first
      (has_rules w a.value rules events whole a.rest same rest)

  pub few_ruled : (w : WordsOf) (rules : Rules) (events : List Event) → words path table ≡ Ok w
      → (rows path table w >>= table_of place name w) ≡ Ok rules
      → events ≡ events_of rules.rows → length events ≤ most_events
  few_ruled w rules events a is same =
      let c = came (rows path table w) (table_of place name w) rules is in
      events_few path table place name w c.value rules events a c.rest same
