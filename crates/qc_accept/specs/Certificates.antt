-- What stands behind a type's rows: its relation and its triples, and no unknown key.
use Rattle.std.specs.Prelude.{ℕ, List, Ok}
use Rattle.toml.specs.Data.{Members}
use Rattle.qc_table.specs.Vocabulary.{Rules, events_of}
use Rattle.qc_table.specs.declared.row.Event.{Event}
use Rattle.qc_accept.specs.declared.kinds.Certificate.{Certificate}
use Rattle.qc_list.specs.Vocabulary.{◌>>=◌}
use Rattle.qc_accept.specs.Answers.{Answer}
use Rattle.qc_accept.specs.Fields.{no_others}
use Rattle.qc_accept.specs.Types.{WordsOf, TypeOf, relation, triples, type_keys}

abbrev pub certificate_of : List ℕ → Members → WordsOf → List Event → Answer Certificate
certificate_of path table w events =
    relation path table w events >>= (λ rel.
    triples path table w events >>= (λ ts.
    no_others path table type_keys >>= (λ _.
    Ok (record { relation = rel; triples = ts }))))

-- the type of these words, rows and certificate
abbrev pub type_with : WordsOf → Rules → Certificate → TypeOf
type_with w rules c = record {
  words = w;
  events = events_of rules.rows;
  kind = record { table = rules; relation = c.relation };
  triples = c.triples;
}

abbrev pub rest_of : List ℕ → Members → WordsOf → Rules → Answer TypeOf
rest_of path table w rules = certificate_of path table w (events_of rules.rows) >>= (λ c. Ok (type_with w rules c))
