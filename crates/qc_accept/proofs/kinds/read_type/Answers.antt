use Rattle.std.proofs.Common.{refl, sym, subst}
use Rattle.std.proofs.lemmas.Result.{err_from_is_err_and}
use Rattle.qc_table.specs.Vocabulary.{events_of}
use Rattle.qc_accept.specs.Vocabulary.{IsAnswer, name_at, names_in, path_in, table_in, type_in, words_in}
use Rattle.qc_accept.proofs.Gathered.{rest_is}
use Rattle.qc_accept.proofs.Kept.{words_are}
use Rattle.qc_accept.proofs.TypeFields.{few_ruled, has_words, no_ruled, no_words}
use Rattle.qc_accept.proofs.kinds.read_type.Goals as goal

pub read_table-requires : goal.read_table-requires
read_table-requires c =
    let are = words_are (path_in c.args.fields.now) (table_in c.args.fields.now)
    (words_in c.in_ok-words.words) c.in_ok-words.ensures in
    record { place = c.requires; words = are.some; few = are.few }

pub read_rest-requires : goal.read_rest-requires
read_rest-requires c = record {
  words = (words_are (path_in c.args.fields.now) (table_in c.args.fields.now)
      (words_in c.in_ok-words.words) c.in_ok-words.ensures).few;
  events =
      few_ruled (path_in c.args.fields.now) (table_in c.args.fields.now) c.args.place
      (name_at (names_in c.args.names.now) c.args.place) (words_in c.in_ok-words.words) c.in_ok-table.table
      (events_of c.in_ok-table.table.rows) c.in_ok-words.ensures c.in_ok-table.ensures refl;
}

pub returns-in_err-words : goal.returns-in_err-words
returns-in_err-words c =
    let out = err_from_is_err_and c.from_residual.result c.from_residual.ensures.1 in
    rw (out.1, out.2) (no_words (path_in c.args.fields.now) (table_in c.args.fields.now) c.args.place
    (name_at (names_in c.args.names.now) c.args.place) _ c.in_err-words.ensures)

pub returns-in_err-table : goal.returns-in_err-table
returns-in_err-table c =
    let out = err_from_is_err_and c.from_residual-in_err-table.result c.from_residual-in_err-table.ensures.1 in
    rw (out.1, out.2)
    (λ apart.
    has_words (path_in c.args.fields.now) (table_in c.args.fields.now) c.args.place
    (name_at (names_in c.args.names.now) c.args.place) (words_in c.in_ok-words.words) _ c.in_ok-words.ensures
    (no_ruled (path_in c.args.fields.now) (table_in c.args.fields.now) c.args.place
    (name_at (names_in c.args.names.now) c.args.place)
    (words_in c.in_ok-words.words) _ c.in_err-table.ensures apart))

pub returns : goal.returns
returns c =
    subst (λ answer. IsAnswer type_in c.read_rest.result answer)
    (sym
    (rest_is (path_in c.args.fields.now) (table_in c.args.fields.now) c.args.place
    (name_at (names_in c.args.names.now) c.args.place)
    (words_in c.in_ok-words.words) c.in_ok-table.table c.in_ok-words.ensures
    c.in_ok-table.ensures))
    c.read_rest.ensures
