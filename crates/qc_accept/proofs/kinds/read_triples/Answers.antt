use Rattle.std.proofs.Common.{◌++◌}
use Rattle.std.specs.Prelude.{codes}
use Rattle.qc_accept.specs.Vocabulary.{data_of, events_in, optional, path_in, table_in, triples_in, words_in}
use Rattle.qc_accept.proofs.Told.{then_answers, told_answers}
use Rattle.qc_accept.proofs.kinds.read_triples.Goals as goal

pub returns : goal.returns
returns c =
    then_answers (λ r. r) c.told.result (optional (path_in c.args.fields.now) (table_in c.args.fields.now)
    (codes "triples")) _ (data_of c.in_ok-items.items.now) c.in_ok-items.ensures
    (told_answers (λ r. r) (path_in c.args.fields.now ++ codes "triples")
    (triples_in (words_in c.args.words.now) (events_in c.args.events.now) (data_of c.in_ok-items.items.now))
    c.triples-read.result c.told.result c.triples-read.ensures c.told.ensures)
