use Rattle.std.proofs.Common.{◌++◌}
use Rattle.std.specs.Prelude.{codes, option_map}
use Rattle.qc_table.specs.Vocabulary.{relation_of}
use Rattle.qc_accept.specs.Vocabulary.{data_of, events_in, optional, pairs_in, path_in, table_in, words_in}
use Rattle.qc_accept.proofs.Told.{then_answers, told_answers}
use Rattle.qc_accept.proofs.kinds.read_relation.Goals as goal

pub returns : goal.returns
returns c =
    then_answers (λ r. r) c.told.result (optional (path_in c.args.fields.now) (table_in c.args.fields.now)
    (codes "depends")) _ (data_of c.in_ok-items.items.now) c.in_ok-items.ensures
    (told_answers (λ r. r) (path_in c.args.fields.now ++ codes "depends")
    (option_map relation_of (pairs_in (words_in c.args.words.now) (events_in c.args.events.now)
    (data_of c.in_ok-items.items.now))) c.relation-read.result c.told.result c.relation-read.ensures c.told.ensures)
