use Rattle.std.proofs.Common.{[], ◌++◌}
use Rattle.qc_accept.specs.Vocabulary.{data_of, items, names_in, path_in, read_each, table_in, with_name}
use Rattle.qc_accept.proofs.Told.{then_answers, told_answers}
use Rattle.qc_accept.proofs.kinds.read_names.Goals as goal

pub returns : goal.returns
returns c =
    then_answers names_in c.told.result (items (path_in c.args.fields.now)
    (table_in c.args.fields.now) c.args.key.now 1 c.args.most) _ (data_of c.in_ok-items.items.now)
    c.in_ok-items.ensures
    (told_answers names_in (path_in c.args.fields.now ++ c.args.key.now)
    (read_each with_name [] (data_of c.in_ok-items.items.now)) c.read_index.result c.told.result
    c.read_index.ensures c.told.ensures)
