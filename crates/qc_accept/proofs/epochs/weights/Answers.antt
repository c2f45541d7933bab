use Rattle.std.proofs.Common.{[], ◌++◌}
use Rattle.std.specs.Prelude.{codes}
use Rattle.qc_accept.specs.Vocabulary.{data_of, items, path_in, read_each, table_in, with_weight}
use Rattle.qc_accept.proofs.Told.{then_answers, told_answers}
use Rattle.qc_accept.proofs.epochs.weights.Goals as goal

pub returns : goal.returns
returns c =
    then_answers (λ ws. ws) c.told.result (items (path_in c.args.fields.now) (table_in c.args.fields.now)
    (codes "weights") c.args.sites c.args.sites) _ (data_of c.in_ok-items.items.now)
    c.in_ok-items.ensures
    (told_answers (λ ws. ws) (path_in c.args.fields.now ++ codes "weights")
    (read_each with_weight [] (data_of c.in_ok-items.items.now)) c.read_weights.result c.told.result
    c.read_weights.ensures c.told.ensures)
