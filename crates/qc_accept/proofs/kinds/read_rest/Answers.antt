use Rattle.std.proofs.lemmas.Result.{err_from_is_err_and}
use Rattle.qc_accept.specs.Vocabulary.{events_in, path_in, table_in, words_in}
use Rattle.qc_accept.proofs.Gathered.{rest_err}
use Rattle.qc_accept.proofs.kinds.read_rest.Goals as goal

pub returns-in_err-certificate : goal.returns-in_err-certificate
returns-in_err-certificate c =
    let out = err_from_is_err_and c.from_residual-in_err-certificate.result c.from_residual-in_err-certificate.ensures.1
    in
    rw (out.1, out.2)
    (rest_err (path_in c.args.fields.now) (table_in c.args.fields.now) (words_in c.args.words) c.args.table
    (events_in c.in_ok-events.events) _ c.in_ok-events.ensures c.in_err-certificate.ensures)
