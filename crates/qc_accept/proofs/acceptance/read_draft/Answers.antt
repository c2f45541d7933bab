use Rattle.std.specs.Prelude.{codes}
use Rattle.std.proofs.lemmas.Result.{err_from_is_err_and}
use Rattle.toml.specs.View.{table_view}
use Rattle.qc_decl.specs.Vocabulary.{most_sites}
use Rattle.qc_accept.specs.Vocabulary.{draft_in, path_in, table_in}
use Rattle.qc_accept.proofs.DraftRead.{lists_read, no_clients, no_sites}
use Rattle.qc_accept.proofs.Drafted.{number_is}
use Rattle.qc_accept.proofs.acceptance.read_draft.Goals as goal

pub read_lists-requires : goal.read_lists-requires
read_lists-requires c = (number_is (path_in c.of_document-root.result) (table_in c.of_document-root.result)
    (codes "sites") 1 most_sites c.in_ok-sites.sites c.in_ok-sites.ensures).1

pub returns-in_err-sites : goal.returns-in_err-sites
returns-in_err-sites c =
    let told = err_from_is_err_and c.from_residual.result c.from_residual.ensures.1 in
    rw (told.1, told.2)
    (no_sites draft_in (path_in c.of_document-root.result) (table_in c.of_document-root.result)
    (table_view c.args.table.now) c.of_document-root.ensures.path c.of_document-root.ensures.table
    _ c.in_err-sites.ensures)

pub returns-in_err-clients : goal.returns-in_err-clients
returns-in_err-clients c =
    let told = err_from_is_err_and c.from_residual-in_err-clients.result c.from_residual-in_err-clients.ensures.1 in
    rw (told.1, told.2)
    (no_clients draft_in (path_in c.of_document-root.result) (table_in c.of_document-root.result)
    (table_view c.args.table.now) c.of_document-root.ensures.path c.of_document-root.ensures.table
    _ c.in_ok-sites.sites c.in_ok-sites.ensures c.in_err-clients.ensures)

pub returns : goal.returns
returns c =
    lists_read draft_in (path_in c.of_document-root.result) (table_in c.of_document-root.result)
    (table_view c.args.table.now) c.of_document-root.ensures.path c.of_document-root.ensures.table
    c.read_lists.result c.in_ok-sites.sites c.in_ok-clients.clients c.in_ok-sites.ensures c.in_ok-clients.ensures
    c.read_lists.ensures
