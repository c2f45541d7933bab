use Rattle.std.proofs.Common.{◌≡◌, true}
use Rattle.toml.specs.View.{table_view}
use Rattle.qc_accept.proofs.Documents.{document_read, no_document}
use Rattle.qc_accept.proofs.acceptance.document.Goals as goal

pub returns-in-Ok : goal.returns-in-Ok
returns-in-Ok c = document_read c.args.bytes.now (table_view c.in-Ok.table) c.in-Ok.ensures.ok.0 c.in-Ok.ensures.ok.1

pub returns-in-Err-2 : goal.returns-in-Err-2
returns-in-Err-2 c = λ known.
    no_document c.args.bytes.now
    (c.in-Err.ensures.refused (λ memory. let told : c.is_memory.result ≡ true = c.is_memory.ensures.1 memory in
    let never : ⊥ = cc in never))
