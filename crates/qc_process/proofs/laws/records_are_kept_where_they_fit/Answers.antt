use Rattle.std.proofs.Common.{List}
use Rattle.qc_msg.specs.Vocabulary.{Entry, own}
use Rattle.qc_promise.specs.Vocabulary.{journal_of}
use Rattle.qc_process.specs.Vocabulary.{journal_fits}
use Rattle.qc_process.proofs.Seen.{kept_at}
use Rattle.qc_process.proofs.laws.records_are_kept_where_they_fit.Goals as goal

pub returns : goal.returns
returns c decl h each fits =
    c.fitting_records_are_kept.ensures h (λ a (before : List Entry). journal_fits decl a (journal_of (own a before)))
    (kept_at decl h each) fits
