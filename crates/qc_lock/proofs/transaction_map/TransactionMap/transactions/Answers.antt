use Rattle.std.proofs.Common.{sym, ◌∙◌, ap}
use Rattle.std.specs.Prelude.{is_some}
use Rattle.qc_lock.specs.Vocabulary.{one_of}
use Rattle.qc_lock.proofs.NumberedEntries.{has_number}
use Rattle.qc_lock.proofs.transaction_map.TransactionMap.transactions.Goals as goal

pub returns-clause-just : goal.returns-clause-just
returns-clause-just g c = λ tx.
    let tx_of = g.T.OfTransaction.tx_of in
    sym (c.keys.ensures.has tx)
    ∙ ap is_some (c.self.invariant.known tx)
    ∙ has_number tx_of c.self.inside.entries.entries tx
    ∙ ap (λ xs. is_some (one_of tx_of xs tx)) c.self.view_is
