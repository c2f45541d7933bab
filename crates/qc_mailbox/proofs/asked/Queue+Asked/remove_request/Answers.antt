use Rattle.std.proofs.Common.{rules, ◌∙◌, ◌==◌, ap, not}
use Rattle.std.proofs.lemmas.Fn.{filter_same}
use Rattle.qc_mailbox.specs.Vocabulary.{asked, items}
use Rattle.qc_mailbox.specs.declared.asked.Asked.{Asked}
use Rattle.qc_mailbox.proofs.Requested.{asked-without}
use Rattle.qc_mailbox.proofs.asked.Queue+Asked.remove_request.Goals as goal

pub returns-clause-requests : goal.returns-clause-requests
returns-clause-requests c =
    ap asked (filter_same _ (λ (m : Asked). not (m.number == c.args.number)) _
    (λ x b f k. search rules) _ _ c.retain.ensures.filtered)
    ∙ asked-without (items c.args.self.now) c.args.number
