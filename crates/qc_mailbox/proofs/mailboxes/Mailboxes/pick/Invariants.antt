use Rattle.std.proofs.Common.{◌≡◌}
use Rattle.qc_mailbox.specs.Vocabulary.{first_of, rank_in, either}
use Rattle.qc_mailbox.proofs.mailboxes.Mailboxes.pick.Given as goal

abbrev pub invariant-actors : goal.invariant-actors
invariant-actors l = l.best ≡ first_of (rank_in l.decl (either l.inputs l.held) l.self.inboxes) l.actor
