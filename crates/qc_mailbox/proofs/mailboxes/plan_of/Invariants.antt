use Rattle.std.proofs.Common.{◌≡◌, take}
use Rattle.qc_mailbox.proofs.mailboxes.plan_of.Given as goal

abbrev pub invariant-links : goal.invariant-links
invariant-links l = l.plan ≡ take l.link-index l.links
