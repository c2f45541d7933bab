use Rattle.std.proofs.Common.{◌≡◌, ◌+◌, ◌<◌, drop}
use Rattle.std.specs.List.{AllByRecursion as Every}
use Rattle.qc_msg.specs.declared.turn.Posting.{Posting}
use Rattle.qc_mailbox.specs.Vocabulary.{after_sends}
use Rattle.qc_mailbox.proofs.mailboxes.Mailboxes.send_all.Given as goal
use Rattle.qc_link.specs.Vocabulary.{most_actors}

abbrev pub invariant-postings : goal.invariant-postings
invariant-postings l = record {
  sent : after_sends l.self.inboxes l.actor (drop l.posting-index l.postings)
      ≡ after_sends l.initial.self.inboxes l.actor l.postings;
  all : l.self.inboxes.counts.all ≡ l.initial.self.inboxes.counts.all + l.posting-index;
  receivers : Every (λ (p : Posting). p.to < most_actors) (drop l.posting-index l.postings);
  room : l.self.room + l.posting-index ≡ l.initial.self.room;
}
