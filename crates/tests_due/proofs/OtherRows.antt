-- Rows that those histories and the random ones don't have: their replies are due.
use Rattle.std.proofs.Common.{[], refl}
use Rattle.qc_decl.specs.Vocabulary.{actors, three}
use Rattle.qc_msg.specs.Vocabulary.{deeds}
use Rattle.qc_promise.specs.Vocabulary.{AreRepliesDue, Due}
use Rattle.tests_due.proofs.Orders.{by_turns_where_placed, mailed_where_shown}
use Rattle.tests_due.proofs.Owed.{all_due_where_shown, due_where_shown}
use Rattle.tests_due.proofs.Sites.{sites_due_where_posted}
use Rattle.tests_due.specs.LaterRows as later_rows
use Rattle.tests_due.specs.LongTransaction as long_transaction

pub closed_reading_due : AreRepliesDue three 0 (deeds 3 [] later_rows.closed_reading)
closed_reading_due = due_where_shown three 0 (deeds 3 [] later_rows.closed_reading) refl

pub closed_appending_due : AreRepliesDue three 0 (deeds 3 [] later_rows.closed_appending)
closed_appending_due = due_where_shown three 0 (deeds 3 [] later_rows.closed_appending) refl

pub closed_vote_due : AreRepliesDue three 0 (deeds 3 [] later_rows.closed_vote)
closed_vote_due = due_where_shown three 0 (deeds 3 [] later_rows.closed_vote) refl

pub restarted_due : AreRepliesDue three 0 (deeds 3 [] later_rows.restarted)
restarted_due = due_where_shown three 0 (deeds 3 [] later_rows.restarted) refl

pub fault_due : AreRepliesDue three 0 (deeds 3 [] later_rows.fault)
fault_due = due_where_shown three 0 (deeds 3 [] later_rows.fault) refl

pub forgotten_due : AreRepliesDue three 0 (deeds 3 [] later_rows.forgotten)
forgotten_due = due_where_shown three 0 (deeds 3 [] later_rows.forgotten) refl

pub left_behind_due : AreRepliesDue three 0 (deeds 3 [] later_rows.left_behind)
left_behind_due = due_where_shown three 0 (deeds 3 [] later_rows.left_behind) refl

pub unknown_due : AreRepliesDue three 0 (deeds 3 [] later_rows.unknown)
unknown_due = due_where_shown three 0 (deeds 3 [] later_rows.unknown) refl

pub too_long_due : Due three long_transaction.too_long
too_long_due = record {
  turns = by_turns_where_placed three long_transaction.too_long (actors three) refl;
  mail = mailed_where_shown [] long_transaction.too_long refl;
  replies = all_due_where_shown three long_transaction.too_long three.clients refl;
  sites = sites_due_where_posted three long_transaction.too_long three.sites refl;
  admin = tt;
}
