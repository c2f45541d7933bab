-- All is due in the worked histories.
use Rattle.std.proofs.Common.{[], refl}
use Rattle.qc_decl.specs.Vocabulary.{actors, three}
use Rattle.qc_promise.specs.Vocabulary.{Due}
use Rattle.tests_due.proofs.Orders.{by_turns_where_placed, mailed_where_shown}
use Rattle.tests_due.proofs.Owed.{all_due_where_shown}
use Rattle.tests_due.proofs.Sites.{sites_due_where_posted}
use Rattle.tests_histories.specs.ReadAfterWrite as read_after_write
use Rattle.tests_histories.specs.ReadBeforeCommit as read_before_commit
use Rattle.tests_histories.specs.BlindWrites as blind_writes
use Rattle.tests_histories.specs.CutOff as cut_off
use Rattle.tests_histories.specs.LateCopy as late_copy
use Rattle.tests_histories.specs.EveryMessageTwice as every_message_twice
use Rattle.tests_histories.specs.DoomedWrite as doomed_write

pub read_after_write_due : Due three read_after_write.history
read_after_write_due = record {
  turns = by_turns_where_placed three read_after_write.history (actors three) refl;
  mail = mailed_where_shown [] read_after_write.history refl;
  replies = all_due_where_shown three read_after_write.history three.clients refl;
  sites = sites_due_where_posted three read_after_write.history three.sites refl;
  admin = tt;
}

pub read_before_commit_due : Due three read_before_commit.history
read_before_commit_due = record {
  turns = by_turns_where_placed three read_before_commit.history (actors three) refl;
  mail = mailed_where_shown [] read_before_commit.history refl;
  replies = all_due_where_shown three read_before_commit.history three.clients refl;
  sites = sites_due_where_posted three read_before_commit.history three.sites refl;
  admin = tt;
}

pub blind_writes_due : Due three blind_writes.history
blind_writes_due = record {
  turns = by_turns_where_placed three blind_writes.history (actors three) refl;
  mail = mailed_where_shown [] blind_writes.history refl;
  replies = all_due_where_shown three blind_writes.history three.clients refl;
  sites = sites_due_where_posted three blind_writes.history three.sites refl;
  admin = tt;
}

pub cut_off_due : Due three cut_off.history
cut_off_due = record {
  turns = by_turns_where_placed three cut_off.history (actors three) refl;
  mail = mailed_where_shown [] cut_off.history refl;
  replies = all_due_where_shown three cut_off.history three.clients refl;
  sites = sites_due_where_posted three cut_off.history three.sites refl;
  admin = tt;
}

pub late_copy_due : Due three late_copy.history
late_copy_due = record {
  turns = by_turns_where_placed three late_copy.history (actors three) refl;
  mail = mailed_where_shown [] late_copy.history refl;
  replies = all_due_where_shown three late_copy.history three.clients refl;
  sites = sites_due_where_posted three late_copy.history three.sites refl;
  admin = tt;
}

pub every_message_twice_due : Due three every_message_twice.history
every_message_twice_due = record {
  turns = by_turns_where_placed three every_message_twice.history (actors three) refl;
  mail = mailed_where_shown [] every_message_twice.history refl;
  replies = all_due_where_shown three every_message_twice.history three.clients refl;
  sites = sites_due_where_posted three every_message_twice.history three.sites refl;
  admin = tt;
}

pub doomed_write_due : Due three doomed_write.history
doomed_write_due = record {
  turns = by_turns_where_placed three doomed_write.history (actors three) refl;
  mail = mailed_where_shown [] doomed_write.history refl;
  replies = all_due_where_shown three doomed_write.history three.clients refl;
  sites = sites_due_where_posted three doomed_write.history three.sites refl;
  admin = tt;
}
