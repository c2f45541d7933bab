-- All is due in the worked histories.
use Rattle.std.proofs.Common.{[], refl}
use Rattle.qc_decl.specs.Vocabulary.{actors, administrator}
use Rattle.qc_msg.specs.Vocabulary.{deeds}
use Rattle.tests_due.proofs.Orders.{by_turns_where_placed, mailed_where_shown}
use Rattle.tests_due.proofs.Owed.{all_due_where_shown}
use Rattle.tests_due.proofs.Sites.{sites_due_where_posted}
use Rattle.qc_promise.specs.Vocabulary.{Due}
use Rattle.tests_epochs.proofs.Owed.{admin_due_where_shown}
use Rattle.tests_epochs.specs.MovedOnce as moved_once
use Rattle.tests_epochs.specs.StampsPassReads as stamps_pass_reads
use Rattle.tests_epochs.specs.AskLost as ask_lost
use Rattle.tests_epochs.specs.InstallsLate as installs_late
use Rattle.tests_epochs.specs.TooFewClose as too_few_close
use Rattle.tests_epochs.specs.SeveralPromises as several_promises
use Rattle.tests_epochs.specs.DoubtOfSecond as doubt_of_second
use Rattle.tests_epochs.specs.EachEntryMerged as each_entry_merged
use Rattle.tests_epochs.specs.OneUnheard as one_unheard
use Rattle.tests_epochs.specs.DoubtfulCommit as doubtful_commit
use Rattle.tests_epochs.specs.DecideStops as decide_stops
use Rattle.tests_epochs.specs.ClosedRises as closed_rises
use Rattle.tests_epochs.specs.ShutRises as shut_rises
use Rattle.tests_epochs.specs.ToldPromiseStays as told_promise_stays
use Rattle.tests_epochs.specs.InstalledAgain as installed_again
use Rattle.tests_epochs.specs.LastDecision as last_decision
use Rattle.tests_epochs.specs.AdministratorDown as administrator_down
use Rattle.tests_epochs.specs.AskedWhileActive as asked_while_active
use Rattle.tests_epochs.specs.Declarations.{three_epochs, two_objects}

pub moved_once_due : Due three_epochs moved_once.history
moved_once_due = record {
  turns = by_turns_where_placed three_epochs moved_once.history (actors three_epochs) refl;
  mail = mailed_where_shown [] moved_once.history refl;
  replies = all_due_where_shown three_epochs moved_once.history three_epochs.clients refl;
  sites = sites_due_where_posted three_epochs moved_once.history three_epochs.sites refl;
  admin = admin_due_where_shown three_epochs (deeds (administrator three_epochs) [] moved_once.history) refl;
}

pub stamps_pass_reads_due : Due three_epochs stamps_pass_reads.history
stamps_pass_reads_due = record {
  turns = by_turns_where_placed three_epochs stamps_pass_reads.history (actors three_epochs) refl;
  mail = mailed_where_shown [] stamps_pass_reads.history refl;
  replies = all_due_where_shown three_epochs stamps_pass_reads.history three_epochs.clients refl;
  sites = sites_due_where_posted three_epochs stamps_pass_reads.history three_epochs.sites refl;
  admin = admin_due_where_shown three_epochs (deeds (administrator three_epochs) [] stamps_pass_reads.history) refl;
}

pub ask_lost_due : Due three_epochs ask_lost.history
ask_lost_due = record {
  turns = by_turns_where_placed three_epochs ask_lost.history (actors three_epochs) refl;
  mail = mailed_where_shown [] ask_lost.history refl;
  replies = all_due_where_shown three_epochs ask_lost.history three_epochs.clients refl;
  sites = sites_due_where_posted three_epochs ask_lost.history three_epochs.sites refl;
  admin = admin_due_where_shown three_epochs (deeds (administrator three_epochs) [] ask_lost.history) refl;
}

pub installs_late_due : Due three_epochs installs_late.history
installs_late_due = record {
  turns = by_turns_where_placed three_epochs installs_late.history (actors three_epochs) refl;
  mail = mailed_where_shown [] installs_late.history refl;
  replies = all_due_where_shown three_epochs installs_late.history three_epochs.clients refl;
  sites = sites_due_where_posted three_epochs installs_late.history three_epochs.sites refl;
  admin = admin_due_where_shown three_epochs (deeds (administrator three_epochs) [] installs_late.history) refl;
}

pub too_few_close_due : Due three_epochs too_few_close.history
too_few_close_due = record {
  turns = by_turns_where_placed three_epochs too_few_close.history (actors three_epochs) refl;
  mail = mailed_where_shown [] too_few_close.history refl;
  replies = all_due_where_shown three_epochs too_few_close.history three_epochs.clients refl;
  sites = sites_due_where_posted three_epochs too_few_close.history three_epochs.sites refl;
  admin = admin_due_where_shown three_epochs (deeds (administrator three_epochs) [] too_few_close.history) refl;
}

pub several_promises_due : Due three_epochs several_promises.history
several_promises_due = record {
  turns = by_turns_where_placed three_epochs several_promises.history (actors three_epochs) refl;
  mail = mailed_where_shown [] several_promises.history refl;
  replies = all_due_where_shown three_epochs several_promises.history three_epochs.clients refl;
  sites = sites_due_where_posted three_epochs several_promises.history three_epochs.sites refl;
  admin = admin_due_where_shown three_epochs (deeds (administrator three_epochs) [] several_promises.history) refl;
}

pub doubt_of_second_due : Due three_epochs doubt_of_second.history
doubt_of_second_due = record {
  turns = by_turns_where_placed three_epochs doubt_of_second.history (actors three_epochs) refl;
  mail = mailed_where_shown [] doubt_of_second.history refl;
  replies = all_due_where_shown three_epochs doubt_of_second.history three_epochs.clients refl;
  sites = sites_due_where_posted three_epochs doubt_of_second.history three_epochs.sites refl;
  admin = admin_due_where_shown three_epochs (deeds (administrator three_epochs) [] doubt_of_second.history) refl;
}

pub each_entry_merged_due : Due two_objects each_entry_merged.history
each_entry_merged_due = record {
  turns = by_turns_where_placed two_objects each_entry_merged.history (actors two_objects) refl;
  mail = mailed_where_shown [] each_entry_merged.history refl;
  replies = all_due_where_shown two_objects each_entry_merged.history two_objects.clients refl;
  sites = sites_due_where_posted two_objects each_entry_merged.history two_objects.sites refl;
  admin = admin_due_where_shown two_objects (deeds (administrator two_objects) [] each_entry_merged.history) refl;
}

pub one_unheard_due : Due three_epochs one_unheard.history
one_unheard_due = record {
  turns = by_turns_where_placed three_epochs one_unheard.history (actors three_epochs) refl;
  mail = mailed_where_shown [] one_unheard.history refl;
  replies = all_due_where_shown three_epochs one_unheard.history three_epochs.clients refl;
  sites = sites_due_where_posted three_epochs one_unheard.history three_epochs.sites refl;
  admin = admin_due_where_shown three_epochs (deeds (administrator three_epochs) [] one_unheard.history) refl;
}

pub doubtful_commit_due : Due three_epochs doubtful_commit.history
doubtful_commit_due = record {
  turns = by_turns_where_placed three_epochs doubtful_commit.history (actors three_epochs) refl;
  mail = mailed_where_shown [] doubtful_commit.history refl;
  replies = all_due_where_shown three_epochs doubtful_commit.history three_epochs.clients refl;
  sites = sites_due_where_posted three_epochs doubtful_commit.history three_epochs.sites refl;
  admin = admin_due_where_shown three_epochs (deeds (administrator three_epochs) [] doubtful_commit.history) refl;
}

pub decide_stops_due : Due three_epochs decide_stops.history
decide_stops_due = record {
  turns = by_turns_where_placed three_epochs decide_stops.history (actors three_epochs) refl;
  mail = mailed_where_shown [] decide_stops.history refl;
  replies = all_due_where_shown three_epochs decide_stops.history three_epochs.clients refl;
  sites = sites_due_where_posted three_epochs decide_stops.history three_epochs.sites refl;
  admin = admin_due_where_shown three_epochs (deeds (administrator three_epochs) [] decide_stops.history) refl;
}

pub closed_rises_due : Due three_epochs closed_rises.history
closed_rises_due = record {
  turns = by_turns_where_placed three_epochs closed_rises.history (actors three_epochs) refl;
  mail = mailed_where_shown [] closed_rises.history refl;
  replies = all_due_where_shown three_epochs closed_rises.history three_epochs.clients refl;
  sites = sites_due_where_posted three_epochs closed_rises.history three_epochs.sites refl;
  admin = admin_due_where_shown three_epochs (deeds (administrator three_epochs) [] closed_rises.history) refl;
}

pub shut_rises_due : Due three_epochs shut_rises.history
shut_rises_due = record {
  turns = by_turns_where_placed three_epochs shut_rises.history (actors three_epochs) refl;
  mail = mailed_where_shown [] shut_rises.history refl;
  replies = all_due_where_shown three_epochs shut_rises.history three_epochs.clients refl;
  sites = sites_due_where_posted three_epochs shut_rises.history three_epochs.sites refl;
  admin = admin_due_where_shown three_epochs (deeds (administrator three_epochs) [] shut_rises.history) refl;
}

pub told_promise_stays_due : Due three_epochs told_promise_stays.history
told_promise_stays_due = record {
  turns = by_turns_where_placed three_epochs told_promise_stays.history (actors three_epochs) refl;
  mail = mailed_where_shown [] told_promise_stays.history refl;
  replies = all_due_where_shown three_epochs told_promise_stays.history three_epochs.clients refl;
  sites = sites_due_where_posted three_epochs told_promise_stays.history three_epochs.sites refl;
  admin = admin_due_where_shown three_epochs (deeds (administrator three_epochs) [] told_promise_stays.history) refl;
}

pub installed_again_due : Due three_epochs installed_again.history
installed_again_due = record {
  turns = by_turns_where_placed three_epochs installed_again.history (actors three_epochs) refl;
  mail = mailed_where_shown [] installed_again.history refl;
  replies = all_due_where_shown three_epochs installed_again.history three_epochs.clients refl;
  sites = sites_due_where_posted three_epochs installed_again.history three_epochs.sites refl;
  admin = admin_due_where_shown three_epochs (deeds (administrator three_epochs) [] installed_again.history) refl;
}

pub last_decision_due : Due three_epochs last_decision.history
last_decision_due = record {
  turns = by_turns_where_placed three_epochs last_decision.history (actors three_epochs) refl;
  mail = mailed_where_shown [] last_decision.history refl;
  replies = all_due_where_shown three_epochs last_decision.history three_epochs.clients refl;
  sites = sites_due_where_posted three_epochs last_decision.history three_epochs.sites refl;
  admin = admin_due_where_shown three_epochs (deeds (administrator three_epochs) [] last_decision.history) refl;
}

pub administrator_down_due : Due three_epochs administrator_down.history
administrator_down_due = record {
  turns = by_turns_where_placed three_epochs administrator_down.history (actors three_epochs) refl;
  mail = mailed_where_shown [] administrator_down.history refl;
  replies = all_due_where_shown three_epochs administrator_down.history three_epochs.clients refl;
  sites = sites_due_where_posted three_epochs administrator_down.history three_epochs.sites refl;
  admin = admin_due_where_shown three_epochs (deeds (administrator three_epochs) [] administrator_down.history) refl;
}

pub asked_while_active_due : Due three_epochs asked_while_active.history
asked_while_active_due = record {
  turns = by_turns_where_placed three_epochs asked_while_active.history (actors three_epochs) refl;
  mail = mailed_where_shown [] asked_while_active.history refl;
  replies = all_due_where_shown three_epochs asked_while_active.history three_epochs.clients refl;
  sites = sites_due_where_posted three_epochs asked_while_active.history three_epochs.sites refl;
  admin = admin_due_where_shown three_epochs (deeds (administrator three_epochs) [] asked_while_active.history) refl;
}
