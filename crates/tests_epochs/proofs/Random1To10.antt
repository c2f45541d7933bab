-- All is due in the random histories 1 to 10.
use Rattle.std.proofs.Common.{[], refl}
use Rattle.qc_decl.specs.Vocabulary.{actors, administrator}
use Rattle.qc_msg.specs.Vocabulary.{deeds}
use Rattle.tests_due.proofs.Orders.{by_turns_where_placed, mailed_where_shown}
use Rattle.tests_due.proofs.Owed.{all_due_where_shown}
use Rattle.tests_due.proofs.Sites.{sites_due_where_posted}
use Rattle.qc_promise.specs.Vocabulary.{Due}
use Rattle.tests_epochs.proofs.Owed.{admin_due_where_shown}
use Rattle.tests_epochs.specs.Random1 as random1
use Rattle.tests_epochs.specs.Random2 as random2
use Rattle.tests_epochs.specs.Random3 as random3
use Rattle.tests_epochs.specs.Random4 as random4
use Rattle.tests_epochs.specs.Random5 as random5
use Rattle.tests_epochs.specs.Random6 as random6
use Rattle.tests_epochs.specs.Random7 as random7
use Rattle.tests_epochs.specs.Random8 as random8
use Rattle.tests_epochs.specs.Random9 as random9
use Rattle.tests_epochs.specs.Random10 as random10

pub random1_due : Due random1.decl random1.history
random1_due = record {
  turns = by_turns_where_placed random1.decl random1.history (actors random1.decl) refl;
  mail = mailed_where_shown [] random1.history refl;
  replies = all_due_where_shown random1.decl random1.history random1.decl.clients refl;
  sites = sites_due_where_posted random1.decl random1.history random1.decl.sites refl;
  admin = admin_due_where_shown random1.decl (deeds (administrator random1.decl) [] random1.history) refl;
}

pub random2_due : Due random2.decl random2.history
random2_due = record {
  turns = by_turns_where_placed random2.decl random2.history (actors random2.decl) refl;
  mail = mailed_where_shown [] random2.history refl;
  replies = all_due_where_shown random2.decl random2.history random2.decl.clients refl;
  sites = sites_due_where_posted random2.decl random2.history random2.decl.sites refl;
  admin = admin_due_where_shown random2.decl (deeds (administrator random2.decl) [] random2.history) refl;
}

pub random3_due : Due random3.decl random3.history
random3_due = record {
  turns = by_turns_where_placed random3.decl random3.history (actors random3.decl) refl;
  mail = mailed_where_shown [] random3.history refl;
  replies = all_due_where_shown random3.decl random3.history random3.decl.clients refl;
  sites = sites_due_where_posted random3.decl random3.history random3.decl.sites refl;
  admin = admin_due_where_shown random3.decl (deeds (administrator random3.decl) [] random3.history) refl;
}

pub random4_due : Due random4.decl random4.history
random4_due = record {
  turns = by_turns_where_placed random4.decl random4.history (actors random4.decl) refl;
  mail = mailed_where_shown [] random4.history refl;
  replies = all_due_where_shown random4.decl random4.history random4.decl.clients refl;
  sites = sites_due_where_posted random4.decl random4.history random4.decl.sites refl;
  admin = admin_due_where_shown random4.decl (deeds (administrator random4.decl) [] random4.history) refl;
}

pub random5_due : Due random5.decl random5.history
random5_due = record {
  turns = by_turns_where_placed random5.decl random5.history (actors random5.decl) refl;
  mail = mailed_where_shown [] random5.history refl;
  replies = all_due_where_shown random5.decl random5.history random5.decl.clients refl;
  sites = sites_due_where_posted random5.decl random5.history random5.decl.sites refl;
  admin = admin_due_where_shown random5.decl (deeds (administrator random5.decl) [] random5.history) refl;
}

pub random6_due : Due random6.decl random6.history
random6_due = record {
  turns = by_turns_where_placed random6.decl random6.history (actors random6.decl) refl;
  mail = mailed_where_shown [] random6.history refl;
  replies = all_due_where_shown random6.decl random6.history random6.decl.clients refl;
  sites = sites_due_where_posted random6.decl random6.history random6.decl.sites refl;
  admin = admin_due_where_shown random6.decl (deeds (administrator random6.decl) [] random6.history) refl;
}

pub random7_due : Due random7.decl random7.history
random7_due = record {
  turns = by_turns_where_placed random7.decl random7.history (actors random7.decl) refl;
  mail = mailed_where_shown [] random7.history refl;
  replies = all_due_where_shown random7.decl random7.history random7.decl.clients refl;
  sites = sites_due_where_posted random7.decl random7.history random7.decl.sites refl;
  admin = admin_due_where_shown random7.decl (deeds (administrator random7.decl) [] random7.history) refl;
}

pub random8_due : Due random8.decl random8.history
random8_due = record {
  turns = by_turns_where_placed random8.decl random8.history (actors random8.decl) refl;
  mail = mailed_where_shown [] random8.history refl;
  replies = all_due_where_shown random8.decl random8.history random8.decl.clients refl;
  sites = sites_due_where_posted random8.decl random8.history random8.decl.sites refl;
  admin = admin_due_where_shown random8.decl (deeds (administrator random8.decl) [] random8.history) refl;
}

pub random9_due : Due random9.decl random9.history
random9_due = record {
  turns = by_turns_where_placed random9.decl random9.history (actors random9.decl) refl;
  mail = mailed_where_shown [] random9.history refl;
  replies = all_due_where_shown random9.decl random9.history random9.decl.clients refl;
  sites = sites_due_where_posted random9.decl random9.history random9.decl.sites refl;
  admin = admin_due_where_shown random9.decl (deeds (administrator random9.decl) [] random9.history) refl;
}

pub random10_due : Due random10.decl random10.history
random10_due = record {
  turns = by_turns_where_placed random10.decl random10.history (actors random10.decl) refl;
  mail = mailed_where_shown [] random10.history refl;
  replies = all_due_where_shown random10.decl random10.history random10.decl.clients refl;
  sites = sites_due_where_posted random10.decl random10.history random10.decl.sites refl;
  admin = admin_due_where_shown random10.decl (deeds (administrator random10.decl) [] random10.history) refl;
}
