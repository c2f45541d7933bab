-- All is due in the random histories 11 to 20.
use Rattle.std.proofs.Common.{[], refl}
use Rattle.qc_decl.specs.Vocabulary.{actors}
use Rattle.qc_promise.specs.Vocabulary.{Due}
use Rattle.tests_due.proofs.Orders.{by_turns_where_placed, mailed_where_shown}
use Rattle.tests_due.proofs.Owed.{all_due_where_shown}
use Rattle.tests_due.proofs.Sites.{sites_due_where_posted}
use Rattle.tests_histories.specs.Random11 as random11
use Rattle.tests_histories.specs.Random12 as random12
use Rattle.tests_histories.specs.Random13 as random13
use Rattle.tests_histories.specs.Random14 as random14
use Rattle.tests_histories.specs.Random15 as random15
use Rattle.tests_histories.specs.Random16 as random16
use Rattle.tests_histories.specs.Random17 as random17
use Rattle.tests_histories.specs.Random18 as random18
use Rattle.tests_histories.specs.Random19 as random19
use Rattle.tests_histories.specs.Random20 as random20

pub random11_due : Due random11.decl random11.history
random11_due = record {
  turns = by_turns_where_placed random11.decl random11.history (actors random11.decl) refl;
  mail = mailed_where_shown [] random11.history refl;
  replies = all_due_where_shown random11.decl random11.history random11.decl.clients refl;
  sites = sites_due_where_posted random11.decl random11.history random11.decl.sites refl;
  admin = tt;
}

pub random12_due : Due random12.decl random12.history
random12_due = record {
  turns = by_turns_where_placed random12.decl random12.history (actors random12.decl) refl;
  mail = mailed_where_shown [] random12.history refl;
  replies = all_due_where_shown random12.decl random12.history random12.decl.clients refl;
  sites = sites_due_where_posted random12.decl random12.history random12.decl.sites refl;
  admin = tt;
}

pub random13_due : Due random13.decl random13.history
random13_due = record {
  turns = by_turns_where_placed random13.decl random13.history (actors random13.decl) refl;
  mail = mailed_where_shown [] random13.history refl;
  replies = all_due_where_shown random13.decl random13.history random13.decl.clients refl;
  sites = sites_due_where_posted random13.decl random13.history random13.decl.sites refl;
  admin = tt;
}

pub random14_due : Due random14.decl random14.history
random14_due = record {
  turns = by_turns_where_placed random14.decl random14.history (actors random14.decl) refl;
  mail = mailed_where_shown [] random14.history refl;
  replies = all_due_where_shown random14.decl random14.history random14.decl.clients refl;
  sites = sites_due_where_posted random14.decl random14.history random14.decl.sites refl;
  admin = tt;
}

pub random15_due : Due random15.decl random15.history
random15_due = record {
  turns = by_turns_where_placed random15.decl random15.history (actors random15.decl) refl;
  mail = mailed_where_shown [] random15.history refl;
  replies = all_due_where_shown random15.decl random15.history random15.decl.clients refl;
  sites = sites_due_where_posted random15.decl random15.history random15.decl.sites refl;
  admin = tt;
}

pub random16_due : Due random16.decl random16.history
random16_due = record {
  turns = by_turns_where_placed random16.decl random16.history (actors random16.decl) refl;
  mail = mailed_where_shown [] random16.history refl;
  replies = all_due_where_shown random16.decl random16.history random16.decl.clients refl;
  sites = sites_due_where_posted random16.decl random16.history random16.decl.sites refl;
  admin = tt;
}

pub random17_due : Due random17.decl random17.history
random17_due = record {
  turns = by_turns_where_placed random17.decl random17.history (actors random17.decl) refl;
  mail = mailed_where_shown [] random17.history refl;
  replies = all_due_where_shown random17.decl random17.history random17.decl.clients refl;
  sites = sites_due_where_posted random17.decl random17.history random17.decl.sites refl;
  admin = tt;
}

pub random18_due : Due random18.decl random18.history
random18_due = record {
  turns = by_turns_where_placed random18.decl random18.history (actors random18.decl) refl;
  mail = mailed_where_shown [] random18.history refl;
  replies = all_due_where_shown random18.decl random18.history random18.decl.clients refl;
  sites = sites_due_where_posted random18.decl random18.history random18.decl.sites refl;
  admin = tt;
}

pub random19_due : Due random19.decl random19.history
random19_due = record {
  turns = by_turns_where_placed random19.decl random19.history (actors random19.decl) refl;
  mail = mailed_where_shown [] random19.history refl;
  replies = all_due_where_shown random19.decl random19.history random19.decl.clients refl;
  sites = sites_due_where_posted random19.decl random19.history random19.decl.sites refl;
  admin = tt;
}

pub random20_due : Due random20.decl random20.history
random20_due = record {
  turns = by_turns_where_placed random20.decl random20.history (actors random20.decl) refl;
  mail = mailed_where_shown [] random20.history refl;
  replies = all_due_where_shown random20.decl random20.history random20.decl.clients refl;
  sites = sites_due_where_posted random20.decl random20.history random20.decl.sites refl;
  admin = tt;
}
