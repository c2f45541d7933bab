-- All is due in the random histories 31 to 40.
use Rattle.std.proofs.Common.{[], refl}
use Rattle.qc_decl.specs.Vocabulary.{actors}
use Rattle.qc_promise.specs.Vocabulary.{Due}
use Rattle.tests_due.proofs.Orders.{by_turns_where_placed, mailed_where_shown}
use Rattle.tests_due.proofs.Owed.{all_due_where_shown}
use Rattle.tests_due.proofs.Sites.{sites_due_where_posted}
use Rattle.tests_histories.specs.Random31 as random31
use Rattle.tests_histories.specs.Random32 as random32
use Rattle.tests_histories.specs.Random33 as random33
use Rattle.tests_histories.specs.Random34 as random34
use Rattle.tests_histories.specs.Random35 as random35
use Rattle.tests_histories.specs.Random36 as random36
use Rattle.tests_histories.specs.Random37 as random37
use Rattle.tests_histories.specs.Random38 as random38
use Rattle.tests_histories.specs.Random39 as random39
use Rattle.tests_histories.specs.Random40 as random40

pub random31_due : Due random31.decl random31.history
random31_due = record {
  turns = by_turns_where_placed random31.decl random31.history (actors random31.decl) refl;
  mail = mailed_where_shown [] random31.history refl;
  replies = all_due_where_shown random31.decl random31.history random31.decl.clients refl;
  sites = sites_due_where_posted random31.decl random31.history random31.decl.sites refl;
  admin = tt;
}

pub random32_due : Due random32.decl random32.history
random32_due = record {
  turns = by_turns_where_placed random32.decl random32.history (actors random32.decl) refl;
  mail = mailed_where_shown [] random32.history refl;
  replies = all_due_where_shown random32.decl random32.history random32.decl.clients refl;
  sites = sites_due_where_posted random32.decl random32.history random32.decl.sites refl;
  admin = tt;
}

pub random33_due : Due random33.decl random33.history
random33_due = record {
  turns = by_turns_where_placed random33.decl random33.history (actors random33.decl) refl;
  mail = mailed_where_shown [] random33.history refl;
  replies = all_due_where_shown random33.decl random33.history random33.decl.clients refl;
  sites = sites_due_where_posted random33.decl random33.history random33.decl.sites refl;
  admin = tt;
}

pub random34_due : Due random34.decl random34.history
random34_due = record {
  turns = by_turns_where_placed random34.decl random34.history (actors random34.decl) refl;
  mail = mailed_where_shown [] random34.history refl;
  replies = all_due_where_shown random34.decl random34.history random34.decl.clients refl;
  sites = sites_due_where_posted random34.decl random34.history random34.decl.sites refl;
  admin = tt;
}

pub random35_due : Due random35.decl random35.history
random35_due = record {
  turns = by_turns_where_placed random35.decl random35.history (actors random35.decl) refl;
  mail = mailed_where_shown [] random35.history refl;
  replies = all_due_where_shown random35.decl random35.history random35.decl.clients refl;
  sites = sites_due_where_posted random35.decl random35.history random35.decl.sites refl;
  admin = tt;
}

pub random36_due : Due random36.decl random36.history
random36_due = record {
  turns = by_turns_where_placed random36.decl random36.history (actors random36.decl) refl;
  mail = mailed_where_shown [] random36.history refl;
  replies = all_due_where_shown random36.decl random36.history random36.decl.clients refl;
  sites = sites_due_where_posted random36.decl random36.history random36.decl.sites refl;
  admin = tt;
}

pub random37_due : Due random37.decl random37.history
random37_due = record {
  turns = by_turns_where_placed random37.decl random37.history (actors random37.decl) refl;
  mail = mailed_where_shown [] random37.history refl;
  replies = all_due_where_shown random37.decl random37.history random37.decl.clients refl;
  sites = sites_due_where_posted random37.decl random37.history random37.decl.sites refl;
  admin = tt;
}

pub random38_due : Due random38.decl random38.history
random38_due = record {
  turns = by_turns_where_placed random38.decl random38.history (actors random38.decl) refl;
  mail = mailed_where_shown [] random38.history refl;
  replies = all_due_where_shown random38.decl random38.history random38.decl.clients refl;
  sites = sites_due_where_posted random38.decl random38.history random38.decl.sites refl;
  admin = tt;
}

pub random39_due : Due random39.decl random39.history
random39_due = record {
  turns = by_turns_where_placed random39.decl random39.history (actors random39.decl) refl;
  mail = mailed_where_shown [] random39.history refl;
  replies = all_due_where_shown random39.decl random39.history random39.decl.clients refl;
  sites = sites_due_where_posted random39.decl random39.history random39.decl.sites refl;
  admin = tt;
}

pub random40_due : Due random40.decl random40.history
random40_due = record {
  turns = by_turns_where_placed random40.decl random40.history (actors random40.decl) refl;
  mail = mailed_where_shown [] random40.history refl;
  replies = all_due_where_shown random40.decl random40.history random40.decl.clients refl;
  sites = sites_due_where_posted random40.decl random40.history random40.decl.sites refl;
  admin = tt;
}
