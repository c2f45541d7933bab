-- All is due in the random histories 21 to 30.
use Rattle.std.proofs.Common.{[], refl}
use Rattle.qc_decl.specs.Vocabulary.{actors}
use Rattle.qc_promise.specs.Vocabulary.{Due}
use Rattle.tests_due.proofs.Orders.{by_turns_where_placed, mailed_where_shown}
use Rattle.tests_due.proofs.Owed.{all_due_where_shown}
use Rattle.tests_due.proofs.Sites.{sites_due_where_posted}
use Rattle.tests_histories.specs.Random21 as random21
use Rattle.tests_histories.specs.Random22 as random22
use Rattle.tests_histories.specs.Random23 as random23
use Rattle.tests_histories.specs.Random24 as random24
use Rattle.tests_histories.specs.Random25 as random25
use Rattle.tests_histories.specs.Random26 as random26
use Rattle.tests_histories.specs.Random27 as random27
use Rattle.tests_histories.specs.Random28 as random28
use Rattle.tests_histories.specs.Random29 as random29
use Rattle.tests_histories.specs.Random30 as random30

pub random21_due : Due random21.decl random21.history
random21_due = record {
  turns = by_turns_where_placed random21.decl random21.history (actors random21.decl) refl;
  mail = mailed_where_shown [] random21.history refl;
  replies = all_due_where_shown random21.decl random21.history random21.decl.clients refl;
  sites = sites_due_where_posted random21.decl random21.history random21.decl.sites refl;
  admin = tt;
}

pub random22_due : Due random22.decl random22.history
random22_due = record {
  turns = by_turns_where_placed random22.decl random22.history (actors random22.decl) refl;
  mail = mailed_where_shown [] random22.history refl;
  replies = all_due_where_shown random22.decl random22.history random22.decl.clients refl;
  sites = sites_due_where_posted random22.decl random22.history random22.decl.sites refl;
  admin = tt;
}

pub random23_due : Due random23.decl random23.history
random23_due = record {
  turns = by_turns_where_placed random23.decl random23.history (actors random23.decl) refl;
  mail = mailed_where_shown [] random23.history refl;
  replies = all_due_where_shown random23.decl random23.history random23.decl.clients refl;
  sites = sites_due_where_posted random23.decl random23.history random23.decl.sites refl;
  admin = tt;
}

pub random24_due : Due random24.decl random24.history
random24_due = record {
  turns = by_turns_where_placed random24.decl random24.history (actors random24.decl) refl;
  mail = mailed_where_shown [] random24.history refl;
  replies = all_due_where_shown random24.decl random24.history random24.decl.clients refl;
  sites = sites_due_where_posted random24.decl random24.history random24.decl.sites refl;
  admin = tt;
}

pub random25_due : Due random25.decl random25.history
random25_due = record {
  turns = by_turns_where_placed random25.decl random25.history (actors random25.decl) refl;
  mail = mailed_where_shown [] random25.history refl;
  replies = all_due_where_shown random25.decl random25.history random25.decl.clients refl;
  sites = sites_due_where_posted random25.decl random25.history random25.decl.sites refl;
  admin = tt;
}

pub random26_due : Due random26.decl random26.history
random26_due = record {
  turns = by_turns_where_placed random26.decl random26.history (actors random26.decl) refl;
  mail = mailed_where_shown [] random26.history refl;
  replies = all_due_where_shown random26.decl random26.history random26.decl.clients refl;
  sites = sites_due_where_posted random26.decl random26.history random26.decl.sites refl;
  admin = tt;
}

pub random27_due : Due random27.decl random27.history
random27_due = record {
  turns = by_turns_where_placed random27.decl random27.history (actors random27.decl) refl;
  mail = mailed_where_shown [] random27.history refl;
  replies = all_due_where_shown random27.decl random27.history random27.decl.clients refl;
  sites = sites_due_where_posted random27.decl random27.history random27.decl.sites refl;
  admin = tt;
}

pub random28_due : Due random28.decl random28.history
random28_due = record {
  turns = by_turns_where_placed random28.decl random28.history (actors random28.decl) refl;
  mail = mailed_where_shown [] random28.history refl;
  replies = all_due_where_shown random28.decl random28.history random28.decl.clients refl;
  sites = sites_due_where_posted random28.decl random28.history random28.decl.sites refl;
  admin = tt;
}

pub random29_due : Due random29.decl random29.history
random29_due = record {
  turns = by_turns_where_placed random29.decl random29.history (actors random29.decl) refl;
  mail = mailed_where_shown [] random29.history refl;
  replies = all_due_where_shown random29.decl random29.history random29.decl.clients refl;
  sites = sites_due_where_posted random29.decl random29.history random29.decl.sites refl;
  admin = tt;
}

pub random30_due : Due random30.decl random30.history
random30_due = record {
  turns = by_turns_where_placed random30.decl random30.history (actors random30.decl) refl;
  mail = mailed_where_shown [] random30.history refl;
  replies = all_due_where_shown random30.decl random30.history random30.decl.clients refl;
  sites = sites_due_where_posted random30.decl random30.history random30.decl.sites refl;
  admin = tt;
}
