-- All that these sites post is due.
use Rattle.std.proofs.Common.{[], refl}
use Rattle.qc_decl.specs.Vocabulary.{three}
use Rattle.qc_promise.specs.Vocabulary.{AreDue}
use Rattle.tests_lives.specs.RightLives as right_lives

pub pending_done_rises_due : AreDue three [] right_lives.pending_done_rises
pending_done_rises_due =
    (refl, (tt, (refl, (tt, (tt, (refl, (refl, (tt, (tt, (refl, (tt, (refl, (tt, (refl, (tt, tt)))))))))))))))

pub keeps_the_lines_of_its_done_due : AreDue three [] right_lives.keeps_the_lines_of_its_done
keeps_the_lines_of_its_done_due =
    (refl, (tt, (refl, (tt, (tt, (refl, (refl, (tt, (tt, (refl, (tt, (tt, (refl, (tt, (refl, (tt, tt))))))))))))))))

pub knows_lines_of_views_due : AreDue three [] right_lives.knows_lines_of_views
knows_lines_of_views_due = (refl, (tt, (refl, (tt, (refl, (tt, (refl, (refl, (tt, tt)))))))))

pub loses_lines_of_views_due : AreDue three [] right_lives.loses_lines_of_views
loses_lines_of_views_due = (refl, (tt, (refl, (tt, (refl, (tt, (tt, (refl, (tt, (refl, (tt, tt)))))))))))

pub keeps_the_lines_of_its_prepare_due : AreDue three [] right_lives.keeps_the_lines_of_its_prepare
keeps_the_lines_of_its_prepare_due =
    (refl, (tt, (refl, (tt, (refl, (tt, (refl, (tt, (tt, (tt, (refl, (tt, (tt, tt)))))))))))))

pub asks_in_order_due : AreDue three [] right_lives.asks_in_order
asks_in_order_due =
    (refl, (tt, (refl, (tt, (refl, (tt, (tt, (refl, (tt, (tt, (tt, (refl, (tt, (tt, (tt, tt)))))))))))))))

pub refuses_its_old_life_due : AreDue three [] right_lives.refuses_its_old_life
refuses_its_old_life_due = (refl, (tt, (tt, (refl, (tt, (refl, (tt, (refl, (tt, tt)))))))))

pub falls_between_posts_due : AreDue three [] right_lives.falls_between_posts
falls_between_posts_due = (refl, (tt, (refl, (tt, (tt, (tt, tt))))))

pub ends_what_rose_due : AreDue three [] right_lives.ends_what_rose
ends_what_rose_due = (
  refl,
  (tt, (refl, (tt, (tt, (refl, (refl, (tt, (tt, (tt, (refl, (tt, (tt, (refl, (tt, (refl, (tt, tt)))))))))))))))),
)

pub redeems_once_due : AreDue three [] right_lives.redeems_once
redeems_once_due =
    (refl, (tt, (refl, (tt, (tt, (refl, (refl, (tt, (tt, (tt, (refl, (tt, (tt, (refl, (tt, (tt, tt))))))))))))))))
