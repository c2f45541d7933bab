-- All that these sites post is due.
use Rattle.std.proofs.Common.{[], refl}
use Rattle.qc_decl.specs.Vocabulary.{three}
use Rattle.qc_promise.specs.Vocabulary.{AreDue}
use Rattle.tests_lives.specs.RightMarks as right_marks

pub tells_from_the_mark_on_due : AreDue three [] right_marks.tells_from_the_mark_on
tells_from_the_mark_on_due =
    (refl, (tt, (refl, (tt, (refl, (tt, tt))))))

pub tells_nothing_new_due : AreDue three [] right_marks.tells_nothing_new
tells_nothing_new_due =
    (refl, (tt, (refl, (tt, (refl, (tt, tt))))))

pub tells_all_to_a_mark_of_another_life_due : AreDue three [] right_marks.tells_all_to_a_mark_of_another_life
tells_all_to_a_mark_of_another_life_due =
    (refl, (tt, (refl, (tt, (refl, (tt, tt))))))

pub tells_all_to_a_mark_of_another_epoch_due : AreDue three [] right_marks.tells_all_to_a_mark_of_another_epoch
tells_all_to_a_mark_of_another_epoch_due =
    (refl, (tt, (refl, (tt, (refl, (tt, tt))))))

pub tells_all_to_a_mark_of_more_lines_due : AreDue three [] right_marks.tells_all_to_a_mark_of_more_lines
tells_all_to_a_mark_of_more_lines_due =
    (refl, (tt, (refl, (tt, (refl, (tt, tt))))))

pub counts_anew_in_its_next_life_due : AreDue three [] right_marks.counts_anew_in_its_next_life
counts_anew_in_its_next_life_due =
    (refl, (tt, (refl, (tt, (tt, (refl, (tt, (refl, (tt, tt)))))))))
