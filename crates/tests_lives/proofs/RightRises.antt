-- All that these sites post is due.
use Rattle.std.proofs.Common.{[], refl}
use Rattle.qc_decl.specs.Vocabulary.{three}
use Rattle.qc_promise.specs.Vocabulary.{AreDue}
use Rattle.tests_lives.specs.RightRises as right_rises

pub lets_go_of_what_it_held_due : AreDue three [] right_rises.lets_go_of_what_it_held
lets_go_of_what_it_held_due = (refl, (tt, (tt, (refl, (tt, (refl, (tt, tt)))))))

pub keeps_what_it_promised_due : AreDue three [] right_rises.keeps_what_it_promised
keeps_what_it_promised_due =
    (refl, (tt, (refl, (tt, (tt, (refl, (refl, (tt, (tt, (tt, (refl, (tt, (tt, (refl, (tt, (tt, tt))))))))))))))))

pub falls_as_it_writes_life_due : AreDue three [] right_rises.falls_as_it_writes_life
falls_as_it_writes_life_due = (refl, (tt, (refl, (tt, (tt, (refl, (refl, (tt, (tt, (tt, (refl, (tt, tt))))))))))))

pub fallen_life_rises_due : AreDue three [] right_rises.fallen_life_rises
fallen_life_rises_due = (refl, (tt, (tt, (refl, (tt, (refl, (tt, (refl, (tt, tt)))))))))

pub fallen_life_is_lost_due : AreDue three [] right_rises.fallen_life_is_lost
fallen_life_is_lost_due = (refl, (tt, (tt, (refl, (tt, (refl, (tt, (refl, (tt, tt)))))))))

pub promise_rises_after_an_abort_due : AreDue three [] right_rises.promise_rises_after_an_abort
promise_rises_after_an_abort_due = (refl, (tt, (refl, (tt, (refl, (tt, (tt, (refl, (tt, (refl, (tt, (tt, tt))))))))))))

pub pending_promise_rises_due : AreDue three [] right_rises.pending_promise_rises
pending_promise_rises_due = (refl, (tt, (refl, (tt, (refl, (tt, (tt, (refl, (tt, (tt, tt))))))))))

pub pending_promise_is_lost_due : AreDue three [] right_rises.pending_promise_is_lost
pending_promise_is_lost_due = (refl, (tt, (refl, (tt, (refl, (tt, (tt, (refl, (tt, tt)))))))))

pub stops_without_a_word_due : AreDue three [] right_rises.stops_without_a_word
stops_without_a_word_due = (refl, (tt, (refl, (tt, (refl, (tt, tt))))))
