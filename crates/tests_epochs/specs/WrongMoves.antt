-- Wrong histories: the administrator tells what he moved, or refuses, otherwise than he did.
use Rattle.std.specs.Prelude.{List, [], ◌∷◌, ◌++◌, take}
use Rattle.qc_msg.specs.Vocabulary.{Entry, marked}
use Rattle.qc_msg.specs.declared.step.Step.TheVariants.{Told}
use Rattle.qc_msg.specs.declared.reply.Reply.TheVariants as replies
use Rattle.tests_epochs.specs.MovedOnce as moved_once
use Rattle.tests_epochs.specs.OneUnheard as one_unheard

-- Another site is told as closed.
abbrev pub another_site_closed : List Entry
another_site_closed =
    take 60 moved_once.history ++
    marked 6 (Told (replies.Moved 5 7)) ∷ []

-- A closed site isn't told.
abbrev pub a_closed_site_left_out : List Entry
a_closed_site_left_out =
    take 60 moved_once.history ++
    marked 6 (Told (replies.Moved 1 7)) ∷ []

-- A site is told as installed, of which he didn't hear.
abbrev pub an_install_unheard_of : List Entry
an_install_unheard_of =
    take 60 one_unheard.history ++
    marked 6 (Told (replies.Moved 3 7)) ∷ []

-- Moved is told before any site answers.
abbrev pub moved_before_the_answers : List Entry
moved_before_the_answers =
    take 48 moved_once.history ++
    marked 6 (Told (replies.Moved 3 0)) ∷ []

-- Moved is told, though nobody is asked.
abbrev pub moved_without_closing : List Entry
moved_without_closing =
    take 34 moved_once.history ++
    marked 6 (Told (replies.Moved 0 7)) ∷ []

-- The next epoch is refused.
abbrev pub the_next_epoch_refused : List Entry
the_next_epoch_refused =
    take 34 moved_once.history ++
    marked 6 (Told (replies.Order 1)) ∷ []
