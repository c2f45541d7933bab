-- Wrong histories: sites that rise closed, or in an installed epoch.
use Rattle.std.specs.Prelude.{List, [], ◌∷◌, ◌++◌, take}
use Rattle.qc_msg.specs.Vocabulary.{Entry, marked}
use Rattle.tests_histories.specs.Words.{tx, own_line}
use Rattle.qc_msg.specs.declared.step.Step.TheVariants.{Wrote, Sent}
use Rattle.tests_epochs.specs.Words.{prepared}
use Rattle.qc_msg.specs.declared.message.Answer.TheVariants as answers
use Rattle.qc_msg.specs.declared.message.Message.TheVariants as messages
use Rattle.qc_msg.specs.declared.record.Record.TheVariants as records
use Rattle.qc_msg.specs.Vocabulary.{whole_grant, snapshot_with}
use Rattle.tests_epochs.specs.ShutRises as shut_rises
use Rattle.tests_epochs.specs.ToldPromiseStays as told_promise_stays
use Rattle.tests_epochs.specs.ClosedRises as closed_rises

-- A closed site rises, and grants in the closed epoch.
abbrev pub a_closed_site_grants : List Entry
a_closed_site_grants =
    take 24 shut_rises.history ++
    marked 0 (Sent 6 3 (messages.Answer 4 (answers.Granted (whole_grant 3 0 [])))) ∷ []

-- A site rises, and its Shut leaves out a promise that it told before.
abbrev pub a_told_promise_forgotten : List Entry
a_told_promise_forgotten =
    take 54 told_promise_stays.history ++
    marked 0 (Sent 19 6 (messages.Answer 17 (answers.Shut (snapshot_with 0 [] [])))) ∷ []

-- A closed site rises with a promise, and asks nobody about it.
abbrev pub a_promise_unasked : List Entry
a_promise_unasked =
    take 47 told_promise_stays.history ++
    []

-- A closed site rises, and writes again that it closes.
abbrev pub closed_again : List Entry
closed_again =
    take 54 told_promise_stays.history ++
    marked 0 (Wrote (records.Close 2)) ∷
    marked 0 (Sent 19 6 (messages.Answer 17 (answers.Shut (snapshot_with 0 [] (prepared (tx 0 1) 1 [] (own_line 1 0 3 ∷ []) [] ∷ [])))))
    ∷
    []

-- A site rises, and grants in the epoch before the one that it installed.
abbrev pub an_epoch_forgotten : List Entry
an_epoch_forgotten =
    take 94 closed_rises.history ++
    marked 1 (Sent 28 4 (messages.Answer 26 (answers.Granted (whole_grant 2 1 [])))) ∷ []

-- A site rises, and grants without the lines that it installed.
abbrev pub installed_lines_forgotten : List Entry
installed_lines_forgotten =
    take 111 closed_rises.history ++
    marked 1 (Sent 33 4 (messages.Answer 32 (answers.Granted (whole_grant 2 1 [])))) ∷ []
