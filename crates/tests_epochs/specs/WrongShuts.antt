-- Wrong histories: sites that close and install epochs.
use Rattle.std.specs.Prelude.{List, [], ◌∷◌, ◌++◌, take, None}
use Rattle.qc_msg.specs.Vocabulary.{Entry, marked}
use Rattle.tests_histories.specs.Words.{tx, stamp, line, own_line, prepare}
use Rattle.qc_msg.specs.declared.step.Step.TheVariants.{Phase, Called, Got, Lost, Wrote, Sent, Told, Fell, Rose}
use Rattle.tests_epochs.specs.Words.{prepared}
use Rattle.qc_msg.specs.declared.message.Answer.TheVariants as answers
use Rattle.qc_msg.specs.declared.step.Command.TheVariants as commands
use Rattle.qc_msg.specs.declared.message.Message.TheVariants as messages
use Rattle.qc_msg.specs.declared.message.Outcome.TheVariants as outcomes
use Rattle.qc_msg.specs.declared.record.Record.TheVariants as records
use Rattle.qc_msg.specs.declared.reply.Reply.TheVariants as replies
use Rattle.qc_msg.specs.declared.message.Want.TheVariants as wants
use Rattle.qc_msg.specs.declared.step.Fall.TheVariants as falls
use Rattle.qc_msg.specs.Vocabulary.{snapshot_with, start_with}
use Rattle.tests_epochs.specs.SeveralPromises as several_promises
use Rattle.tests_epochs.specs.MovedOnce as moved_once
use Rattle.tests_epochs.specs.InstallsLate as installs_late

-- A Shut tells the promises in the order in which they came.
abbrev pub promises_by_their_coming : List Entry
promises_by_their_coming =
    take 90 several_promises.history ++
    marked 0 (Sent 31 6 (messages.Answer 29 (answers.Shut (snapshot_with 0 [] (prepared (tx 2 1) 1 [] (own_line 1 0 3 ∷ []) [] ∷ prepared (tx 0 1) 1 [] (own_line 1 0 3 ∷ []) [] ∷ []))))) ∷
    []

-- A Shut leaves a promise out.
abbrev pub a_promise_left_out : List Entry
a_promise_left_out =
    take 90 several_promises.history ++
    marked 0 (Sent 31 6 (messages.Answer 29 (answers.Shut (snapshot_with 0 [] (prepared (tx 0 1) 1 [] (own_line 1 0 3 ∷ []) [] ∷ [])))))
    ∷
    []

-- A site tells that it has closed, and writes nothing.
abbrev pub shut_without_a_record : List Entry
shut_without_a_record =
    take 89 several_promises.history ++
    marked 0 (Sent 31 6 (messages.Answer 29 (answers.Shut (snapshot_with 0 [] (prepared (tx 0 1) 1 [] (own_line 1 0 3 ∷ []) [] ∷ prepared (tx 2 1) 1 [] (own_line 1 0 3 ∷ []) [] ∷ []))))) ∷
    []

-- A Shut leaves a line out.
abbrev pub a_line_left_out : List Entry
a_line_left_out =
    take 38 moved_once.history ++
    marked 0 (Sent 12 6 (messages.Answer 10 (answers.Shut (snapshot_with 1 [] [])))) ∷ []

-- A Shut's clock is below that of a line.
abbrev pub shut_below_its_clock : List Entry
shut_below_its_clock =
    take 38 moved_once.history ++
    marked 0 (Sent 12 6 (messages.Answer 10 (answers.Shut (snapshot_with 0 (line 1 0 1 1 0 3 ∷ []) [])))) ∷ []

-- A closed site promises a transaction, and votes for it.
abbrev pub promised_once_closed : List Entry
promised_once_closed =
    take 13 moved_once.history ++
    marked 7 (Phase 2) ∷ marked 6 (Called (commands.Epoch 2)) ∷ marked 6 (Sent 4 0 (messages.Close 2)) ∷
    marked 6 (Sent 5 1 (messages.Close 2)) ∷ marked 0 (Got 4) ∷ marked 0 (Wrote (records.Close 2)) ∷
    marked 0 (Sent 6 6 (messages.Answer 4 (answers.Shut (snapshot_with 0 [] [])))) ∷ marked 1 (Got 5) ∷
    marked 1 (Wrote (records.Close 2)) ∷ marked 1 (Sent 7 6 (messages.Answer 5 (answers.Shut (snapshot_with 0 [] []))))
    ∷
    marked 6 (Got 6) ∷ marked 6 (Got 7) ∷ marked 6 (Wrote (records.Decide (start_with 2 0 []))) ∷
    marked 6 (Sent 8 0 (messages.Install (start_with 2 0 [])))
    ∷ marked 6 (Sent 9 1 (messages.Install (start_with 2 0 []))) ∷
    marked 6 (Sent 10 2 (messages.Install (start_with 2 0 []))) ∷ marked 1 (Got 9)
    ∷ marked 1 (Wrote (records.Install (start_with 2 0 []))) ∷
    marked 1 (Sent 11 6 (messages.Answer 9 answers.Installed)) ∷ marked 2 (Got 10) ∷
    marked 2 (Wrote (records.Install (start_with 2 0 []))) ∷ marked 2 (Sent 12 6 (messages.Answer 10 answers.Installed))
    ∷
    marked 6 (Got 11) ∷ marked 6 (Got 12) ∷ marked 6 (Lost 8) ∷ marked 6 (Told (replies.Moved 3 6)) ∷
    marked 7 (Phase 3) ∷ marked 3 (Called commands.Commit) ∷
    marked 3 (Sent 13 0 (messages.Request (tx 0 1) 1 1 wants.Prepare)) ∷
    marked 3 (Sent 14 1 (messages.Request (tx 0 1) 1 1 wants.Prepare)) ∷ marked 0 (Got 13) ∷
    marked 0 (Wrote (prepare (tx 0 1) 1 [] (own_line 1 0 3 ∷ []) [])) ∷
    marked 0 (Sent 15 3 (messages.Answer 13 (answers.Yes 1))) ∷ []

-- A site tells that it has installed, and writes nothing.
abbrev pub installed_without_a_record : List Entry
installed_without_a_record =
    take 49 moved_once.history ++
    marked 0 (Sent 17 6 (messages.Answer 14 answers.Installed)) ∷ []

-- A site installs a line less.
abbrev pub installed_without_a_line : List Entry
installed_without_a_line =
    take 49 moved_once.history ++
    marked 0 (Wrote (records.Install (start_with 2 1 []))) ∷ marked 0 (Sent 17 6 (messages.Answer 14 answers.Installed))
    ∷ []

-- A site installs an earlier epoch than its own.
abbrev pub an_earlier_epoch_installed : List Entry
an_earlier_epoch_installed =
    take 75 installs_late.history ++
    marked 2 (Wrote (records.Install (start_with 2 1 (line 1 0 1 1 0 3 ∷ [])))) ∷
    marked 2 (Sent 24 6 (messages.Answer 16 answers.Installed)) ∷ []

-- A site redeems a promise of the epoch before.
abbrev pub redeemed_once_installed : List Entry
redeemed_once_installed =
    take 28 moved_once.history ++
    marked 1 (Got 9) ∷ marked 1 (Wrote (records.Done (tx 0 1) 1)) ∷ marked 7 (Phase 2) ∷
    marked 0 (Fell falls.Script None) ∷ marked 0 (Rose ((prepare (tx 0 1) 1 [] (own_line 1 0 3 ∷ []) []) ∷ [])) ∷
    marked 0 (Wrote records.Life) ∷ marked 0 (Sent 10 3 (messages.Inquiry (tx 0 1))) ∷ marked 3 (Got 10) ∷
    marked 3 (Sent 11 0 (messages.Decision (tx 0 1) (outcomes.Committed (stamp 1 0)))) ∷
    marked 6 (Called (commands.Epoch 2)) ∷ marked 6 (Sent 12 0 (messages.Close 2)) ∷
    marked 6 (Sent 13 1 (messages.Close 2)) ∷ marked 0 (Got 12) ∷ marked 0 (Wrote (records.Close 2)) ∷
    marked 0 (Sent 14 6 (messages.Answer 12 (answers.Shut (snapshot_with 0 [] (prepared (tx 0 1) 1 [] (own_line 1 0 3 ∷ []) [] ∷ [])))))
    ∷
    marked 1 (Got 13) ∷ marked 1 (Wrote (records.Close 2)) ∷
    marked 1 (Sent 15 6 (messages.Answer 13 (answers.Shut (snapshot_with 1 (line 1 0 1 1 0 3 ∷ []) []))))
    ∷ marked 6 (Got 14) ∷
    marked 6 (Got 15) ∷ marked 6 (Sent 16 3 (messages.Ask (tx 0 1))) ∷ marked 3 (Got 16) ∷
    marked 3 (Sent 17 6 (messages.Answer 16 (answers.Answered (outcomes.Committed (stamp 1 0))))) ∷ marked 6 (Got 17) ∷
    marked 6 (Wrote (records.Decide (start_with 2 1 (line 1 0 1 1 0 3 ∷ [])))) ∷
    marked 6 (Sent 18 0 (messages.Install (start_with 2 1 (line 1 0 1 1 0 3 ∷ [])))) ∷
    marked 6 (Sent 19 1 (messages.Install (start_with 2 1 (line 1 0 1 1 0 3 ∷ [])))) ∷
    marked 6 (Sent 20 2 (messages.Install (start_with 2 1 (line 1 0 1 1 0 3 ∷ [])))) ∷ marked 0 (Got 18) ∷
    marked 0 (Wrote (records.Install (start_with 2 1 (line 1 0 1 1 0 3 ∷ [])))) ∷
    marked 0 (Sent 21 6 (messages.Answer 18 answers.Installed)) ∷ marked 1 (Got 19) ∷
    marked 1 (Wrote (records.Install (start_with 2 1 (line 1 0 1 1 0 3 ∷ [])))) ∷
    marked 1 (Sent 22 6 (messages.Answer 19 answers.Installed)) ∷ marked 2 (Got 20) ∷
    marked 2 (Wrote (records.Install (start_with 2 1 (line 1 0 1 1 0 3 ∷ [])))) ∷
    marked 2 (Sent 23 6 (messages.Answer 20 answers.Installed)) ∷ marked 6 (Got 21) ∷ marked 6 (Got 22) ∷
    marked 6 (Got 23) ∷ marked 6 (Told (replies.Moved 3 7)) ∷ marked 7 (Phase 3) ∷ marked 0 (Got 11) ∷
    marked 0 (Wrote (records.Done (tx 0 1) 1)) ∷ []
