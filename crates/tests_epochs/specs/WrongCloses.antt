-- Wrong histories: the administrator closes otherwise than the next epoch's round asks.
use Rattle.std.specs.Prelude.{List, [], ◌∷◌, ◌++◌, take}
use Rattle.qc_msg.specs.Vocabulary.{Entry, marked}
use Rattle.tests_histories.specs.Words.{line}
use Rattle.qc_msg.specs.declared.step.Step.TheVariants.{Got, Wrote, Sent, Told}
use Rattle.qc_msg.specs.declared.message.Answer.TheVariants as answers
use Rattle.qc_msg.specs.declared.reply.Half.TheVariants as halves
use Rattle.qc_msg.specs.declared.message.Message.TheVariants as messages
use Rattle.qc_msg.specs.declared.record.Record.TheVariants as records
use Rattle.qc_msg.specs.declared.reply.Reply.TheVariants as replies
use Rattle.qc_msg.specs.Vocabulary.{snapshot_with, start_with}
use Rattle.tests_epochs.specs.MovedOnce as moved_once

-- Sites are to close for another epoch than the next one, and too few are told.
abbrev pub a_close_of_another_epoch : List Entry
a_close_of_another_epoch =
    take 34 moved_once.history ++
    marked 6 (Sent 10 0 (messages.Close 3)) ∷ marked 6 (Sent 11 1 (messages.Close 3)) ∷ marked 0 (Got 10) ∷
    marked 0 (Sent 12 6 (messages.Answer 10 (answers.Behind 1))) ∷ marked 1 (Got 11) ∷
    marked 1 (Sent 13 6 (messages.Answer 11 (answers.Behind 1))) ∷ marked 6 (Got 12) ∷ marked 6 (Got 13) ∷
    marked 6 (Sent 14 2 (messages.Close 3)) ∷ marked 2 (Got 14) ∷
    marked 2 (Sent 15 6 (messages.Answer 14 (answers.Behind 1))) ∷ marked 6 (Got 15) ∷
    marked 6 (Told (replies.Quorum halves.Close 0 2)) ∷ []

-- A site is asked twice, and counts twice.
abbrev pub a_site_asked_twice : List Entry
a_site_asked_twice =
    take 35 moved_once.history ++
    marked 6 (Sent 11 0 (messages.Close 2)) ∷ marked 0 (Got 10) ∷ marked 0 (Wrote (records.Close 2)) ∷
    marked 0 (Sent 12 6 (messages.Answer 10 (answers.Shut (snapshot_with 1 (line 1 0 1 1 0 3 ∷ []) []))))
    ∷ marked 0 (Got 11) ∷
    marked 0 (Sent 13 6 (messages.Answer 11 (answers.Shut (snapshot_with 1 (line 1 0 1 1 0 3 ∷ []) []))))
    ∷ marked 6 (Got 12) ∷
    marked 6 (Got 13) ∷ marked 6 (Wrote (records.Decide (start_with 2 1 (line 1 0 1 1 0 3 ∷ [])))) ∷ []

-- Another site is asked than the next one of the round.
abbrev pub another_site_asked : List Entry
another_site_asked =
    take 35 moved_once.history ++
    marked 6 (Sent 11 2 (messages.Close 2)) ∷ marked 0 (Got 10) ∷ marked 0 (Wrote (records.Close 2)) ∷
    marked 0 (Sent 12 6 (messages.Answer 10 (answers.Shut (snapshot_with 1 (line 1 0 1 1 0 3 ∷ []) []))))
    ∷ marked 2 (Got 11) ∷
    marked 2 (Sent 13 6 (messages.Answer 11 (answers.Shut (snapshot_with 1 (line 1 0 1 1 0 3 ∷ []) []))))
    ∷ marked 6 (Got 12) ∷
    marked 6 (Got 13) ∷ marked 6 (Wrote (records.Decide (start_with 2 1 (line 1 0 1 1 0 3 ∷ [])))) ∷ []
