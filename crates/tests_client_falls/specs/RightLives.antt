-- Right deeds of a client with falls: each is near to a wrong one.
use Rattle.std.specs.Prelude.{List, [], ◌∷◌, ◌++◌, take, Some, None}
use Rattle.qc_msg.specs.Vocabulary.{Deed, Falls, Rises, Sends, Tells, Writes}
use Rattle.tests_client_falls.specs.Words.{tx, stamp, line, operation, commit, called, got, committing}
use Rattle.qc_msg.specs.declared.step.Fall.TheVariants as falls
use Rattle.qc_msg.specs.declared.message.Answer.TheVariants as answers
use Rattle.qc_msg.specs.declared.step.Command.TheVariants as commands
use Rattle.qc_msg.specs.declared.message.Message.TheVariants as messages
use Rattle.qc_msg.specs.declared.message.Outcome.TheVariants as outcomes
use Rattle.qc_msg.specs.declared.record.Record.TheVariants as records
use Rattle.qc_msg.specs.declared.reply.Reply.TheVariants as replies
use Rattle.qc_msg.specs.declared.message.Want.TheVariants as wants
use Rattle.qc_msg.specs.Vocabulary.{whole_grant, first_read}

-- It begins (2, 1) after its rise.
abbrev pub begins_2_1_after_its_rise : List Deed
begins_2_1_after_its_rise =
    take 8 committing
    ++ (
    Falls falls.Script None ∷ Rises [] ∷ Writes records.Life ∷ called commands.Begin ∷
    Tells (replies.Began (tx 0 2 1)) ∷ []
    )

-- Its next stamp is above those of its records.
abbrev pub its_next_stamp_is_above_those_of_its_records : List Deed
its_next_stamp_is_above_those_of_its_records =
    take 19 committing
    ++ (
    Falls falls.Script None ∷ Rises ((commit (stamp 1 0) (tx 0 1 1) ((operation 0 2 (Some 2)) ∷ [])) ∷ []) ∷
    Writes records.Life ∷ called commands.Begin ∷ Tells (replies.Began (tx 0 2 1)) ∷ called commands.Commit ∷
    Writes (commit (stamp 2 0) (tx 0 2 1) []) ∷ Tells (replies.Committed (stamp 2 0)) ∷ []
    )

-- It counts answers to what it asked since.
abbrev pub counts_answers_to_what_it_asked_since : List Deed
counts_answers_to_what_it_asked_since =
    take 2 committing
    ++ (
    called (commands.Do 0 0) ∷ Sends 0 0 (messages.Request (tx 0 1 1) 1 0 (wants.Read (first_read 0 0))) ∷
    Sends 1 1 (messages.Request (tx 0 1 1) 1 0 (wants.Read (first_read 0 0))) ∷ Falls falls.Script None ∷ Rises [] ∷
    Writes records.Life ∷ called commands.Begin ∷ Tells (replies.Began (tx 0 2 1)) ∷ called (commands.Do 0 0) ∷
    Sends 4 0 (messages.Request (tx 0 2 1) 1 0 (wants.Read (first_read 0 0))) ∷
    Sends 5 1 (messages.Request (tx 0 2 1) 1 0 (wants.Read (first_read 0 0))) ∷
    got 2 0 (messages.Answer 0 (answers.Granted (whole_grant 1 0 [])))
    ∷ got 3 1 (messages.Answer 1 (answers.Granted (whole_grant 1 0 []))) ∷
    got 6 0 (messages.Answer 4 (answers.Granted (whole_grant 1 0 [])))
    ∷ got 7 1 (messages.Answer 5 (answers.Granted (whole_grant 1 0 []))) ∷
    Tells (replies.Response 0) ∷ []
    )

-- It answers Committed of a record that rose.
abbrev pub answers_committed_of_a_record_that_rose : List Deed
answers_committed_of_a_record_that_rose =
    take 8 committing
    ++ (
    called commands.Commit ∷ Sends 4 0 (messages.Request (tx 0 1 1) 1 1 wants.Prepare) ∷
    Sends 5 1 (messages.Request (tx 0 1 1) 1 1 wants.Prepare) ∷ got 6 0 (messages.Answer 4 (answers.Yes 0)) ∷
    got 7 1 (messages.Answer 5 (answers.Yes 0)) ∷
    Writes (commit (stamp 1 0) (tx 0 1 1) ((operation 0 2 (Some 2)) ∷ [])) ∷
    Sends 8 0 (messages.Decision (tx 0 1 1) (outcomes.Committed (stamp 1 0))) ∷
    Sends 9 1 (messages.Decision (tx 0 1 1) (outcomes.Committed (stamp 1 0))) ∷
    Tells (replies.Committed (stamp 1 0)) ∷ Falls falls.Script None ∷
    Rises ((commit (stamp 1 0) (tx 0 1 1) ((operation 0 2 (Some 2)) ∷ [])) ∷ []) ∷ Writes records.Life ∷
    got 13 1 (messages.Inquiry (tx 0 1 1)) ∷
    Sends 15 1 (messages.Decision (tx 0 1 1) (outcomes.Committed (stamp 1 0))) ∷ []
    )

-- It answers Aborted of a record that didn't rise.
abbrev pub answers_aborted_of_a_record_that_did_not_rise : List Deed
answers_aborted_of_a_record_that_did_not_rise =
    take 8 committing
    ++ (
    called commands.Commit ∷ Sends 4 0 (messages.Request (tx 0 1 1) 1 1 wants.Prepare) ∷
    Sends 5 1 (messages.Request (tx 0 1 1) 1 1 wants.Prepare) ∷ got 6 0 (messages.Answer 4 (answers.Yes 0)) ∷
    got 7 1 (messages.Answer 5 (answers.Yes 0)) ∷ Tells replies.Unknown ∷
    Falls falls.Stop (Some (commit (stamp 1 0) (tx 0 1 1) ((operation 0 2 (Some 2)) ∷ []))) ∷ Rises [] ∷
    Writes records.Life ∷ got 11 1 (messages.Inquiry (tx 0 1 1)) ∷
    Sends 13 1 (messages.Decision (tx 0 1 1) outcomes.Aborted) ∷ []
    )

-- It answers Committed of the pending record that rose.
abbrev pub answers_committed_of_the_pending_record_that_rose : List Deed
answers_committed_of_the_pending_record_that_rose =
    take 8 committing
    ++ (
    called commands.Commit ∷ Sends 4 0 (messages.Request (tx 0 1 1) 1 1 wants.Prepare) ∷
    Sends 5 1 (messages.Request (tx 0 1 1) 1 1 wants.Prepare) ∷ got 6 0 (messages.Answer 4 (answers.Yes 0)) ∷
    got 7 1 (messages.Answer 5 (answers.Yes 0)) ∷ Tells replies.Unknown ∷
    Falls falls.Stop (Some (commit (stamp 1 0) (tx 0 1 1) ((operation 0 2 (Some 2)) ∷ []))) ∷
    Rises ((commit (stamp 1 0) (tx 0 1 1) ((operation 0 2 (Some 2)) ∷ [])) ∷ []) ∷ Writes records.Life ∷
    got 11 1 (messages.Inquiry (tx 0 1 1)) ∷
    Sends 13 1 (messages.Decision (tx 0 1 1) (outcomes.Committed (stamp 1 0))) ∷ []
    )

-- It is told Down while it is down.
abbrev pub is_told_down_while_it_is_down : List Deed
is_told_down_while_it_is_down =
    take 8 committing
    ++ (
    Falls falls.Script None ∷ called commands.Commit ∷ Tells replies.Down ∷ []
    )

-- A begin that was told Down doesn't count.
abbrev pub a_begin_that_was_told_down_does_not_count : List Deed
a_begin_that_was_told_down_does_not_count =
    take 8 committing
    ++ (
    Falls falls.Script None ∷ called commands.Begin ∷ Tells replies.Down ∷ Rises [] ∷ Writes records.Life ∷
    called commands.Begin ∷ Tells (replies.Began (tx 0 2 1)) ∷ []
    )

-- It is told Unknown and falls as it writes.
abbrev pub is_told_unknown_and_falls_as_it_writes : List Deed
is_told_unknown_and_falls_as_it_writes =
    take 15 committing
    ++ (
    Tells replies.Unknown ∷ Falls falls.Stop (Some (commit (stamp 1 0) (tx 0 1 1) ((operation 0 2 (Some 2)) ∷ []))) ∷
    []
    )

-- A record that was pending rises: it committed.
abbrev pub a_record_that_was_pending_rises_it_committed : List Deed
a_record_that_was_pending_rises_it_committed =
    take 15 committing
    ++ (
    Tells replies.Unknown ∷ Falls falls.Stop (Some (commit (stamp 1 0) (tx 0 1 1) ((operation 0 2 (Some 2)) ∷ []))) ∷
    Rises ((commit (stamp 1 0) (tx 0 1 1) ((operation 0 2 (Some 2)) ∷ [])) ∷ []) ∷ Writes records.Life ∷ []
    )

-- It rises twice: it committed once.
abbrev pub it_rises_twice_it_committed_once : List Deed
it_rises_twice_it_committed_once =
    take 15 committing
    ++ (
    Tells replies.Unknown ∷ Falls falls.Stop (Some (commit (stamp 1 0) (tx 0 1 1) ((operation 0 2 (Some 2)) ∷ []))) ∷
    Rises ((commit (stamp 1 0) (tx 0 1 1) ((operation 0 2 (Some 2)) ∷ [])) ∷ []) ∷ Writes records.Life ∷
    Falls falls.Script None ∷
    Rises ((commit (stamp 1 0) (tx 0 1 1) ((operation 0 2 (Some 2)) ∷ [])) ∷ records.Life ∷ []) ∷
    Writes records.Life ∷ []
    )

-- It doesn't rise: it didn't commit.
abbrev pub it_does_not_rise_it_did_not_commit : List Deed
it_does_not_rise_it_did_not_commit =
    take 15 committing
    ++ (
    Tells replies.Unknown ∷ Falls falls.Stop (Some (commit (stamp 1 0) (tx 0 1 1) ((operation 0 2 (Some 2)) ∷ []))) ∷
    Rises [] ∷ Writes records.Life ∷ []
    )

-- The pending record stays pending while the journal is not opened.
abbrev pub the_pending_record_stays_pending_while_the_journal_is_not_opened : List Deed
the_pending_record_stays_pending_while_the_journal_is_not_opened =
    take 15 committing
    ++ (
    Tells replies.Unknown ∷ Falls falls.Stop (Some (commit (stamp 1 0) (tx 0 1 1) ((operation 0 2 (Some 2)) ∷ []))) ∷
    Falls falls.Stop None ∷ Rises ((commit (stamp 1 0) (tx 0 1 1) ((operation 0 2 (Some 2)) ∷ [])) ∷ []) ∷
    Writes records.Life ∷ []
    )

-- What was shown in a former life is not seen.
abbrev pub what_was_shown_in_a_former_life_is_not_seen : List Deed
what_was_shown_in_a_former_life_is_not_seen =
    take 2 committing
    ++ (
    called (commands.Do 0 0) ∷ Sends 10 0 (messages.Request (tx 0 1 1) 1 0 (wants.Read (first_read 0 0))) ∷
    Sends 11 1 (messages.Request (tx 0 1 1) 1 0 (wants.Read (first_read 0 0))) ∷
    got 12 0 (messages.Answer 10 (answers.Granted (whole_grant 1 0 []))) ∷
    got 13 1 (messages.Answer 11 (answers.Granted (whole_grant 1 1 ((line 1 1 1 1 1 0 3) ∷ []))))
    ∷ Tells (replies.Response 1) ∷
    Falls falls.Script None ∷ Rises [] ∷ Writes records.Life ∷ called commands.Begin ∷
    Tells (replies.Began (tx 0 2 1)) ∷ called commands.Commit ∷ Writes (commit (stamp 1 0) (tx 0 2 1) []) ∷
    Tells (replies.Committed (stamp 1 0)) ∷ []
    )

-- A reader sees what rose.
abbrev pub a_reader_sees_what_rose : List Deed
a_reader_sees_what_rose =
    take 8 committing
    ++ (
    called commands.Commit ∷ Sends 4 0 (messages.Request (tx 0 1 1) 1 1 wants.Prepare) ∷
    Sends 5 1 (messages.Request (tx 0 1 1) 1 1 wants.Prepare) ∷ got 6 0 (messages.Answer 4 (answers.Yes 0)) ∷
    got 7 1 (messages.Answer 5 (answers.Yes 0)) ∷ Tells replies.Unknown ∷
    Falls falls.Stop (Some (commit (stamp 1 0) (tx 0 1 1) ((operation 0 2 (Some 2)) ∷ []))) ∷
    Rises ((commit (stamp 1 0) (tx 0 1 1) ((operation 0 2 (Some 2)) ∷ [])) ∷ []) ∷ Writes records.Life ∷
    got 11 1 (messages.Inquiry (tx 0 1 1)) ∷
    Sends 13 1 (messages.Decision (tx 0 1 1) (outcomes.Committed (stamp 1 0))) ∷ []
    )
