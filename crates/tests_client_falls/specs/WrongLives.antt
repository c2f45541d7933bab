-- Wrong deeds of a client with falls: what a client goes on with after a fall, under which name it begins, and what it
-- tells while it is down.
use Rattle.std.specs.Prelude.{List, [], ◌∷◌, ◌++◌, take, Some, None}
use Rattle.qc_msg.specs.Vocabulary.{Deed, Falls, Rises, Sends, Tells, Writes}
use Rattle.tests_client_falls.specs.Words.{tx, stamp, operation, commit, called, got, committing}
use Rattle.qc_msg.specs.declared.step.Fall.TheVariants as falls
use Rattle.qc_msg.specs.declared.message.Answer.TheVariants as answers
use Rattle.qc_msg.specs.declared.step.Command.TheVariants as commands
use Rattle.qc_msg.specs.declared.reply.Half.TheVariants as halves
use Rattle.qc_msg.specs.declared.message.Message.TheVariants as messages
use Rattle.qc_msg.specs.declared.record.Record.TheVariants as records
use Rattle.qc_msg.specs.declared.reply.Reply.TheVariants as replies
use Rattle.qc_msg.specs.declared.message.Want.TheVariants as wants
use Rattle.qc_msg.specs.Vocabulary.{whole_grant, first_read}

-- It goes on with its transaction after a fall.
abbrev pub goes_on_with_its_transaction_after_a_fall : List Deed
goes_on_with_its_transaction_after_a_fall =
    take 10 committing
    ++ (
    Falls falls.Script None ∷ Rises [] ∷ Writes records.Life ∷ called commands.Commit ∷
    Sends 10 0 (messages.Request (tx 0 1 1) 1 1 wants.Prepare) ∷
    Sends 11 1 (messages.Request (tx 0 1 1) 1 1 wants.Prepare) ∷ got 12 0 (messages.Answer 10 (answers.Yes 0)) ∷ []
    )

-- It is told Response of a do that it called before its fall.
abbrev pub is_told_response_of_a_do_that_it_called_before_its_fall : List Deed
is_told_response_of_a_do_that_it_called_before_its_fall =
    take 5 committing
    ++ (
    Falls falls.Script None ∷ Rises [] ∷ Writes records.Life
    ∷ got 2 0 (messages.Answer 0 (answers.Granted (whole_grant 1 0 []))) ∷
    got 3 1 (messages.Answer 1 (answers.Granted (whole_grant 1 0 []))) ∷ Tells (replies.Response 2) ∷ []
    )

-- It begins a name of life 1 after its rise.
abbrev pub begins_a_name_of_life_1_after_its_rise : List Deed
begins_a_name_of_life_1_after_its_rise =
    take 8 committing
    ++ (
    Falls falls.Script None ∷ Rises [] ∷ Writes records.Life ∷ called commands.Begin ∷
    Tells (replies.Began (tx 0 1 2)) ∷ []
    )

-- It begins the same name again after its rise.
abbrev pub begins_the_same_name_again_after_its_rise : List Deed
begins_the_same_name_again_after_its_rise =
    take 8 committing
    ++ (
    Falls falls.Script None ∷ Rises [] ∷ Writes records.Life ∷ called commands.Begin ∷
    Tells (replies.Began (tx 0 1 1)) ∷ []
    )

-- It counts on from the number before its rise.
abbrev pub counts_on_from_the_number_before_its_rise : List Deed
counts_on_from_the_number_before_its_rise =
    take 8 committing
    ++ (
    Falls falls.Script None ∷ Rises [] ∷ Writes records.Life ∷ called commands.Begin ∷
    Tells (replies.Began (tx 0 2 2)) ∷ []
    )

-- It begins life 3 after one rise.
abbrev pub begins_life_3_after_one_rise : List Deed
begins_life_3_after_one_rise =
    take 8 committing
    ++ (
    Falls falls.Script None ∷ Rises [] ∷ Writes records.Life ∷ called commands.Begin ∷
    Tells (replies.Began (tx 0 3 1)) ∷ []
    )

-- Its clock begins at 0: its stamp comes twice.
abbrev pub its_clock_begins_at_0_its_stamp_comes_twice : List Deed
its_clock_begins_at_0_its_stamp_comes_twice =
    take 19 committing
    ++ (
    Falls falls.Script None ∷ Rises ((commit (stamp 1 0) (tx 0 1 1) ((operation 0 2 (Some 2)) ∷ [])) ∷ []) ∷
    Writes records.Life ∷ called commands.Begin ∷ Tells (replies.Began (tx 0 2 1)) ∷ called commands.Commit ∷
    Writes (commit (stamp 1 0) (tx 0 2 1) []) ∷ Tells (replies.Committed (stamp 1 0)) ∷ []
    )

-- Its clock counts on what grants showed before its fall.
abbrev pub its_clock_counts_on_what_grants_showed_before_its_fall : List Deed
its_clock_counts_on_what_grants_showed_before_its_fall =
    take 8 committing
    ++ (
    Falls falls.Script None ∷ Rises [] ∷ Writes records.Life ∷ called commands.Begin ∷
    Tells (replies.Began (tx 0 2 1)) ∷ called commands.Commit ∷ Writes (commit (stamp 2 0) (tx 0 2 1) []) ∷
    Tells (replies.Committed (stamp 2 0)) ∷ []
    )

-- It asks in epoch 2 after its rise and is told Quorum.
abbrev pub asks_in_epoch_2_after_its_rise_and_is_told_quorum : List Deed
asks_in_epoch_2_after_its_rise_and_is_told_quorum =
    take 8 committing
    ++ (
    Falls falls.Script None ∷ Rises [] ∷ Writes records.Life ∷ called commands.Begin ∷
    Tells (replies.Began (tx 0 2 1)) ∷ called (commands.Do 0 0) ∷
    Sends 4 0 (messages.Request (tx 0 2 1) 2 0 (wants.Read (first_read 0 0))) ∷
    Sends 5 1 (messages.Request (tx 0 2 1) 2 0 (wants.Read (first_read 0 0)))
    ∷ got 6 0 (messages.Answer 4 (answers.Behind 1)) ∷
    got 7 1 (messages.Answer 5 (answers.Behind 1)) ∷ Tells (replies.Quorum halves.Read 0 2) ∷ []
    )

-- It counts answers to what it asked before its fall.
abbrev pub counts_answers_to_what_it_asked_before_its_fall : List Deed
counts_answers_to_what_it_asked_before_its_fall =
    take 2 committing
    ++ (
    called (commands.Do 0 0) ∷ Sends 0 0 (messages.Request (tx 0 1 1) 1 0 (wants.Read (first_read 0 0))) ∷
    Sends 1 1 (messages.Request (tx 0 1 1) 1 0 (wants.Read (first_read 0 0))) ∷ Falls falls.Script None ∷ Rises [] ∷
    Writes records.Life ∷ called commands.Begin ∷ Tells (replies.Began (tx 0 2 1)) ∷ called (commands.Do 0 0) ∷
    Sends 4 0 (messages.Request (tx 0 2 1) 1 0 (wants.Read (first_read 0 0))) ∷
    Sends 5 1 (messages.Request (tx 0 2 1) 1 0 (wants.Read (first_read 0 0))) ∷
    got 2 0 (messages.Answer 0 (answers.Granted (whole_grant 1 0 [])))
    ∷ got 3 1 (messages.Answer 1 (answers.Granted (whole_grant 1 0 []))) ∷
    Tells (replies.Response 0) ∷ []
    )

-- It is told Down while it is up.
abbrev pub is_told_down_while_it_is_up : List Deed
is_told_down_while_it_is_up =
    take 11 committing
    ++ (
    Tells replies.Down ∷ []
    )

-- It is told NoTransaction while it is down.
abbrev pub is_told_notransaction_while_it_is_down : List Deed
is_told_notransaction_while_it_is_down =
    take 8 committing
    ++ (
    Falls falls.Script None ∷ called commands.Commit ∷ Tells replies.NoTransaction ∷ []
    )

-- It is told Dropped while it is down.
abbrev pub is_told_dropped_while_it_is_down : List Deed
is_told_dropped_while_it_is_down =
    take 8 committing
    ++ (
    Falls falls.Script None ∷ called commands.Abort ∷ Tells replies.Dropped ∷ []
    )

-- It begins while it is down.
abbrev pub begins_while_it_is_down : List Deed
begins_while_it_is_down =
    take 8 committing
    ++ (
    Falls falls.Script None ∷ called commands.Begin ∷ Tells (replies.Began (tx 0 1 2)) ∷ []
    )

-- A begin that was told Down counts.
abbrev pub a_begin_that_was_told_down_counts : List Deed
a_begin_that_was_told_down_counts =
    take 8 committing
    ++ (
    Falls falls.Script None ∷ called commands.Begin ∷ Tells replies.Down ∷ Rises [] ∷ Writes records.Life ∷
    called commands.Begin ∷ Tells (replies.Began (tx 0 2 2)) ∷ []
    )

-- It is told Already of its former life.
abbrev pub is_told_already_of_its_former_life : List Deed
is_told_already_of_its_former_life =
    take 8 committing
    ++ (
    Falls falls.Script None ∷ Rises [] ∷ Writes records.Life ∷ called commands.Begin ∷
    Tells (replies.Already (tx 0 1 1)) ∷ []
    )

-- It is told Dropped of its former life.
abbrev pub is_told_dropped_of_its_former_life : List Deed
is_told_dropped_of_its_former_life =
    take 8 committing
    ++ (
    Falls falls.Script None ∷ Rises [] ∷ Writes records.Life ∷ called commands.Abort ∷ Tells replies.Dropped ∷ []
    )

-- It is called while a command runs.
abbrev pub is_called_while_a_command_runs : List Deed
is_called_while_a_command_runs =
    take 11 committing
    ++ (
    called commands.Begin ∷ []
    )
