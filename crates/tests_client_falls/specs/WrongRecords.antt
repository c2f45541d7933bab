-- Wrong deeds of a client with falls: Unknown and what is pending, records of a former life, and what a client does as
-- it rises.
use Rattle.std.specs.Prelude.{List, [], ◌∷◌, ◌++◌, take, Some, None}
use Rattle.qc_msg.specs.Vocabulary.{Deed, Falls, Rises, Sends, Tells, Writes}
use Rattle.tests_client_falls.specs.Words.{tx, stamp, own_line, operation, prepare, commit, called, committing}
use Rattle.qc_msg.specs.declared.step.Fall.TheVariants as falls
use Rattle.qc_msg.specs.declared.reply.AbortCause.TheVariants as causes
use Rattle.qc_msg.specs.declared.step.Command.TheVariants as commands
use Rattle.qc_msg.specs.declared.message.Message.TheVariants as messages
use Rattle.qc_msg.specs.declared.message.Outcome.TheVariants as outcomes
use Rattle.qc_msg.specs.declared.record.Record.TheVariants as records
use Rattle.qc_msg.specs.declared.reply.Reply.TheVariants as replies

-- It is told Unknown with the record written.
abbrev pub is_told_unknown_with_the_record_written : List Deed
is_told_unknown_with_the_record_written =
    take 16 committing
    ++ (
    Tells replies.Unknown ∷ Falls falls.Stop (Some (commit (stamp 1 0) (tx 0 1 1) ((operation 0 2 (Some 2)) ∷ []))) ∷
    []
    )

-- It is told Unknown with nothing pending.
abbrev pub is_told_unknown_with_nothing_pending : List Deed
is_told_unknown_with_nothing_pending =
    take 15 committing
    ++ (
    Tells replies.Unknown ∷ Falls falls.Stop None ∷ []
    )

-- It is told Unknown with another stamp pending.
abbrev pub is_told_unknown_with_another_stamp_pending : List Deed
is_told_unknown_with_another_stamp_pending =
    take 15 committing
    ++ (
    Tells replies.Unknown ∷ Falls falls.Stop (Some (commit (stamp 2 0) (tx 0 1 1) ((operation 0 2 (Some 2)) ∷ []))) ∷
    []
    )

-- It is told Unknown with another list of operations pending.
abbrev pub is_told_unknown_with_another_list_of_operations_pending : List Deed
is_told_unknown_with_another_list_of_operations_pending =
    take 15 committing
    ++ (
    Tells replies.Unknown ∷ Falls falls.Stop (Some (commit (stamp 1 0) (tx 0 1 1) [])) ∷ []
    )

-- It is told Unknown with a Life record pending.
abbrev pub is_told_unknown_with_a_life_record_pending : List Deed
is_told_unknown_with_a_life_record_pending =
    take 15 committing
    ++ (
    Tells replies.Unknown ∷ Falls falls.Disk (Some records.Life) ∷ []
    )

-- It is told Unknown and goes on.
abbrev pub is_told_unknown_and_goes_on : List Deed
is_told_unknown_and_goes_on =
    take 15 committing
    ++ (
    Tells replies.Unknown ∷ []
    )

-- It is told Unknown and falls by the script.
abbrev pub is_told_unknown_and_falls_by_the_script : List Deed
is_told_unknown_and_falls_by_the_script =
    take 15 committing
    ++ (
    Tells replies.Unknown ∷ Falls falls.Script None ∷ []
    )

-- It is told Committed and falls as it writes.
abbrev pub is_told_committed_and_falls_as_it_writes : List Deed
is_told_committed_and_falls_as_it_writes =
    take 15 committing
    ++ (
    Tells (replies.Committed (stamp 1 0)) ∷
    Falls falls.Stop (Some (commit (stamp 1 0) (tx 0 1 1) ((operation 0 2 (Some 2)) ∷ []))) ∷ []
    )

-- It is told Aborted and falls as it writes.
abbrev pub is_told_aborted_and_falls_as_it_writes : List Deed
is_told_aborted_and_falls_as_it_writes =
    take 15 committing
    ++ (
    Tells (replies.Aborted (causes.NoAnswer 1)) ∷
    Falls falls.Stop (Some (commit (stamp 1 0) (tx 0 1 1) ((operation 0 2 (Some 2)) ∷ []))) ∷ []
    )

-- It writes its record, and falls as it writes another of the transaction.
abbrev pub writes_its_record_and_falls_as_it_writes_another_of_the_transaction : List Deed
writes_its_record_and_falls_as_it_writes_another_of_the_transaction =
    take 19 committing
    ++ (
    Falls falls.Disk (Some (commit (stamp 2 0) (tx 0 1 1) ((operation 0 2 (Some 2)) ∷ []))) ∷ []
    )

-- It writes a record of a transaction whose pending one rose.
abbrev pub writes_a_record_of_a_transaction_whose_pending_one_rose : List Deed
writes_a_record_of_a_transaction_whose_pending_one_rose =
    take 15 committing
    ++ (
    Tells replies.Unknown ∷ Falls falls.Stop (Some (commit (stamp 1 0) (tx 0 1 1) ((operation 0 2 (Some 2)) ∷ []))) ∷
    Rises ((commit (stamp 1 0) (tx 0 1 1) ((operation 0 2 (Some 2)) ∷ [])) ∷ []) ∷ Writes records.Life ∷
    called commands.Commit ∷ Writes (commit (stamp 2 0) (tx 0 1 1) ((operation 0 2 (Some 2)) ∷ [])) ∷
    Tells (replies.Committed (stamp 2 0)) ∷ []
    )

-- It writes a record of a transaction of its former life.
abbrev pub writes_a_record_of_a_transaction_of_its_former_life : List Deed
writes_a_record_of_a_transaction_of_its_former_life =
    take 15 committing
    ++ (
    Tells replies.Unknown ∷ Falls falls.Stop (Some (commit (stamp 1 0) (tx 0 1 1) ((operation 0 2 (Some 2)) ∷ []))) ∷
    Rises [] ∷ Writes records.Life ∷ called commands.Commit ∷
    Writes (commit (stamp 1 0) (tx 0 1 1) ((operation 0 2 (Some 2)) ∷ [])) ∷ Tells (replies.Committed (stamp 1 0)) ∷
    []
    )

-- It sends as it rises.
abbrev pub sends_as_it_rises : List Deed
sends_as_it_rises =
    take 8 committing
    ++ (
    Falls falls.Script None ∷ Rises [] ∷ Writes records.Life ∷
    Sends 4 0 (messages.Decision (tx 0 1 1) outcomes.Aborted) ∷ []
    )

-- It rises and writes no Life.
abbrev pub rises_and_writes_no_life : List Deed
rises_and_writes_no_life =
    take 8 committing
    ++ (
    Falls falls.Script None ∷ Rises [] ∷ []
    )

-- It writes Life twice.
abbrev pub writes_life_twice : List Deed
writes_life_twice =
    take 8 committing
    ++ (
    Falls falls.Script None ∷ Rises [] ∷ Writes records.Life ∷ Writes records.Life ∷ []
    )

-- It writes a promise.
abbrev pub writes_a_promise : List Deed
writes_a_promise =
    take 10 committing
    ++ (
    called commands.Abort ∷ Writes (prepare (tx 0 1 1) 1 [] ((own_line 1 0 3) ∷ []) []) ∷ []
    )
