-- Wrong deeds of a client with falls: what a client answers of a transaction of its former life.
use Rattle.std.specs.Prelude.{List, [], ◌∷◌, ◌++◌, take, Some, None}
use Rattle.qc_msg.specs.Vocabulary.{Deed, Falls, Rises, Sends, Tells, Writes}
use Rattle.tests_client_falls.specs.Words.{tx, stamp, operation, commit, called, got, committing}
use Rattle.qc_msg.specs.declared.step.Fall.TheVariants as falls
use Rattle.qc_msg.specs.declared.message.Answer.TheVariants as answers
use Rattle.qc_msg.specs.declared.step.Command.TheVariants as commands
use Rattle.qc_msg.specs.declared.message.Message.TheVariants as messages
use Rattle.qc_msg.specs.declared.message.Outcome.TheVariants as outcomes
use Rattle.qc_msg.specs.declared.record.Record.TheVariants as records
use Rattle.qc_msg.specs.declared.reply.Reply.TheVariants as replies
use Rattle.qc_msg.specs.declared.message.Want.TheVariants as wants

-- It answers Aborted of a record that rose.
abbrev pub answers_aborted_of_a_record_that_rose : List Deed
answers_aborted_of_a_record_that_rose =
    take 8 committing
    ++ (
    called commands.Commit ∷ Sends 4 0 (messages.Request (tx 0 1 1) 1 1 wants.Prepare) ∷
    Sends 5 1 (messages.Request (tx 0 1 1) 1 1 wants.Prepare) ∷ got 6 0 (messages.Answer 4 (answers.Yes 0)) ∷
    got 7 1 (messages.Answer 5 (answers.Yes 0)) ∷
    Writes (commit (stamp 1 0) (tx 0 1 1) ((operation 0 2 (Some 2)) ∷ [])) ∷
    Sends 8 0 (messages.Decision (tx 0 1 1) (outcomes.Committed (stamp 1 0))) ∷
    Sends 9 1 (messages.Decision (tx 0 1 1) (outcomes.Committed (stamp 1 0))) ∷
    Tells (replies.Committed (stamp 1 0)) ∷ Falls falls.Script None ∷
    Rises ((commit (stamp 1 0) (tx 0 1 1) ((operation 0 2 (Some 2)) ∷ [])) ∷ []) ∷ Writes records.Life ∷
    got 13 1 (messages.Inquiry (tx 0 1 1)) ∷ Sends 15 1 (messages.Decision (tx 0 1 1) outcomes.Aborted) ∷ []
    )

-- It answers Committed of a record that didn't rise.
abbrev pub answers_committed_of_a_record_that_did_not_rise : List Deed
answers_committed_of_a_record_that_did_not_rise =
    take 8 committing
    ++ (
    called commands.Commit ∷ Sends 4 0 (messages.Request (tx 0 1 1) 1 1 wants.Prepare) ∷
    Sends 5 1 (messages.Request (tx 0 1 1) 1 1 wants.Prepare) ∷ got 6 0 (messages.Answer 4 (answers.Yes 0)) ∷
    got 7 1 (messages.Answer 5 (answers.Yes 0)) ∷ Tells replies.Unknown ∷
    Falls falls.Stop (Some (commit (stamp 1 0) (tx 0 1 1) ((operation 0 2 (Some 2)) ∷ []))) ∷ Rises [] ∷
    Writes records.Life ∷ got 11 1 (messages.Inquiry (tx 0 1 1)) ∷
    Sends 13 1 (messages.Decision (tx 0 1 1) (outcomes.Committed (stamp 1 0))) ∷ []
    )

-- It answers Aborted of the pending record that rose.
abbrev pub answers_aborted_of_the_pending_record_that_rose : List Deed
answers_aborted_of_the_pending_record_that_rose =
    take 8 committing
    ++ (
    called commands.Commit ∷ Sends 4 0 (messages.Request (tx 0 1 1) 1 1 wants.Prepare) ∷
    Sends 5 1 (messages.Request (tx 0 1 1) 1 1 wants.Prepare) ∷ got 6 0 (messages.Answer 4 (answers.Yes 0)) ∷
    got 7 1 (messages.Answer 5 (answers.Yes 0)) ∷ Tells replies.Unknown ∷
    Falls falls.Stop (Some (commit (stamp 1 0) (tx 0 1 1) ((operation 0 2 (Some 2)) ∷ []))) ∷
    Rises ((commit (stamp 1 0) (tx 0 1 1) ((operation 0 2 (Some 2)) ∷ [])) ∷ []) ∷ Writes records.Life ∷
    got 11 1 (messages.Inquiry (tx 0 1 1)) ∷ Sends 13 1 (messages.Decision (tx 0 1 1) outcomes.Aborted) ∷ []
    )

-- It answers Active of what it had begun before its fall.
abbrev pub answers_active_of_what_it_had_begun_before_its_fall : List Deed
answers_active_of_what_it_had_begun_before_its_fall =
    take 8 committing
    ++ (
    Falls falls.Script None ∷ Rises [] ∷ Writes records.Life ∷ got 7 1 (messages.Inquiry (tx 0 1 1)) ∷
    Sends 8 1 (messages.Decision (tx 0 1 1) outcomes.Active) ∷ []
    )
