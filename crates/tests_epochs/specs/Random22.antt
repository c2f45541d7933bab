-- Random: sites 3, clients 2, steps 176, messages 39, lost 2, cuts 1, commits 8, short rounds 8, falls 2, rises 1,
-- unwritten records 2, closes 3.
use Rattle.std.specs.Prelude.{List, [], ◌∷◌, Some}
use Rattle.qc_decl.specs.declared.declaration.Declaration.{Declaration}
use Rattle.qc_decl.specs.Vocabulary.{row}
use Rattle.qc_msg.specs.Vocabulary.{Entry, marked}
use Rattle.tests_histories.specs.Words.{tx, stamp, commit, declaration, kind, pair, plan}
use Rattle.qc_msg.specs.declared.step.Step.TheVariants.{Phase, Cut, Heal, Called, Got, Lost, Wrote, Sent, Told, Armed}
use Rattle.qc_msg.specs.declared.step.Step.TheVariants.{Fell, Rose}
use Rattle.qc_msg.specs.declared.message.Answer.TheVariants as answers
use Rattle.qc_msg.specs.declared.step.Command.TheVariants as commands
use Rattle.qc_msg.specs.declared.reply.Half.TheVariants as halves
use Rattle.qc_msg.specs.declared.message.Message.TheVariants as messages
use Rattle.qc_msg.specs.declared.message.Outcome.TheVariants as outcomes
use Rattle.qc_msg.specs.declared.record.Record.TheVariants as records
use Rattle.qc_msg.specs.declared.reply.Reply.TheVariants as replies
use Rattle.qc_msg.specs.declared.message.Want.TheVariants as wants
use Rattle.qc_msg.specs.declared.step.Fall.TheVariants as falls
use Rattle.qc_msg.specs.Vocabulary.{first_read, snapshot_with, start_with}
use Rattle.qc_outside.specs.declared.disk.ArmKind.TheVariants as arms

abbrev pub decl : Declaration
decl =
    declaration 3 2 (kind 2 1 2 0 (row 0 0 0 1 ∷ row 0 0 1 0 ∷ []) (pair 0 0 ∷ []) ∷ []) (0 ∷ []) (plan (1 ∷ 1 ∷ 1 ∷ [])
    ((2 ∷ []) ∷ []) ((2 ∷ 1 ∷ []) ∷ []) ∷ plan (3 ∷ 0 ∷ 0 ∷ []) ((2 ∷ []) ∷ []) ((2 ∷ 0 ∷ []) ∷ []) ∷ [])

abbrev pub history : List Entry
history =
    marked 6 (Phase 1) ∷ marked 3 (Called commands.Begin) ∷ marked 5 (Called (commands.Epoch 2)) ∷
    marked 3 (Told (replies.Began (tx 0 1))) ∷ marked 3 (Called commands.Commit) ∷
    marked 5 (Sent 0 0 (messages.Close 2)) ∷ marked 5 (Sent 1 1 (messages.Close 2)) ∷
    marked 5 (Sent 2 2 (messages.Close 2)) ∷ marked 0 (Got 0) ∷ marked 1 (Got 1) ∷ marked 1 (Wrote (records.Close 2)) ∷
    marked 1 (Sent 3 5 (messages.Answer 1 (answers.Shut (snapshot_with 0 [] []))))
    ∷ marked 3 (Wrote (commit (stamp 1 0) (tx 0 1) [])) ∷
    marked 3 (Told (replies.Committed (stamp 1 0))) ∷ marked 2 (Got 2) ∷ marked 2 (Wrote (records.Close 2)) ∷
    marked 2 (Sent 4 5 (messages.Answer 2 (answers.Shut (snapshot_with 0 [] [])))) ∷ marked 5 (Got 3) ∷ marked 5 (Got 4)
    ∷
    marked 0 (Wrote (records.Close 2)) ∷ marked 0 (Sent 5 5 (messages.Answer 0 (answers.Shut (snapshot_with 0 [] []))))
    ∷
    marked 5 (Got 5) ∷ marked 5 (Told replies.Fault)
    ∷ marked 5 (Fell falls.Stop (Some (records.Decide (start_with 2 0 [])))) ∷
    marked 6 (Phase 2) ∷ marked 6 (Armed 0 arms.Fail 8) ∷ marked 3 (Called commands.Begin) ∷
    marked 4 (Called commands.Begin) ∷ marked 4 (Told (replies.Began (tx 1 1))) ∷
    marked 3 (Told (replies.Began (tx 0 2))) ∷ marked 3 (Called (commands.Do 0 0)) ∷
    marked 4 (Called (commands.Do 0 0)) ∷
    marked 4 (Sent 6 1 (messages.Request (tx 1 1) 1 0 (wants.Read (first_read 0 0))))
    ∷
    marked 4 (Sent 7 2 (messages.Request (tx 1 1) 1 0 (wants.Read (first_read 0 0)))) ∷ marked 1 (Got 6) ∷
    marked 1 (Sent 8 4 (messages.Answer 6 (answers.Closed 2))) ∷ marked 2 (Got 7) ∷
    marked 3 (Sent 9 0 (messages.Request (tx 0 2) 1 0 (wants.Read (first_read 0 0)))) ∷
    marked 3 (Sent 10 1 (messages.Request (tx 0 2) 1 0 (wants.Read (first_read 0 0)))) ∷
    marked 2 (Sent 11 4 (messages.Answer 7 (answers.Closed 2))) ∷ marked 1 (Got 10) ∷ marked 0 (Got 9) ∷
    marked 1 (Sent 12 3 (messages.Answer 10 (answers.Closed 2))) ∷ marked 3 (Got 12) ∷ marked 4 (Got 8) ∷
    marked 4 (Got 11) ∷ marked 4 (Told (replies.Closed 2 1)) ∷ marked 4 (Called commands.Commit) ∷
    marked 4 (Wrote (commit (stamp 1 1) (tx 1 1) [])) ∷
    marked 4 (Sent 13 1 (messages.Decision (tx 1 1) (outcomes.Committed (stamp 1 1)))) ∷
    marked 4 (Sent 14 2 (messages.Decision (tx 1 1) (outcomes.Committed (stamp 1 1)))) ∷
    marked 4 (Told (replies.Committed (stamp 1 1))) ∷ marked 1 (Got 13) ∷ marked 2 (Got 14) ∷
    marked 0 (Sent 15 3 (messages.Answer 9 (answers.Closed 2))) ∷ marked 3 (Got 15) ∷
    marked 3 (Told (replies.Closed 2 0)) ∷ marked 3 (Called commands.Commit) ∷
    marked 3 (Wrote (commit (stamp 2 0) (tx 0 2) [])) ∷
    marked 3 (Sent 16 0 (messages.Decision (tx 0 2) (outcomes.Committed (stamp 2 0)))) ∷
    marked 3 (Sent 17 1 (messages.Decision (tx 0 2) (outcomes.Committed (stamp 2 0)))) ∷
    marked 3 (Told (replies.Committed (stamp 2 0))) ∷ marked 3 (Called commands.Begin) ∷ marked 1 (Got 17) ∷
    marked 0 (Got 16) ∷ marked 3 (Told (replies.Began (tx 0 3))) ∷ marked 3 (Called (commands.Do 0 0)) ∷
    marked 3 (Sent 18 0 (messages.Request (tx 0 3) 2 0 (wants.Read (first_read 0 0)))) ∷ marked 3 (Lost 18) ∷
    marked 3 (Told (replies.Quorum halves.Read 0 2)) ∷ marked 3 (Called (commands.Do 0 0)) ∷
    marked 3 (Sent 19 0 (messages.Request (tx 0 3) 2 0 (wants.Read (first_read 0 0))))
    ∷ marked 5 (Called (commands.Epoch 2)) ∷
    marked 0 (Got 19) ∷ marked 5 (Told replies.Down) ∷ marked 0 (Sent 20 3 (messages.Answer 19 (answers.Behind 1))) ∷
    marked 3 (Got 20) ∷ marked 3 (Told (replies.Quorum halves.Read 0 2)) ∷ marked 3 (Called commands.Commit) ∷
    marked 3 (Wrote (commit (stamp 3 0) (tx 0 3) [])) ∷
    marked 3 (Sent 21 0 (messages.Decision (tx 0 3) (outcomes.Committed (stamp 3 0)))) ∷
    marked 3 (Told (replies.Committed (stamp 3 0))) ∷ marked 0 (Got 21) ∷ marked 6 (Phase 3) ∷ marked 6 (Cut 0 3) ∷
    marked 3 (Called commands.Begin) ∷ marked 3 (Told (replies.Began (tx 0 4))) ∷ marked 3 (Called commands.Abort) ∷
    marked 3 (Told replies.Dropped) ∷ marked 3 (Called commands.Begin) ∷ marked 3 (Told (replies.Began (tx 0 5))) ∷
    marked 3 (Called (commands.Do 0 0))
    ∷ marked 3 (Sent 22 0 (messages.Request (tx 0 5) 2 0 (wants.Read (first_read 0 0)))) ∷
    marked 0 (Got 18) ∷ marked 0 (Sent 23 3 (messages.Answer 18 (answers.Behind 1))) ∷ marked 3 (Lost 22) ∷
    marked 3 (Told (replies.Quorum halves.Read 0 2)) ∷ marked 6 (Phase 4) ∷ marked 6 (Heal 0 3) ∷
    marked 5 (Rose ((records.Decide (start_with 2 0 [])) ∷ [])) ∷ marked 5 (Wrote records.Life)
    ∷ marked 4 (Called commands.Abort) ∷
    marked 4 (Told replies.NoTransaction) ∷ marked 4 (Called commands.Begin) ∷
    marked 4 (Told (replies.Began (tx 1 2))) ∷ marked 4 (Called (commands.Do 0 0)) ∷
    marked 4 (Sent 24 0 (messages.Request (tx 1 2) 2 0 (wants.Read (first_read 0 0)))) ∷ marked 0 (Got 24) ∷
    marked 0 (Sent 25 4 (messages.Answer 24 (answers.Behind 1))) ∷ marked 4 (Got 25) ∷
    marked 4 (Told (replies.Quorum halves.Read 0 2)) ∷ marked 4 (Called commands.Commit) ∷
    marked 4 (Wrote (commit (stamp 2 1) (tx 1 2) [])) ∷
    marked 4 (Sent 26 0 (messages.Decision (tx 1 2) (outcomes.Committed (stamp 2 1)))) ∷
    marked 4 (Told (replies.Committed (stamp 2 1))) ∷ marked 0 (Got 26) ∷ marked 4 (Called commands.Begin) ∷
    marked 4 (Told (replies.Began (tx 1 3))) ∷ marked 4 (Called (commands.Do 0 0)) ∷
    marked 4 (Sent 27 0 (messages.Request (tx 1 3) 2 0 (wants.Read (first_read 0 0)))) ∷ marked 0 (Got 27) ∷
    marked 0 (Sent 28 4 (messages.Answer 27 (answers.Behind 1))) ∷ marked 4 (Got 28) ∷
    marked 4 (Told (replies.Quorum halves.Read 0 2)) ∷ marked 4 (Called commands.Commit) ∷
    marked 4 (Told replies.Unknown) ∷ marked 4 (Fell falls.Stop (Some (commit (stamp 3 1) (tx 1 3) []))) ∷
    marked 4 (Called commands.Begin) ∷ marked 4 (Told replies.Down) ∷ marked 4 (Called (commands.Do 0 0)) ∷
    marked 4 (Told replies.Down) ∷ marked 4 (Called commands.Commit) ∷ marked 4 (Told replies.Down) ∷
    marked 3 (Called commands.Abort) ∷ marked 3 (Sent 29 0 (messages.Decision (tx 0 5) outcomes.Aborted)) ∷
    marked 3 (Told replies.Dropped) ∷ marked 0 (Got 29) ∷ marked 3 (Called commands.Begin) ∷
    marked 3 (Told (replies.Began (tx 0 6))) ∷ marked 3 (Called (commands.Do 0 0)) ∷
    marked 3 (Sent 30 0 (messages.Request (tx 0 6) 2 0 (wants.Read (first_read 0 0)))) ∷ marked 0 (Got 30) ∷
    marked 0 (Sent 31 3 (messages.Answer 30 (answers.Behind 1))) ∷ marked 3 (Got 31) ∷
    marked 3 (Told (replies.Quorum halves.Read 0 2)) ∷ marked 3 (Called commands.Commit) ∷
    marked 3 (Wrote (commit (stamp 4 0) (tx 0 6) [])) ∷
    marked 3 (Sent 32 0 (messages.Decision (tx 0 6) (outcomes.Committed (stamp 4 0)))) ∷
    marked 3 (Told (replies.Committed (stamp 4 0))) ∷ marked 0 (Got 32) ∷ marked 3 (Called commands.Begin) ∷
    marked 3 (Told (replies.Began (tx 0 7))) ∷ marked 3 (Called (commands.Do 0 0)) ∷
    marked 3 (Sent 33 0 (messages.Request (tx 0 7) 2 0 (wants.Read (first_read 0 0)))) ∷ marked 0 (Got 33) ∷
    marked 0 (Sent 34 3 (messages.Answer 33 (answers.Behind 1))) ∷ marked 3 (Got 34) ∷
    marked 3 (Told (replies.Quorum halves.Read 0 2)) ∷ marked 3 (Called commands.Commit) ∷
    marked 3 (Wrote (commit (stamp 5 0) (tx 0 7) [])) ∷
    marked 3 (Sent 35 0 (messages.Decision (tx 0 7) (outcomes.Committed (stamp 5 0)))) ∷
    marked 3 (Told (replies.Committed (stamp 5 0))) ∷ marked 0 (Got 35) ∷ marked 3 (Called commands.Begin) ∷
    marked 3 (Told (replies.Began (tx 0 8))) ∷ marked 3 (Called (commands.Do 0 0)) ∷
    marked 3 (Sent 36 0 (messages.Request (tx 0 8) 2 0 (wants.Read (first_read 0 0)))) ∷ marked 0 (Got 36) ∷
    marked 0 (Sent 37 3 (messages.Answer 36 (answers.Behind 1))) ∷ marked 3 (Got 37) ∷
    marked 3 (Told (replies.Quorum halves.Read 0 2)) ∷ marked 3 (Called commands.Commit) ∷
    marked 3 (Wrote (commit (stamp 6 0) (tx 0 8) [])) ∷
    marked 3 (Sent 38 0 (messages.Decision (tx 0 8) (outcomes.Committed (stamp 6 0)))) ∷
    marked 3 (Told (replies.Committed (stamp 6 0))) ∷ marked 0 (Got 38) ∷ []
