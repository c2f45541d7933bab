-- Random: sites 5, clients 4, steps 136, messages 49, lost 5, commits 1, short rounds 1, falls 3, rises 1, unwritten
-- records 2, closes 4.
use Rattle.std.specs.Prelude.{List, [], ◌∷◌, Some, None}
use Rattle.qc_decl.specs.declared.declaration.Declaration.{Declaration}
use Rattle.qc_decl.specs.Vocabulary.{row}
use Rattle.qc_msg.specs.Vocabulary.{Entry, marked}
use Rattle.tests_histories.specs.Words.{tx, stamp, commit, declaration, kind, pair, plan}
use Rattle.qc_msg.specs.declared.step.Step.TheVariants.{Phase, Called, Got, Lost, Wrote, Sent, Told, Armed, Fell, Rose}
use Rattle.qc_msg.specs.declared.message.Answer.TheVariants as answers
use Rattle.qc_msg.specs.declared.step.Command.TheVariants as commands
use Rattle.qc_msg.specs.declared.reply.Half.TheVariants as halves
use Rattle.qc_msg.specs.declared.message.Message.TheVariants as messages
use Rattle.qc_msg.specs.declared.message.Outcome.TheVariants as outcomes
use Rattle.qc_msg.specs.declared.record.Record.TheVariants as records
use Rattle.qc_msg.specs.declared.reply.Reply.TheVariants as replies
use Rattle.qc_msg.specs.declared.message.Want.TheVariants as wants
use Rattle.qc_msg.specs.declared.step.Fall.TheVariants as falls
use Rattle.qc_msg.specs.Vocabulary.{first_read, snapshot_with}
use Rattle.qc_outside.specs.declared.disk.ArmKind.TheVariants as arms

abbrev pub decl : Declaration
decl =
    declaration 5 4 (kind 2 2 3 0 (row 0 0 0 1 ∷ row 1 0 1 1 ∷ row 0 1 2 0 ∷ row 1 1 2 0 ∷ []) (pair 0 0 ∷ pair 0 2 ∷
    pair 1 0 ∷ []) ∷ []) (0 ∷ 0 ∷ []) (plan (1 ∷ 2 ∷ 2 ∷ 1 ∷ 1 ∷ []) ((4 ∷ 4 ∷ []) ∷ (7 ∷ 4 ∷ []) ∷ []) ((6 ∷ 0 ∷ 4 ∷
    []) ∷ (4 ∷ 5 ∷ 1 ∷ []) ∷ []) ∷ plan (1 ∷ 0 ∷ 1 ∷ 1 ∷ 3 ∷ []) ((4 ∷ 4 ∷ []) ∷ (4 ∷ 4 ∷ []) ∷ []) ((3 ∷ 4 ∷ 3 ∷ []) ∷
    (6 ∷ 0 ∷ 3 ∷ []) ∷ []) ∷ [])

abbrev pub history : List Entry
history =
    marked 10 (Phase 1) ∷ marked 2 (Fell falls.Script None) ∷ marked 2 (Rose []) ∷ marked 2 (Wrote records.Life) ∷
    marked 10 (Armed 9 arms.Stop 3) ∷ marked 8 (Called commands.Begin) ∷ marked 8 (Told (replies.Began (tx 3 1))) ∷
    marked 7 (Called commands.Begin) ∷ marked 8 (Called (commands.Do 1 1)) ∷ marked 9 (Called (commands.Epoch 2)) ∷
    marked 9 (Sent 0 0 (messages.Close 2)) ∷ marked 9 (Sent 1 1 (messages.Close 2)) ∷
    marked 9 (Sent 2 2 (messages.Close 2)) ∷ marked 9 (Sent 3 3 (messages.Close 2)) ∷
    marked 9 (Sent 4 4 (messages.Close 2)) ∷ marked 7 (Told (replies.Began (tx 2 1))) ∷ marked 4 (Got 4) ∷
    marked 2 (Got 2) ∷ marked 2 (Wrote (records.Close 2)) ∷
    marked 2 (Sent 5 9 (messages.Answer 2 (answers.Shut (snapshot_with 0 [] [])))) ∷ marked 1 (Got 1) ∷
    marked 4 (Wrote (records.Close 2)) ∷ marked 4 (Sent 6 9 (messages.Answer 4 (answers.Shut (snapshot_with 0 [] []))))
    ∷
    marked 7 (Called (commands.Do 1 1)) ∷ marked 3 (Got 3) ∷
    marked 8 (Sent 7 3 (messages.Request (tx 3 1) 1 0 (wants.Read (first_read 1 1)))) ∷
    marked 8 (Sent 8 4 (messages.Request (tx 3 1) 1 0 (wants.Read (first_read 1 1)))) ∷
    marked 8 (Sent 9 0 (messages.Request (tx 3 1) 1 0 (wants.Read (first_read 1 1)))) ∷
    marked 8 (Sent 10 1 (messages.Request (tx 3 1) 1 0 (wants.Read (first_read 1 1)))) ∷
    marked 1 (Wrote (records.Close 2))
    ∷
    marked 1 (Sent 11 9 (messages.Answer 1 (answers.Shut (snapshot_with 0 [] [])))) ∷ marked 5 (Called commands.Begin) ∷
    marked 5 (Told (replies.Began (tx 0 1)))
    ∷ marked 7 (Sent 12 2 (messages.Request (tx 2 1) 1 0 (wants.Read (first_read 1 1)))) ∷
    marked 7 (Sent 13 3 (messages.Request (tx 2 1) 1 0 (wants.Read (first_read 1 1)))) ∷
    marked 7 (Sent 14 4 (messages.Request (tx 2 1) 1 0 (wants.Read (first_read 1 1)))) ∷
    marked 3 (Wrote (records.Close 2))
    ∷
    marked 3 (Sent 15 9 (messages.Answer 3 (answers.Shut (snapshot_with 0 [] []))))
    ∷ marked 5 (Called (commands.Do 1 0)) ∷
    marked 3 (Got 7) ∷ marked 0 (Got 0) ∷ marked 4 (Got 8) ∷
    marked 3 (Sent 16 8 (messages.Answer 7 (answers.Closed 2))) ∷ marked 0 (Fell falls.Stop (Some (records.Close 2))) ∷
    marked 4 (Sent 17 8 (messages.Answer 8 (answers.Closed 2))) ∷ marked 8 (Got 16) ∷ marked 3 (Got 13) ∷
    marked 5 (Sent 18 0 (messages.Request (tx 0 1) 1 0 (wants.Read (first_read 1 0)))) ∷
    marked 5 (Sent 19 1 (messages.Request (tx 0 1) 1 0 (wants.Read (first_read 1 0)))) ∷
    marked 5 (Sent 20 2 (messages.Request (tx 0 1) 1 0 (wants.Read (first_read 1 0)))) ∷
    marked 5 (Sent 21 3 (messages.Request (tx 0 1) 1 0 (wants.Read (first_read 1 0)))) ∷
    marked 5 (Sent 22 4 (messages.Request (tx 0 1) 1 0 (wants.Read (first_read 1 0)))) ∷
    marked 3 (Sent 23 7 (messages.Answer 13 (answers.Closed 2))) ∷ marked 3 (Got 21) ∷
    marked 3 (Sent 24 5 (messages.Answer 21 (answers.Closed 2))) ∷ marked 1 (Got 10) ∷ marked 2 (Got 12) ∷
    marked 9 (Got 5) ∷ marked 8 (Got 17) ∷ marked 1 (Sent 25 8 (messages.Answer 10 (answers.Closed 2))) ∷
    marked 1 (Got 19) ∷ marked 5 (Got 24) ∷ marked 7 (Got 23) ∷
    marked 2 (Sent 26 7 (messages.Answer 12 (answers.Closed 2))) ∷ marked 9 (Got 6) ∷
    marked 1 (Sent 27 5 (messages.Answer 19 (answers.Closed 2))) ∷ marked 4 (Got 14) ∷ marked 5 (Got 27) ∷
    marked 9 (Got 11) ∷ marked 8 (Got 25) ∷ marked 2 (Got 20) ∷ marked 9 (Got 15) ∷ marked 5 (Lost 18) ∷
    marked 7 (Got 26) ∷ marked 8 (Lost 9) ∷ marked 4 (Sent 28 7 (messages.Answer 14 (answers.Closed 2))) ∷
    marked 7 (Got 28) ∷ marked 2 (Sent 29 5 (messages.Answer 20 (answers.Closed 2))) ∷ marked 5 (Got 29) ∷
    marked 8 (Told (replies.Closed 2 3)) ∷ marked 8 (Called commands.Commit) ∷
    marked 8 (Wrote (commit (stamp 1 3) (tx 3 1) [])) ∷
    marked 8 (Sent 30 0 (messages.Decision (tx 3 1) (outcomes.Committed (stamp 1 3)))) ∷
    marked 8 (Sent 31 1 (messages.Decision (tx 3 1) (outcomes.Committed (stamp 1 3)))) ∷
    marked 8 (Sent 32 3 (messages.Decision (tx 3 1) (outcomes.Committed (stamp 1 3)))) ∷
    marked 8 (Sent 33 4 (messages.Decision (tx 3 1) (outcomes.Committed (stamp 1 3)))) ∷
    marked 8 (Told (replies.Committed (stamp 1 3))) ∷ marked 4 (Got 22) ∷
    marked 4 (Sent 34 5 (messages.Answer 22 (answers.Closed 2))) ∷ marked 3 (Got 32) ∷ marked 9 (Lost 0) ∷
    marked 7 (Told (replies.Closed 2 2)) ∷ marked 4 (Got 33) ∷ marked 9 (Told (replies.Quorum halves.Close 6 7)) ∷
    marked 5 (Got 34) ∷ marked 7 (Called commands.Commit) ∷ marked 7 (Told replies.Unknown) ∷
    marked 7 (Fell falls.Disk (Some (commit (stamp 1 2) (tx 2 1) []))) ∷ marked 5 (Told (replies.Closed 2 1)) ∷
    marked 7 (Called commands.Begin) ∷ marked 1 (Got 31) ∷ marked 7 (Told replies.Down) ∷
    marked 5 (Called (commands.Do 1 0))
    ∷ marked 5 (Sent 35 0 (messages.Request (tx 0 1) 1 0 (wants.Read (first_read 1 0)))) ∷
    marked 5 (Sent 36 1 (messages.Request (tx 0 1) 1 0 (wants.Read (first_read 1 0)))) ∷
    marked 5 (Sent 37 2 (messages.Request (tx 0 1) 1 0 (wants.Read (first_read 1 0)))) ∷
    marked 5 (Sent 38 3 (messages.Request (tx 0 1) 1 0 (wants.Read (first_read 1 0)))) ∷
    marked 5 (Sent 39 4 (messages.Request (tx 0 1) 1 0 (wants.Read (first_read 1 0)))) ∷ marked 1 (Got 36) ∷
    marked 1 (Sent 40 5 (messages.Answer 36 (answers.Closed 2))) ∷ marked 4 (Got 39) ∷ marked 5 (Got 40) ∷
    marked 4 (Sent 41 5 (messages.Answer 39 (answers.Closed 2))) ∷ marked 2 (Got 37) ∷ marked 3 (Got 38) ∷
    marked 5 (Got 41) ∷ marked 2 (Sent 42 5 (messages.Answer 37 (answers.Closed 2))) ∷
    marked 3 (Sent 43 5 (messages.Answer 38 (answers.Closed 2))) ∷ marked 5 (Got 42) ∷
    marked 7 (Called (commands.Do 1 0)) ∷ marked 7 (Told replies.Down) ∷ marked 5 (Got 43) ∷ marked 5 (Lost 35) ∷
    marked 5 (Told (replies.Closed 2 1)) ∷ marked 5 (Called (commands.Do 1 1)) ∷
    marked 5 (Sent 44 0 (messages.Request (tx 0 1) 1 0 (wants.Read (first_read 1 1)))) ∷
    marked 5 (Sent 45 1 (messages.Request (tx 0 1) 1 0 (wants.Read (first_read 1 1)))) ∷
    marked 5 (Sent 46 2 (messages.Request (tx 0 1) 1 0 (wants.Read (first_read 1 1)))) ∷ marked 1 (Got 45)
    ∷ marked 5 (Lost 44) ∷
    marked 1 (Sent 47 5 (messages.Answer 45 (answers.Closed 2))) ∷ marked 5 (Got 47) ∷ marked 2 (Got 46) ∷
    marked 2 (Sent 48 5 (messages.Answer 46 (answers.Closed 2))) ∷ marked 5 (Got 48) ∷
    marked 5 (Told (replies.Closed 2 1)) ∷ []
