-- Random: sites 5, clients 4, steps 75, messages 21, lost 5, commits 2, short rounds 2, falls 5, rises 0, unwritten
-- records 2, closes 2.
use Rattle.std.specs.Prelude.{List, [], ◌∷◌, Some, None}
use Rattle.qc_decl.specs.declared.declaration.Declaration.{Declaration}
use Rattle.qc_decl.specs.Vocabulary.{row}
use Rattle.qc_msg.specs.Vocabulary.{Entry, marked}
use Rattle.tests_histories.specs.Words.{tx, stamp, commit, declaration, kind, pair, plan}
use Rattle.qc_msg.specs.declared.step.Step.TheVariants.{Phase, Called, Got, Lost, Wrote, Sent, Told, Fell}
use Rattle.qc_msg.specs.declared.message.Answer.TheVariants as answers
use Rattle.qc_msg.specs.declared.step.Command.TheVariants as commands
use Rattle.qc_msg.specs.declared.reply.Half.TheVariants as halves
use Rattle.qc_msg.specs.declared.message.Message.TheVariants as messages
use Rattle.qc_msg.specs.declared.message.Outcome.TheVariants as outcomes
use Rattle.qc_msg.specs.declared.record.Record.TheVariants as records
use Rattle.qc_msg.specs.declared.reply.Reply.TheVariants as replies
use Rattle.qc_msg.specs.declared.message.Want.TheVariants as wants
use Rattle.qc_msg.specs.declared.step.Fall.TheVariants as falls
use Rattle.qc_msg.specs.Vocabulary.{first_read, snapshot_with}

abbrev pub decl : Declaration
decl =
    declaration 5 4 (kind 3 3 5 0 (row 0 0 0 1 ∷ row 1 0 0 2 ∷ row 2 0 1 2 ∷ row 0 1 1 0 ∷ row 1 1 0 0 ∷ row 2 1 0 1 ∷
    row 0 2 2 0 ∷ row 1 2 3 1 ∷ row 2 2 4 2 ∷ []) (pair 0 0 ∷ pair 0 3 ∷ pair 1 0 ∷ pair 1 3 ∷ pair 2 0 ∷ pair 2 3 ∷
    pair 2 6 ∷ []) ∷ []) (0 ∷ []) (plan (1 ∷ 1 ∷ 1 ∷ 1 ∷ 1 ∷ []) ((2 ∷ 2 ∷ 1 ∷ []) ∷ []) ((5 ∷ 2 ∷ 1 ∷ 5 ∷ 3 ∷ 3 ∷ 5 ∷
    []) ∷ []) ∷ plan (0 ∷ 1 ∷ 1 ∷ 1 ∷ 2 ∷ []) ((2 ∷ 2 ∷ 3 ∷ []) ∷ []) ((5 ∷ 0 ∷ 0 ∷ 5 ∷ 0 ∷ 2 ∷ 3 ∷ []) ∷ []) ∷ plan (0
    ∷ 1 ∷ 1 ∷ 0 ∷ 2 ∷ []) ((3 ∷ 3 ∷ 3 ∷ []) ∷ []) ((2 ∷ 0 ∷ 0 ∷ 2 ∷ 0 ∷ 0 ∷ 2 ∷ []) ∷ []) ∷ [])

abbrev pub history : List Entry
history =
    marked 10 (Phase 1) ∷ marked 4 (Fell falls.Script None) ∷ marked 5 (Fell falls.Script None) ∷
    marked 8 (Fell falls.Script None) ∷ marked 8 (Called commands.Begin) ∷ marked 6 (Called commands.Begin) ∷
    marked 5 (Called commands.Begin) ∷ marked 9 (Called (commands.Epoch 2)) ∷ marked 7 (Called commands.Begin) ∷
    marked 7 (Told (replies.Began (tx 2 1))) ∷ marked 6 (Told (replies.Began (tx 1 1))) ∷
    marked 6 (Called (commands.Do 0 0)) ∷ marked 7 (Called commands.Commit) ∷
    marked 7 (Wrote (commit (stamp 1 2) (tx 2 1) [])) ∷ marked 7 (Told (replies.Committed (stamp 1 2))) ∷
    marked 9 (Sent 0 0 (messages.Close 2)) ∷ marked 9 (Sent 1 1 (messages.Close 2)) ∷
    marked 9 (Sent 2 2 (messages.Close 2)) ∷ marked 9 (Sent 3 3 (messages.Close 2)) ∷
    marked 9 (Sent 4 4 (messages.Close 2)) ∷ marked 0 (Got 0) ∷ marked 3 (Got 3) ∷ marked 1 (Got 1) ∷ marked 2 (Got 2) ∷
    marked 9 (Lost 4) ∷ marked 2 (Wrote (records.Close 2)) ∷
    marked 2 (Sent 5 9 (messages.Answer 2 (answers.Shut (snapshot_with 0 [] [])))) ∷
    marked 3 (Fell falls.Stop (Some (records.Close 2))) ∷
    marked 6 (Sent 6 1 (messages.Request (tx 1 1) 1 0 (wants.Read (first_read 0 0)))) ∷
    marked 6 (Sent 7 2 (messages.Request (tx 1 1) 1 0 (wants.Read (first_read 0 0)))) ∷ marked 2 (Got 7) ∷
    marked 9 (Got 5)
    ∷
    marked 8 (Told replies.Down) ∷ marked 2 (Sent 8 6 (messages.Answer 7 (answers.Closed 2))) ∷
    marked 8 (Called (commands.Do 0 2)) ∷ marked 8 (Told replies.Down) ∷ marked 6 (Got 8) ∷
    marked 5 (Told replies.Down) ∷ marked 5 (Called commands.Commit) ∷ marked 1 (Wrote (records.Close 2)) ∷
    marked 1 (Sent 9 9 (messages.Answer 1 (answers.Shut (snapshot_with 0 [] [])))) ∷ marked 1 (Got 6)
    ∷ marked 5 (Told replies.Down) ∷
    marked 1 (Sent 10 6 (messages.Answer 6 (answers.Closed 2))) ∷ marked 6 (Got 10) ∷
    marked 6 (Told (replies.Closed 2 1)) ∷ marked 6 (Called commands.Commit) ∷
    marked 0 (Sent 11 9 (messages.Answer 0 answers.Fault)) ∷ marked 0 (Fell falls.Disk (Some (records.Close 2))) ∷
    marked 9 (Got 9) ∷ marked 9 (Got 11) ∷ marked 6 (Wrote (commit (stamp 1 1) (tx 1 1) [])) ∷
    marked 6 (Sent 12 1 (messages.Decision (tx 1 1) (outcomes.Committed (stamp 1 1)))) ∷
    marked 6 (Sent 13 2 (messages.Decision (tx 1 1) (outcomes.Committed (stamp 1 1)))) ∷
    marked 6 (Told (replies.Committed (stamp 1 1))) ∷ marked 9 (Lost 3) ∷ marked 1 (Got 12) ∷ marked 2 (Got 13) ∷
    marked 9 (Told (replies.Quorum halves.Close 2 5)) ∷ marked 9 (Called (commands.Epoch 2)) ∷
    marked 9 (Sent 14 0 (messages.Close 2)) ∷ marked 9 (Sent 15 1 (messages.Close 2)) ∷
    marked 9 (Sent 16 2 (messages.Close 2)) ∷ marked 9 (Sent 17 3 (messages.Close 2)) ∷
    marked 9 (Sent 18 4 (messages.Close 2)) ∷ marked 2 (Got 16) ∷ marked 9 (Lost 14) ∷ marked 1 (Got 15) ∷
    marked 9 (Lost 17) ∷ marked 1 (Sent 19 9 (messages.Answer 15 (answers.Shut (snapshot_with 1 [] []))))
    ∷ marked 9 (Got 19) ∷
    marked 2 (Sent 20 9 (messages.Answer 16 (answers.Shut (snapshot_with 1 [] [])))) ∷ marked 9 (Got 20)
    ∷ marked 9 (Lost 18) ∷
    marked 9 (Told (replies.Quorum halves.Close 2 5)) ∷ []
