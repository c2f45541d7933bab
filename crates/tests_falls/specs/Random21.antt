-- Random: sites 2, clients 1, steps 112, messages 34, cuts 2, commits 1, falls 2, rises 2.
use Rattle.std.specs.Prelude.{List, [], ◌∷◌, Some, None, false}
use Rattle.qc_decl.specs.declared.declaration.Declaration.{Declaration}
use Rattle.qc_decl.specs.Vocabulary.{row}
use Rattle.qc_msg.specs.Vocabulary.{Entry, marked}
use Rattle.tests_histories.specs.Words.{tx, stamp, line, own_line, operation, read_lock, prepare, commit, declaration}
use Rattle.tests_histories.specs.Words.{kind, pair, plan}
use Rattle.qc_msg.specs.declared.step.Step.TheVariants.{Phase, Cut, Heal, Called, Got, Wrote, Sent, Told, Armed, Fell}
use Rattle.qc_msg.specs.declared.step.Step.TheVariants.{Rose}
use Rattle.qc_msg.specs.declared.turn.Appended.TheVariants.{Done}
use Rattle.tests_falls.specs.Words.{tx_in}
use Rattle.tests_falls.specs.Perform.{Move, Begins, Acts, Takes, Posts, Rises}
use Rattle.qc_msg.specs.declared.message.Answer.TheVariants as answers
use Rattle.qc_msg.specs.declared.step.Command.TheVariants as commands
use Rattle.qc_msg.specs.declared.message.Message.TheVariants as messages
use Rattle.qc_msg.specs.declared.message.Outcome.TheVariants as outcomes
use Rattle.qc_msg.specs.declared.record.Record.TheVariants as records
use Rattle.qc_msg.specs.declared.reply.Reply.TheVariants as replies
use Rattle.qc_msg.specs.declared.message.Want.TheVariants as wants
use Rattle.qc_msg.specs.declared.step.Fall.TheVariants as falls
use Rattle.qc_msg.specs.Vocabulary.{whole_grant, first_read}
use Rattle.qc_outside.specs.declared.disk.ArmKind.TheVariants as arms

abbrev pub decl : Declaration
decl =
    declaration 2 1 (kind 2 2 3 0 (row 0 0 0 1 ∷ row 1 0 1 1 ∷ row 0 1 2 0 ∷ row 1 1 2 0 ∷ []) (pair 0 0 ∷ pair 0 1 ∷
    pair 0 2 ∷ []) ∷ kind 2 2 2 0 (row 0 1 1 1 ∷ row 1 0 1 1 ∷ row 1 1 0 1 ∷ []) (pair 0 0 ∷ pair 1 0 ∷ pair 1 1 ∷ []) ∷
    []) (0 ∷ []) (plan (2 ∷ 1 ∷ []) ((2 ∷ 3 ∷ []) ∷ []) ((2 ∷ 2 ∷ 2 ∷ []) ∷ []) ∷ plan (2 ∷ 1 ∷ []) ((2 ∷ 3 ∷ []) ∷ [])
    ((2 ∷ 2 ∷ 2 ∷ []) ∷ []) ∷ plan (1 ∷ 3 ∷ []) ((3 ∷ 0 ∷ []) ∷ []) ((2 ∷ 2 ∷ 2 ∷ []) ∷ []) ∷ [])

abbrev pub moves : List Move
moves =
    Begins ∷ Acts ∷ Acts ∷ Acts ∷ Takes 2 ∷ Posts 2 Done ∷ Takes 2 ∷ Posts 2 Done ∷ Takes 0 ∷ Posts 0 Done ∷ Takes 2 ∷
    Posts 2 Done ∷ Takes 0 ∷ Posts 0 Done ∷ Takes 2 ∷ Posts 2 Done ∷ Takes 2 ∷ Posts 2 Done ∷ Takes 0 ∷ Posts 0 Done ∷
    Takes 2 ∷ Posts 2 Done ∷ Takes 0 ∷ Posts 0 Done ∷ Takes 2 ∷ Posts 2 Done ∷ Takes 2 ∷ Posts 2 Done ∷ Takes 1 ∷
    Posts 1 Done ∷ Takes 2 ∷ Posts 2 Done ∷ Takes 0 ∷ Posts 0 Done ∷ Takes 2 ∷ Posts 2 Done ∷ Takes 0 ∷ Posts 0 Done ∷
    Takes 2 ∷ Posts 2 Done ∷ Takes 2 ∷ Posts 2 Done ∷ Takes 1 ∷ Takes 0 ∷ Posts 1 Done ∷ Takes 2 ∷ Posts 2 Done ∷
    Posts 0 Done ∷ Takes 2 ∷ Posts 2 Done ∷ Takes 2 ∷ Takes 1 ∷ Takes 0 ∷ Posts 2 Done ∷ Posts 1 Done ∷ Posts 0 Done ∷
    Begins ∷ Acts ∷ Acts ∷ Acts ∷ Rises false Done ∷ Acts ∷ Rises false Done ∷ Takes 2 ∷ Posts 2 Done ∷ Takes 2 ∷
    Posts 2 Done ∷ Begins ∷ Acts ∷ Takes 2 ∷ Posts 2 Done ∷ Takes 2 ∷ Posts 2 Done ∷ Takes 0 ∷ Posts 0 Done ∷ Takes 2 ∷
    Posts 2 Done ∷ Takes 0 ∷ Posts 0 Done ∷ Takes 2 ∷ Posts 2 Done ∷ Takes 2 ∷ Posts 2 Done ∷ Takes 1 ∷ Takes 0 ∷
    Posts 0 Done ∷ Posts 1 Done ∷ Takes 2 ∷ Posts 2 Done ∷ Takes 2 ∷ Posts 2 Done ∷ Takes 0 ∷ Posts 0 Done ∷ Takes 2 ∷
    Posts 2 Done ∷ Takes 2 ∷ Posts 2 Done ∷ Takes 0 ∷ Posts 0 Done ∷ Takes 2 ∷ Posts 2 Done ∷ Takes 0 ∷ Posts 0 Done ∷
    Takes 2 ∷ Posts 2 Done ∷ []

abbrev pub history : List Entry
history =
    marked 4 (Phase 1) ∷ marked 4 (Cut 0 1) ∷ marked 4 (Armed 1 arms.Fail 9) ∷ marked 4 (Armed 2 arms.Fail 9) ∷
    marked 2 (Called commands.Begin) ∷ marked 2 (Told (replies.Began (tx 0 1))) ∷ marked 2 (Called (commands.Do 0 0)) ∷
    marked 2 (Sent 0 0 (messages.Request (tx 0 1) 1 0 (wants.Read (first_read 0 0)))) ∷ marked 0 (Got 0) ∷
    marked 0 (Sent 1 2 (messages.Answer 0 (answers.Granted (whole_grant 1 0 [])))) ∷ marked 2 (Got 1) ∷
    marked 2 (Sent 2 0 (messages.Request (tx 0 1) 1 1 (wants.Append 0 [] (own_line 1 0 0 ∷ [])))) ∷ marked 0 (Got 2) ∷
    marked 0 (Sent 3 2 (messages.Answer 2 (answers.Granted (whole_grant 1 0 [])))) ∷ marked 2 (Got 3) ∷
    marked 2 (Told (replies.Response 0)) ∷ marked 2 (Called (commands.Do 0 0)) ∷
    marked 2 (Sent 4 0 (messages.Request (tx 0 1) 1 1 (wants.Read (first_read 0 0)))) ∷ marked 0 (Got 4) ∷
    marked 0 (Sent 5 2 (messages.Answer 4 (answers.Granted (whole_grant 1 0 [])))) ∷ marked 2 (Got 5) ∷
    marked 2 (Sent 6 0 (messages.Request (tx 0 1) 1 1 (wants.Append 0 [] (own_line 1 0 0 ∷ own_line 2 0 1 ∷ [])))) ∷
    marked 0 (Got 6) ∷ marked 0 (Sent 7 2 (messages.Answer 6 (answers.Granted (whole_grant 1 0 [])))) ∷ marked 2 (Got 7)
    ∷
    marked 2 (Told (replies.Response 1)) ∷ marked 2 (Called (commands.Do 0 1)) ∷
    marked 2 (Sent 8 0 (messages.Request (tx 0 1) 1 1 (wants.Read (first_read 0 1)))) ∷
    marked 2 (Sent 9 1 (messages.Request (tx 0 1) 1 0 (wants.Read (first_read 0 1)))) ∷ marked 1 (Got 9) ∷
    marked 1 (Sent 10 2 (messages.Answer 9 (answers.Granted (whole_grant 1 0 [])))) ∷ marked 2 (Got 10)
    ∷ marked 0 (Got 8) ∷
    marked 0 (Sent 11 2 (messages.Answer 8 (answers.Granted (whole_grant 1 0 [])))) ∷ marked 2 (Got 11) ∷
    marked 2 (Sent 12 0 (messages.Request (tx 0 1) 1 1 (wants.Append 0 [] (own_line 1 0 0 ∷ own_line 2 0 1 ∷ own_line 3
    0 2 ∷ [])))) ∷
    marked 0 (Got 12) ∷ marked 0 (Sent 13 2 (messages.Answer 12 (answers.Granted (whole_grant 1 0 []))))
    ∷ marked 2 (Got 13) ∷
    marked 2 (Told (replies.Response 2)) ∷ marked 2 (Called commands.Commit) ∷
    marked 2 (Sent 14 0 (messages.Request (tx 0 1) 1 1 wants.Prepare)) ∷
    marked 2 (Sent 15 1 (messages.Request (tx 0 1) 1 1 wants.Prepare)) ∷ marked 1 (Got 15) ∷ marked 0 (Got 14) ∷
    marked 1 (Wrote (prepare (tx 0 1) 1 (read_lock 0 1 ∷ []) [] [])) ∷
    marked 1 (Sent 16 2 (messages.Answer 15 (answers.Yes 0))) ∷ marked 2 (Got 16) ∷
    marked 0 (Wrote (prepare (tx 0 1) 1 (read_lock 0 0 ∷ read_lock 0 1 ∷ []) (own_line 1 0 0 ∷ own_line 2 0 1 ∷ own_line
    3 0 2 ∷ []) [])) ∷
    marked 0 (Sent 17 2 (messages.Answer 14 (answers.Yes 0))) ∷ marked 2 (Got 17) ∷
    marked 2 (Wrote (commit (stamp 1 0) (tx 0 1) (operation 0 0 (Some 0) ∷ operation 0 0 (Some 1) ∷ operation 0 1 (Some
    2) ∷ []))) ∷
    marked 2 (Sent 18 0 (messages.Decision (tx 0 1) (outcomes.Committed (stamp 1 0)))) ∷
    marked 2 (Sent 19 1 (messages.Decision (tx 0 1) (outcomes.Committed (stamp 1 0)))) ∷
    marked 2 (Told (replies.Committed (stamp 1 0))) ∷ marked 2 (Called commands.Begin) ∷ marked 1 (Got 19) ∷
    marked 0 (Got 18) ∷ marked 2 (Told (replies.Began (tx 0 2))) ∷ marked 1 (Wrote (records.Done (tx 0 1) 1)) ∷
    marked 0 (Wrote (records.Done (tx 0 1) 1)) ∷ marked 4 (Phase 2) ∷ marked 4 (Heal 0 1) ∷ marked 4 (Cut 0 2) ∷
    marked 0 (Fell falls.Script None) ∷
    marked 0 (Rose ((prepare (tx 0 1) 1 (read_lock 0 0 ∷ read_lock 0 1 ∷ []) (own_line 1 0 0 ∷ own_line 2 0 1 ∷ own_line
    3 0 2 ∷ []) []) ∷ (records.Done (tx 0 1) 1) ∷ [])) ∷
    marked 0 (Wrote records.Life) ∷ marked 2 (Fell falls.Script None) ∷
    marked 2 (Rose ((commit (stamp 1 0) (tx 0 1) (operation 0 0 (Some 0) ∷ operation 0 0 (Some 1) ∷ operation 0 1 (Some
    2) ∷ [])) ∷ [])) ∷
    marked 2 (Wrote records.Life) ∷ marked 2 (Called (commands.Do 0 0)) ∷ marked 2 (Told replies.NoTransaction) ∷
    marked 2 (Called commands.Abort) ∷ marked 2 (Told replies.NoTransaction) ∷ marked 4 (Phase 3) ∷
    marked 4 (Heal 0 2) ∷ marked 2 (Called commands.Begin) ∷ marked 2 (Told (replies.Began (tx_in 0 2 1))) ∷
    marked 2 (Called (commands.Do 0 0))
    ∷ marked 2 (Sent 20 0 (messages.Request (tx_in 0 2 1) 1 0 (wants.Read (first_read 0 0)))) ∷
    marked 0 (Got 20) ∷
    marked 0
    (Sent 21 2
    (messages.Answer 20
    (answers.Granted (whole_grant 2 1 (line 1 0 1 1 0 0 ∷ line 1 0 1 2 0 1 ∷ line 1 0 1 3 0 2 ∷ []))))) ∷
    marked 2 (Got 21) ∷
    marked 2 (Sent 22 0 (messages.Request (tx_in 0 2 1) 1 2 (wants.Append 0 (line 1 0 1 1 0 0 ∷ line 1 0 1 2 0 1 ∷ line
    1 0 1 3 0 2 ∷ []) (own_line 1 0 0 ∷ [])))) ∷
    marked 0 (Got 22) ∷ marked 0 (Sent 23 2 (messages.Answer 22 (answers.Granted (whole_grant 2 1 []))))
    ∷ marked 2 (Got 23) ∷
    marked 2 (Told (replies.Response 0)) ∷ marked 2 (Called (commands.Do 0 1)) ∷
    marked 2 (Sent 24 0 (messages.Request (tx_in 0 2 1) 1 2 (wants.Read (first_read 0 1)))) ∷
    marked 2 (Sent 25 1 (messages.Request (tx_in 0 2 1) 1 0 (wants.Read (first_read 0 1)))) ∷ marked 1 (Got 25)
    ∷ marked 0 (Got 24) ∷
    marked 0
    (Sent 26 2
    (messages.Answer 24
    (answers.Granted (whole_grant 2 1 (line 1 0 1 1 0 0 ∷ line 1 0 1 2 0 1 ∷ line 1 0 1 3 0 2 ∷ []))))) ∷
    marked 1 (Sent 27 2 (messages.Answer 25 (answers.Granted (whole_grant 1 1 [])))) ∷ marked 2 (Got 26)
    ∷ marked 2 (Got 27) ∷
    marked 2 (Sent 28 0 (messages.Request (tx_in 0 2 1) 1 2 (wants.Append 0 (line 1 0 1 1 0 0 ∷ line 1 0 1 2 0 1 ∷ line
    1 0 1 3 0 2 ∷ []) (own_line 1 0 0 ∷ own_line 2 0 2 ∷ [])))) ∷
    marked 0 (Got 28) ∷ marked 0 (Sent 29 2 (messages.Answer 28 (answers.Granted (whole_grant 2 1 []))))
    ∷ marked 2 (Got 29) ∷
    marked 2 (Told (replies.Response 2)) ∷ marked 2 (Called (commands.Do 0 0)) ∷
    marked 2 (Sent 30 0 (messages.Request (tx_in 0 2 1) 1 2 (wants.Read (first_read 0 0)))) ∷ marked 0 (Got 30) ∷
    marked 0
    (Sent 31 2
    (messages.Answer 30
    (answers.Granted (whole_grant 2 1 (line 1 0 1 1 0 0 ∷ line 1 0 1 2 0 1 ∷ line 1 0 1 3 0 2 ∷ []))))) ∷
    marked 2 (Got 31) ∷
    marked 2 (Sent 32 0 (messages.Request (tx_in 0 2 1) 1 2 (wants.Append 0 (line 1 0 1 1 0 0 ∷ line 1 0 1 2 0 1 ∷ line
    1 0 1 3 0 2 ∷ []) (own_line 1 0 0 ∷ own_line 2 0 2 ∷ own_line 3 0 0 ∷ [])))) ∷
    marked 0 (Got 32) ∷ marked 0 (Sent 33 2 (messages.Answer 32 (answers.Granted (whole_grant 2 1 []))))
    ∷ marked 2 (Got 33) ∷
    marked 2 (Told (replies.Response 0)) ∷ []
