-- Random: sites 2, clients 1, steps 67, messages 18, commits 1, absent 1, falls 2, rises 2.
use Rattle.std.specs.Prelude.{List, [], ◌∷◌, Some, None, false}
use Rattle.qc_decl.specs.declared.declaration.Declaration.{Declaration}
use Rattle.qc_decl.specs.Vocabulary.{row}
use Rattle.qc_msg.specs.Vocabulary.{Entry, marked}
use Rattle.tests_histories.specs.Words.{stamp, own_line, operation, read_lock, prepare, commit, declaration, kind, pair}
use Rattle.tests_histories.specs.Words.{plan}
use Rattle.qc_msg.specs.declared.step.Step.TheVariants.{Phase, Called, Got, Wrote, Sent, Told, Fell, Rose}
use Rattle.qc_msg.specs.declared.turn.Appended.TheVariants.{Done}
use Rattle.tests_falls.specs.Words.{tx_in}
use Rattle.tests_falls.specs.Perform.{Move, Begins, Acts, Takes, Posts, Rises}
use Rattle.qc_msg.specs.declared.message.Answer.TheVariants as answers
use Rattle.qc_msg.specs.declared.step.Command.TheVariants as commands
use Rattle.qc_msg.specs.declared.message.Message.TheVariants as messages
use Rattle.qc_msg.specs.declared.message.Outcome.TheVariants as outcomes
use Rattle.qc_msg.specs.declared.record.Record.TheVariants as records
use Rattle.qc_msg.specs.declared.reply.Reply.TheVariants as replies
use Rattle.qc_msg.specs.declared.message.Want.TheVariants as wants
use Rattle.qc_msg.specs.declared.step.Fall.TheVariants as falls
use Rattle.qc_msg.specs.Vocabulary.{whole_grant, first_read}

abbrev pub decl : Declaration
decl =
    declaration 2 1 (kind 4 3 3 0 (row 0 0 0 1 ∷ row 0 1 0 2 ∷ row 1 1 0 3 ∷ row 2 0 0 3 ∷ row 1 2 1 0 ∷ row 2 2 2 0 ∷
    row 3 2 1 2 ∷ row 3 2 2 1 ∷ []) (pair 0 0 ∷ pair 0 2 ∷ pair 1 1 ∷ pair 1 2 ∷ pair 1 3 ∷ pair 2 0 ∷ pair 2 1 ∷ pair 2
    2 ∷ pair 2 3 ∷ []) ∷ []) (0 ∷ 0 ∷ []) (plan (1 ∷ 2 ∷ []) ((2 ∷ 2 ∷ 2 ∷ []) ∷ (3 ∷ 3 ∷ 3 ∷ []) ∷ []) ((2 ∷ 2 ∷ 2 ∷ 2
    ∷ []) ∷ (1 ∷ 2 ∷ 1 ∷ 1 ∷ []) ∷ []) ∷ plan (1 ∷ 2 ∷ []) ((2 ∷ 2 ∷ 2 ∷ []) ∷ (3 ∷ 1 ∷ 3 ∷ []) ∷ []) ((2 ∷ 2 ∷ 2 ∷ 2 ∷
    []) ∷ (1 ∷ 3 ∷ 3 ∷ 3 ∷ []) ∷ []) ∷ plan (1 ∷ 3 ∷ []) ((3 ∷ 3 ∷ 3 ∷ []) ∷ (3 ∷ 3 ∷ 3 ∷ []) ∷ []) ((2 ∷ 2 ∷ 2 ∷ 2 ∷
    []) ∷ (2 ∷ 2 ∷ 2 ∷ 4 ∷ []) ∷ []) ∷ [])

abbrev pub moves : List Move
moves =
    Begins ∷ Acts ∷ Rises false Done ∷ Acts ∷ Takes 2 ∷ Posts 2 Done ∷ Takes 2 ∷ Posts 2 Done ∷ Takes 2 ∷ Posts 2 Done ∷
    Takes 2 ∷ Posts 2 Done ∷ Takes 2 ∷ Posts 2 Done ∷ Begins ∷ Rises false Done ∷ Takes 2 ∷ Posts 2 Done ∷ Takes 2 ∷
    Posts 2 Done ∷ Takes 0 ∷ Takes 1 ∷ Posts 1 Done ∷ Takes 2 ∷ Posts 2 Done ∷ Posts 0 Done ∷ Takes 2 ∷ Posts 2 Done ∷
    Takes 0 ∷ Takes 1 ∷ Posts 0 Done ∷ Posts 1 Done ∷ Takes 2 ∷ Posts 2 Done ∷ Takes 2 ∷ Posts 2 Done ∷ Takes 2 ∷
    Posts 2 Done ∷ Takes 1 ∷ Takes 0 ∷ Posts 1 Done ∷ Takes 2 ∷ Posts 2 Done ∷ Posts 0 Done ∷ Takes 2 ∷ Posts 2 Done ∷
    Takes 2 ∷ Posts 2 Done ∷ Takes 1 ∷ Takes 0 ∷ Posts 1 Done ∷ Takes 2 ∷ Posts 2 Done ∷ Posts 0 Done ∷ Takes 2 ∷
    Posts 2 Done ∷ Takes 0 ∷ Takes 1 ∷ Posts 0 Done ∷ Posts 1 Done ∷ []

abbrev pub history : List Entry
history =
    marked 4 (Phase 1) ∷ marked 2 (Fell falls.Script None) ∷ marked 2 (Rose []) ∷ marked 2 (Wrote records.Life) ∷
    marked 2 (Fell falls.Script None) ∷ marked 2 (Called commands.Begin) ∷ marked 2 (Told replies.Down) ∷
    marked 2 (Called (commands.Do 1 1)) ∷ marked 2 (Told replies.Down) ∷ marked 2 (Called (commands.Do 0 2)) ∷
    marked 2 (Told replies.Down) ∷ marked 2 (Called (commands.Do 0 2)) ∷ marked 2 (Told replies.Down) ∷
    marked 2 (Called commands.Commit) ∷ marked 2 (Told replies.Down) ∷ marked 4 (Phase 2) ∷
    marked 2 (Rose (records.Life ∷ [])) ∷ marked 2 (Wrote records.Life) ∷ marked 2 (Called commands.Begin) ∷
    marked 2 (Told (replies.Began (tx_in 0 3 1))) ∷ marked 2 (Called (commands.Do 0 1)) ∷
    marked 2 (Sent 0 0 (messages.Request (tx_in 0 3 1) 1 0 (wants.Read (first_read 0 1)))) ∷
    marked 2 (Sent 1 1 (messages.Request (tx_in 0 3 1) 1 0 (wants.Read (first_read 0 1)))) ∷ marked 0 (Got 0)
    ∷ marked 1 (Got 1) ∷
    marked 1 (Sent 2 2 (messages.Answer 1 (answers.Granted (whole_grant 1 0 [])))) ∷ marked 2 (Got 2) ∷
    marked 0 (Sent 3 2 (messages.Answer 0 (answers.Granted (whole_grant 1 0 [])))) ∷ marked 2 (Got 3) ∷
    marked 2 (Sent 4 0 (messages.Request (tx_in 0 3 1) 1 1 (wants.Append 0 [] (own_line 1 0 1 ∷ [])))) ∷
    marked 2 (Sent 5 1 (messages.Request (tx_in 0 3 1) 1 1 (wants.Append 0 [] (own_line 1 0 1 ∷ [])))) ∷
    marked 0 (Got 4) ∷ marked 1 (Got 5) ∷ marked 0 (Sent 6 2 (messages.Answer 4 (answers.Granted (whole_grant 1 0 []))))
    ∷
    marked 1 (Sent 7 2 (messages.Answer 5 (answers.Granted (whole_grant 1 0 [])))) ∷ marked 2 (Got 6) ∷ marked 2 (Got 7)
    ∷
    marked 2 (Told (replies.Response 0)) ∷ marked 2 (Called (commands.Do 1 2)) ∷
    marked 2 (Sent 8 0 (messages.Request (tx_in 0 3 1) 1 1 (wants.Read (first_read 1 2)))) ∷
    marked 2 (Sent 9 1 (messages.Request (tx_in 0 3 1) 1 1 (wants.Read (first_read 1 2)))) ∷ marked 1 (Got 9)
    ∷ marked 0 (Got 8) ∷
    marked 1 (Sent 10 2 (messages.Answer 9 (answers.Granted (whole_grant 1 0 [])))) ∷ marked 2 (Got 10) ∷
    marked 0 (Sent 11 2 (messages.Answer 8 (answers.Granted (whole_grant 1 0 [])))) ∷ marked 2 (Got 11) ∷
    marked 2 (Told replies.Absent) ∷ marked 2 (Called commands.Commit) ∷
    marked 2 (Sent 12 0 (messages.Request (tx_in 0 3 1) 1 1 wants.Prepare)) ∷
    marked 2 (Sent 13 1 (messages.Request (tx_in 0 3 1) 1 1 wants.Prepare)) ∷ marked 1 (Got 13) ∷ marked 0 (Got 12) ∷
    marked 1 (Wrote (prepare (tx_in 0 3 1) 1 (read_lock 0 1 ∷ read_lock 1 2 ∷ []) (own_line 1 0 1 ∷ []) [])) ∷
    marked 1 (Sent 14 2 (messages.Answer 13 (answers.Yes 0))) ∷ marked 2 (Got 14) ∷
    marked 0 (Wrote (prepare (tx_in 0 3 1) 1 (read_lock 0 1 ∷ read_lock 1 2 ∷ []) (own_line 1 0 1 ∷ []) [])) ∷
    marked 0 (Sent 15 2 (messages.Answer 12 (answers.Yes 0))) ∷ marked 2 (Got 15) ∷
    marked 2 (Wrote (commit (stamp 1 0) (tx_in 0 3 1) (operation 0 1 (Some 0) ∷ operation 1 2 None ∷ []))) ∷
    marked 2 (Sent 16 0 (messages.Decision (tx_in 0 3 1) (outcomes.Committed (stamp 1 0)))) ∷
    marked 2 (Sent 17 1 (messages.Decision (tx_in 0 3 1) (outcomes.Committed (stamp 1 0)))) ∷
    marked 2 (Told (replies.Committed (stamp 1 0))) ∷ marked 0 (Got 16) ∷ marked 1 (Got 17) ∷
    marked 0 (Wrote (records.Done (tx_in 0 3 1) 1)) ∷ marked 1 (Wrote (records.Done (tx_in 0 3 1) 1)) ∷ []
