-- Random: sites 3, clients 1, steps 94, messages 17, cuts 1, commits 1, falls 4, rises 4, unwritten records 1.
use Rattle.std.specs.Prelude.{List, [], ◌∷◌, Some, None, true, false}
use Rattle.qc_decl.specs.declared.declaration.Declaration.{Declaration}
use Rattle.qc_decl.specs.Vocabulary.{row}
use Rattle.qc_msg.specs.Vocabulary.{Entry, marked}
use Rattle.tests_histories.specs.Words.{tx, stamp, own_line, operation, read_lock, prepare, commit, declaration, kind}
use Rattle.tests_histories.specs.Words.{pair, plan}
use Rattle.qc_msg.specs.declared.step.Step.TheVariants.{Phase, Cut, Heal, Called, Got, Wrote, Sent, Told, Fell, Rose}
use Rattle.qc_msg.specs.declared.turn.Appended.TheVariants.{Done, Stopped}
use Rattle.tests_falls.specs.Perform.{Move, Begins, Acts, Takes, Posts, Rises}
use Rattle.qc_msg.specs.declared.message.Answer.TheVariants as answers
use Rattle.qc_msg.specs.declared.step.Command.TheVariants as commands
use Rattle.qc_msg.specs.declared.message.Message.TheVariants as messages
use Rattle.qc_msg.specs.declared.message.Outcome.TheVariants as outcomes
use Rattle.qc_msg.specs.declared.record.Record.TheVariants as records
use Rattle.qc_msg.specs.declared.reply.Reply.TheVariants as replies
use Rattle.qc_msg.specs.declared.message.Want.TheVariants as wants
use Rattle.qc_msg.specs.declared.step.Fall.TheVariants as falls
use Rattle.qc_msg.specs.Vocabulary.{whole_grant, first_read}

abbrev pub decl : Declaration
decl =
    declaration 3 1 (kind 4 3 3 0 (row 0 0 0 2 ∷ row 0 1 1 1 ∷ row 0 2 2 2 ∷ row 1 0 0 2 ∷ row 1 1 2 0 ∷ row 1 2 0 3 ∷
    row 2 0 2 3 ∷ row 2 2 1 3 ∷ row 3 1 2 2 ∷ row 3 1 0 1 ∷ row 3 2 1 2 ∷ []) (pair 0 0 ∷ pair 0 2 ∷ pair 0 3 ∷ pair 0 4
    ∷ pair 0 5 ∷ pair 0 6 ∷ pair 0 7 ∷ pair 1 0 ∷ pair 1 1 ∷ pair 1 2 ∷ pair 1 3 ∷ pair 1 4 ∷ pair 1 5 ∷ pair 1 6 ∷ pair
    1 7 ∷ pair 2 0 ∷ pair 2 1 ∷ pair 2 2 ∷ pair 2 3 ∷ pair 2 4 ∷ pair 2 6 ∷ pair 2 7 ∷ []) ∷ []) (0 ∷ 0 ∷ []) (plan (2 ∷
    1 ∷ 0 ∷ []) ((2 ∷ 2 ∷ 2 ∷ []) ∷ (1 ∷ 2 ∷ 3 ∷ []) ∷ []) ((2 ∷ 2 ∷ 3 ∷ 2 ∷ 2 ∷ 2 ∷ 2 ∷ 2 ∷ []) ∷ (3 ∷ 2 ∷ 3 ∷ 3 ∷ 3 ∷
    3 ∷ 3 ∷ 3 ∷ []) ∷ []) ∷ plan (3 ∷ 1 ∷ 1 ∷ []) ((3 ∷ 3 ∷ 3 ∷ []) ∷ (3 ∷ 3 ∷ 3 ∷ []) ∷ []) ((3 ∷ 3 ∷ 3 ∷ 3 ∷ 3 ∷ 3 ∷ 3
    ∷ 3 ∷ []) ∷ (3 ∷ 3 ∷ 3 ∷ 3 ∷ 3 ∷ 3 ∷ 3 ∷ 3 ∷ []) ∷ []) ∷ plan (0 ∷ 0 ∷ 3 ∷ []) ((2 ∷ 2 ∷ 2 ∷ []) ∷ (2 ∷ 2 ∷ 2 ∷ [])
    ∷ []) ((2 ∷ 2 ∷ 2 ∷ 2 ∷ 2 ∷ 2 ∷ 2 ∷ 2 ∷ []) ∷ (2 ∷ 2 ∷ 2 ∷ 2 ∷ 2 ∷ 2 ∷ 2 ∷ 2 ∷ []) ∷ []) ∷ [])

abbrev pub moves : List Move
moves =
    Begins ∷ Acts ∷ Acts ∷ Rises false Done ∷ Takes 3 ∷ Posts 3 Done ∷ Takes 3 ∷ Posts 3 Done ∷ Begins ∷ Takes 3 ∷
    Posts 3 Done ∷ Takes 3 ∷ Posts 3 Done ∷ Takes 0 ∷ Posts 0 Done ∷ Takes 3 ∷ Posts 3 Done ∷ Takes 1 ∷ Posts 1 Done ∷
    Takes 0 ∷ Takes 3 ∷ Posts 3 Done ∷ Posts 0 Done ∷ Takes 3 ∷ Posts 3 Done ∷ Takes 3 ∷ Posts 3 Done ∷ Takes 0 ∷
    Posts 0 Done ∷ Takes 3 ∷ Posts 3 Done ∷ Takes 0 ∷ Posts 0 Done ∷ Takes 0 ∷ Posts 0 Done ∷ Takes 3 ∷ Posts 3 Done ∷
    Takes 3 ∷ Posts 3 Done ∷ Takes 3 ∷ Posts 3 Done ∷ Takes 1 ∷ Posts 1 Done ∷ Takes 0 ∷ Posts 0 Done ∷ Takes 3 ∷
    Posts 3 Done ∷ Takes 3 ∷ Posts 3 Done ∷ Takes 3 ∷ Posts 3 Done ∷ Takes 1 ∷ Posts 1 Done ∷ Takes 0 ∷ Takes 3 ∷
    Posts 0 Done ∷ Posts 3 Stopped ∷ Begins ∷ Rises true Done ∷ Acts ∷ Takes 3 ∷ Posts 3 Done ∷ Takes 3 ∷ Posts 3 Done ∷
    Takes 3 ∷ Posts 3 Done ∷ Takes 3 ∷ Posts 3 Done ∷ Takes 3 ∷ Posts 3 Done ∷ Takes 3 ∷ Posts 3 Done ∷ Takes 3 ∷
    Posts 3 Done ∷ Takes 3 ∷ Posts 3 Done ∷ Begins ∷ Acts ∷ Acts ∷ Rises false Done ∷ Rises false Done ∷ Takes 3 ∷
    Posts 3 Done ∷ Takes 3 ∷ Posts 3 Done ∷ []

abbrev pub history : List Entry
history =
    marked 5 (Phase 1) ∷ marked 5 (Cut 2 1) ∷ marked 0 (Fell falls.Script None) ∷ marked 0 (Rose []) ∷
    marked 0 (Wrote records.Life) ∷ marked 3 (Called commands.Begin) ∷ marked 3 (Told (replies.Began (tx 0 1))) ∷
    marked 3 (Called commands.Abort) ∷ marked 3 (Told replies.Dropped) ∷ marked 5 (Phase 2) ∷
    marked 3 (Called commands.Begin) ∷ marked 3 (Told (replies.Began (tx 0 2))) ∷ marked 3 (Called (commands.Do 0 2)) ∷
    marked 3 (Sent 0 0 (messages.Request (tx 0 2) 1 0 (wants.Read (first_read 0 2)))) ∷ marked 0 (Got 0) ∷
    marked 0 (Sent 1 3 (messages.Answer 0 (answers.Granted (whole_grant 2 0 [])))) ∷ marked 3 (Got 1) ∷
    marked 3 (Sent 2 0 (messages.Request (tx 0 2) 1 2 (wants.Append 0 [] (own_line 1 0 2 ∷ [])))) ∷
    marked 3 (Sent 3 1 (messages.Request (tx 0 2) 1 0 (wants.Append 0 [] (own_line 1 0 2 ∷ [])))) ∷ marked 1 (Got 3) ∷
    marked 1 (Sent 4 3 (messages.Answer 3 (answers.Granted (whole_grant 1 0 [])))) ∷ marked 0 (Got 2) ∷ marked 3 (Got 4)
    ∷
    marked 0 (Sent 5 3 (messages.Answer 2 (answers.Granted (whole_grant 2 0 [])))) ∷ marked 3 (Got 5) ∷
    marked 3 (Told (replies.Response 2)) ∷ marked 3 (Called (commands.Do 1 1)) ∷
    marked 3 (Sent 6 0 (messages.Request (tx 0 2) 1 2 (wants.Read (first_read 1 1)))) ∷ marked 0 (Got 6) ∷
    marked 0 (Sent 7 3 (messages.Answer 6 (answers.Granted (whole_grant 2 0 [])))) ∷ marked 3 (Got 7) ∷
    marked 3 (Sent 8 0 (messages.Request (tx 0 2) 1 2 (wants.Append 1 [] (own_line 2 1 1 ∷ [])))) ∷ marked 0 (Got 8) ∷
    marked 0 (Sent 9 3 (messages.Answer 8 (answers.Granted (whole_grant 2 0 [])))) ∷ marked 0 (Got 8) ∷
    marked 0 (Sent 10 3 (messages.Answer 8 (answers.Granted (whole_grant 2 0 [])))) ∷ marked 3 (Got 9) ∷
    marked 3 (Told (replies.Response 1)) ∷ marked 3 (Got 10) ∷ marked 3 (Called commands.Commit) ∷
    marked 3 (Sent 11 0 (messages.Request (tx 0 2) 1 2 wants.Prepare)) ∷
    marked 3 (Sent 12 1 (messages.Request (tx 0 2) 1 1 wants.Prepare)) ∷ marked 1 (Got 12) ∷
    marked 1 (Wrote (prepare (tx 0 2) 1 [] (own_line 1 0 2 ∷ []) [])) ∷
    marked 1 (Sent 13 3 (messages.Answer 12 (answers.Yes 0))) ∷ marked 0 (Got 11) ∷
    marked 0 (Wrote (prepare (tx 0 2) 1 (read_lock 0 2 ∷ read_lock 1 1 ∷ []) (own_line 1 0 2 ∷ own_line 2 1 1 ∷ []) []))
    ∷
    marked 0 (Sent 14 3 (messages.Answer 11 (answers.Yes 0))) ∷ marked 3 (Got 13) ∷ marked 3 (Got 14) ∷
    marked 3 (Wrote (commit (stamp 1 0) (tx 0 2) (operation 0 2 (Some 2) ∷ operation 1 1 (Some 1) ∷ []))) ∷
    marked 3 (Sent 15 0 (messages.Decision (tx 0 2) (outcomes.Committed (stamp 1 0)))) ∷
    marked 3 (Sent 16 1 (messages.Decision (tx 0 2) (outcomes.Committed (stamp 1 0)))) ∷
    marked 3 (Told (replies.Committed (stamp 1 0))) ∷ marked 3 (Called commands.Begin) ∷
    marked 3 (Told (replies.Began (tx 0 3))) ∷ marked 1 (Got 16) ∷ marked 1 (Wrote (records.Done (tx 0 2) 1)) ∷
    marked 0 (Got 15) ∷ marked 3 (Called commands.Commit) ∷ marked 0 (Wrote (records.Done (tx 0 2) 1)) ∷
    marked 3 (Told replies.Unknown) ∷ marked 3 (Fell falls.Stop (Some (commit (stamp 2 0) (tx 0 3) []))) ∷
    marked 5 (Phase 3) ∷
    marked 3 (Rose ((commit (stamp 1 0) (tx 0 2) (operation 0 2 (Some 2) ∷ operation 1 1 (Some 1) ∷ [])) ∷ (commit
    (stamp 2 0) (tx 0 3) []) ∷ [])) ∷
    marked 3 (Wrote records.Life) ∷ marked 3 (Fell falls.Script None) ∷ marked 3 (Called commands.Begin) ∷
    marked 3 (Told replies.Down) ∷ marked 3 (Called (commands.Do 1 0)) ∷ marked 3 (Told replies.Down) ∷
    marked 3 (Called (commands.Do 1 2)) ∷ marked 3 (Told replies.Down) ∷ marked 3 (Called commands.Commit) ∷
    marked 3 (Told replies.Down) ∷ marked 3 (Called commands.Begin) ∷ marked 3 (Told replies.Down) ∷
    marked 3 (Called (commands.Do 1 2)) ∷ marked 3 (Told replies.Down) ∷ marked 3 (Called (commands.Do 0 2)) ∷
    marked 3 (Told replies.Down) ∷ marked 3 (Called (commands.Do 0 1)) ∷ marked 3 (Told replies.Down) ∷
    marked 5 (Phase 4) ∷ marked 5 (Heal 2 1) ∷ marked 2 (Fell falls.Script None) ∷ marked 2 (Rose []) ∷
    marked 2 (Wrote records.Life) ∷
    marked 3 (Rose ((commit (stamp 1 0) (tx 0 2) (operation 0 2 (Some 2) ∷ operation 1 1 (Some 1) ∷ [])) ∷ (commit
    (stamp 2 0) (tx 0 3) []) ∷ records.Life ∷ [])) ∷
    marked 3 (Wrote records.Life) ∷ marked 3 (Called (commands.Do 0 2)) ∷ marked 3 (Told replies.NoTransaction) ∷
    marked 3 (Called commands.Commit) ∷ marked 3 (Told replies.NoTransaction) ∷ []
