-- Random: sites 4, clients 2, steps 117, messages 42, commits 1, conflicts 3, absent 1, falls 2, rises 1.
use Rattle.std.specs.Prelude.{List, [], ◌∷◌, None, false}
use Rattle.qc_decl.specs.declared.declaration.Declaration.{Declaration}
use Rattle.qc_decl.specs.Vocabulary.{row}
use Rattle.qc_msg.specs.Vocabulary.{Entry, marked}
use Rattle.tests_histories.specs.Words.{tx, stamp, own_line, read_lock, prepare, commit, declaration, kind, pair, plan}
use Rattle.qc_msg.specs.declared.step.Step.TheVariants.{Phase, Called, Got, Wrote, Sent, Told, Armed, Fell, Rose}
use Rattle.qc_msg.specs.declared.turn.Appended.TheVariants.{Done}
use Rattle.tests_falls.specs.Perform.{Move, Begins, Acts, Takes, Posts, Rises}
use Rattle.qc_msg.specs.declared.message.Answer.TheVariants as answers
use Rattle.qc_msg.specs.declared.step.Command.TheVariants as commands
use Rattle.qc_msg.specs.declared.message.Message.TheVariants as messages
use Rattle.qc_msg.specs.declared.message.Outcome.TheVariants as outcomes
use Rattle.qc_msg.specs.declared.record.Record.TheVariants as records
use Rattle.qc_msg.specs.declared.reply.Reply.TheVariants as replies
use Rattle.qc_msg.specs.declared.message.Want.TheVariants as wants
use Rattle.qc_msg.specs.declared.step.Fall.TheVariants as falls
use Rattle.qc_msg.specs.Vocabulary.{whole_grant, first_read}
use Rattle.qc_outside.specs.declared.disk.ArmKind.TheVariants as arms

abbrev pub decl : Declaration
decl =
    declaration 4 2 (kind 4 3 3 0 (row 0 0 0 1 ∷ row 0 1 0 2 ∷ row 1 1 0 3 ∷ row 2 0 0 3 ∷ row 1 2 1 0 ∷ row 2 2 2 0 ∷
    row 3 2 1 2 ∷ row 3 2 2 1 ∷ []) (pair 0 0 ∷ pair 0 2 ∷ pair 0 3 ∷ pair 1 1 ∷ pair 1 2 ∷ pair 1 3 ∷ pair 2 0 ∷ pair 2
    1 ∷ pair 2 2 ∷ pair 2 3 ∷ []) ∷ []) (0 ∷ []) (plan (1 ∷ 2 ∷ 1 ∷ 1 ∷ []) ((3 ∷ 3 ∷ 3 ∷ []) ∷ []) ((3 ∷ 3 ∷ 3 ∷ 3 ∷
    []) ∷ []) ∷ [])

abbrev pub moves : List Move
moves =
    Begins ∷ Acts ∷ Takes 4 ∷ Posts 4 Done ∷ Takes 5 ∷ Posts 5 Done ∷ Takes 4 ∷ Posts 4 Done ∷ Takes 0 ∷ Posts 0 Done ∷
    Takes 1 ∷ Posts 1 Done ∷ Takes 4 ∷ Posts 4 Done ∷ Takes 4 ∷ Posts 4 Done ∷ Takes 0 ∷ Posts 0 Done ∷ Takes 1 ∷
    Posts 1 Done ∷ Takes 4 ∷ Posts 4 Done ∷ Takes 4 ∷ Posts 4 Done ∷ Takes 5 ∷ Posts 5 Done ∷ Takes 1 ∷ Posts 1 Done ∷
    Takes 2 ∷ Posts 2 Done ∷ Takes 5 ∷ Posts 5 Done ∷ Takes 4 ∷ Posts 4 Done ∷ Takes 5 ∷ Posts 5 Done ∷ Takes 1 ∷
    Posts 1 Done ∷ Takes 4 ∷ Posts 4 Done ∷ Takes 0 ∷ Posts 0 Done ∷ Takes 1 ∷ Posts 1 Done ∷ Takes 4 ∷ Posts 4 Done ∷
    Takes 4 ∷ Posts 4 Done ∷ Takes 0 ∷ Posts 0 Done ∷ Takes 1 ∷ Posts 1 Done ∷ Takes 4 ∷ Posts 4 Done ∷ Takes 4 ∷
    Posts 4 Done ∷ Takes 5 ∷ Posts 5 Done ∷ Takes 1 ∷ Posts 1 Done ∷ Takes 2 ∷ Posts 2 Done ∷ Takes 5 ∷ Posts 5 Done ∷
    Takes 4 ∷ Posts 4 Done ∷ Takes 5 ∷ Posts 5 Done ∷ Takes 1 ∷ Posts 1 Done ∷ Takes 4 ∷ Posts 4 Done ∷ Takes 0 ∷
    Posts 0 Done ∷ Takes 1 ∷ Posts 1 Done ∷ Takes 4 ∷ Posts 4 Done ∷ Takes 4 ∷ Posts 4 Done ∷ Takes 5 ∷ Posts 5 Done ∷
    Takes 2 ∷ Posts 2 Done ∷ Takes 5 ∷ Posts 5 Done ∷ Takes 1 ∷ Posts 1 Done ∷ Takes 2 ∷ Posts 2 Done ∷ Takes 5 ∷
    Posts 5 Done ∷ Takes 5 ∷ Posts 5 Done ∷ Begins ∷ Takes 5 ∷ Posts 5 Done ∷ Takes 1 ∷ Posts 1 Done ∷ Takes 2 ∷
    Posts 2 Done ∷ Takes 5 ∷ Posts 5 Done ∷ Takes 4 ∷ Posts 4 Done ∷ Takes 5 ∷ Posts 5 Done ∷ Takes 1 ∷ Posts 1 Done ∷
    Begins ∷ Acts ∷ Rises false Done ∷ Acts ∷ []

abbrev pub history : List Entry
history =
    marked 7 (Phase 1) ∷ marked 7 (Armed 4 arms.Stop 1) ∷ marked 4 (Called commands.Begin) ∷
    marked 4 (Told (replies.Began (tx 0 1))) ∷ marked 5 (Called commands.Begin) ∷
    marked 5 (Told (replies.Began (tx 1 1))) ∷ marked 4 (Called (commands.Do 0 1)) ∷
    marked 4 (Sent 0 0 (messages.Request (tx 0 1) 1 0 (wants.Read (first_read 0 1)))) ∷
    marked 4 (Sent 1 1 (messages.Request (tx 0 1) 1 0 (wants.Read (first_read 0 1)))) ∷ marked 0 (Got 0) ∷
    marked 0 (Sent 2 4 (messages.Answer 0 (answers.Granted (whole_grant 1 0 [])))) ∷ marked 1 (Got 1) ∷
    marked 1 (Sent 3 4 (messages.Answer 1 (answers.Granted (whole_grant 1 0 [])))) ∷ marked 4 (Got 2) ∷ marked 4 (Got 3)
    ∷
    marked 4 (Sent 4 0 (messages.Request (tx 0 1) 1 1 (wants.Append 0 [] (own_line 1 0 1 ∷ [])))) ∷
    marked 4 (Sent 5 1 (messages.Request (tx 0 1) 1 1 (wants.Append 0 [] (own_line 1 0 1 ∷ [])))) ∷ marked 0 (Got 4) ∷
    marked 0 (Sent 6 4 (messages.Answer 4 (answers.Granted (whole_grant 1 0 [])))) ∷ marked 1 (Got 5) ∷
    marked 1 (Sent 7 4 (messages.Answer 5 (answers.Granted (whole_grant 1 0 [])))) ∷ marked 4 (Got 6) ∷ marked 4 (Got 7)
    ∷
    marked 4 (Told (replies.Response 0)) ∷ marked 5 (Called (commands.Do 0 2)) ∷
    marked 5 (Sent 8 1 (messages.Request (tx 1 1) 1 0 (wants.Read (first_read 0 2)))) ∷
    marked 5 (Sent 9 2 (messages.Request (tx 1 1) 1 0 (wants.Read (first_read 0 2)))) ∷ marked 1 (Got 8) ∷
    marked 1 (Sent 10 5 (messages.Answer 8 (answers.Clash (tx 0 1) 2 1))) ∷
    marked 1 (Sent 11 4 (messages.Inquiry (tx 0 1))) ∷ marked 2 (Got 9) ∷
    marked 2 (Sent 12 5 (messages.Answer 9 (answers.Granted (whole_grant 1 0 [])))) ∷ marked 5 (Got 10)
    ∷ marked 4 (Got 11) ∷
    marked 4 (Sent 13 1 (messages.Decision (tx 0 1) outcomes.Active)) ∷ marked 5 (Got 12) ∷
    marked 5 (Told (replies.Conflict (tx 0 1) 1)) ∷ marked 1 (Got 13) ∷ marked 4 (Called (commands.Do 0 0)) ∷
    marked 4 (Sent 14 0 (messages.Request (tx 0 1) 1 1 (wants.Read (first_read 0 0)))) ∷
    marked 4 (Sent 15 1 (messages.Request (tx 0 1) 1 1 (wants.Read (first_read 0 0)))) ∷ marked 0 (Got 14) ∷
    marked 0 (Sent 16 4 (messages.Answer 14 (answers.Granted (whole_grant 1 0 [])))) ∷ marked 1 (Got 15) ∷
    marked 1 (Sent 17 4 (messages.Answer 15 (answers.Granted (whole_grant 1 0 [])))) ∷ marked 4 (Got 16)
    ∷ marked 4 (Got 17) ∷
    marked 4 (Sent 18 0 (messages.Request (tx 0 1) 1 1 (wants.Append 0 [] (own_line 1 0 1 ∷ own_line 2 0 0 ∷ [])))) ∷
    marked 4 (Sent 19 1 (messages.Request (tx 0 1) 1 1 (wants.Append 0 [] (own_line 1 0 1 ∷ own_line 2 0 0 ∷ [])))) ∷
    marked 0 (Got 18) ∷ marked 0 (Sent 20 4 (messages.Answer 18 (answers.Granted (whole_grant 1 0 []))))
    ∷ marked 1 (Got 19) ∷
    marked 1 (Sent 21 4 (messages.Answer 19 (answers.Granted (whole_grant 1 0 [])))) ∷ marked 4 (Got 20)
    ∷ marked 4 (Got 21) ∷
    marked 4 (Told (replies.Response 0)) ∷ marked 5 (Called (commands.Do 0 0)) ∷
    marked 5 (Sent 22 1 (messages.Request (tx 1 1) 1 0 (wants.Read (first_read 0 0)))) ∷
    marked 5 (Sent 23 2 (messages.Request (tx 1 1) 1 1 (wants.Read (first_read 0 0)))) ∷ marked 1 (Got 22) ∷
    marked 1 (Sent 24 5 (messages.Answer 22 (answers.Clash (tx 0 1) 0 0))) ∷
    marked 1 (Sent 25 4 (messages.Inquiry (tx 0 1))) ∷ marked 2 (Got 23) ∷
    marked 2 (Sent 26 5 (messages.Answer 23 (answers.Granted (whole_grant 1 0 [])))) ∷ marked 5 (Got 24)
    ∷ marked 4 (Got 25) ∷
    marked 4 (Sent 27 1 (messages.Decision (tx 0 1) outcomes.Active)) ∷ marked 5 (Got 26) ∷
    marked 5 (Told (replies.Conflict (tx 0 1) 1)) ∷ marked 1 (Got 27) ∷ marked 4 (Called (commands.Do 0 1)) ∷
    marked 4 (Sent 28 0 (messages.Request (tx 0 1) 1 1 (wants.Read (first_read 0 1)))) ∷
    marked 4 (Sent 29 1 (messages.Request (tx 0 1) 1 1 (wants.Read (first_read 0 1)))) ∷ marked 0 (Got 28) ∷
    marked 0 (Sent 30 4 (messages.Answer 28 (answers.Granted (whole_grant 1 0 [])))) ∷ marked 1 (Got 29) ∷
    marked 1 (Sent 31 4 (messages.Answer 29 (answers.Granted (whole_grant 1 0 [])))) ∷ marked 4 (Got 30)
    ∷ marked 4 (Got 31) ∷
    marked 4 (Told replies.Absent) ∷ marked 5 (Called commands.Commit) ∷
    marked 5 (Sent 32 2 (messages.Request (tx 1 1) 1 1 wants.Prepare)) ∷ marked 2 (Got 32) ∷
    marked 2 (Wrote (prepare (tx 1 1) 1 (read_lock 0 0 ∷ read_lock 0 2 ∷ []) [] [])) ∷
    marked 2 (Sent 33 5 (messages.Answer 32 (answers.Yes 0))) ∷ marked 5 (Got 33) ∷
    marked 5 (Wrote (commit (stamp 1 1) (tx 1 1) [])) ∷
    marked 5 (Sent 34 1 (messages.Decision (tx 1 1) (outcomes.Committed (stamp 1 1)))) ∷
    marked 5 (Sent 35 2 (messages.Decision (tx 1 1) (outcomes.Committed (stamp 1 1)))) ∷
    marked 5 (Told (replies.Committed (stamp 1 1))) ∷ marked 1 (Got 34) ∷ marked 2 (Got 35) ∷
    marked 2 (Wrote (records.Done (tx 1 1) 1)) ∷ marked 5 (Called commands.Begin) ∷
    marked 5 (Told (replies.Began (tx 1 2))) ∷ marked 5 (Called commands.Begin) ∷
    marked 5 (Told (replies.Already (tx 1 2))) ∷ marked 7 (Phase 2) ∷ marked 5 (Called (commands.Do 0 0)) ∷
    marked 5 (Sent 36 1 (messages.Request (tx 1 2) 1 0 (wants.Read (first_read 0 0)))) ∷
    marked 5 (Sent 37 2 (messages.Request (tx 1 2) 1 0 (wants.Read (first_read 0 0)))) ∷ marked 1 (Got 36) ∷
    marked 1 (Sent 38 5 (messages.Answer 36 (answers.Clash (tx 0 1) 0 0))) ∷
    marked 1 (Sent 39 4 (messages.Inquiry (tx 0 1))) ∷ marked 2 (Got 37) ∷
    marked 2 (Sent 40 5 (messages.Answer 37 (answers.Granted (whole_grant 1 1 [])))) ∷ marked 5 (Got 38)
    ∷ marked 4 (Got 39) ∷
    marked 4 (Sent 41 1 (messages.Decision (tx 0 1) outcomes.Active)) ∷ marked 5 (Got 40) ∷
    marked 5 (Told (replies.Conflict (tx 0 1) 1)) ∷ marked 1 (Got 41) ∷ marked 7 (Phase 3) ∷
    marked 0 (Fell falls.Script None) ∷ marked 0 (Rose []) ∷ marked 0 (Wrote records.Life) ∷
    marked 3 (Fell falls.Script None) ∷ []
