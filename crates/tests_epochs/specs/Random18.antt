-- Random: sites 1, clients 1, steps 168, messages 41, cuts 1, commits 5, aborts 1, absent 4, falls 4, rises 3,
-- unwritten records 3.
use Rattle.std.specs.Prelude.{List, [], ◌∷◌, Some, None}
use Rattle.qc_decl.specs.declared.declaration.Declaration.{Declaration}
use Rattle.qc_decl.specs.Vocabulary.{row}
use Rattle.qc_msg.specs.Vocabulary.{Entry, marked}
use Rattle.tests_histories.specs.Words.{tx, stamp, line, own_line, operation, read_lock, prepare, commit, declaration}
use Rattle.tests_histories.specs.Words.{kind, pair, plan}
use Rattle.qc_msg.specs.declared.step.Step.TheVariants.{Phase, Cut, Heal, Called, Got, Wrote, Sent, Told, Armed, Fell}
use Rattle.qc_msg.specs.declared.step.Step.TheVariants.{Rose}
use Rattle.qc_msg.specs.declared.message.Answer.TheVariants as answers
use Rattle.qc_msg.specs.declared.reply.AbortCause.TheVariants as causes
use Rattle.qc_msg.specs.declared.step.Command.TheVariants as commands
use Rattle.qc_msg.specs.declared.message.Message.TheVariants as messages
use Rattle.qc_msg.specs.declared.message.Outcome.TheVariants as outcomes
use Rattle.qc_msg.specs.declared.record.Record.TheVariants as records
use Rattle.qc_msg.specs.declared.reply.Reply.TheVariants as replies
use Rattle.qc_msg.specs.declared.message.Want.TheVariants as wants
use Rattle.qc_msg.specs.declared.step.Fall.TheVariants as falls
use Rattle.qc_msg.specs.Vocabulary.{whole_grant, first_read}
use Rattle.qc_outside.specs.declared.disk.ArmKind.TheVariants as arms

abbrev pub decl : Declaration
decl =
    declaration 1 1 (kind 3 1 2 0 (row 2 0 1 0 ∷ []) [] ∷ kind 3 3 5 0 (row 0 0 0 1 ∷ row 1 0 0 2 ∷ row 2 0 1 2 ∷ row 0
    1 1 0 ∷ row 1 1 0 0 ∷ row 2 1 0 1 ∷ row 0 2 2 0 ∷ row 1 2 3 1 ∷ row 2 2 4 2 ∷ []) (pair 0 0 ∷ pair 0 3 ∷ pair 1 0 ∷
    pair 1 3 ∷ pair 2 0 ∷ pair 2 3 ∷ []) ∷ []) (1 ∷ 0 ∷ []) (plan (1 ∷ []) ((1 ∷ 1 ∷ 1 ∷ []) ∷ (0 ∷ []) ∷ []) ((1 ∷ 0 ∷
    0 ∷ 1 ∷ 0 ∷ 0 ∷ 0 ∷ []) ∷ (1 ∷ []) ∷ []) ∷ [])

abbrev pub history : List Entry
history =
    marked 3 (Phase 1) ∷ marked 3 (Cut 0 2) ∷ marked 3 (Armed 0 arms.Stop 8) ∷ marked 1 (Called commands.Begin) ∷
    marked 1 (Told (replies.Began (tx 0 1))) ∷ marked 1 (Called (commands.Do 0 0)) ∷
    marked 1 (Sent 0 0 (messages.Request (tx 0 1) 1 0 (wants.Read (first_read 0 0)))) ∷ marked 0 (Got 0) ∷
    marked 0 (Sent 1 1 (messages.Answer 0 (answers.Granted (whole_grant 1 0 [])))) ∷ marked 1 (Got 1) ∷
    marked 1 (Sent 2 0 (messages.Request (tx 0 1) 1 1 (wants.Append 0 [] (own_line 1 0 0 ∷ [])))) ∷ marked 0 (Got 2) ∷
    marked 0 (Sent 3 1 (messages.Answer 2 (answers.Granted (whole_grant 1 0 [])))) ∷ marked 1 (Got 3) ∷
    marked 1 (Told (replies.Response 0)) ∷ marked 1 (Called (commands.Do 1 0)) ∷ marked 1 (Told replies.Absent) ∷
    marked 1 (Called (commands.Do 0 2)) ∷
    marked 1 (Sent 4 0 (messages.Request (tx 0 1) 1 1 (wants.Read (first_read 0 2))))
    ∷
    marked 0 (Got 4) ∷ marked 0 (Sent 5 1 (messages.Answer 4 (answers.Granted (whole_grant 1 0 [])))) ∷ marked 1 (Got 5)
    ∷
    marked 1 (Told (replies.Response 3)) ∷ marked 1 (Called commands.Commit) ∷
    marked 1 (Sent 6 0 (messages.Request (tx 0 1) 1 1 wants.Prepare)) ∷ marked 0 (Got 6) ∷
    marked 0 (Sent 7 1 (messages.Answer 6 answers.Fault)) ∷
    marked 0 (Fell falls.Disk (Some (prepare (tx 0 1) 1 (read_lock 0 0 ∷ read_lock 0 2 ∷ []) (own_line 1 0 0 ∷ []) [])))
    ∷
    marked 1 (Got 7) ∷ marked 1 (Sent 8 0 (messages.Decision (tx 0 1) outcomes.Aborted)) ∷
    marked 1 (Told (replies.Aborted (causes.Fault 0))) ∷ marked 3 (Phase 2) ∷ marked 0 (Rose []) ∷
    marked 0 (Fell falls.Disk (Some records.Life)) ∷ marked 1 (Called commands.Begin) ∷
    marked 1 (Told (replies.Began (tx 0 2))) ∷ marked 1 (Called (commands.Do 1 0)) ∷ marked 1 (Told replies.Absent) ∷
    marked 1 (Called commands.Commit) ∷ marked 1 (Wrote (commit (stamp 1 0) (tx 0 2) (operation 1 0 None ∷ []))) ∷
    marked 1 (Told (replies.Committed (stamp 1 0))) ∷ marked 1 (Called commands.Begin) ∷
    marked 1 (Told (replies.Began (tx 0 3))) ∷ marked 3 (Phase 3) ∷ marked 3 (Heal 0 2) ∷ marked 0 (Rose []) ∷
    marked 0 (Wrote records.Life) ∷ marked 1 (Called (commands.Do 0 2)) ∷
    marked 1 (Sent 9 0 (messages.Request (tx 0 3) 1 0 (wants.Read (first_read 0 2)))) ∷ marked 0 (Got 9) ∷
    marked 0 (Sent 10 1 (messages.Answer 9 (answers.Granted (whole_grant 2 0 [])))) ∷ marked 1 (Got 10) ∷
    marked 1 (Told (replies.Response 2)) ∷ marked 1 (Called commands.Commit) ∷
    marked 1 (Sent 11 0 (messages.Request (tx 0 3) 1 2 wants.Prepare)) ∷ marked 0 (Got 11) ∷
    marked 0 (Wrote (prepare (tx 0 3) 1 (read_lock 0 2 ∷ []) [] [])) ∷
    marked 0 (Sent 12 1 (messages.Answer 11 (answers.Yes 0))) ∷ marked 1 (Got 12) ∷
    marked 1 (Wrote (commit (stamp 2 0) (tx 0 3) (operation 0 2 (Some 2) ∷ []))) ∷
    marked 1 (Sent 13 0 (messages.Decision (tx 0 3) (outcomes.Committed (stamp 2 0)))) ∷
    marked 1 (Told (replies.Committed (stamp 2 0))) ∷ marked 0 (Got 13) ∷ marked 0 (Wrote (records.Done (tx 0 3) 2)) ∷
    marked 3 (Phase 4) ∷ marked 3 (Armed 2 arms.Stop 12) ∷ marked 1 (Called commands.Begin) ∷
    marked 1 (Told (replies.Began (tx 0 4))) ∷ marked 1 (Called (commands.Do 0 2)) ∷
    marked 1 (Sent 14 0 (messages.Request (tx 0 4) 1 0 (wants.Read (first_read 0 2)))) ∷ marked 0 (Got 14) ∷
    marked 0 (Sent 15 1 (messages.Answer 14 (answers.Granted (whole_grant 2 2 [])))) ∷ marked 1 (Got 15) ∷
    marked 1 (Told (replies.Response 2)) ∷ marked 1 (Called commands.Commit) ∷
    marked 1 (Sent 16 0 (messages.Request (tx 0 4) 1 2 wants.Prepare)) ∷ marked 0 (Got 16) ∷
    marked 0 (Wrote (prepare (tx 0 4) 1 (read_lock 0 2 ∷ []) [] [])) ∷
    marked 0 (Sent 17 1 (messages.Answer 16 (answers.Yes 2))) ∷ marked 1 (Got 17) ∷
    marked 1 (Wrote (commit (stamp 3 0) (tx 0 4) (operation 0 2 (Some 2) ∷ []))) ∷
    marked 1 (Sent 18 0 (messages.Decision (tx 0 4) (outcomes.Committed (stamp 3 0)))) ∷
    marked 1 (Told (replies.Committed (stamp 3 0))) ∷ marked 0 (Got 18) ∷ marked 0 (Wrote (records.Done (tx 0 4) 3)) ∷
    marked 1 (Called commands.Begin) ∷ marked 1 (Told (replies.Began (tx 0 5))) ∷ marked 1 (Called (commands.Do 0 2)) ∷
    marked 1 (Sent 19 0 (messages.Request (tx 0 5) 1 0 (wants.Read (first_read 0 2)))) ∷ marked 0 (Got 19) ∷
    marked 0 (Sent 20 1 (messages.Answer 19 (answers.Granted (whole_grant 2 3 [])))) ∷ marked 1 (Got 20) ∷
    marked 1 (Told (replies.Response 2)) ∷ marked 1 (Called (commands.Do 1 0)) ∷ marked 1 (Told replies.Absent) ∷
    marked 1 (Called (commands.Do 0 2))
    ∷ marked 1 (Sent 21 0 (messages.Request (tx 0 5) 1 2 (wants.Read (first_read 0 2)))) ∷
    marked 0 (Got 21) ∷ marked 0 (Sent 22 1 (messages.Answer 21 (answers.Granted (whole_grant 2 3 []))))
    ∷ marked 1 (Got 22) ∷
    marked 1 (Told (replies.Response 2)) ∷ marked 1 (Called commands.Commit) ∷
    marked 1 (Sent 23 0 (messages.Request (tx 0 5) 1 2 wants.Prepare)) ∷ marked 0 (Got 23) ∷
    marked 0 (Wrote (prepare (tx 0 5) 1 (read_lock 0 2 ∷ []) [] [])) ∷
    marked 0 (Sent 24 1 (messages.Answer 23 (answers.Yes 3))) ∷ marked 1 (Got 24) ∷
    marked 1 (Wrote (commit (stamp 4 0) (tx 0 5) (operation 0 2 (Some 2) ∷ operation 1 0 None ∷ operation 0 2 (Some 2) ∷
    []))) ∷
    marked 1 (Sent 25 0 (messages.Decision (tx 0 5) (outcomes.Committed (stamp 4 0)))) ∷
    marked 1 (Told (replies.Committed (stamp 4 0))) ∷ marked 0 (Got 25) ∷ marked 0 (Wrote (records.Done (tx 0 5) 4)) ∷
    marked 3 (Phase 5) ∷ marked 2 (Fell falls.Script None) ∷ marked 2 (Rose []) ∷ marked 2 (Wrote records.Life) ∷
    marked 1 (Called commands.Begin) ∷ marked 1 (Told (replies.Began (tx 0 6))) ∷ marked 1 (Called (commands.Do 0 0)) ∷
    marked 1 (Sent 26 0 (messages.Request (tx 0 6) 1 0 (wants.Read (first_read 0 0)))) ∷ marked 0 (Got 26) ∷
    marked 0 (Sent 27 1 (messages.Answer 26 (answers.Granted (whole_grant 2 4 [])))) ∷ marked 1 (Got 27) ∷
    marked 1 (Sent 28 0 (messages.Request (tx 0 6) 1 2 (wants.Append 0 [] (own_line 1 0 0 ∷ [])))) ∷ marked 0 (Got 28) ∷
    marked 0 (Sent 29 1 (messages.Answer 28 (answers.Granted (whole_grant 2 4 [])))) ∷ marked 1 (Got 29) ∷
    marked 1 (Told (replies.Response 0)) ∷ marked 1 (Called (commands.Do 1 0)) ∷ marked 1 (Told replies.Absent) ∷
    marked 1 (Called (commands.Do 0 2))
    ∷ marked 1 (Sent 30 0 (messages.Request (tx 0 6) 1 2 (wants.Read (first_read 0 2)))) ∷
    marked 0 (Got 30) ∷ marked 0 (Sent 31 1 (messages.Answer 30 (answers.Granted (whole_grant 2 4 []))))
    ∷ marked 1 (Got 31) ∷
    marked 1 (Told (replies.Response 3)) ∷ marked 1 (Called commands.Commit) ∷
    marked 1 (Sent 32 0 (messages.Request (tx 0 6) 1 2 wants.Prepare)) ∷ marked 0 (Got 32) ∷
    marked 0 (Wrote (prepare (tx 0 6) 1 (read_lock 0 0 ∷ read_lock 0 2 ∷ []) (own_line 1 0 0 ∷ []) [])) ∷
    marked 0 (Sent 33 1 (messages.Answer 32 (answers.Yes 4))) ∷ marked 1 (Got 33) ∷
    marked 1 (Wrote (commit (stamp 5 0) (tx 0 6) (operation 0 0 (Some 0) ∷ operation 1 0 None ∷ operation 0 2 (Some 3) ∷
    []))) ∷
    marked 1 (Sent 34 0 (messages.Decision (tx 0 6) (outcomes.Committed (stamp 5 0)))) ∷
    marked 1 (Told (replies.Committed (stamp 5 0))) ∷ marked 0 (Got 34) ∷ marked 0 (Wrote (records.Done (tx 0 6) 5)) ∷
    marked 3 (Phase 6) ∷ marked 1 (Called commands.Begin) ∷ marked 1 (Told (replies.Began (tx 0 7))) ∷
    marked 1 (Called (commands.Do 0 0))
    ∷ marked 1 (Sent 35 0 (messages.Request (tx 0 7) 1 0 (wants.Read (first_read 0 0)))) ∷
    marked 0 (Got 35)
    ∷ marked 0 (Sent 36 1 (messages.Answer 35 (answers.Granted (whole_grant 2 5 (line 5 0 6 1 0 0 ∷ []))))) ∷
    marked 1 (Got 36) ∷
    marked 1 (Sent 37 0 (messages.Request (tx 0 7) 1 2 (wants.Append 0 (line 5 0 6 1 0 0 ∷ []) (own_line 1 0 0 ∷ []))))
    ∷
    marked 0 (Got 37) ∷ marked 0 (Sent 38 1 (messages.Answer 37 (answers.Granted (whole_grant 2 5 []))))
    ∷ marked 1 (Got 38) ∷
    marked 1 (Told (replies.Response 0)) ∷ marked 1 (Called commands.Commit) ∷
    marked 1 (Sent 39 0 (messages.Request (tx 0 7) 1 2 wants.Prepare)) ∷ marked 0 (Got 39) ∷
    marked 0 (Wrote (prepare (tx 0 7) 1 (read_lock 0 0 ∷ []) (own_line 1 0 0 ∷ []) [])) ∷
    marked 0 (Sent 40 1 (messages.Answer 39 (answers.Yes 5))) ∷ marked 1 (Got 40) ∷ marked 1 (Told replies.Unknown) ∷
    marked 1 (Fell falls.Disk (Some (commit (stamp 6 0) (tx 0 7) (operation 0 0 (Some 0) ∷ [])))) ∷ []
