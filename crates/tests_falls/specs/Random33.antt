-- Random: sites 3, clients 1, steps 169, messages 68, lost 1, commits 1, aborts 1, short rounds 1, falls 2, rises 1,
-- unwritten records 1.
use Rattle.std.specs.Prelude.{List, [], ◌∷◌, Some, None, false}
use Rattle.qc_decl.specs.declared.declaration.Declaration.{Declaration}
use Rattle.qc_decl.specs.Vocabulary.{row}
use Rattle.qc_msg.specs.Vocabulary.{Entry, marked}
use Rattle.tests_histories.specs.Words.{tx, stamp, own_line, read_lock, prepare, commit, declaration, kind, pair, plan}
use Rattle.qc_msg.specs.declared.step.Step.TheVariants.{Phase, Called, Got, Lost, Wrote, Sent, Told, Fell, Rose}
use Rattle.qc_msg.specs.declared.turn.Appended.TheVariants.{Done, Failed}
use Rattle.tests_falls.specs.Perform.{Move, Begins, Acts, Takes, Posts, Rises}
use Rattle.qc_msg.specs.declared.message.Answer.TheVariants as answers
use Rattle.qc_msg.specs.declared.reply.AbortCause.TheVariants as causes
use Rattle.qc_msg.specs.declared.step.Command.TheVariants as commands
use Rattle.qc_msg.specs.declared.reply.Half.TheVariants as halves
use Rattle.qc_msg.specs.declared.message.Message.TheVariants as messages
use Rattle.qc_msg.specs.declared.message.Outcome.TheVariants as outcomes
use Rattle.qc_msg.specs.declared.record.Record.TheVariants as records
use Rattle.qc_msg.specs.declared.reply.Reply.TheVariants as replies
use Rattle.qc_msg.specs.declared.message.Want.TheVariants as wants
use Rattle.qc_msg.specs.declared.step.Fall.TheVariants as falls
use Rattle.qc_msg.specs.Vocabulary.{whole_grant, first_read}

abbrev pub decl : Declaration
decl =
    declaration 3 1 (kind 2 2 3 0 (row 0 0 0 1 ∷ row 1 0 1 1 ∷ row 0 1 2 0 ∷ row 1 1 2 0 ∷ []) (pair 0 0 ∷ pair 0 2 ∷
    []) ∷ kind 3 3 3 0 (row 0 0 0 1 ∷ row 0 0 1 2 ∷ row 1 1 0 1 ∷ row 2 1 1 2 ∷ row 1 2 2 0 ∷ row 2 2 2 0 ∷ row 0 2 2 0
    ∷ []) (pair 0 0 ∷ pair 0 1 ∷ pair 0 4 ∷ pair 1 0 ∷ pair 1 1 ∷ pair 1 2 ∷ pair 1 4 ∷ pair 2 3 ∷ []) ∷ []) (0 ∷ 1 ∷
    []) (plan (2 ∷ 1 ∷ 1 ∷ []) ((1 ∷ 0 ∷ []) ∷ (1 ∷ 3 ∷ 4 ∷ []) ∷ []) ((4 ∷ 0 ∷ 4 ∷ []) ∷ (4 ∷ 4 ∷ 2 ∷ 1 ∷ 4 ∷ []) ∷ [])
    ∷ [])

abbrev pub moves : List Move
moves =
    Begins ∷ Acts ∷ Rises false Done ∷ Takes 3 ∷ Posts 3 Done ∷ Takes 3 ∷ Posts 3 Done ∷ Takes 1 ∷ Posts 1 Done ∷
    Takes 2 ∷ Posts 2 Done ∷ Takes 0 ∷ Takes 3 ∷ Posts 3 Done ∷ Posts 0 Done ∷ Takes 3 ∷ Posts 3 Done ∷ Takes 3 ∷
    Posts 3 Done ∷ Takes 1 ∷ Takes 2 ∷ Posts 2 Done ∷ Posts 1 Done ∷ Takes 0 ∷ Posts 0 Done ∷ Takes 3 ∷ Posts 3 Done ∷
    Takes 3 ∷ Posts 3 Done ∷ Takes 3 ∷ Posts 3 Done ∷ Takes 3 ∷ Posts 3 Done ∷ Takes 0 ∷ Posts 0 Done ∷ Takes 3 ∷
    Posts 3 Done ∷ Takes 2 ∷ Posts 2 Done ∷ Takes 1 ∷ Posts 1 Done ∷ Takes 0 ∷ Posts 0 Done ∷ Takes 3 ∷ Posts 3 Done ∷
    Takes 3 ∷ Posts 3 Done ∷ Takes 3 ∷ Posts 3 Done ∷ Begins ∷ Takes 3 ∷ Posts 3 Done ∷ Takes 0 ∷ Takes 2 ∷
    Posts 0 Done ∷ Posts 2 Done ∷ Takes 1 ∷ Posts 1 Done ∷ Takes 1 ∷ Posts 1 Done ∷ Takes 3 ∷ Posts 3 Done ∷ Takes 3 ∷
    Posts 3 Done ∷ Takes 3 ∷ Posts 3 Done ∷ Takes 3 ∷ Posts 3 Done ∷ Takes 3 ∷ Posts 3 Done ∷ Takes 2 ∷ Posts 2 Done ∷
    Takes 0 ∷ Posts 0 Done ∷ Takes 3 ∷ Posts 3 Done ∷ Takes 3 ∷ Posts 3 Done ∷ Takes 1 ∷ Posts 1 Done ∷ Takes 3 ∷
    Posts 3 Done ∷ Takes 2 ∷ Posts 2 Done ∷ Takes 0 ∷ Takes 1 ∷ Posts 0 Done ∷ Posts 1 Done ∷ Takes 3 ∷ Posts 3 Done ∷
    Takes 3 ∷ Posts 3 Done ∷ Takes 3 ∷ Posts 3 Done ∷ Takes 3 ∷ Posts 3 Done ∷ Takes 0 ∷ Posts 0 Done ∷ Takes 3 ∷
    Posts 3 Done ∷ Takes 0 ∷ Takes 2 ∷ Posts 0 Done ∷ Takes 1 ∷ Posts 1 Done ∷ Posts 2 Done ∷ Takes 3 ∷ Posts 3 Done ∷
    Takes 3 ∷ Posts 3 Done ∷ Takes 3 ∷ Posts 3 Done ∷ Begins ∷ Takes 3 ∷ Posts 3 Done ∷ Takes 0 ∷ Posts 0 Done ∷
    Takes 3 ∷ Posts 3 Done ∷ Takes 1 ∷ Posts 1 Failed ∷ Takes 2 ∷ Posts 2 Done ∷ Takes 3 ∷ Posts 3 Done ∷ Takes 3 ∷
    Posts 3 Done ∷ Takes 3 ∷ Takes 0 ∷ Posts 0 Done ∷ Takes 2 ∷ Posts 2 Done ∷ Posts 3 Done ∷ Takes 3 ∷ Posts 3 Done ∷
    Takes 3 ∷ Posts 3 Done ∷ Takes 0 ∷ Posts 0 Done ∷ Takes 3 ∷ Posts 3 Done ∷ Takes 2 ∷ Posts 2 Done ∷ Takes 3 ∷
    Posts 3 Done ∷ Takes 3 ∷ Posts 3 Done ∷ Takes 0 ∷ Takes 2 ∷ Posts 2 Done ∷ Posts 0 Done ∷ Takes 3 ∷ Posts 3 Done ∷
    Takes 3 ∷ Posts 3 Done ∷ Takes 0 ∷ Posts 0 Done ∷ Takes 2 ∷ Posts 2 Done ∷ []

abbrev pub history : List Entry
history =
    marked 5 (Phase 1) ∷ marked 0 (Fell falls.Script None) ∷ marked 0 (Rose []) ∷ marked 0 (Wrote records.Life) ∷
    marked 3 (Called commands.Begin) ∷ marked 3 (Told (replies.Began (tx 0 1))) ∷ marked 3 (Called (commands.Do 1 2)) ∷
    marked 3 (Sent 0 0 (messages.Request (tx 0 1) 1 0 (wants.Read (first_read 1 2)))) ∷
    marked 3 (Sent 1 1 (messages.Request (tx 0 1) 1 0 (wants.Read (first_read 1 2)))) ∷
    marked 3 (Sent 2 2 (messages.Request (tx 0 1) 1 0 (wants.Read (first_read 1 2)))) ∷ marked 1 (Got 1) ∷
    marked 1 (Sent 3 3 (messages.Answer 1 (answers.Granted (whole_grant 1 0 [])))) ∷ marked 2 (Got 2) ∷
    marked 2 (Sent 4 3 (messages.Answer 2 (answers.Granted (whole_grant 1 0 [])))) ∷ marked 0 (Got 0) ∷ marked 3 (Got 3)
    ∷
    marked 0 (Sent 5 3 (messages.Answer 0 (answers.Granted (whole_grant 2 0 [])))) ∷ marked 3 (Got 4) ∷ marked 3 (Got 5)
    ∷
    marked 3 (Sent 6 0 (messages.Request (tx 0 1) 1 2 (wants.Append 1 [] (own_line 1 1 4 ∷ [])))) ∷
    marked 3 (Sent 7 1 (messages.Request (tx 0 1) 1 1 (wants.Append 1 [] (own_line 1 1 4 ∷ [])))) ∷
    marked 3 (Sent 8 2 (messages.Request (tx 0 1) 1 1 (wants.Append 1 [] (own_line 1 1 4 ∷ [])))) ∷ marked 1 (Got 7) ∷
    marked 2 (Got 8) ∷ marked 2 (Sent 9 3 (messages.Answer 8 (answers.Granted (whole_grant 1 0 [])))) ∷
    marked 1 (Sent 10 3 (messages.Answer 7 (answers.Granted (whole_grant 1 0 [])))) ∷ marked 0 (Got 6) ∷
    marked 0 (Sent 11 3 (messages.Answer 6 (answers.Granted (whole_grant 2 0 [])))) ∷ marked 3 (Got 9)
    ∷ marked 3 (Got 10) ∷
    marked 3 (Got 11) ∷ marked 3 (Told (replies.Response 2)) ∷ marked 3 (Called (commands.Do 0 0)) ∷
    marked 3 (Sent 12 0 (messages.Request (tx 0 1) 1 2 (wants.Read (first_read 0 0)))) ∷ marked 0 (Got 12) ∷
    marked 0 (Sent 13 3 (messages.Answer 12 (answers.Granted (whole_grant 2 0 [])))) ∷ marked 3 (Got 13) ∷
    marked 3 (Sent 14 0 (messages.Request (tx 0 1) 1 2 (wants.Append 0 [] (own_line 2 0 0 ∷ [])))) ∷
    marked 3 (Sent 15 1 (messages.Request (tx 0 1) 1 1 (wants.Append 0 [] (own_line 2 0 0 ∷ [])))) ∷
    marked 3 (Sent 16 2 (messages.Request (tx 0 1) 1 1 (wants.Append 0 [] (own_line 2 0 0 ∷ [])))) ∷ marked 2 (Got 16) ∷
    marked 2 (Sent 17 3 (messages.Answer 16 (answers.Granted (whole_grant 1 0 [])))) ∷ marked 1 (Got 15) ∷
    marked 1 (Sent 18 3 (messages.Answer 15 (answers.Granted (whole_grant 1 0 [])))) ∷ marked 0 (Got 14) ∷
    marked 0 (Sent 19 3 (messages.Answer 14 (answers.Granted (whole_grant 2 0 [])))) ∷ marked 3 (Got 17)
    ∷ marked 3 (Got 18) ∷
    marked 3 (Got 19) ∷ marked 3 (Told (replies.Response 0)) ∷ marked 5 (Phase 2) ∷
    marked 3 (Called (commands.Do 0 1)) ∷
    marked 3 (Sent 20 0 (messages.Request (tx 0 1) 1 2 (wants.Append 0 [] (own_line 2 0 0 ∷ own_line 3 0 2 ∷ [])))) ∷
    marked 3 (Sent 21 1 (messages.Request (tx 0 1) 1 1 (wants.Append 0 [] (own_line 2 0 0 ∷ own_line 3 0 2 ∷ [])))) ∷
    marked 3 (Sent 22 2 (messages.Request (tx 0 1) 1 1 (wants.Append 0 [] (own_line 2 0 0 ∷ own_line 3 0 2 ∷ [])))) ∷
    marked 0 (Got 20) ∷ marked 2 (Got 22)
    ∷ marked 0 (Sent 23 3 (messages.Answer 20 (answers.Granted (whole_grant 2 0 [])))) ∷
    marked 2 (Sent 24 3 (messages.Answer 22 (answers.Granted (whole_grant 1 0 [])))) ∷ marked 1 (Got 21) ∷
    marked 1 (Sent 25 3 (messages.Answer 21 (answers.Granted (whole_grant 1 0 [])))) ∷ marked 1 (Got 21) ∷
    marked 1 (Sent 26 3 (messages.Answer 21 (answers.Granted (whole_grant 1 0 [])))) ∷ marked 3 (Got 23)
    ∷ marked 3 (Got 24) ∷
    marked 3 (Got 25) ∷ marked 3 (Told (replies.Response 2)) ∷ marked 3 (Got 26) ∷ marked 3 (Called (commands.Do 1 2)) ∷
    marked 3 (Sent 27 0 (messages.Request (tx 0 1) 1 2 (wants.Read (first_read 1 2)))) ∷
    marked 3 (Sent 28 1 (messages.Request (tx 0 1) 1 1 (wants.Read (first_read 1 2)))) ∷
    marked 3 (Sent 29 2 (messages.Request (tx 0 1) 1 1 (wants.Read (first_read 1 2)))) ∷ marked 2 (Got 29) ∷
    marked 2 (Sent 30 3 (messages.Answer 29 (answers.Granted (whole_grant 1 0 [])))) ∷ marked 0 (Got 27) ∷
    marked 0 (Sent 31 3 (messages.Answer 27 (answers.Granted (whole_grant 2 0 [])))) ∷ marked 3 (Got 30)
    ∷ marked 3 (Got 31) ∷
    marked 1 (Got 28) ∷ marked 1 (Sent 32 3 (messages.Answer 28 (answers.Granted (whole_grant 1 0 []))))
    ∷ marked 3 (Got 32) ∷
    marked 3 (Sent 33 0 (messages.Request (tx 0 1) 1 2 (wants.Append 1 [] (own_line 1 1 4 ∷ own_line 4 1 4 ∷ [])))) ∷
    marked 3 (Sent 34 1 (messages.Request (tx 0 1) 1 1 (wants.Append 1 [] (own_line 1 1 4 ∷ own_line 4 1 4 ∷ [])))) ∷
    marked 3 (Sent 35 2 (messages.Request (tx 0 1) 1 1 (wants.Append 1 [] (own_line 1 1 4 ∷ own_line 4 1 4 ∷ [])))) ∷
    marked 2 (Got 35) ∷ marked 2 (Sent 36 3 (messages.Answer 35 (answers.Granted (whole_grant 1 0 []))))
    ∷ marked 0 (Got 33) ∷
    marked 1 (Got 34) ∷ marked 0 (Sent 37 3 (messages.Answer 33 (answers.Granted (whole_grant 2 0 [])))) ∷
    marked 1 (Sent 38 3 (messages.Answer 34 (answers.Granted (whole_grant 1 0 [])))) ∷ marked 3 (Got 36)
    ∷ marked 3 (Got 37) ∷
    marked 3 (Got 38) ∷ marked 3 (Told (replies.Response 2)) ∷ marked 3 (Called (commands.Do 0 0)) ∷
    marked 3 (Sent 39 0 (messages.Request (tx 0 1) 1 2 (wants.Read (first_read 0 0)))) ∷ marked 0 (Got 39) ∷
    marked 0 (Sent 40 3 (messages.Answer 39 (answers.Granted (whole_grant 2 0 [])))) ∷ marked 3 (Got 40) ∷
    marked 3 (Sent 41 0 (messages.Request (tx 0 1) 1 2 (wants.Append 0 [] (own_line 2 0 0 ∷ own_line 3 0 2 ∷ own_line 5
    0 0 ∷ [])))) ∷
    marked 3 (Sent 42 1 (messages.Request (tx 0 1) 1 1 (wants.Append 0 [] (own_line 2 0 0 ∷ own_line 3 0 2 ∷ own_line 5
    0 0 ∷ [])))) ∷
    marked 3 (Sent 43 2 (messages.Request (tx 0 1) 1 1 (wants.Append 0 [] (own_line 2 0 0 ∷ own_line 3 0 2 ∷ own_line 5
    0 0 ∷ [])))) ∷
    marked 0 (Got 41) ∷ marked 2 (Got 43)
    ∷ marked 0 (Sent 44 3 (messages.Answer 41 (answers.Granted (whole_grant 2 0 [])))) ∷
    marked 1 (Got 42) ∷ marked 1 (Sent 45 3 (messages.Answer 42 (answers.Granted (whole_grant 1 0 [])))) ∷
    marked 2 (Sent 46 3 (messages.Answer 43 (answers.Granted (whole_grant 1 0 [])))) ∷ marked 3 (Got 44)
    ∷ marked 3 (Got 45) ∷
    marked 3 (Got 46) ∷ marked 3 (Told (replies.Response 0)) ∷ marked 5 (Phase 3) ∷ marked 3 (Called commands.Commit) ∷
    marked 3 (Sent 47 0 (messages.Request (tx 0 1) 1 2 wants.Prepare)) ∷
    marked 3 (Sent 48 1 (messages.Request (tx 0 1) 1 1 wants.Prepare)) ∷
    marked 3 (Sent 49 2 (messages.Request (tx 0 1) 1 1 wants.Prepare)) ∷ marked 0 (Got 47) ∷
    marked 0 (Wrote (prepare (tx 0 1) 1 (read_lock 0 0 ∷ read_lock 1 2 ∷ []) (own_line 1 1 4 ∷ own_line 2 0 0 ∷ own_line
    3 0 2 ∷ own_line 4 1 4 ∷ own_line 5 0 0 ∷ []) [])) ∷
    marked 0 (Sent 50 3 (messages.Answer 47 (answers.Yes 0))) ∷ marked 3 (Got 50) ∷ marked 1 (Got 48) ∷
    marked 1 (Sent 51 3 (messages.Answer 48 answers.Fault)) ∷
    marked 1 (Fell falls.Disk (Some (prepare (tx 0 1) 1 (read_lock 1 2 ∷ []) (own_line 1 1 4 ∷ own_line 2 0 0 ∷ own_line
    3 0 2 ∷ own_line 4 1 4 ∷ own_line 5 0 0 ∷ []) []))) ∷
    marked 2 (Got 49) ∷
    marked 2 (Wrote (prepare (tx 0 1) 1 (read_lock 1 2 ∷ []) (own_line 1 1 4 ∷ own_line 2 0 0 ∷ own_line 3 0 2 ∷
    own_line 4 1 4 ∷ own_line 5 0 0 ∷ []) [])) ∷
    marked 2 (Sent 52 3 (messages.Answer 49 (answers.Yes 0))) ∷ marked 3 (Got 51) ∷ marked 3 (Got 52) ∷
    marked 3 (Sent 53 0 (messages.Decision (tx 0 1) outcomes.Aborted)) ∷
    marked 3 (Sent 54 1 (messages.Decision (tx 0 1) outcomes.Aborted)) ∷
    marked 3 (Sent 55 2 (messages.Decision (tx 0 1) outcomes.Aborted)) ∷
    marked 3 (Told (replies.Aborted (causes.Fault 1))) ∷ marked 3 (Called commands.Begin) ∷ marked 0 (Got 53) ∷
    marked 2 (Got 55) ∷ marked 3 (Told (replies.Began (tx 0 2))) ∷ marked 3 (Called (commands.Do 1 2)) ∷
    marked 3 (Sent 56 0 (messages.Request (tx 0 2) 1 0 (wants.Read (first_read 1 2)))) ∷
    marked 3 (Sent 57 1 (messages.Request (tx 0 2) 1 0 (wants.Read (first_read 1 2)))) ∷
    marked 3 (Sent 58 2 (messages.Request (tx 0 2) 1 0 (wants.Read (first_read 1 2)))) ∷ marked 3 (Lost 57)
    ∷ marked 0 (Got 56) ∷
    marked 0 (Sent 59 3 (messages.Answer 56 (answers.Granted (whole_grant 2 0 [])))) ∷ marked 3 (Got 59)
    ∷ marked 2 (Got 58) ∷
    marked 2 (Sent 60 3 (messages.Answer 58 (answers.Granted (whole_grant 1 0 [])))) ∷ marked 3 (Got 60) ∷
    marked 3 (Told (replies.Quorum halves.Read 3 4)) ∷ marked 3 (Called commands.Commit) ∷
    marked 3 (Sent 61 0 (messages.Request (tx 0 2) 1 2 wants.Prepare)) ∷
    marked 3 (Sent 62 2 (messages.Request (tx 0 2) 1 1 wants.Prepare)) ∷ marked 0 (Got 61) ∷ marked 2 (Got 62) ∷
    marked 2 (Wrote (prepare (tx 0 2) 1 (read_lock 1 2 ∷ []) [] [])) ∷
    marked 2 (Sent 63 3 (messages.Answer 62 (answers.Yes 0))) ∷
    marked 0 (Wrote (prepare (tx 0 2) 1 (read_lock 1 2 ∷ []) [] [])) ∷
    marked 0 (Sent 64 3 (messages.Answer 61 (answers.Yes 0))) ∷ marked 3 (Got 63) ∷ marked 3 (Got 64) ∷
    marked 3 (Wrote (commit (stamp 1 0) (tx 0 2) [])) ∷
    marked 3 (Sent 65 0 (messages.Decision (tx 0 2) (outcomes.Committed (stamp 1 0)))) ∷
    marked 3 (Sent 66 1 (messages.Decision (tx 0 2) (outcomes.Committed (stamp 1 0)))) ∷
    marked 3 (Sent 67 2 (messages.Decision (tx 0 2) (outcomes.Committed (stamp 1 0)))) ∷
    marked 3 (Told (replies.Committed (stamp 1 0))) ∷ marked 0 (Got 65) ∷ marked 0 (Wrote (records.Done (tx 0 2) 1)) ∷
    marked 2 (Got 67) ∷ marked 2 (Wrote (records.Done (tx 0 2) 1)) ∷ []
