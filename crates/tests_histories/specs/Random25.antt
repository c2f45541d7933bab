-- Random: sites 3, clients 2, steps 174, messages 66, lost 5, cuts 1, commits 2.
use Rattle.std.specs.Prelude.{List, [], ◌∷◌, Some}
use Rattle.qc_decl.specs.declared.declaration.Declaration.{Declaration}
use Rattle.qc_decl.specs.Vocabulary.{row}
use Rattle.qc_msg.specs.Vocabulary.{Entry, marked}
use Rattle.tests_histories.specs.Play.{Move, Takes, Posts, Acts}
use Rattle.tests_histories.specs.Words.{tx, stamp, line, own_line, operation, read_lock, prepare, commit, declaration}
use Rattle.tests_histories.specs.Words.{kind, pair, plan}
use Rattle.qc_msg.specs.declared.step.Step.TheVariants.{Phase, Cut, Called, Got, Lost, Wrote, Sent, Told}
use Rattle.qc_msg.specs.declared.message.Answer.TheVariants as answers
use Rattle.qc_msg.specs.declared.step.Command.TheVariants as commands
use Rattle.qc_msg.specs.declared.message.Message.TheVariants as messages
use Rattle.qc_msg.specs.declared.message.Outcome.TheVariants as outcomes
use Rattle.qc_msg.specs.declared.record.Record.TheVariants as records
use Rattle.qc_msg.specs.declared.reply.Reply.TheVariants as replies
use Rattle.qc_msg.specs.declared.message.Want.TheVariants as wants
use Rattle.qc_msg.specs.Vocabulary.{whole_grant, first_read}

abbrev pub decl : Declaration
decl =
    declaration 3 2 (kind 2 2 3 0 (row 0 0 0 1 ∷ row 1 0 1 1 ∷ row 0 1 2 0 ∷ row 1 1 2 0 ∷ []) (pair 0 0 ∷ pair 0 2 ∷
    []) ∷ []) (0 ∷ []) (plan (1 ∷ 1 ∷ 1 ∷ []) ((2 ∷ 0 ∷ []) ∷ []) ((2 ∷ 0 ∷ 2 ∷ []) ∷ []) ∷ [])

abbrev pub moves : List Move
moves =
    Acts (Phase 1) ∷ Takes 4 (Called commands.Begin) ∷ Posts 4 ∷ Takes 4 (Called (commands.Do 0 1)) ∷ Posts 4 ∷
    Takes 2 (Got 1) ∷ Posts 2 ∷ Takes 4 (Got 2) ∷ Posts 4 ∷ Takes 1 (Got 0) ∷ Posts 1 ∷ Takes 4 (Lost 0) ∷ Posts 4 ∷
    Takes 0 (Got 4) ∷ Posts 0 ∷ Takes 4 (Got 5) ∷ Posts 4 ∷ Takes 4 (Called (commands.Do 0 0)) ∷ Posts 4 ∷
    Takes 2 (Got 7) ∷ Takes 1 (Got 6) ∷ Posts 2 ∷ Takes 4 (Got 8) ∷ Posts 4 ∷ Posts 1 ∷ Takes 4 (Got 9) ∷ Posts 4 ∷
    Takes 2 (Got 11) ∷ Posts 2 ∷ Takes 4 (Got 12) ∷ Posts 4 ∷ Takes 1 (Got 10) ∷ Posts 1 ∷ Takes 4 (Got 13) ∷ Posts 4 ∷
    Takes 4 (Called (commands.Do 0 0)) ∷ Posts 4 ∷ Takes 2 (Got 15) ∷ Posts 2 ∷ Takes 4 (Got 16) ∷ Posts 4 ∷
    Takes 1 (Got 14) ∷ Posts 1 ∷ Takes 4 (Got 17) ∷ Posts 4 ∷ Takes 4 (Called (commands.Do 0 1)) ∷ Posts 4 ∷
    Takes 2 (Got 19) ∷ Takes 1 (Got 18) ∷ Posts 2 ∷ Posts 1 ∷ Takes 4 (Got 20) ∷ Posts 4 ∷ Takes 4 (Got 21) ∷ Posts 4 ∷
    Takes 4 (Called commands.Abort) ∷ Posts 4 ∷ Takes 2 (Got 24) ∷ Posts 2 ∷ Takes 0 (Got 22) ∷ Posts 0 ∷
    Takes 1 (Got 23) ∷ Posts 1 ∷ Acts (Phase 2) ∷ Takes 4 (Got 3) ∷ Posts 4 ∷ Takes 4 (Called commands.Begin) ∷
    Posts 4 ∷ Takes 4 (Called (commands.Do 0 0)) ∷ Posts 4 ∷ Takes 1 (Got 25) ∷ Posts 1 ∷ Takes 2 (Got 26) ∷
    Takes 4 (Got 27) ∷ Posts 4 ∷ Posts 2 ∷ Takes 4 (Got 28) ∷ Posts 4 ∷ Takes 1 (Got 29) ∷ Posts 1 ∷ Takes 4 (Got 31) ∷
    Posts 4 ∷ Takes 2 (Got 30) ∷ Posts 2 ∷ Takes 4 (Got 32) ∷ Posts 4 ∷ Takes 4 (Called commands.Commit) ∷ Posts 4 ∷
    Takes 1 (Got 33) ∷ Posts 1 ∷ Takes 4 (Got 35) ∷ Posts 4 ∷ Takes 2 (Got 34) ∷ Posts 2 ∷ Takes 4 (Got 36) ∷ Posts 4 ∷
    Takes 1 (Got 37) ∷ Posts 1 ∷ Takes 2 (Got 38) ∷ Posts 2 ∷ Acts (Phase 3) ∷ Acts (Cut 0 3) ∷
    Takes 3 (Called commands.Begin) ∷ Posts 3 ∷ Takes 3 (Called (commands.Do 0 1)) ∷ Posts 3 ∷ Takes 1 (Got 40) ∷
    Posts 1 ∷ Takes 3 (Got 41) ∷ Posts 3 ∷ Takes 3 (Lost 39) ∷ Posts 3 ∷ Takes 2 (Got 42) ∷ Posts 2 ∷ Takes 3 (Got 43) ∷
    Posts 3 ∷ Takes 3 (Called (commands.Do 0 0)) ∷ Posts 3 ∷ Takes 1 (Got 45) ∷ Posts 1 ∷ Takes 3 (Got 46) ∷ Posts 3 ∷
    Takes 3 (Lost 44) ∷ Posts 3 ∷ Takes 2 (Got 47) ∷ Posts 2 ∷ Takes 3 (Got 48) ∷ Posts 3 ∷ Takes 1 (Got 50) ∷ Posts 1 ∷
    Takes 3 (Got 51) ∷ Posts 3 ∷ Takes 3 (Lost 49) ∷ Posts 3 ∷ Takes 2 (Got 52) ∷ Posts 2 ∷ Takes 3 (Got 53) ∷ Posts 3 ∷
    Takes 3 (Called (commands.Do 0 1)) ∷ Posts 3 ∷ Takes 1 (Got 55) ∷ Posts 1 ∷ Takes 3 (Got 56) ∷ Posts 3 ∷
    Takes 3 (Lost 54) ∷ Posts 3 ∷ Takes 2 (Got 57) ∷ Posts 2 ∷ Takes 3 (Got 58) ∷ Posts 3 ∷
    Takes 3 (Called commands.Commit) ∷ Posts 3 ∷ Takes 2 (Got 60) ∷ Takes 1 (Got 59) ∷ Posts 1 ∷ Posts 2 ∷
    Takes 3 (Got 61) ∷ Posts 3 ∷ Takes 3 (Got 62) ∷ Posts 3 ∷ Takes 1 (Got 64) ∷ Posts 1 ∷ Takes 2 (Got 65) ∷ Posts 2 ∷
    []

abbrev pub history : List Entry
history =
    marked 6 (Phase 1) ∷ marked 4 (Called commands.Begin) ∷ marked 4 (Told (replies.Began (tx 1 1))) ∷
    marked 4 (Called (commands.Do 0 1)) ∷
    marked 4 (Sent 0 1 (messages.Request (tx 1 1) 1 0 (wants.Append 0 [] (own_line 1 0 2 ∷ [])))) ∷
    marked 4 (Sent 1 2 (messages.Request (tx 1 1) 1 0 (wants.Append 0 [] (own_line 1 0 2 ∷ [])))) ∷ marked 2 (Got 1) ∷
    marked 2 (Sent 2 4 (messages.Answer 1 (answers.Granted (whole_grant 1 0 [])))) ∷ marked 4 (Got 2) ∷ marked 1 (Got 0)
    ∷
    marked 1 (Sent 3 4 (messages.Answer 0 (answers.Granted (whole_grant 1 0 [])))) ∷ marked 4 (Lost 0) ∷
    marked 4 (Sent 4 0 (messages.Request (tx 1 1) 1 0 (wants.Append 0 [] (own_line 1 0 2 ∷ [])))) ∷ marked 0 (Got 4) ∷
    marked 0 (Sent 5 4 (messages.Answer 4 (answers.Granted (whole_grant 1 0 [])))) ∷ marked 4 (Got 5) ∷
    marked 4 (Told (replies.Response 2)) ∷ marked 4 (Called (commands.Do 0 0)) ∷
    marked 4 (Sent 6 1 (messages.Request (tx 1 1) 1 0 (wants.Read (first_read 0 0)))) ∷
    marked 4 (Sent 7 2 (messages.Request (tx 1 1) 1 1 (wants.Read (first_read 0 0)))) ∷ marked 2 (Got 7) ∷
    marked 1 (Got 6)
    ∷
    marked 2 (Sent 8 4 (messages.Answer 7 (answers.Granted (whole_grant 1 0 [])))) ∷ marked 4 (Got 8) ∷
    marked 1 (Sent 9 4 (messages.Answer 6 (answers.Granted (whole_grant 1 0 [])))) ∷ marked 4 (Got 9) ∷
    marked 4 (Sent 10 1 (messages.Request (tx 1 1) 1 1 (wants.Append 0 [] (own_line 1 0 2 ∷ own_line 2 0 0 ∷ [])))) ∷
    marked 4 (Sent 11 2 (messages.Request (tx 1 1) 1 1 (wants.Append 0 [] (own_line 1 0 2 ∷ own_line 2 0 0 ∷ [])))) ∷
    marked 2 (Got 11) ∷ marked 2 (Sent 12 4 (messages.Answer 11 (answers.Granted (whole_grant 1 0 []))))
    ∷ marked 4 (Got 12) ∷
    marked 1 (Got 10) ∷ marked 1 (Sent 13 4 (messages.Answer 10 (answers.Granted (whole_grant 1 0 []))))
    ∷ marked 4 (Got 13) ∷
    marked 4 (Told (replies.Response 0)) ∷ marked 4 (Called (commands.Do 0 0)) ∷
    marked 4 (Sent 14 1 (messages.Request (tx 1 1) 1 1 (wants.Read (first_read 0 0)))) ∷
    marked 4 (Sent 15 2 (messages.Request (tx 1 1) 1 1 (wants.Read (first_read 0 0)))) ∷ marked 2 (Got 15) ∷
    marked 2 (Sent 16 4 (messages.Answer 15 (answers.Granted (whole_grant 1 0 [])))) ∷ marked 4 (Got 16)
    ∷ marked 1 (Got 14) ∷
    marked 1 (Sent 17 4 (messages.Answer 14 (answers.Granted (whole_grant 1 0 [])))) ∷ marked 4 (Got 17) ∷
    marked 4 (Told (replies.Response 1)) ∷ marked 4 (Called (commands.Do 0 1)) ∷
    marked 4 (Sent 18 1 (messages.Request (tx 1 1) 1 1 (wants.Append 0 [] (own_line 1 0 2 ∷ own_line 2 0 0 ∷ own_line 4
    0 2 ∷ [])))) ∷
    marked 4 (Sent 19 2 (messages.Request (tx 1 1) 1 1 (wants.Append 0 [] (own_line 1 0 2 ∷ own_line 2 0 0 ∷ own_line 4
    0 2 ∷ [])))) ∷
    marked 2 (Got 19) ∷ marked 1 (Got 18)
    ∷ marked 2 (Sent 20 4 (messages.Answer 19 (answers.Granted (whole_grant 1 0 [])))) ∷
    marked 1 (Sent 21 4 (messages.Answer 18 (answers.Granted (whole_grant 1 0 [])))) ∷ marked 4 (Got 20)
    ∷ marked 4 (Got 21) ∷
    marked 4 (Told (replies.Response 2)) ∷ marked 4 (Called commands.Abort) ∷
    marked 4 (Sent 22 0 (messages.Decision (tx 1 1) outcomes.Aborted)) ∷
    marked 4 (Sent 23 1 (messages.Decision (tx 1 1) outcomes.Aborted)) ∷
    marked 4 (Sent 24 2 (messages.Decision (tx 1 1) outcomes.Aborted)) ∷ marked 4 (Told replies.Dropped) ∷
    marked 2 (Got 24) ∷ marked 0 (Got 22) ∷ marked 1 (Got 23) ∷ marked 6 (Phase 2) ∷ marked 4 (Got 3) ∷
    marked 4 (Called commands.Begin) ∷ marked 4 (Told (replies.Began (tx 1 2))) ∷ marked 4 (Called (commands.Do 0 0)) ∷
    marked 4 (Sent 25 1 (messages.Request (tx 1 2) 1 0 (wants.Read (first_read 0 0)))) ∷
    marked 4 (Sent 26 2 (messages.Request (tx 1 2) 1 0 (wants.Read (first_read 0 0)))) ∷ marked 1 (Got 25) ∷
    marked 1 (Sent 27 4 (messages.Answer 25 (answers.Granted (whole_grant 1 0 [])))) ∷ marked 2 (Got 26)
    ∷ marked 4 (Got 27) ∷
    marked 2 (Sent 28 4 (messages.Answer 26 (answers.Granted (whole_grant 1 0 [])))) ∷ marked 4 (Got 28) ∷
    marked 4 (Sent 29 1 (messages.Request (tx 1 2) 1 1 (wants.Append 0 [] (own_line 1 0 0 ∷ [])))) ∷
    marked 4 (Sent 30 2 (messages.Request (tx 1 2) 1 1 (wants.Append 0 [] (own_line 1 0 0 ∷ [])))) ∷ marked 1 (Got 29) ∷
    marked 1 (Sent 31 4 (messages.Answer 29 (answers.Granted (whole_grant 1 0 [])))) ∷ marked 4 (Got 31)
    ∷ marked 2 (Got 30) ∷
    marked 2 (Sent 32 4 (messages.Answer 30 (answers.Granted (whole_grant 1 0 [])))) ∷ marked 4 (Got 32) ∷
    marked 4 (Told (replies.Response 0)) ∷ marked 4 (Called commands.Commit) ∷
    marked 4 (Sent 33 1 (messages.Request (tx 1 2) 1 1 wants.Prepare)) ∷
    marked 4 (Sent 34 2 (messages.Request (tx 1 2) 1 1 wants.Prepare)) ∷ marked 1 (Got 33) ∷
    marked 1 (Wrote (prepare (tx 1 2) 1 (read_lock 0 0 ∷ []) (own_line 1 0 0 ∷ []) [])) ∷
    marked 1 (Sent 35 4 (messages.Answer 33 (answers.Yes 0))) ∷ marked 4 (Got 35) ∷ marked 2 (Got 34) ∷
    marked 2 (Wrote (prepare (tx 1 2) 1 (read_lock 0 0 ∷ []) (own_line 1 0 0 ∷ []) [])) ∷
    marked 2 (Sent 36 4 (messages.Answer 34 (answers.Yes 0))) ∷ marked 4 (Got 36) ∷
    marked 4 (Wrote (commit (stamp 1 1) (tx 1 2) (operation 0 0 (Some 0) ∷ []))) ∷
    marked 4 (Sent 37 1 (messages.Decision (tx 1 2) (outcomes.Committed (stamp 1 1)))) ∷
    marked 4 (Sent 38 2 (messages.Decision (tx 1 2) (outcomes.Committed (stamp 1 1)))) ∷
    marked 4 (Told (replies.Committed (stamp 1 1))) ∷ marked 1 (Got 37) ∷ marked 1 (Wrote (records.Done (tx 1 2) 1)) ∷
    marked 2 (Got 38) ∷ marked 2 (Wrote (records.Done (tx 1 2) 1)) ∷ marked 6 (Phase 3) ∷ marked 6 (Cut 0 3) ∷
    marked 3 (Called commands.Begin) ∷ marked 3 (Told (replies.Began (tx 0 1))) ∷ marked 3 (Called (commands.Do 0 1)) ∷
    marked 3 (Sent 39 0 (messages.Request (tx 0 1) 1 0 (wants.Append 0 [] (own_line 1 0 2 ∷ [])))) ∷
    marked 3 (Sent 40 1 (messages.Request (tx 0 1) 1 0 (wants.Append 0 [] (own_line 1 0 2 ∷ [])))) ∷ marked 1 (Got 40) ∷
    marked 1 (Sent 41 3 (messages.Answer 40 (answers.Granted (whole_grant 1 1 [])))) ∷ marked 3 (Got 41)
    ∷ marked 3 (Lost 39) ∷
    marked 3 (Sent 42 2 (messages.Request (tx 0 1) 1 0 (wants.Append 0 [] (own_line 1 0 2 ∷ [])))) ∷ marked 2 (Got 42) ∷
    marked 2 (Sent 43 3 (messages.Answer 42 (answers.Granted (whole_grant 1 1 [])))) ∷ marked 3 (Got 43) ∷
    marked 3 (Told (replies.Response 2)) ∷ marked 3 (Called (commands.Do 0 0)) ∷
    marked 3 (Sent 44 0 (messages.Request (tx 0 1) 1 0 (wants.Read (first_read 0 0)))) ∷
    marked 3 (Sent 45 1 (messages.Request (tx 0 1) 1 1 (wants.Read (first_read 0 0)))) ∷ marked 1 (Got 45) ∷
    marked 1 (Sent 46 3 (messages.Answer 45 (answers.Granted (whole_grant 1 1 (line 1 1 2 1 0 0 ∷ [])))))
    ∷ marked 3 (Got 46) ∷
    marked 3 (Lost 44) ∷ marked 3 (Sent 47 2 (messages.Request (tx 0 1) 1 1 (wants.Read (first_read 0 0))))
    ∷ marked 2 (Got 47) ∷
    marked 2 (Sent 48 3 (messages.Answer 47 (answers.Granted (whole_grant 1 1 (line 1 1 2 1 0 0 ∷ [])))))
    ∷ marked 3 (Got 48) ∷
    marked 3 (Sent 49 0 (messages.Request (tx 0 1) 1 0 (wants.Append 0 (line 1 1 2 1 0 0 ∷ []) (own_line 1 0 2 ∷
    own_line 2 0 0 ∷ [])))) ∷
    marked 3 (Sent 50 1 (messages.Request (tx 0 1) 1 1 (wants.Append 0 (line 1 1 2 1 0 0 ∷ []) (own_line 1 0 2 ∷
    own_line 2 0 0 ∷ [])))) ∷
    marked 1 (Got 50) ∷ marked 1 (Sent 51 3 (messages.Answer 50 (answers.Granted (whole_grant 1 1 []))))
    ∷ marked 3 (Got 51) ∷
    marked 3 (Lost 49) ∷
    marked 3 (Sent 52 2 (messages.Request (tx 0 1) 1 1 (wants.Append 0 (line 1 1 2 1 0 0 ∷ []) (own_line 1 0 2 ∷
    own_line 2 0 0 ∷ [])))) ∷
    marked 2 (Got 52) ∷ marked 2 (Sent 53 3 (messages.Answer 52 (answers.Granted (whole_grant 1 1 []))))
    ∷ marked 3 (Got 53) ∷
    marked 3 (Told (replies.Response 0)) ∷ marked 3 (Called (commands.Do 0 1)) ∷
    marked 3 (Sent 54 0 (messages.Request (tx 0 1) 1 0 (wants.Append 0 (line 1 1 2 1 0 0 ∷ []) (own_line 1 0 2 ∷
    own_line 2 0 0 ∷ own_line 3 0 2 ∷ [])))) ∷
    marked 3 (Sent 55 1 (messages.Request (tx 0 1) 1 1 (wants.Append 0 (line 1 1 2 1 0 0 ∷ []) (own_line 1 0 2 ∷
    own_line 2 0 0 ∷ own_line 3 0 2 ∷ [])))) ∷
    marked 1 (Got 55) ∷ marked 1 (Sent 56 3 (messages.Answer 55 (answers.Granted (whole_grant 1 1 []))))
    ∷ marked 3 (Got 56) ∷
    marked 3 (Lost 54) ∷
    marked 3 (Sent 57 2 (messages.Request (tx 0 1) 1 1 (wants.Append 0 (line 1 1 2 1 0 0 ∷ []) (own_line 1 0 2 ∷
    own_line 2 0 0 ∷ own_line 3 0 2 ∷ [])))) ∷
    marked 2 (Got 57) ∷ marked 2 (Sent 58 3 (messages.Answer 57 (answers.Granted (whole_grant 1 1 []))))
    ∷ marked 3 (Got 58) ∷
    marked 3 (Told (replies.Response 2)) ∷ marked 3 (Called commands.Commit) ∷
    marked 3 (Sent 59 1 (messages.Request (tx 0 1) 1 1 wants.Prepare)) ∷
    marked 3 (Sent 60 2 (messages.Request (tx 0 1) 1 1 wants.Prepare)) ∷ marked 2 (Got 60) ∷ marked 1 (Got 59) ∷
    marked 1 (Wrote (prepare (tx 0 1) 1 (read_lock 0 0 ∷ []) (own_line 1 0 2 ∷ own_line 2 0 0 ∷ own_line 3 0 2 ∷ [])
    [])) ∷
    marked 1 (Sent 61 3 (messages.Answer 59 (answers.Yes 1))) ∷
    marked 2 (Wrote (prepare (tx 0 1) 1 (read_lock 0 0 ∷ []) (own_line 1 0 2 ∷ own_line 2 0 0 ∷ own_line 3 0 2 ∷ [])
    [])) ∷
    marked 2 (Sent 62 3 (messages.Answer 60 (answers.Yes 1))) ∷ marked 3 (Got 61) ∷ marked 3 (Got 62) ∷
    marked 3 (Wrote (commit (stamp 2 0) (tx 0 1) (operation 0 1 (Some 2) ∷ operation 0 0 (Some 0) ∷ operation 0 1 (Some
    2) ∷ []))) ∷
    marked 3 (Sent 63 0 (messages.Decision (tx 0 1) (outcomes.Committed (stamp 2 0)))) ∷
    marked 3 (Sent 64 1 (messages.Decision (tx 0 1) (outcomes.Committed (stamp 2 0)))) ∷
    marked 3 (Sent 65 2 (messages.Decision (tx 0 1) (outcomes.Committed (stamp 2 0)))) ∷
    marked 3 (Told (replies.Committed (stamp 2 0))) ∷ marked 1 (Got 64) ∷ marked 1 (Wrote (records.Done (tx 0 1) 2)) ∷
    marked 2 (Got 65) ∷ marked 2 (Wrote (records.Done (tx 0 1) 2)) ∷ []
