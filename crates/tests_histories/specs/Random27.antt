-- Random: sites 3, clients 1, steps 202, messages 73, commits 3.
use Rattle.std.specs.Prelude.{List, [], ◌∷◌, Some}
use Rattle.qc_decl.specs.declared.declaration.Declaration.{Declaration}
use Rattle.qc_decl.specs.Vocabulary.{row}
use Rattle.qc_msg.specs.Vocabulary.{Entry, marked}
use Rattle.tests_histories.specs.Play.{Move, Takes, Posts, Acts}
use Rattle.tests_histories.specs.Words.{tx, stamp, line, own_line, operation, read_lock, prepare, commit, declaration}
use Rattle.tests_histories.specs.Words.{kind, pair, plan}
use Rattle.qc_msg.specs.declared.step.Step.TheVariants.{Phase, Called, Got, Wrote, Sent, Told}
use Rattle.qc_msg.specs.declared.message.Answer.TheVariants as answers
use Rattle.qc_msg.specs.declared.step.Command.TheVariants as commands
use Rattle.qc_msg.specs.declared.message.Message.TheVariants as messages
use Rattle.qc_msg.specs.declared.message.Outcome.TheVariants as outcomes
use Rattle.qc_msg.specs.declared.record.Record.TheVariants as records
use Rattle.qc_msg.specs.declared.reply.Reply.TheVariants as replies
use Rattle.qc_msg.specs.declared.message.Want.TheVariants as wants
use Rattle.qc_msg.specs.Vocabulary.{whole_grant, first_read}

abbrev pub decl : Declaration
decl =
    declaration 3 1 (kind 3 3 5 0 (row 0 0 0 1 ∷ row 1 0 0 2 ∷ row 2 0 1 2 ∷ row 0 1 1 0 ∷ row 1 1 0 0 ∷ row 2 1 0 1 ∷
    row 0 2 2 0 ∷ row 1 2 3 1 ∷ row 2 2 4 2 ∷ []) (pair 0 0 ∷ pair 0 1 ∷ pair 0 3 ∷ pair 1 0 ∷ pair 1 3 ∷ pair 2 0 ∷
    pair 2 3 ∷ []) ∷ []) (0 ∷ 0 ∷ []) (plan (1 ∷ 1 ∷ 1 ∷ []) ((2 ∷ 2 ∷ 2 ∷ []) ∷ (2 ∷ 1 ∷ 2 ∷ []) ∷ []) ((2 ∷ 2 ∷ 0 ∷ 2
    ∷ 0 ∷ 0 ∷ 0 ∷ []) ∷ (3 ∷ 2 ∷ 0 ∷ 3 ∷ 1 ∷ 0 ∷ 2 ∷ []) ∷ []) ∷ plan (1 ∷ 2 ∷ 3 ∷ []) ((4 ∷ 4 ∷ 4 ∷ []) ∷ (4 ∷ 4 ∷ 4 ∷
    []) ∷ []) ((3 ∷ 3 ∷ 2 ∷ 3 ∷ 0 ∷ 2 ∷ 0 ∷ []) ∷ (3 ∷ 3 ∷ 2 ∷ 3 ∷ 6 ∷ 0 ∷ 6 ∷ []) ∷ []) ∷ [])

abbrev pub moves : List Move
moves =
    Acts (Phase 1) ∷ Takes 3 (Called commands.Begin) ∷ Posts 3 ∷ Takes 3 (Called (commands.Do 1 2)) ∷ Posts 3 ∷
    Takes 0 (Got 0) ∷ Posts 0 ∷ Takes 1 (Got 1) ∷ Posts 1 ∷ Takes 3 (Got 2) ∷ Posts 3 ∷ Takes 3 (Got 3) ∷ Posts 3 ∷
    Takes 0 (Got 4) ∷ Posts 0 ∷ Takes 3 (Got 5) ∷ Posts 3 ∷ Takes 3 (Called (commands.Do 0 1)) ∷ Posts 3 ∷
    Takes 0 (Got 6) ∷ Posts 0 ∷ Takes 1 (Got 7) ∷ Posts 1 ∷ Takes 3 (Got 8) ∷ Posts 3 ∷ Takes 3 (Got 9) ∷ Posts 3 ∷
    Takes 3 (Called (commands.Do 1 1)) ∷ Posts 3 ∷ Takes 0 (Got 10) ∷ Posts 0 ∷ Takes 3 (Got 11) ∷ Posts 3 ∷
    Takes 3 (Called commands.Commit) ∷ Posts 3 ∷ Takes 0 (Got 12) ∷ Posts 0 ∷ Takes 1 (Got 13) ∷ Posts 1 ∷
    Takes 3 (Got 14) ∷ Posts 3 ∷ Takes 3 (Got 15) ∷ Posts 3 ∷ Takes 0 (Got 16) ∷ Posts 0 ∷ Takes 1 (Got 17) ∷ Posts 1 ∷
    Takes 3 (Called commands.Begin) ∷ Posts 3 ∷ Takes 3 (Called (commands.Do 0 2)) ∷ Posts 3 ∷ Takes 0 (Got 18) ∷
    Posts 0 ∷ Takes 1 (Got 19) ∷ Posts 1 ∷ Takes 3 (Got 20) ∷ Posts 3 ∷ Takes 3 (Got 21) ∷ Posts 3 ∷
    Takes 3 (Called commands.Begin) ∷ Posts 3 ∷ Acts (Phase 2) ∷ Takes 3 (Called (commands.Do 0 1)) ∷ Posts 3 ∷
    Takes 0 (Got 22) ∷ Posts 0 ∷ Takes 1 (Got 23) ∷ Posts 1 ∷ Takes 3 (Got 24) ∷ Posts 3 ∷ Takes 3 (Got 25) ∷ Posts 3 ∷
    Takes 3 (Called (commands.Do 0 2)) ∷ Posts 3 ∷ Takes 0 (Got 26) ∷ Posts 0 ∷ Takes 1 (Got 27) ∷ Posts 1 ∷
    Takes 3 (Got 28) ∷ Posts 3 ∷ Takes 3 (Got 29) ∷ Posts 3 ∷ Takes 3 (Called commands.Commit) ∷ Posts 3 ∷
    Takes 0 (Got 30) ∷ Posts 0 ∷ Takes 1 (Got 31) ∷ Posts 1 ∷ Takes 3 (Got 32) ∷ Posts 3 ∷ Takes 3 (Got 33) ∷ Posts 3 ∷
    Takes 0 (Got 34) ∷ Posts 0 ∷ Takes 1 (Got 35) ∷ Posts 1 ∷ Acts (Phase 3) ∷ Takes 3 (Called commands.Begin) ∷
    Posts 3 ∷ Takes 3 (Called (commands.Do 0 0)) ∷ Posts 3 ∷ Takes 0 (Got 36) ∷ Posts 0 ∷ Takes 1 (Got 37) ∷ Posts 1 ∷
    Takes 3 (Got 38) ∷ Posts 3 ∷ Takes 3 (Got 39) ∷ Posts 3 ∷ Takes 0 (Got 40) ∷ Posts 0 ∷ Takes 1 (Got 41) ∷ Posts 1 ∷
    Takes 3 (Got 42) ∷ Posts 3 ∷ Takes 3 (Got 43) ∷ Posts 3 ∷ Acts (Phase 4) ∷ Takes 3 (Called (commands.Do 1 1)) ∷
    Posts 3 ∷ Takes 0 (Got 44) ∷ Posts 0 ∷ Takes 3 (Got 45) ∷ Posts 3 ∷ Takes 3 (Called (commands.Do 1 0)) ∷ Posts 3 ∷
    Takes 0 (Got 46) ∷ Posts 0 ∷ Takes 1 (Got 47) ∷ Posts 1 ∷ Takes 3 (Got 48) ∷ Posts 3 ∷ Takes 3 (Got 49) ∷ Posts 3 ∷
    Takes 0 (Got 50) ∷ Posts 0 ∷ Takes 1 (Got 51) ∷ Posts 1 ∷ Takes 2 (Got 52) ∷ Posts 2 ∷ Takes 3 (Got 53) ∷ Posts 3 ∷
    Takes 3 (Got 54) ∷ Posts 3 ∷ Takes 3 (Got 55) ∷ Posts 3 ∷ Acts (Phase 5) ∷ Takes 3 (Called (commands.Do 0 0)) ∷
    Posts 3 ∷ Takes 0 (Got 56) ∷ Posts 0 ∷ Takes 1 (Got 57) ∷ Posts 1 ∷ Takes 3 (Got 58) ∷ Posts 3 ∷ Takes 3 (Got 59) ∷
    Posts 3 ∷ Takes 0 (Got 60) ∷ Posts 0 ∷ Takes 1 (Got 61) ∷ Posts 1 ∷ Takes 3 (Got 62) ∷ Posts 3 ∷ Takes 3 (Got 63) ∷
    Posts 3 ∷ Takes 3 (Called commands.Commit) ∷ Posts 3 ∷ Takes 0 (Got 64) ∷ Posts 0 ∷ Takes 1 (Got 65) ∷ Posts 1 ∷
    Takes 2 (Got 66) ∷ Posts 2 ∷ Takes 3 (Got 67) ∷ Posts 3 ∷ Takes 3 (Got 68) ∷ Posts 3 ∷ Takes 3 (Got 69) ∷ Posts 3 ∷
    Takes 0 (Got 70) ∷ Posts 0 ∷ Takes 1 (Got 71) ∷ Posts 1 ∷ Takes 2 (Got 72) ∷ Posts 2 ∷ []

abbrev pub history : List Entry
history =
    marked 5 (Phase 1) ∷ marked 3 (Called commands.Begin) ∷ marked 3 (Told (replies.Began (tx 0 1))) ∷
    marked 3 (Called (commands.Do 1 2)) ∷
    marked 3 (Sent 0 0 (messages.Request (tx 0 1) 1 0 (wants.Read (first_read 1 2))))
    ∷
    marked 3 (Sent 1 1 (messages.Request (tx 0 1) 1 0 (wants.Read (first_read 1 2)))) ∷ marked 0 (Got 0) ∷
    marked 0 (Sent 2 3 (messages.Answer 0 (answers.Granted (whole_grant 1 0 [])))) ∷ marked 1 (Got 1) ∷
    marked 1 (Sent 3 3 (messages.Answer 1 (answers.Granted (whole_grant 1 0 [])))) ∷ marked 3 (Got 2) ∷ marked 3 (Got 3)
    ∷
    marked 3 (Sent 4 0 (messages.Request (tx 0 1) 1 1 (wants.Append 1 [] (own_line 1 1 4 ∷ [])))) ∷ marked 0 (Got 4) ∷
    marked 0 (Sent 5 3 (messages.Answer 4 (answers.Granted (whole_grant 1 0 [])))) ∷ marked 3 (Got 5) ∷
    marked 3 (Told (replies.Response 2)) ∷ marked 3 (Called (commands.Do 0 1)) ∷
    marked 3 (Sent 6 0 (messages.Request (tx 0 1) 1 1 (wants.Read (first_read 0 1)))) ∷
    marked 3 (Sent 7 1 (messages.Request (tx 0 1) 1 1 (wants.Read (first_read 0 1)))) ∷ marked 0 (Got 6) ∷
    marked 0 (Sent 8 3 (messages.Answer 6 (answers.Granted (whole_grant 1 0 [])))) ∷ marked 1 (Got 7) ∷
    marked 1 (Sent 9 3 (messages.Answer 7 (answers.Granted (whole_grant 1 0 [])))) ∷ marked 3 (Got 8) ∷ marked 3 (Got 9)
    ∷
    marked 3 (Told (replies.Response 1)) ∷ marked 3 (Called (commands.Do 1 1)) ∷
    marked 3 (Sent 10 0 (messages.Request (tx 0 1) 1 1 (wants.Read (first_read 1 1)))) ∷ marked 0 (Got 10) ∷
    marked 0 (Sent 11 3 (messages.Answer 10 (answers.Granted (whole_grant 1 0 [])))) ∷ marked 3 (Got 11) ∷
    marked 3 (Told (replies.Response 1)) ∷ marked 3 (Called commands.Commit) ∷
    marked 3 (Sent 12 0 (messages.Request (tx 0 1) 1 1 wants.Prepare)) ∷
    marked 3 (Sent 13 1 (messages.Request (tx 0 1) 1 1 wants.Prepare)) ∷ marked 0 (Got 12) ∷
    marked 0 (Wrote (prepare (tx 0 1) 1 (read_lock 0 1 ∷ read_lock 1 1 ∷ read_lock 1 2 ∷ []) (own_line 1 1 4 ∷ []) []))
    ∷
    marked 0 (Sent 14 3 (messages.Answer 12 (answers.Yes 0))) ∷ marked 1 (Got 13) ∷
    marked 1 (Wrote (prepare (tx 0 1) 1 (read_lock 0 1 ∷ read_lock 1 2 ∷ []) [] [])) ∷
    marked 1 (Sent 15 3 (messages.Answer 13 (answers.Yes 0))) ∷ marked 3 (Got 14) ∷ marked 3 (Got 15) ∷
    marked 3 (Wrote (commit (stamp 1 0) (tx 0 1) (operation 1 2 (Some 2) ∷ operation 0 1 (Some 1) ∷ operation 1 1 (Some
    1) ∷ []))) ∷
    marked 3 (Sent 16 0 (messages.Decision (tx 0 1) (outcomes.Committed (stamp 1 0)))) ∷
    marked 3 (Sent 17 1 (messages.Decision (tx 0 1) (outcomes.Committed (stamp 1 0)))) ∷
    marked 3 (Told (replies.Committed (stamp 1 0))) ∷ marked 0 (Got 16) ∷ marked 0 (Wrote (records.Done (tx 0 1) 1)) ∷
    marked 1 (Got 17) ∷ marked 1 (Wrote (records.Done (tx 0 1) 1)) ∷ marked 3 (Called commands.Begin) ∷
    marked 3 (Told (replies.Began (tx 0 2))) ∷ marked 3 (Called (commands.Do 0 2)) ∷
    marked 3 (Sent 18 0 (messages.Request (tx 0 2) 1 0 (wants.Read (first_read 0 2)))) ∷
    marked 3 (Sent 19 1 (messages.Request (tx 0 2) 1 0 (wants.Read (first_read 0 2)))) ∷ marked 0 (Got 18) ∷
    marked 0 (Sent 20 3 (messages.Answer 18 (answers.Granted (whole_grant 1 1 [])))) ∷ marked 1 (Got 19) ∷
    marked 1 (Sent 21 3 (messages.Answer 19 (answers.Granted (whole_grant 1 1 [])))) ∷ marked 3 (Got 20)
    ∷ marked 3 (Got 21) ∷
    marked 3 (Told (replies.Response 2)) ∷ marked 3 (Called commands.Begin) ∷
    marked 3 (Told (replies.Already (tx 0 2))) ∷ marked 5 (Phase 2) ∷ marked 3 (Called (commands.Do 0 1)) ∷
    marked 3 (Sent 22 0 (messages.Request (tx 0 2) 1 1 (wants.Read (first_read 0 1)))) ∷
    marked 3 (Sent 23 1 (messages.Request (tx 0 2) 1 1 (wants.Read (first_read 0 1)))) ∷ marked 0 (Got 22) ∷
    marked 0 (Sent 24 3 (messages.Answer 22 (answers.Granted (whole_grant 1 1 [])))) ∷ marked 1 (Got 23) ∷
    marked 1 (Sent 25 3 (messages.Answer 23 (answers.Granted (whole_grant 1 1 [])))) ∷ marked 3 (Got 24)
    ∷ marked 3 (Got 25) ∷
    marked 3 (Told (replies.Response 1)) ∷ marked 3 (Called (commands.Do 0 2)) ∷
    marked 3 (Sent 26 0 (messages.Request (tx 0 2) 1 1 (wants.Read (first_read 0 2)))) ∷
    marked 3 (Sent 27 1 (messages.Request (tx 0 2) 1 1 (wants.Read (first_read 0 2)))) ∷ marked 0 (Got 26) ∷
    marked 0 (Sent 28 3 (messages.Answer 26 (answers.Granted (whole_grant 1 1 [])))) ∷ marked 1 (Got 27) ∷
    marked 1 (Sent 29 3 (messages.Answer 27 (answers.Granted (whole_grant 1 1 [])))) ∷ marked 3 (Got 28)
    ∷ marked 3 (Got 29) ∷
    marked 3 (Told (replies.Response 2)) ∷ marked 3 (Called commands.Commit) ∷
    marked 3 (Sent 30 0 (messages.Request (tx 0 2) 1 1 wants.Prepare)) ∷
    marked 3 (Sent 31 1 (messages.Request (tx 0 2) 1 1 wants.Prepare)) ∷ marked 0 (Got 30) ∷
    marked 0 (Wrote (prepare (tx 0 2) 1 (read_lock 0 1 ∷ read_lock 0 2 ∷ []) [] [])) ∷
    marked 0 (Sent 32 3 (messages.Answer 30 (answers.Yes 1))) ∷ marked 1 (Got 31) ∷
    marked 1 (Wrote (prepare (tx 0 2) 1 (read_lock 0 1 ∷ read_lock 0 2 ∷ []) [] [])) ∷
    marked 1 (Sent 33 3 (messages.Answer 31 (answers.Yes 1))) ∷ marked 3 (Got 32) ∷ marked 3 (Got 33) ∷
    marked 3 (Wrote (commit (stamp 2 0) (tx 0 2) (operation 0 2 (Some 2) ∷ operation 0 1 (Some 1) ∷ operation 0 2 (Some
    2) ∷ []))) ∷
    marked 3 (Sent 34 0 (messages.Decision (tx 0 2) (outcomes.Committed (stamp 2 0)))) ∷
    marked 3 (Sent 35 1 (messages.Decision (tx 0 2) (outcomes.Committed (stamp 2 0)))) ∷
    marked 3 (Told (replies.Committed (stamp 2 0))) ∷ marked 0 (Got 34) ∷ marked 0 (Wrote (records.Done (tx 0 2) 2)) ∷
    marked 1 (Got 35) ∷ marked 1 (Wrote (records.Done (tx 0 2) 2)) ∷ marked 5 (Phase 3) ∷
    marked 3 (Called commands.Begin) ∷ marked 3 (Told (replies.Began (tx 0 3))) ∷ marked 3 (Called (commands.Do 0 0)) ∷
    marked 3 (Sent 36 0 (messages.Request (tx 0 3) 1 0 (wants.Read (first_read 0 0)))) ∷
    marked 3 (Sent 37 1 (messages.Request (tx 0 3) 1 0 (wants.Read (first_read 0 0)))) ∷ marked 0 (Got 36) ∷
    marked 0 (Sent 38 3 (messages.Answer 36 (answers.Granted (whole_grant 1 2 [])))) ∷ marked 1 (Got 37) ∷
    marked 1 (Sent 39 3 (messages.Answer 37 (answers.Granted (whole_grant 1 2 [])))) ∷ marked 3 (Got 38)
    ∷ marked 3 (Got 39) ∷
    marked 3 (Sent 40 0 (messages.Request (tx 0 3) 1 1 (wants.Append 0 [] (own_line 1 0 0 ∷ [])))) ∷
    marked 3 (Sent 41 1 (messages.Request (tx 0 3) 1 1 (wants.Append 0 [] (own_line 1 0 0 ∷ [])))) ∷ marked 0 (Got 40) ∷
    marked 0 (Sent 42 3 (messages.Answer 40 (answers.Granted (whole_grant 1 2 [])))) ∷ marked 1 (Got 41) ∷
    marked 1 (Sent 43 3 (messages.Answer 41 (answers.Granted (whole_grant 1 2 [])))) ∷ marked 3 (Got 42)
    ∷ marked 3 (Got 43) ∷
    marked 3 (Told (replies.Response 0)) ∷ marked 5 (Phase 4) ∷ marked 3 (Called (commands.Do 1 1)) ∷
    marked 3 (Sent 44 0 (messages.Request (tx 0 3) 1 1 (wants.Read (first_read 1 1)))) ∷ marked 0 (Got 44) ∷
    marked 0 (Sent 45 3 (messages.Answer 44 (answers.Granted (whole_grant 1 2 (line 1 0 1 1 1 4 ∷ [])))))
    ∷ marked 3 (Got 45) ∷
    marked 3 (Told (replies.Response 1)) ∷ marked 3 (Called (commands.Do 1 0)) ∷
    marked 3 (Sent 46 0 (messages.Request (tx 0 3) 1 1 (wants.Read (first_read 1 0)))) ∷
    marked 3 (Sent 47 1 (messages.Request (tx 0 3) 1 1 (wants.Read (first_read 1 0)))) ∷ marked 0 (Got 46) ∷
    marked 0 (Sent 48 3 (messages.Answer 46 (answers.Granted (whole_grant 1 2 (line 1 0 1 1 1 4 ∷ [])))))
    ∷ marked 1 (Got 47) ∷
    marked 1 (Sent 49 3 (messages.Answer 47 (answers.Granted (whole_grant 1 2 [])))) ∷ marked 3 (Got 48)
    ∷ marked 3 (Got 49) ∷
    marked 3 (Sent 50 0 (messages.Request (tx 0 3) 1 1 (wants.Append 1 (line 1 0 1 1 1 4 ∷ []) (own_line 3 1 0 ∷ []))))
    ∷
    marked 3 (Sent 51 1 (messages.Request (tx 0 3) 1 1 (wants.Append 1 (line 1 0 1 1 1 4 ∷ []) (own_line 3 1 0 ∷ []))))
    ∷
    marked 3 (Sent 52 2 (messages.Request (tx 0 3) 1 0 (wants.Append 1 (line 1 0 1 1 1 4 ∷ []) (own_line 3 1 0 ∷ []))))
    ∷
    marked 0 (Got 50) ∷ marked 0 (Sent 53 3 (messages.Answer 50 (answers.Granted (whole_grant 1 2 []))))
    ∷ marked 1 (Got 51) ∷
    marked 1 (Sent 54 3 (messages.Answer 51 (answers.Granted (whole_grant 1 2 [])))) ∷ marked 2 (Got 52) ∷
    marked 2 (Sent 55 3 (messages.Answer 52 (answers.Granted (whole_grant 1 1 [])))) ∷ marked 3 (Got 53)
    ∷ marked 3 (Got 54) ∷
    marked 3 (Got 55) ∷ marked 3 (Told (replies.Response 0)) ∷ marked 5 (Phase 5) ∷
    marked 3 (Called (commands.Do 0 0))
    ∷ marked 3 (Sent 56 0 (messages.Request (tx 0 3) 1 1 (wants.Read (first_read 0 0)))) ∷
    marked 3 (Sent 57 1 (messages.Request (tx 0 3) 1 1 (wants.Read (first_read 0 0)))) ∷ marked 0 (Got 56) ∷
    marked 0 (Sent 58 3 (messages.Answer 56 (answers.Granted (whole_grant 1 2 [])))) ∷ marked 1 (Got 57) ∷
    marked 1 (Sent 59 3 (messages.Answer 57 (answers.Granted (whole_grant 1 2 [])))) ∷ marked 3 (Got 58)
    ∷ marked 3 (Got 59) ∷
    marked 3 (Sent 60 0 (messages.Request (tx 0 3) 1 1 (wants.Append 0 [] (own_line 1 0 0 ∷ own_line 4 0 0 ∷ [])))) ∷
    marked 3 (Sent 61 1 (messages.Request (tx 0 3) 1 1 (wants.Append 0 [] (own_line 1 0 0 ∷ own_line 4 0 0 ∷ [])))) ∷
    marked 0 (Got 60) ∷ marked 0 (Sent 62 3 (messages.Answer 60 (answers.Granted (whole_grant 1 2 []))))
    ∷ marked 1 (Got 61) ∷
    marked 1 (Sent 63 3 (messages.Answer 61 (answers.Granted (whole_grant 1 2 [])))) ∷ marked 3 (Got 62)
    ∷ marked 3 (Got 63) ∷
    marked 3 (Told (replies.Response 0)) ∷ marked 3 (Called commands.Commit) ∷
    marked 3 (Sent 64 0 (messages.Request (tx 0 3) 1 1 wants.Prepare)) ∷
    marked 3 (Sent 65 1 (messages.Request (tx 0 3) 1 1 wants.Prepare)) ∷
    marked 3 (Sent 66 2 (messages.Request (tx 0 3) 1 1 wants.Prepare)) ∷ marked 0 (Got 64) ∷
    marked 0 (Wrote (prepare (tx 0 3) 1 (read_lock 0 0 ∷ read_lock 1 0 ∷ read_lock 1 1 ∷ []) (own_line 1 0 0 ∷ own_line
    3 1 0 ∷ own_line 4 0 0 ∷ []) [])) ∷
    marked 0 (Sent 67 3 (messages.Answer 64 (answers.Yes 2))) ∷ marked 1 (Got 65) ∷
    marked 1 (Wrote (prepare (tx 0 3) 1 (read_lock 0 0 ∷ read_lock 1 0 ∷ []) (own_line 1 0 0 ∷ own_line 3 1 0 ∷ own_line
    4 0 0 ∷ []) (line 1 0 1 1 1 4 ∷ []))) ∷
    marked 1 (Sent 68 3 (messages.Answer 65 (answers.Yes 2))) ∷ marked 2 (Got 66) ∷
    marked 2 (Wrote (prepare (tx 0 3) 1 [] (own_line 3 1 0 ∷ []) (line 1 0 1 1 1 4 ∷ []))) ∷
    marked 2 (Sent 69 3 (messages.Answer 66 (answers.Yes 1))) ∷ marked 3 (Got 67) ∷ marked 3 (Got 68) ∷
    marked 3 (Got 69) ∷
    marked 3 (Wrote (commit (stamp 3 0) (tx 0 3) (operation 0 0 (Some 0) ∷ operation 1 1 (Some 1) ∷ operation 1 0 (Some
    0) ∷ operation 0 0 (Some 0) ∷ []))) ∷
    marked 3 (Sent 70 0 (messages.Decision (tx 0 3) (outcomes.Committed (stamp 3 0)))) ∷
    marked 3 (Sent 71 1 (messages.Decision (tx 0 3) (outcomes.Committed (stamp 3 0)))) ∷
    marked 3 (Sent 72 2 (messages.Decision (tx 0 3) (outcomes.Committed (stamp 3 0)))) ∷
    marked 3 (Told (replies.Committed (stamp 3 0))) ∷ marked 0 (Got 70) ∷ marked 0 (Wrote (records.Done (tx 0 3) 3)) ∷
    marked 1 (Got 71) ∷ marked 1 (Wrote (records.Done (tx 0 3) 3)) ∷ marked 2 (Got 72) ∷
    marked 2 (Wrote (records.Done (tx 0 3) 3)) ∷ []
