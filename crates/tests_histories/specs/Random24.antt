-- Random: sites 3, clients 4, steps 173, messages 57, lost 4, commits 5, aborts 1, conflicts 1, short rounds 1.
use Rattle.std.specs.Prelude.{List, [], ◌∷◌, Some}
use Rattle.qc_decl.specs.declared.declaration.Declaration.{Declaration}
use Rattle.qc_decl.specs.Vocabulary.{row}
use Rattle.qc_msg.specs.Vocabulary.{Entry, marked}
use Rattle.tests_histories.specs.Play.{Move, Takes, Posts, Acts}
use Rattle.tests_histories.specs.Words.{tx, stamp, own_line, operation, read_lock, prepare, commit, declaration, kind}
use Rattle.tests_histories.specs.Words.{pair, plan}
use Rattle.qc_msg.specs.declared.step.Step.TheVariants.{Phase, Called, Got, Lost, Wrote, Sent, Told}
use Rattle.qc_msg.specs.declared.message.Answer.TheVariants as answers
use Rattle.qc_msg.specs.declared.reply.AbortCause.TheVariants as causes
use Rattle.qc_msg.specs.declared.step.Command.TheVariants as commands
use Rattle.qc_msg.specs.declared.reply.Half.TheVariants as halves
use Rattle.qc_msg.specs.declared.message.Message.TheVariants as messages
use Rattle.qc_msg.specs.declared.message.Outcome.TheVariants as outcomes
use Rattle.qc_msg.specs.declared.record.Record.TheVariants as records
use Rattle.qc_msg.specs.declared.reply.Reply.TheVariants as replies
use Rattle.qc_msg.specs.declared.message.Want.TheVariants as wants
use Rattle.qc_msg.specs.Vocabulary.{whole_grant, first_read}

abbrev pub decl : Declaration
decl =
    declaration 3 4 (kind 2 3 3 0 (row 0 0 0 0 ∷ row 1 0 1 1 ∷ row 0 1 2 0 ∷ row 1 1 2 0 ∷ row 0 2 2 1 ∷ row 1 2 2 1 ∷
    []) (pair 0 2 ∷ pair 0 3 ∷ []) ∷ []) (0 ∷ []) (plan (2 ∷ 1 ∷ 1 ∷ []) ((3 ∷ 0 ∷ 4 ∷ []) ∷ []) ((0 ∷ 0 ∷ 2 ∷ 2 ∷ []) ∷
    []) ∷ plan (1 ∷ 0 ∷ 1 ∷ []) ((1 ∷ 0 ∷ 0 ∷ []) ∷ []) ((0 ∷ 0 ∷ 2 ∷ 2 ∷ []) ∷ []) ∷ [])

abbrev pub moves : List Move
moves =
    Acts (Phase 1) ∷ Takes 5 (Called commands.Begin) ∷ Posts 5 ∷ Takes 6 (Called commands.Begin) ∷ Posts 6 ∷
    Takes 6 (Called (commands.Do 0 2)) ∷ Posts 6 ∷ Takes 1 (Got 1) ∷ Posts 1 ∷ Takes 4 (Called commands.Begin) ∷
    Takes 6 (Got 3) ∷ Posts 6 ∷ Posts 4 ∷ Takes 0 (Got 0) ∷ Posts 0 ∷ Takes 6 (Lost 0) ∷ Posts 6 ∷
    Takes 4 (Called commands.Commit) ∷ Posts 4 ∷ Takes 4 (Called commands.Begin) ∷ Posts 4 ∷ Takes 2 (Got 2) ∷ Posts 2 ∷
    Takes 6 (Got 5) ∷ Posts 6 ∷ Takes 4 (Called commands.Commit) ∷ Posts 4 ∷ Takes 6 (Called (commands.Do 0 1)) ∷
    Posts 6 ∷ Takes 0 (Got 6) ∷ Posts 0 ∷ Takes 6 (Got 7) ∷ Posts 6 ∷ Takes 6 (Called commands.Commit) ∷ Posts 6 ∷
    Takes 6 (Lost 9) ∷ Posts 6 ∷ Takes 2 (Got 10) ∷ Posts 2 ∷ Takes 6 (Got 11) ∷ Posts 6 ∷ Takes 0 (Got 8) ∷ Posts 0 ∷
    Takes 6 (Got 12) ∷ Posts 6 ∷ Takes 1 (Got 14) ∷ Posts 1 ∷ Takes 6 (Called commands.Begin) ∷ Posts 6 ∷
    Takes 6 (Called (commands.Do 0 1)) ∷ Posts 6 ∷ Takes 0 (Got 13) ∷ Posts 0 ∷ Takes 0 (Got 16) ∷ Posts 0 ∷
    Takes 2 (Got 15) ∷ Posts 2 ∷ Takes 6 (Got 17) ∷ Posts 6 ∷ Takes 6 (Called (commands.Do 0 0)) ∷ Posts 6 ∷
    Takes 1 (Got 19) ∷ Posts 1 ∷ Takes 6 (Got 20) ∷ Posts 6 ∷ Takes 0 (Got 18) ∷ Posts 0 ∷ Takes 6 (Got 21) ∷ Posts 6 ∷
    Takes 6 (Called (commands.Do 0 1)) ∷ Posts 6 ∷ Takes 6 (Lost 22) ∷ Posts 6 ∷ Takes 1 (Got 23) ∷ Posts 1 ∷
    Takes 6 (Got 24) ∷ Posts 6 ∷ Takes 2 (Got 25) ∷ Posts 2 ∷ Takes 6 (Got 26) ∷ Posts 6 ∷
    Takes 6 (Called commands.Commit) ∷ Posts 6 ∷ Takes 1 (Got 28) ∷ Posts 1 ∷ Takes 6 (Got 30) ∷ Posts 6 ∷
    Takes 0 (Got 27) ∷ Posts 0 ∷ Takes 6 (Got 31) ∷ Posts 6 ∷ Takes 2 (Got 29) ∷ Posts 2 ∷ Takes 6 (Got 32) ∷ Posts 6 ∷
    Takes 2 (Got 35) ∷ Posts 2 ∷ Takes 0 (Got 33) ∷ Posts 0 ∷ Acts (Phase 2) ∷ Takes 1 (Got 9) ∷
    Takes 4 (Called commands.Begin) ∷ Posts 1 ∷ Posts 4 ∷ Takes 1 (Got 34) ∷ Takes 0 (Got 22) ∷ Takes 6 (Got 4) ∷
    Posts 6 ∷ Posts 1 ∷ Posts 0 ∷ Takes 4 (Called commands.Commit) ∷ Posts 4 ∷ Takes 6 (Got 36) ∷ Posts 6 ∷
    Takes 5 (Called (commands.Do 0 1)) ∷ Posts 5 ∷ Takes 0 (Got 39) ∷ Takes 2 (Got 38) ∷ Posts 2 ∷ Takes 6 (Got 37) ∷
    Posts 6 ∷ Posts 0 ∷ Takes 5 (Got 40) ∷ Posts 5 ∷ Takes 6 (Called commands.Begin) ∷ Takes 5 (Lost 39) ∷ Posts 5 ∷
    Takes 1 (Got 42) ∷ Posts 1 ∷ Takes 5 (Got 43) ∷ Posts 5 ∷ Takes 5 (Called commands.Abort) ∷ Posts 5 ∷
    Takes 0 (Got 44) ∷ Posts 0 ∷ Takes 2 (Got 46) ∷ Posts 2 ∷ Posts 6 ∷ Takes 6 (Called (commands.Do 0 0)) ∷ Posts 6 ∷
    Takes 0 (Got 47) ∷ Takes 1 (Got 48) ∷ Posts 1 ∷ Takes 6 (Got 49) ∷ Posts 6 ∷ Posts 0 ∷ Takes 5 (Got 50) ∷ Posts 5 ∷
    Takes 1 (Got 53) ∷ Posts 1 ∷ Takes 6 (Got 51) ∷ Posts 6 ∷ Takes 6 (Got 52) ∷ Posts 6 ∷
    Takes 6 (Called commands.Commit) ∷ Takes 0 (Got 54) ∷ Posts 0 ∷ Posts 6 ∷ Takes 1 (Got 56) ∷ Posts 1 ∷
    Takes 0 (Got 55) ∷ Posts 0 ∷ []

abbrev pub history : List Entry
history =
    marked 8 (Phase 1) ∷ marked 5 (Called commands.Begin) ∷ marked 5 (Told (replies.Began (tx 2 1))) ∷
    marked 6 (Called commands.Begin) ∷ marked 6 (Told (replies.Began (tx 3 1))) ∷ marked 6 (Called (commands.Do 0 2)) ∷
    marked 6 (Sent 0 0 (messages.Request (tx 3 1) 1 0 (wants.Read (first_read 0 2)))) ∷
    marked 6 (Sent 1 1 (messages.Request (tx 3 1) 1 0 (wants.Read (first_read 0 2)))) ∷
    marked 6 (Sent 2 2 (messages.Request (tx 3 1) 1 0 (wants.Read (first_read 0 2)))) ∷ marked 1 (Got 1) ∷
    marked 1 (Sent 3 6 (messages.Answer 1 (answers.Granted (whole_grant 1 0 [])))) ∷ marked 4 (Called commands.Begin) ∷
    marked 6 (Got 3) ∷ marked 4 (Told (replies.Began (tx 1 1))) ∷ marked 0 (Got 0) ∷
    marked 0 (Sent 4 6 (messages.Answer 0 (answers.Granted (whole_grant 1 0 [])))) ∷ marked 6 (Lost 0) ∷
    marked 4 (Called commands.Commit) ∷ marked 4 (Wrote (commit (stamp 1 1) (tx 1 1) [])) ∷
    marked 4 (Told (replies.Committed (stamp 1 1))) ∷ marked 4 (Called commands.Begin) ∷
    marked 4 (Told (replies.Began (tx 1 2))) ∷ marked 2 (Got 2) ∷
    marked 2 (Sent 5 6 (messages.Answer 2 (answers.Granted (whole_grant 1 0 [])))) ∷ marked 6 (Got 5) ∷
    marked 6 (Told (replies.Quorum halves.Read 2 4)) ∷ marked 4 (Called commands.Commit) ∷
    marked 4 (Wrote (commit (stamp 2 1) (tx 1 2) [])) ∷ marked 4 (Told (replies.Committed (stamp 2 1))) ∷
    marked 6 (Called (commands.Do 0 1)) ∷
    marked 6 (Sent 6 0 (messages.Request (tx 3 1) 1 0 (wants.Append 0 [] (own_line 1 0 2 ∷ [])))) ∷ marked 0 (Got 6) ∷
    marked 0 (Sent 7 6 (messages.Answer 6 (answers.Granted (whole_grant 1 0 [])))) ∷ marked 6 (Got 7) ∷
    marked 6 (Told (replies.Response 2)) ∷ marked 6 (Called commands.Commit) ∷
    marked 6 (Sent 8 0 (messages.Request (tx 3 1) 1 1 wants.Prepare)) ∷
    marked 6 (Sent 9 1 (messages.Request (tx 3 1) 1 1 wants.Prepare)) ∷
    marked 6 (Sent 10 2 (messages.Request (tx 3 1) 1 1 wants.Prepare)) ∷ marked 6 (Lost 9) ∷ marked 2 (Got 10) ∷
    marked 2 (Wrote (prepare (tx 3 1) 1 (read_lock 0 2 ∷ []) [] [])) ∷
    marked 2 (Sent 11 6 (messages.Answer 10 (answers.Yes 0))) ∷ marked 6 (Got 11) ∷ marked 0 (Got 8) ∷
    marked 0 (Wrote (prepare (tx 3 1) 1 (read_lock 0 2 ∷ []) (own_line 1 0 2 ∷ []) [])) ∷
    marked 0 (Sent 12 6 (messages.Answer 8 (answers.Yes 0))) ∷ marked 6 (Got 12) ∷
    marked 6 (Sent 13 0 (messages.Decision (tx 3 1) outcomes.Aborted)) ∷
    marked 6 (Sent 14 1 (messages.Decision (tx 3 1) outcomes.Aborted)) ∷
    marked 6 (Sent 15 2 (messages.Decision (tx 3 1) outcomes.Aborted)) ∷
    marked 6 (Told (replies.Aborted (causes.NoAnswer 1))) ∷ marked 1 (Got 14) ∷ marked 6 (Called commands.Begin) ∷
    marked 6 (Told (replies.Began (tx 3 2))) ∷ marked 6 (Called (commands.Do 0 1)) ∷
    marked 6 (Sent 16 0 (messages.Request (tx 3 2) 1 0 (wants.Append 0 [] (own_line 1 0 2 ∷ [])))) ∷ marked 0 (Got 13) ∷
    marked 0 (Got 16) ∷ marked 0 (Sent 17 6 (messages.Answer 16 (answers.Granted (whole_grant 1 0 []))))
    ∷ marked 2 (Got 15) ∷
    marked 6 (Got 17) ∷ marked 6 (Told (replies.Response 2)) ∷ marked 6 (Called (commands.Do 0 0)) ∷
    marked 6 (Sent 18 0 (messages.Request (tx 3 2) 1 1 (wants.Read (first_read 0 0)))) ∷
    marked 6 (Sent 19 1 (messages.Request (tx 3 2) 1 0 (wants.Read (first_read 0 0)))) ∷ marked 1 (Got 19) ∷
    marked 1 (Sent 20 6 (messages.Answer 19 (answers.Granted (whole_grant 1 0 [])))) ∷ marked 6 (Got 20)
    ∷ marked 0 (Got 18) ∷
    marked 0 (Sent 21 6 (messages.Answer 18 (answers.Granted (whole_grant 1 0 [])))) ∷ marked 6 (Got 21) ∷
    marked 6 (Told (replies.Response 0)) ∷ marked 6 (Called (commands.Do 0 1)) ∷
    marked 6 (Sent 22 0 (messages.Request (tx 3 2) 1 1 (wants.Append 0 [] (own_line 1 0 2 ∷ own_line 3 0 2 ∷ [])))) ∷
    marked 6 (Lost 22) ∷
    marked 6 (Sent 23 1 (messages.Request (tx 3 2) 1 1 (wants.Append 0 [] (own_line 1 0 2 ∷ own_line 3 0 2 ∷ [])))) ∷
    marked 1 (Got 23) ∷ marked 1 (Sent 24 6 (messages.Answer 23 (answers.Granted (whole_grant 1 0 []))))
    ∷ marked 6 (Got 24) ∷
    marked 6 (Sent 25 2 (messages.Request (tx 3 2) 1 0 (wants.Append 0 [] (own_line 1 0 2 ∷ own_line 3 0 2 ∷ [])))) ∷
    marked 2 (Got 25) ∷ marked 2 (Sent 26 6 (messages.Answer 25 (answers.Granted (whole_grant 1 0 []))))
    ∷ marked 6 (Got 26) ∷
    marked 6 (Told (replies.Response 2)) ∷ marked 6 (Called commands.Commit) ∷
    marked 6 (Sent 27 0 (messages.Request (tx 3 2) 1 1 wants.Prepare)) ∷
    marked 6 (Sent 28 1 (messages.Request (tx 3 2) 1 1 wants.Prepare)) ∷
    marked 6 (Sent 29 2 (messages.Request (tx 3 2) 1 1 wants.Prepare)) ∷ marked 1 (Got 28) ∷
    marked 1 (Wrote (prepare (tx 3 2) 1 (read_lock 0 0 ∷ []) (own_line 1 0 2 ∷ own_line 3 0 2 ∷ []) [])) ∷
    marked 1 (Sent 30 6 (messages.Answer 28 (answers.Yes 0))) ∷ marked 6 (Got 30) ∷ marked 0 (Got 27) ∷
    marked 0 (Wrote (prepare (tx 3 2) 1 (read_lock 0 0 ∷ []) (own_line 1 0 2 ∷ []) [])) ∷
    marked 0 (Sent 31 6 (messages.Answer 27 (answers.Yes 0))) ∷ marked 6 (Got 31) ∷ marked 2 (Got 29) ∷
    marked 2 (Wrote (prepare (tx 3 2) 1 [] (own_line 1 0 2 ∷ own_line 3 0 2 ∷ []) [])) ∷
    marked 2 (Sent 32 6 (messages.Answer 29 (answers.Yes 0))) ∷ marked 6 (Got 32) ∷
    marked 6 (Wrote (commit (stamp 1 3) (tx 3 2) (operation 0 1 (Some 2) ∷ operation 0 0 (Some 0) ∷ operation 0 1 (Some
    2) ∷ []))) ∷
    marked 6 (Sent 33 0 (messages.Decision (tx 3 2) (outcomes.Committed (stamp 1 3)))) ∷
    marked 6 (Sent 34 1 (messages.Decision (tx 3 2) (outcomes.Committed (stamp 1 3)))) ∷
    marked 6 (Sent 35 2 (messages.Decision (tx 3 2) (outcomes.Committed (stamp 1 3)))) ∷
    marked 6 (Told (replies.Committed (stamp 1 3))) ∷ marked 2 (Got 35) ∷ marked 2 (Wrote (records.Done (tx 3 2) 1)) ∷
    marked 0 (Got 33) ∷ marked 0 (Wrote (records.Done (tx 3 2) 1)) ∷ marked 8 (Phase 2) ∷ marked 1 (Got 9) ∷
    marked 4 (Called commands.Begin) ∷ marked 1 (Sent 36 6 (messages.Answer 9 answers.Stale)) ∷
    marked 4 (Told (replies.Began (tx 1 3))) ∷ marked 1 (Got 34) ∷ marked 0 (Got 22) ∷ marked 6 (Got 4) ∷
    marked 1 (Wrote (records.Done (tx 3 2) 1))
    ∷ marked 0 (Sent 37 6 (messages.Answer 22 (answers.Granted (whole_grant 1 1 [])))) ∷
    marked 4 (Called commands.Commit) ∷ marked 4 (Wrote (commit (stamp 3 1) (tx 1 3) [])) ∷
    marked 4 (Told (replies.Committed (stamp 3 1))) ∷ marked 6 (Got 36) ∷ marked 5 (Called (commands.Do 0 1)) ∷
    marked 5 (Sent 38 2 (messages.Request (tx 2 1) 1 0 (wants.Append 0 [] (own_line 1 0 2 ∷ [])))) ∷
    marked 5 (Sent 39 0 (messages.Request (tx 2 1) 1 0 (wants.Append 0 [] (own_line 1 0 2 ∷ [])))) ∷ marked 0 (Got 39) ∷
    marked 2 (Got 38) ∷ marked 2 (Sent 40 5 (messages.Answer 38 (answers.Granted (whole_grant 1 1 []))))
    ∷ marked 6 (Got 37) ∷
    marked 0 (Sent 41 5 (messages.Answer 39 (answers.Granted (whole_grant 1 1 [])))) ∷ marked 5 (Got 40) ∷
    marked 6 (Called commands.Begin) ∷ marked 5 (Lost 39) ∷
    marked 5 (Sent 42 1 (messages.Request (tx 2 1) 1 0 (wants.Append 0 [] (own_line 1 0 2 ∷ [])))) ∷ marked 1 (Got 42) ∷
    marked 1 (Sent 43 5 (messages.Answer 42 (answers.Granted (whole_grant 1 1 [])))) ∷ marked 5 (Got 43) ∷
    marked 5 (Told (replies.Response 2)) ∷ marked 5 (Called commands.Abort) ∷
    marked 5 (Sent 44 0 (messages.Decision (tx 2 1) outcomes.Aborted)) ∷
    marked 5 (Sent 45 1 (messages.Decision (tx 2 1) outcomes.Aborted)) ∷
    marked 5 (Sent 46 2 (messages.Decision (tx 2 1) outcomes.Aborted)) ∷ marked 5 (Told replies.Dropped) ∷
    marked 0 (Got 44) ∷ marked 2 (Got 46) ∷ marked 6 (Told (replies.Began (tx 3 3))) ∷
    marked 6 (Called (commands.Do 0 0))
    ∷ marked 6 (Sent 47 0 (messages.Request (tx 3 3) 1 0 (wants.Read (first_read 0 0)))) ∷
    marked 6 (Sent 48 1 (messages.Request (tx 3 3) 1 0 (wants.Read (first_read 0 0)))) ∷ marked 0 (Got 47)
    ∷ marked 1 (Got 48) ∷
    marked 1 (Sent 49 6 (messages.Answer 48 (answers.Clash (tx 2 1) 0 2))) ∷
    marked 1 (Sent 50 5 (messages.Inquiry (tx 2 1))) ∷ marked 6 (Got 49) ∷
    marked 0 (Sent 51 6 (messages.Answer 47 (answers.Clash (tx 3 2) 0 2))) ∷
    marked 0 (Sent 52 6 (messages.Inquiry (tx 3 2))) ∷ marked 5 (Got 50) ∷
    marked 5 (Sent 53 1 (messages.Decision (tx 2 1) outcomes.Aborted)) ∷ marked 1 (Got 53) ∷ marked 6 (Got 51) ∷
    marked 6 (Told (replies.Conflict (tx 3 2) 0)) ∷ marked 6 (Got 52) ∷
    marked 6 (Sent 54 0 (messages.Decision (tx 3 2) (outcomes.Committed (stamp 1 3)))) ∷
    marked 6 (Called commands.Commit) ∷ marked 0 (Got 54) ∷ marked 6 (Wrote (commit (stamp 2 3) (tx 3 3) [])) ∷
    marked 6 (Sent 55 0 (messages.Decision (tx 3 3) (outcomes.Committed (stamp 2 3)))) ∷
    marked 6 (Sent 56 1 (messages.Decision (tx 3 3) (outcomes.Committed (stamp 2 3)))) ∷
    marked 6 (Told (replies.Committed (stamp 2 3))) ∷ marked 1 (Got 56) ∷ marked 0 (Got 55) ∷ []
