-- Random: sites 1, clients 4, steps 304, messages 89, lost 3, cuts 1, commits 8, aborts 2, conflicts 7, short rounds 3.
use Rattle.std.specs.Prelude.{List, [], ◌∷◌, Some}
use Rattle.qc_decl.specs.declared.declaration.Declaration.{Declaration}
use Rattle.qc_decl.specs.Vocabulary.{row}
use Rattle.qc_msg.specs.Vocabulary.{Entry, marked}
use Rattle.tests_histories.specs.Play.{Move, Takes, Posts, Acts}
use Rattle.tests_histories.specs.Words.{tx, stamp, line, own_line, operation, read_lock, prepare, commit, declaration}
use Rattle.tests_histories.specs.Words.{kind, pair, plan}
use Rattle.qc_msg.specs.declared.step.Step.TheVariants.{Phase, Cut, Heal, Called, Got, Lost, Wrote, Sent, Told}
use Rattle.qc_msg.specs.declared.message.Answer.TheVariants as answers
use Rattle.qc_msg.specs.declared.reply.AbortCause.TheVariants as causes
use Rattle.qc_msg.specs.declared.step.Command.TheVariants as commands
use Rattle.qc_msg.specs.declared.reply.Half.TheVariants as halves
use Rattle.qc_msg.specs.declared.message.Message.TheVariants as messages
use Rattle.qc_msg.specs.declared.message.Outcome.TheVariants as outcomes
use Rattle.qc_msg.specs.declared.record.Record.TheVariants as records
use Rattle.qc_msg.specs.declared.reply.Reply.TheVariants as replies
use Rattle.qc_msg.specs.declared.message.Want.TheVariants as wants
use Rattle.qc_msg.specs.Vocabulary.{whole_grant, first_read}

abbrev pub decl : Declaration
decl =
    declaration 1 4 (kind 2 3 3 0 (row 0 0 0 0 ∷ row 1 0 1 1 ∷ row 0 1 2 0 ∷ row 1 1 2 0 ∷ row 0 2 2 1 ∷ row 1 2 2 1 ∷
    []) (pair 0 0 ∷ pair 0 2 ∷ pair 0 3 ∷ pair 2 0 ∷ pair 2 1 ∷ []) ∷ []) (0 ∷ 0 ∷ []) (plan (1 ∷ []) ((1 ∷ 0 ∷ 1 ∷ [])
    ∷ (1 ∷ 0 ∷ 1 ∷ []) ∷ []) ((1 ∷ 1 ∷ 1 ∷ 1 ∷ []) ∷ (1 ∷ 1 ∷ 1 ∷ 1 ∷ []) ∷ []) ∷ [])

abbrev pub moves : List Move
moves =
    Acts (Phase 1) ∷ Takes 3 (Called commands.Begin) ∷ Takes 4 (Called commands.Begin) ∷ Posts 3 ∷ Posts 4 ∷
    Takes 1 (Called commands.Begin) ∷ Takes 3 (Called (commands.Do 1 2)) ∷ Posts 3 ∷ Posts 1 ∷
    Takes 4 (Called (commands.Do 0 1)) ∷ Posts 4 ∷ Takes 2 (Called commands.Begin) ∷
    Takes 1 (Called (commands.Do 0 0)) ∷ Posts 2 ∷ Takes 0 (Got 0) ∷ Posts 0 ∷ Takes 3 (Got 2) ∷ Posts 3 ∷ Posts 1 ∷
    Takes 2 (Called (commands.Do 0 2)) ∷ Posts 2 ∷ Takes 0 (Got 1) ∷ Posts 0 ∷ Takes 4 (Got 6) ∷ Posts 4 ∷
    Takes 0 (Got 3) ∷ Posts 0 ∷ Takes 0 (Got 4) ∷ Takes 3 (Got 7) ∷ Posts 3 ∷ Takes 3 (Called (commands.Do 1 0)) ∷
    Posts 3 ∷ Posts 0 ∷ Takes 1 (Got 9) ∷ Takes 0 (Got 5) ∷ Takes 4 (Got 10) ∷ Posts 0 ∷ Takes 2 (Got 11) ∷ Posts 2 ∷
    Posts 4 ∷ Takes 0 (Got 8) ∷ Posts 0 ∷ Takes 3 (Got 14) ∷ Posts 3 ∷ Posts 1 ∷ Takes 1 (Called (commands.Do 1 2)) ∷
    Takes 0 (Got 12) ∷ Posts 1 ∷ Posts 0 ∷ Takes 0 (Got 13) ∷ Posts 0 ∷ Takes 2 (Got 17) ∷ Takes 0 (Got 15) ∷ Posts 0 ∷
    Takes 3 (Got 18) ∷ Takes 0 (Got 16) ∷ Posts 3 ∷ Takes 3 (Called (commands.Do 1 2)) ∷ Posts 0 ∷ Posts 3 ∷
    Takes 0 (Got 21) ∷ Takes 3 (Got 20) ∷ Posts 3 ∷ Takes 1 (Got 19) ∷ Posts 2 ∷ Posts 0 ∷
    Takes 2 (Called (commands.Do 1 2)) ∷ Takes 3 (Lost 21) ∷ Posts 2 ∷ Posts 3 ∷ Posts 1 ∷ Takes 0 (Got 22) ∷ Posts 0 ∷
    Takes 1 (Called commands.Commit) ∷ Takes 0 (Got 24) ∷ Posts 1 ∷ Posts 0 ∷ Takes 0 (Got 25) ∷ Posts 0 ∷
    Takes 3 (Got 27) ∷ Takes 2 (Got 26) ∷ Posts 3 ∷ Posts 2 ∷ Takes 2 (Called commands.Commit) ∷ Posts 2 ∷
    Takes 0 (Got 28) ∷ Posts 0 ∷ Takes 0 (Got 29) ∷ Posts 0 ∷ Takes 2 (Got 30) ∷ Posts 2 ∷
    Takes 2 (Called commands.Begin) ∷ Takes 0 (Got 31) ∷ Posts 2 ∷ Posts 0 ∷ Acts (Phase 2) ∷
    Takes 2 (Called (commands.Do 1 0)) ∷ Takes 3 (Got 23) ∷ Posts 3 ∷ Posts 2 ∷ Takes 0 (Got 32) ∷ Posts 0 ∷
    Takes 2 (Got 33) ∷ Posts 2 ∷ Takes 2 (Called commands.Commit) ∷ Takes 3 (Got 34) ∷ Posts 3 ∷ Takes 0 (Got 35) ∷
    Posts 0 ∷ Posts 2 ∷ Takes 0 (Got 36) ∷ Posts 0 ∷ Acts (Phase 3) ∷ Takes 3 (Called commands.Abort) ∷ Posts 3 ∷
    Takes 0 (Got 37) ∷ Posts 0 ∷ Acts (Phase 4) ∷ Acts (Cut 0 2) ∷ Acts (Phase 5) ∷ Acts (Heal 0 2) ∷
    Takes 3 (Called commands.Begin) ∷ Posts 3 ∷ Takes 1 (Called commands.Begin) ∷ Posts 1 ∷
    Takes 4 (Called (commands.Do 1 2)) ∷ Takes 1 (Called (commands.Do 1 2)) ∷ Posts 4 ∷ Posts 1 ∷
    Takes 3 (Called (commands.Do 1 1)) ∷ Posts 3 ∷ Takes 0 (Got 38) ∷ Posts 0 ∷ Takes 4 (Got 41) ∷ Posts 4 ∷
    Takes 0 (Got 39) ∷ Posts 0 ∷ Takes 0 (Got 40) ∷ Posts 0 ∷ Takes 3 (Got 44) ∷ Posts 3 ∷ Takes 1 (Got 43) ∷ Posts 1 ∷
    Takes 0 (Got 42) ∷ Takes 3 (Called (commands.Do 0 0)) ∷ Posts 3 ∷ Posts 0 ∷ Takes 0 (Got 45) ∷ Takes 4 (Got 47) ∷
    Posts 4 ∷ Posts 0 ∷ Takes 1 (Got 48) ∷ Takes 0 (Got 46) ∷ Takes 4 (Called (commands.Do 0 1)) ∷ Posts 1 ∷
    Takes 1 (Called (commands.Do 0 2)) ∷ Posts 0 ∷ Posts 1 ∷ Posts 4 ∷ Takes 4 (Got 50) ∷ Posts 4 ∷ Takes 3 (Got 49) ∷
    Takes 0 (Got 51) ∷ Posts 0 ∷ Takes 1 (Got 54) ∷ Takes 0 (Got 52) ∷ Posts 0 ∷ Posts 1 ∷ Posts 3 ∷ Takes 0 (Got 53) ∷
    Posts 0 ∷ Takes 3 (Called (commands.Do 0 0)) ∷ Takes 4 (Lost 52) ∷ Posts 4 ∷ Posts 3 ∷ Takes 0 (Got 56) ∷
    Takes 4 (Called (commands.Do 1 2)) ∷ Posts 0 ∷ Takes 1 (Lost 56) ∷ Posts 1 ∷ Takes 0 (Got 57) ∷ Posts 0 ∷
    Takes 3 (Got 59) ∷ Posts 3 ∷ Posts 4 ∷ Takes 3 (Called commands.Begin) ∷ Posts 3 ∷ Takes 1 (Got 60) ∷ Posts 1 ∷
    Takes 4 (Called commands.Commit) ∷ Posts 4 ∷ Takes 1 (Called (commands.Do 1 2)) ∷ Takes 0 (Got 61) ∷ Posts 0 ∷
    Posts 1 ∷ Takes 1 (Called (commands.Do 0 1)) ∷ Posts 1 ∷ Takes 0 (Got 62) ∷ Posts 0 ∷
    Takes 1 (Called commands.Commit) ∷ Posts 1 ∷ Takes 0 (Got 63) ∷ Posts 0 ∷ Acts (Phase 6) ∷ Takes 4 (Got 55) ∷
    Posts 4 ∷ Takes 2 (Called commands.Begin) ∷ Posts 2 ∷ Takes 1 (Got 58) ∷ Posts 1 ∷ Takes 1 (Called commands.Begin) ∷
    Posts 1 ∷ Takes 1 (Called (commands.Do 1 1)) ∷ Posts 1 ∷ Takes 0 (Got 64) ∷ Posts 0 ∷ Takes 1 (Got 65) ∷ Posts 1 ∷
    Takes 1 (Called commands.Commit) ∷ Posts 1 ∷ Takes 0 (Got 66) ∷ Posts 0 ∷ Takes 1 (Got 67) ∷ Posts 1 ∷
    Takes 0 (Got 68) ∷ Takes 1 (Called commands.Begin) ∷ Posts 1 ∷ Posts 0 ∷ Takes 1 (Called (commands.Do 1 2)) ∷
    Posts 1 ∷ Takes 0 (Got 69) ∷ Posts 0 ∷ Takes 1 (Got 70) ∷ Posts 1 ∷ Takes 0 (Got 71) ∷ Posts 0 ∷ Takes 1 (Got 72) ∷
    Posts 1 ∷ Takes 1 (Called (commands.Do 0 1)) ∷ Posts 1 ∷ Takes 0 (Got 73) ∷ Posts 0 ∷ Takes 1 (Got 74) ∷ Posts 1 ∷
    Takes 1 (Called (commands.Do 1 1)) ∷ Posts 1 ∷ Takes 0 (Got 75) ∷ Posts 0 ∷ Takes 1 (Got 76) ∷ Posts 1 ∷
    Takes 1 (Called commands.Commit) ∷ Posts 1 ∷ Takes 0 (Got 77) ∷ Posts 0 ∷ Takes 1 (Got 78) ∷ Posts 1 ∷
    Takes 0 (Got 79) ∷ Posts 0 ∷ Acts (Phase 7) ∷ Takes 2 (Called commands.Commit) ∷ Posts 2 ∷
    Takes 1 (Called commands.Begin) ∷ Takes 2 (Called commands.Begin) ∷ Posts 1 ∷ Posts 2 ∷
    Takes 1 (Called (commands.Do 1 0)) ∷ Takes 2 (Called commands.Commit) ∷ Posts 2 ∷ Posts 1 ∷ Takes 0 (Got 80) ∷
    Posts 0 ∷ Takes 1 (Got 81) ∷ Posts 1 ∷ Takes 1 (Called (commands.Do 0 1)) ∷ Posts 1 ∷ Takes 0 (Got 83) ∷
    Takes 3 (Got 82) ∷ Posts 3 ∷ Posts 0 ∷ Takes 0 (Got 84) ∷ Posts 0 ∷ Takes 1 (Got 85) ∷ Posts 1 ∷
    Takes 1 (Called commands.Commit) ∷ Posts 1 ∷ Takes 0 (Got 86) ∷ Posts 0 ∷ Takes 1 (Got 87) ∷ Posts 1 ∷
    Takes 0 (Got 88) ∷ Posts 0 ∷ []

abbrev pub history : List Entry
history =
    marked 6 (Phase 1) ∷ marked 3 (Called commands.Begin) ∷ marked 4 (Called commands.Begin) ∷
    marked 3 (Told (replies.Began (tx 2 1))) ∷ marked 4 (Told (replies.Began (tx 3 1))) ∷
    marked 1 (Called commands.Begin) ∷ marked 3 (Called (commands.Do 1 2)) ∷
    marked 3 (Sent 0 0 (messages.Request (tx 2 1) 1 0 (wants.Read (first_read 1 2))))
    ∷ marked 1 (Told (replies.Began (tx 0 1))) ∷
    marked 4 (Called (commands.Do 0 1)) ∷
    marked 4 (Sent 1 0 (messages.Request (tx 3 1) 1 0 (wants.Append 0 [] (own_line 1 0 2 ∷ [])))) ∷
    marked 2 (Called commands.Begin) ∷ marked 1 (Called (commands.Do 0 0)) ∷ marked 2 (Told (replies.Began (tx 1 1))) ∷
    marked 0 (Got 0) ∷ marked 0 (Sent 2 3 (messages.Answer 0 (answers.Granted (whole_grant 1 0 [])))) ∷ marked 3 (Got 2)
    ∷
    marked 3 (Sent 3 0 (messages.Request (tx 2 1) 1 1 (wants.Append 1 [] (own_line 1 1 3 ∷ [])))) ∷
    marked 1 (Sent 4 0 (messages.Request (tx 0 1) 1 0 (wants.Read (first_read 0 0)))) ∷
    marked 2 (Called (commands.Do 0 2))
    ∷
    marked 2 (Sent 5 0 (messages.Request (tx 1 1) 1 0 (wants.Read (first_read 0 2)))) ∷ marked 0 (Got 1) ∷
    marked 0 (Sent 6 4 (messages.Answer 1 (answers.Granted (whole_grant 1 0 [])))) ∷ marked 4 (Got 6) ∷
    marked 4 (Told (replies.Response 2)) ∷ marked 0 (Got 3) ∷
    marked 0 (Sent 7 3 (messages.Answer 3 (answers.Granted (whole_grant 1 0 [])))) ∷ marked 0 (Got 4) ∷ marked 3 (Got 7)
    ∷
    marked 3 (Told (replies.Response 2)) ∷ marked 3 (Called (commands.Do 1 0)) ∷
    marked 3 (Sent 8 0 (messages.Request (tx 2 1) 1 1 (wants.Read (first_read 1 0)))) ∷
    marked 0 (Sent 9 1 (messages.Answer 4 (answers.Clash (tx 3 1) 0 2))) ∷
    marked 0 (Sent 10 4 (messages.Inquiry (tx 3 1))) ∷ marked 1 (Got 9) ∷ marked 0 (Got 5) ∷ marked 4 (Got 10) ∷
    marked 0 (Sent 11 2 (messages.Answer 5 (answers.Granted (whole_grant 1 0 [])))) ∷ marked 2 (Got 11) ∷
    marked 2 (Sent 12 0 (messages.Request (tx 1 1) 1 1 (wants.Append 0 [] (own_line 1 0 3 ∷ [])))) ∷
    marked 4 (Sent 13 0 (messages.Decision (tx 3 1) outcomes.Active)) ∷ marked 0 (Got 8) ∷
    marked 0 (Sent 14 3 (messages.Answer 8 (answers.Granted (whole_grant 1 0 [])))) ∷ marked 3 (Got 14) ∷
    marked 3 (Sent 15 0 (messages.Request (tx 2 1) 1 1 (wants.Append 1 [] (own_line 1 1 3 ∷ own_line 2 1 1 ∷ [])))) ∷
    marked 1 (Told (replies.Conflict (tx 3 1) 0)) ∷ marked 1 (Called (commands.Do 1 2)) ∷ marked 0 (Got 12) ∷
    marked 1 (Sent 16 0 (messages.Request (tx 0 1) 1 0 (wants.Read (first_read 1 2)))) ∷
    marked 0 (Sent 17 2 (messages.Answer 12 (answers.Granted (whole_grant 1 0 [])))) ∷ marked 0 (Got 13)
    ∷ marked 2 (Got 17) ∷
    marked 0 (Got 15) ∷ marked 0 (Sent 18 3 (messages.Answer 15 (answers.Granted (whole_grant 1 0 []))))
    ∷ marked 3 (Got 18) ∷
    marked 0 (Got 16) ∷ marked 3 (Told (replies.Response 1)) ∷ marked 3 (Called (commands.Do 1 2)) ∷
    marked 0 (Sent 19 1 (messages.Answer 16 (answers.Clash (tx 2 1) 2 1))) ∷
    marked 0 (Sent 20 3 (messages.Inquiry (tx 2 1))) ∷
    marked 3 (Sent 21 0 (messages.Request (tx 2 1) 1 1 (wants.Read (first_read 1 2)))) ∷ marked 0 (Got 21)
    ∷ marked 3 (Got 20) ∷
    marked 3 (Sent 22 0 (messages.Decision (tx 2 1) outcomes.Active)) ∷ marked 1 (Got 19) ∷
    marked 2 (Told (replies.Response 2))
    ∷ marked 0 (Sent 23 3 (messages.Answer 21 (answers.Granted (whole_grant 1 0 [])))) ∷
    marked 2 (Called (commands.Do 1 2)) ∷ marked 3 (Lost 21) ∷
    marked 2 (Sent 24 0 (messages.Request (tx 1 1) 1 1 (wants.Read (first_read 1 2)))) ∷
    marked 3 (Told (replies.Quorum halves.Read 0 1)) ∷ marked 1 (Told (replies.Conflict (tx 2 1) 0)) ∷
    marked 0 (Got 22) ∷ marked 1 (Called commands.Commit) ∷ marked 0 (Got 24) ∷
    marked 1 (Wrote (commit (stamp 1 0) (tx 0 1) [])) ∷
    marked 1 (Sent 25 0 (messages.Decision (tx 0 1) (outcomes.Committed (stamp 1 0)))) ∷
    marked 1 (Told (replies.Committed (stamp 1 0))) ∷
    marked 0 (Sent 26 2 (messages.Answer 24 (answers.Clash (tx 2 1) 2 1))) ∷
    marked 0 (Sent 27 3 (messages.Inquiry (tx 2 1))) ∷ marked 0 (Got 25) ∷ marked 3 (Got 27) ∷ marked 2 (Got 26) ∷
    marked 3 (Sent 28 0 (messages.Decision (tx 2 1) outcomes.Active)) ∷ marked 2 (Told (replies.Conflict (tx 2 1) 0)) ∷
    marked 2 (Called commands.Commit) ∷ marked 2 (Sent 29 0 (messages.Request (tx 1 1) 1 1 wants.Prepare)) ∷
    marked 0 (Got 28) ∷ marked 0 (Got 29) ∷
    marked 0 (Wrote (prepare (tx 1 1) 1 (read_lock 0 2 ∷ []) (own_line 1 0 3 ∷ []) [])) ∷
    marked 0 (Sent 30 2 (messages.Answer 29 (answers.Yes 1))) ∷ marked 2 (Got 30) ∷
    marked 2 (Wrote (commit (stamp 2 1) (tx 1 1) (operation 0 2 (Some 2) ∷ []))) ∷
    marked 2 (Sent 31 0 (messages.Decision (tx 1 1) (outcomes.Committed (stamp 2 1)))) ∷
    marked 2 (Told (replies.Committed (stamp 2 1))) ∷ marked 2 (Called commands.Begin) ∷ marked 0 (Got 31) ∷
    marked 2 (Told (replies.Began (tx 1 2))) ∷ marked 0 (Wrote (records.Done (tx 1 1) 2)) ∷ marked 6 (Phase 2) ∷
    marked 2 (Called (commands.Do 1 0)) ∷ marked 3 (Got 23) ∷
    marked 2 (Sent 32 0 (messages.Request (tx 1 2) 1 0 (wants.Read (first_read 1 0)))) ∷ marked 0 (Got 32) ∷
    marked 0 (Sent 33 2 (messages.Answer 32 (answers.Clash (tx 2 1) 0 3))) ∷
    marked 0 (Sent 34 3 (messages.Inquiry (tx 2 1))) ∷ marked 2 (Got 33) ∷
    marked 2 (Told (replies.Conflict (tx 2 1) 0)) ∷ marked 2 (Called commands.Commit) ∷ marked 3 (Got 34) ∷
    marked 3 (Sent 35 0 (messages.Decision (tx 2 1) outcomes.Active)) ∷ marked 0 (Got 35) ∷
    marked 2 (Wrote (commit (stamp 3 1) (tx 1 2) [])) ∷
    marked 2 (Sent 36 0 (messages.Decision (tx 1 2) (outcomes.Committed (stamp 3 1)))) ∷
    marked 2 (Told (replies.Committed (stamp 3 1))) ∷ marked 0 (Got 36) ∷ marked 6 (Phase 3) ∷
    marked 3 (Called commands.Abort) ∷ marked 3 (Sent 37 0 (messages.Decision (tx 2 1) outcomes.Aborted)) ∷
    marked 3 (Told replies.Dropped) ∷ marked 0 (Got 37) ∷ marked 6 (Phase 4) ∷ marked 6 (Cut 0 2) ∷ marked 6 (Phase 5) ∷
    marked 6 (Heal 0 2) ∷ marked 3 (Called commands.Begin) ∷ marked 3 (Told (replies.Began (tx 2 2))) ∷
    marked 1 (Called commands.Begin) ∷ marked 1 (Told (replies.Began (tx 0 2))) ∷ marked 4 (Called (commands.Do 1 2)) ∷
    marked 1 (Called (commands.Do 1 2))
    ∷ marked 4 (Sent 38 0 (messages.Request (tx 3 1) 1 1 (wants.Read (first_read 1 2)))) ∷
    marked 1 (Sent 39 0 (messages.Request (tx 0 2) 1 0 (wants.Read (first_read 1 2))))
    ∷ marked 3 (Called (commands.Do 1 1)) ∷
    marked 3 (Sent 40 0 (messages.Request (tx 2 2) 1 0 (wants.Append 1 [] (own_line 1 1 2 ∷ [])))) ∷ marked 0 (Got 38) ∷
    marked 0 (Sent 41 4 (messages.Answer 38 (answers.Granted (whole_grant 1 3 [])))) ∷ marked 4 (Got 41) ∷
    marked 4 (Sent 42 0 (messages.Request (tx 3 1) 1 1 (wants.Append 1 [] (own_line 2 1 3 ∷ [])))) ∷ marked 0 (Got 39) ∷
    marked 0 (Sent 43 1 (messages.Answer 39 (answers.Granted (whole_grant 1 3 [])))) ∷ marked 0 (Got 40) ∷
    marked 0 (Sent 44 3 (messages.Answer 40 (answers.Granted (whole_grant 1 3 [])))) ∷ marked 3 (Got 44) ∷
    marked 3 (Told (replies.Response 2)) ∷ marked 1 (Got 43) ∷
    marked 1 (Sent 45 0 (messages.Request (tx 0 2) 1 1 (wants.Append 1 [] (own_line 1 1 3 ∷ [])))) ∷ marked 0 (Got 42) ∷
    marked 3 (Called (commands.Do 0 0))
    ∷ marked 3 (Sent 46 0 (messages.Request (tx 2 2) 1 1 (wants.Read (first_read 0 0)))) ∷
    marked 0 (Sent 47 4 (messages.Answer 42 (answers.Granted (whole_grant 1 3 [])))) ∷ marked 0 (Got 45)
    ∷ marked 4 (Got 47) ∷
    marked 4 (Told (replies.Response 2))
    ∷ marked 0 (Sent 48 1 (messages.Answer 45 (answers.Granted (whole_grant 1 3 [])))) ∷
    marked 1 (Got 48) ∷ marked 0 (Got 46) ∷ marked 4 (Called (commands.Do 0 1)) ∷ marked 1 (Told (replies.Response 2)) ∷
    marked 1 (Called (commands.Do 0 2)) ∷ marked 0 (Sent 49 3 (messages.Answer 46 (answers.Clash (tx 3 1) 0 2))) ∷
    marked 0 (Sent 50 4 (messages.Inquiry (tx 3 1))) ∷
    marked 1 (Sent 51 0 (messages.Request (tx 0 2) 1 1 (wants.Read (first_read 0 2)))) ∷
    marked 4 (Sent 52 0 (messages.Request (tx 3 1) 1 1 (wants.Append 0 [] (own_line 1 0 2 ∷ own_line 3 0 2 ∷ [])))) ∷
    marked 4 (Got 50) ∷ marked 4 (Sent 53 0 (messages.Decision (tx 3 1) outcomes.Active)) ∷ marked 3 (Got 49) ∷
    marked 0 (Got 51)
    ∷ marked 0 (Sent 54 1 (messages.Answer 51 (answers.Granted (whole_grant 1 3 (line 2 1 1 1 0 3 ∷ []))))) ∷
    marked 1 (Got 54) ∷ marked 0 (Got 52)
    ∷ marked 0 (Sent 55 4 (messages.Answer 52 (answers.Granted (whole_grant 1 3 [])))) ∷
    marked 1 (Sent 56 0 (messages.Request (tx 0 2) 1 1 (wants.Append 0 (line 2 1 1 1 0 3 ∷ []) (own_line 2 0 3 ∷ []))))
    ∷
    marked 3 (Told (replies.Conflict (tx 3 1) 0)) ∷ marked 0 (Got 53) ∷ marked 3 (Called (commands.Do 0 0)) ∷
    marked 4 (Lost 52) ∷ marked 4 (Told (replies.Quorum halves.Append 0 1)) ∷
    marked 3 (Sent 57 0 (messages.Request (tx 2 2) 1 1 (wants.Read (first_read 0 0)))) ∷ marked 0 (Got 56) ∷
    marked 4 (Called (commands.Do 1 2))
    ∷ marked 0 (Sent 58 1 (messages.Answer 56 (answers.Granted (whole_grant 1 3 [])))) ∷
    marked 1 (Lost 56) ∷ marked 1 (Told (replies.Quorum halves.Append 0 1)) ∷ marked 0 (Got 57) ∷
    marked 0 (Sent 59 3 (messages.Answer 57 (answers.Clash (tx 0 2) 0 3))) ∷
    marked 0 (Sent 60 1 (messages.Inquiry (tx 0 2))) ∷ marked 3 (Got 59) ∷
    marked 3 (Told (replies.Conflict (tx 0 2) 0)) ∷ marked 4 (Told replies.Doomed) ∷ marked 3 (Called commands.Begin) ∷
    marked 3 (Told (replies.Already (tx 2 2))) ∷ marked 1 (Got 60) ∷
    marked 1 (Sent 61 0 (messages.Decision (tx 0 2) outcomes.Active)) ∷ marked 4 (Called commands.Commit) ∷
    marked 4 (Sent 62 0 (messages.Decision (tx 3 1) outcomes.Aborted)) ∷
    marked 4 (Told (replies.Aborted causes.Doomed)) ∷ marked 1 (Called (commands.Do 1 2)) ∷ marked 0 (Got 61) ∷
    marked 1 (Told replies.Doomed) ∷ marked 1 (Called (commands.Do 0 1)) ∷ marked 1 (Told replies.Doomed) ∷
    marked 0 (Got 62) ∷ marked 1 (Called commands.Commit) ∷
    marked 1 (Sent 63 0 (messages.Decision (tx 0 2) outcomes.Aborted)) ∷
    marked 1 (Told (replies.Aborted causes.Doomed)) ∷ marked 0 (Got 63) ∷ marked 6 (Phase 6) ∷ marked 4 (Got 55) ∷
    marked 2 (Called commands.Begin) ∷ marked 2 (Told (replies.Began (tx 1 3))) ∷ marked 1 (Got 58) ∷
    marked 1 (Called commands.Begin) ∷ marked 1 (Told (replies.Began (tx 0 3))) ∷ marked 1 (Called (commands.Do 1 1)) ∷
    marked 1 (Sent 64 0 (messages.Request (tx 0 3) 1 0 (wants.Append 1 [] (own_line 1 1 2 ∷ [])))) ∷ marked 0 (Got 64) ∷
    marked 0 (Sent 65 1 (messages.Answer 64 (answers.Granted (whole_grant 1 3 [])))) ∷ marked 1 (Got 65) ∷
    marked 1 (Told (replies.Response 2)) ∷ marked 1 (Called commands.Commit) ∷
    marked 1 (Sent 66 0 (messages.Request (tx 0 3) 1 1 wants.Prepare)) ∷ marked 0 (Got 66) ∷
    marked 0 (Wrote (prepare (tx 0 3) 1 [] (own_line 1 1 2 ∷ []) [])) ∷
    marked 0 (Sent 67 1 (messages.Answer 66 (answers.Yes 3))) ∷ marked 1 (Got 67) ∷
    marked 1 (Wrote (commit (stamp 4 0) (tx 0 3) (operation 1 1 (Some 2) ∷ []))) ∷
    marked 1 (Sent 68 0 (messages.Decision (tx 0 3) (outcomes.Committed (stamp 4 0)))) ∷
    marked 1 (Told (replies.Committed (stamp 4 0))) ∷ marked 0 (Got 68) ∷ marked 1 (Called commands.Begin) ∷
    marked 1 (Told (replies.Began (tx 0 4))) ∷ marked 0 (Wrote (records.Done (tx 0 3) 4)) ∷
    marked 1 (Called (commands.Do 1 2))
    ∷ marked 1 (Sent 69 0 (messages.Request (tx 0 4) 1 0 (wants.Read (first_read 1 2)))) ∷
    marked 0 (Got 69)
    ∷ marked 0 (Sent 70 1 (messages.Answer 69 (answers.Granted (whole_grant 1 4 (line 4 0 3 1 1 2 ∷ []))))) ∷
    marked 1 (Got 70) ∷
    marked 1 (Sent 71 0 (messages.Request (tx 0 4) 1 1 (wants.Append 1 (line 4 0 3 1 1 2 ∷ []) (own_line 1 1 3 ∷ []))))
    ∷
    marked 0 (Got 71) ∷ marked 0 (Sent 72 1 (messages.Answer 71 (answers.Granted (whole_grant 1 4 []))))
    ∷ marked 1 (Got 72) ∷
    marked 1 (Told (replies.Response 2)) ∷ marked 1 (Called (commands.Do 0 1)) ∷
    marked 1 (Sent 73 0 (messages.Request (tx 0 4) 1 1 (wants.Append 0 [] (own_line 2 0 2 ∷ [])))) ∷ marked 0 (Got 73) ∷
    marked 0 (Sent 74 1 (messages.Answer 73 (answers.Granted (whole_grant 1 4 [])))) ∷ marked 1 (Got 74) ∷
    marked 1 (Told (replies.Response 2)) ∷ marked 1 (Called (commands.Do 1 1)) ∷
    marked 1 (Sent 75 0 (messages.Request (tx 0 4) 1 1 (wants.Append 1 (line 4 0 3 1 1 2 ∷ []) (own_line 1 1 3 ∷
    own_line 3 1 2 ∷ [])))) ∷
    marked 0 (Got 75) ∷ marked 0 (Sent 76 1 (messages.Answer 75 (answers.Granted (whole_grant 1 4 []))))
    ∷ marked 1 (Got 76) ∷
    marked 1 (Told (replies.Response 2)) ∷ marked 1 (Called commands.Commit) ∷
    marked 1 (Sent 77 0 (messages.Request (tx 0 4) 1 1 wants.Prepare)) ∷ marked 0 (Got 77) ∷
    marked 0 (Wrote (prepare (tx 0 4) 1 (read_lock 1 2 ∷ []) (own_line 1 1 3 ∷ own_line 2 0 2 ∷ own_line 3 1 2 ∷ [])
    [])) ∷
    marked 0 (Sent 78 1 (messages.Answer 77 (answers.Yes 4))) ∷ marked 1 (Got 78) ∷
    marked 1 (Wrote (commit (stamp 5 0) (tx 0 4) (operation 1 2 (Some 2) ∷ operation 0 1 (Some 2) ∷ operation 1 1 (Some
    2) ∷ []))) ∷
    marked 1 (Sent 79 0 (messages.Decision (tx 0 4) (outcomes.Committed (stamp 5 0)))) ∷
    marked 1 (Told (replies.Committed (stamp 5 0))) ∷ marked 0 (Got 79) ∷ marked 0 (Wrote (records.Done (tx 0 4) 5)) ∷
    marked 6 (Phase 7) ∷ marked 2 (Called commands.Commit) ∷ marked 2 (Wrote (commit (stamp 4 1) (tx 1 3) [])) ∷
    marked 2 (Told (replies.Committed (stamp 4 1))) ∷ marked 1 (Called commands.Begin) ∷
    marked 2 (Called commands.Begin) ∷ marked 1 (Told (replies.Began (tx 0 5))) ∷
    marked 2 (Told (replies.Began (tx 1 4))) ∷ marked 1 (Called (commands.Do 1 0)) ∷ marked 2 (Called commands.Commit) ∷
    marked 2 (Wrote (commit (stamp 5 1) (tx 1 4) [])) ∷ marked 2 (Told (replies.Committed (stamp 5 1))) ∷
    marked 1 (Sent 80 0 (messages.Request (tx 0 5) 1 0 (wants.Read (first_read 1 0)))) ∷ marked 0 (Got 80) ∷
    marked 0 (Sent 81 1 (messages.Answer 80 (answers.Clash (tx 2 2) 0 2))) ∷
    marked 0 (Sent 82 3 (messages.Inquiry (tx 2 2))) ∷ marked 1 (Got 81) ∷
    marked 1 (Told (replies.Conflict (tx 2 2) 0)) ∷ marked 1 (Called (commands.Do 0 1)) ∷
    marked 1 (Sent 83 0 (messages.Request (tx 0 5) 1 0 (wants.Append 0 [] (own_line 1 0 2 ∷ [])))) ∷ marked 0 (Got 83) ∷
    marked 3 (Got 82) ∷ marked 3 (Sent 84 0 (messages.Decision (tx 2 2) outcomes.Active)) ∷
    marked 0 (Sent 85 1 (messages.Answer 83 (answers.Granted (whole_grant 1 5 [])))) ∷ marked 0 (Got 84)
    ∷ marked 1 (Got 85) ∷
    marked 1 (Told (replies.Response 2)) ∷ marked 1 (Called commands.Commit) ∷
    marked 1 (Sent 86 0 (messages.Request (tx 0 5) 1 1 wants.Prepare)) ∷ marked 0 (Got 86) ∷
    marked 0 (Wrote (prepare (tx 0 5) 1 [] (own_line 1 0 2 ∷ []) [])) ∷
    marked 0 (Sent 87 1 (messages.Answer 86 (answers.Yes 5))) ∷ marked 1 (Got 87) ∷
    marked 1 (Wrote (commit (stamp 6 0) (tx 0 5) (operation 0 1 (Some 2) ∷ []))) ∷
    marked 1 (Sent 88 0 (messages.Decision (tx 0 5) (outcomes.Committed (stamp 6 0)))) ∷
    marked 1 (Told (replies.Committed (stamp 6 0))) ∷ marked 0 (Got 88) ∷ marked 0 (Wrote (records.Done (tx 0 5) 6)) ∷
    []
