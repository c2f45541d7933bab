-- Random: sites 1, clients 3, steps 311, messages 84, lost 2, cuts 2, commits 12, aborts 2, conflicts 7, short rounds
-- 1, absent 4.
use Rattle.std.specs.Prelude.{List, [], ◌∷◌, Some, None}
use Rattle.qc_decl.specs.declared.declaration.Declaration.{Declaration}
use Rattle.qc_decl.specs.Vocabulary.{row}
use Rattle.qc_msg.specs.Vocabulary.{Entry, marked}
use Rattle.tests_histories.specs.Play.{Move, Takes, Posts, Acts}
use Rattle.tests_histories.specs.Words.{tx, stamp, line, own_line, operation, read_lock, prepare, commit, declaration}
use Rattle.tests_histories.specs.Words.{kind, pair, plan}
use Rattle.qc_msg.specs.declared.step.Step.TheVariants.{Phase, Cut, Heal, Called, Got, Lost, Wrote, Sent, Told}
use Rattle.qc_msg.specs.declared.message.Answer.TheVariants as answers
use Rattle.qc_msg.specs.declared.reply.AbortCause.TheVariants as causes
use Rattle.qc_msg.specs.declared.step.Command.TheVariants as commands
use Rattle.qc_msg.specs.declared.reply.Half.TheVariants as halves
use Rattle.qc_msg.specs.declared.message.Message.TheVariants as messages
use Rattle.qc_msg.specs.declared.message.Outcome.TheVariants as outcomes
use Rattle.qc_msg.specs.declared.record.Record.TheVariants as records
use Rattle.qc_msg.specs.declared.reply.Reply.TheVariants as replies
use Rattle.qc_msg.specs.declared.message.Want.TheVariants as wants
use Rattle.qc_msg.specs.Vocabulary.{whole_grant, first_read}

abbrev pub decl : Declaration
decl =
    declaration 1 3 (kind 3 3 3 0 (row 0 0 0 1 ∷ row 0 0 1 2 ∷ row 1 1 0 1 ∷ row 2 1 1 2 ∷ row 1 2 2 0 ∷ row 2 2 2 0 ∷
    row 0 2 2 0 ∷ []) (pair 0 0 ∷ pair 0 1 ∷ pair 0 4 ∷ pair 1 0 ∷ pair 1 1 ∷ pair 1 4 ∷ []) ∷ []) (0 ∷ []) (plan (1 ∷
    []) ((1 ∷ 1 ∷ 0 ∷ []) ∷ []) ((1 ∷ 1 ∷ 0 ∷ 0 ∷ 1 ∷ []) ∷ []) ∷ plan (1 ∷ []) ((1 ∷ 1 ∷ 0 ∷ []) ∷ []) ((1 ∷ 1 ∷ 0 ∷ 0
    ∷ 1 ∷ []) ∷ []) ∷ plan (1 ∷ []) ((1 ∷ 1 ∷ 0 ∷ []) ∷ []) ((1 ∷ 1 ∷ 1 ∷ 1 ∷ 1 ∷ []) ∷ []) ∷ [])

abbrev pub moves : List Move
moves =
    Acts (Phase 1) ∷ Takes 1 (Called commands.Begin) ∷ Posts 1 ∷ Takes 2 (Called commands.Begin) ∷
    Takes 3 (Called commands.Begin) ∷ Posts 2 ∷ Posts 3 ∷ Takes 1 (Called (commands.Do 0 2)) ∷ Posts 1 ∷
    Takes 3 (Called (commands.Do 0 0)) ∷ Posts 3 ∷ Takes 0 (Got 0) ∷ Posts 0 ∷ Takes 0 (Got 1) ∷
    Takes 2 (Called (commands.Do 0 0)) ∷ Posts 0 ∷ Posts 2 ∷ Takes 1 (Got 2) ∷ Posts 1 ∷ Takes 1 (Got 4) ∷ Posts 1 ∷
    Takes 3 (Got 3) ∷ Posts 3 ∷ Takes 1 (Called (commands.Do 0 1)) ∷ Posts 1 ∷ Takes 3 (Called (commands.Do 0 0)) ∷
    Posts 3 ∷ Takes 0 (Got 5) ∷ Posts 0 ∷ Takes 2 (Got 9) ∷ Posts 2 ∷ Takes 0 (Got 6) ∷ Posts 0 ∷ Takes 1 (Got 10) ∷
    Posts 1 ∷ Takes 0 (Got 7) ∷ Posts 0 ∷ Takes 1 (Got 12) ∷ Posts 1 ∷ Takes 0 (Got 8) ∷
    Takes 1 (Called (commands.Do 0 1)) ∷ Posts 1 ∷ Posts 0 ∷ Takes 0 (Got 11) ∷ Posts 0 ∷ Takes 3 (Got 14) ∷ Posts 3 ∷
    Takes 1 (Got 15) ∷ Posts 1 ∷ Takes 1 (Lost 13) ∷ Posts 1 ∷ Takes 1 (Called commands.Commit) ∷ Posts 1 ∷
    Takes 0 (Got 16) ∷ Posts 0 ∷ Takes 0 (Got 17) ∷ Posts 0 ∷ Takes 1 (Got 18) ∷ Posts 1 ∷ Takes 0 (Got 17) ∷ Posts 0 ∷
    Takes 0 (Got 19) ∷ Posts 0 ∷ Takes 3 (Called commands.Commit) ∷ Posts 3 ∷ Takes 0 (Got 21) ∷ Posts 0 ∷
    Takes 1 (Got 20) ∷ Posts 1 ∷ Acts (Phase 2) ∷ Takes 0 (Got 7) ∷ Posts 0 ∷ Takes 1 (Got 10) ∷ Posts 1 ∷
    Takes 0 (Got 21) ∷ Posts 0 ∷ Takes 2 (Called (commands.Do 0 1)) ∷ Posts 2 ∷ Takes 1 (Got 22) ∷ Posts 1 ∷
    Takes 0 (Got 23) ∷ Posts 0 ∷ Takes 3 (Called commands.Begin) ∷ Takes 0 (Got 24) ∷ Posts 0 ∷ Posts 3 ∷
    Takes 1 (Called commands.Begin) ∷ Posts 1 ∷ Takes 2 (Got 25) ∷ Posts 2 ∷ Takes 2 (Called (commands.Do 0 2)) ∷
    Posts 2 ∷ Takes 0 (Got 26) ∷ Posts 0 ∷ Takes 2 (Got 27) ∷ Posts 2 ∷ Takes 1 (Called (commands.Do 0 2)) ∷ Posts 1 ∷
    Takes 0 (Got 28) ∷ Posts 0 ∷ Takes 1 (Got 29) ∷ Posts 1 ∷ Takes 2 (Got 30) ∷ Posts 2 ∷
    Takes 1 (Called (commands.Do 0 1)) ∷ Takes 0 (Got 31) ∷ Posts 0 ∷ Posts 1 ∷ Takes 2 (Called commands.Commit) ∷
    Posts 2 ∷ Takes 2 (Lost 32) ∷ Posts 2 ∷ Takes 0 (Got 33) ∷ Posts 0 ∷ Acts (Phase 3) ∷ Takes 0 (Got 26) ∷ Posts 0 ∷
    Takes 2 (Got 27) ∷ Posts 2 ∷ Takes 1 (Called commands.Commit) ∷ Posts 1 ∷ Takes 0 (Got 35) ∷ Posts 0 ∷
    Takes 2 (Got 34) ∷ Posts 2 ∷ Takes 3 (Called (commands.Do 0 1)) ∷ Posts 3 ∷ Takes 2 (Called commands.Begin) ∷
    Posts 2 ∷ Takes 1 (Called commands.Begin) ∷ Posts 1 ∷ Takes 1 (Called commands.Commit) ∷ Posts 1 ∷
    Takes 2 (Called (commands.Do 0 1)) ∷ Posts 2 ∷ Takes 0 (Got 36) ∷ Posts 0 ∷ Takes 3 (Got 38) ∷ Posts 3 ∷
    Takes 3 (Called commands.Commit) ∷ Posts 3 ∷ Takes 3 (Called commands.Begin) ∷ Posts 3 ∷
    Takes 3 (Called (commands.Do 0 0)) ∷ Posts 3 ∷ Takes 0 (Got 37) ∷ Posts 0 ∷ Takes 2 (Got 39) ∷ Takes 0 (Got 37) ∷
    Posts 2 ∷ Posts 0 ∷ Takes 0 (Got 41) ∷ Takes 2 (Got 42) ∷ Posts 2 ∷ Takes 2 (Got 43) ∷ Posts 0 ∷ Posts 2 ∷
    Takes 3 (Got 47) ∷ Posts 3 ∷ Takes 2 (Got 45) ∷ Posts 2 ∷ Takes 3 (Called commands.Commit) ∷ Posts 3 ∷
    Takes 2 (Got 46) ∷ Posts 2 ∷ Takes 0 (Got 44) ∷ Posts 0 ∷ Takes 2 (Got 48) ∷ Takes 0 (Got 49) ∷ Posts 0 ∷ Posts 2 ∷
    Takes 2 (Called commands.Commit) ∷ Posts 2 ∷ Takes 0 (Got 50) ∷ Posts 0 ∷ Takes 0 (Got 50) ∷ Posts 0 ∷
    Takes 0 (Got 51) ∷ Posts 0 ∷ Takes 0 (Got 52) ∷ Posts 0 ∷ Takes 0 (Got 53) ∷ Posts 0 ∷ Acts (Phase 4) ∷
    Acts (Cut 0 3) ∷ Takes 3 (Got 38) ∷ Posts 3 ∷ Takes 2 (Called commands.Begin) ∷ Posts 2 ∷
    Takes 2 (Called commands.Commit) ∷ Posts 2 ∷ Acts (Phase 5) ∷ Acts (Heal 0 3) ∷ Acts (Cut 1 3) ∷
    Takes 3 (Called commands.Begin) ∷ Takes 1 (Called commands.Begin) ∷ Posts 3 ∷ Takes 3 (Called commands.Commit) ∷
    Posts 3 ∷ Posts 1 ∷ Takes 1 (Called (commands.Do 0 2)) ∷ Posts 1 ∷ Takes 0 (Got 54) ∷ Posts 0 ∷
    Takes 2 (Called commands.Begin) ∷ Posts 2 ∷ Takes 1 (Got 55) ∷ Posts 1 ∷ Takes 1 (Called commands.Commit) ∷
    Takes 2 (Called commands.Begin) ∷ Posts 2 ∷ Posts 1 ∷ Takes 0 (Got 56) ∷ Posts 0 ∷ Takes 1 (Got 57) ∷ Posts 1 ∷
    Takes 1 (Called commands.Begin) ∷ Takes 0 (Got 58) ∷ Posts 0 ∷ Posts 1 ∷ Takes 1 (Called (commands.Do 0 0)) ∷
    Posts 1 ∷ Takes 0 (Got 59) ∷ Posts 0 ∷ Takes 1 (Got 60) ∷ Posts 1 ∷ Takes 0 (Got 61) ∷ Posts 0 ∷ Takes 1 (Got 62) ∷
    Posts 1 ∷ Acts (Phase 6) ∷ Acts (Heal 1 3) ∷ Takes 1 (Called (commands.Do 0 1)) ∷ Posts 1 ∷ Takes 0 (Got 63) ∷
    Posts 0 ∷ Takes 1 (Got 64) ∷ Posts 1 ∷ Takes 1 (Called commands.Commit) ∷ Posts 1 ∷ Takes 0 (Got 65) ∷ Posts 0 ∷
    Takes 1 (Got 66) ∷ Posts 1 ∷ Takes 1 (Called commands.Begin) ∷ Posts 1 ∷ Takes 1 (Called (commands.Do 0 1)) ∷
    Posts 1 ∷ Takes 0 (Got 67) ∷ Posts 0 ∷ Takes 0 (Got 68) ∷ Posts 0 ∷ Takes 1 (Got 69) ∷ Posts 1 ∷
    Takes 1 (Called (commands.Do 0 2)) ∷ Posts 1 ∷ Takes 0 (Got 70) ∷ Posts 0 ∷ Takes 1 (Got 71) ∷ Posts 1 ∷
    Takes 1 (Called commands.Commit) ∷ Posts 1 ∷ Takes 0 (Got 72) ∷ Posts 0 ∷ Takes 1 (Got 73) ∷ Posts 1 ∷
    Takes 0 (Got 74) ∷ Posts 0 ∷ Acts (Phase 7) ∷ Takes 1 (Called commands.Begin) ∷ Posts 1 ∷
    Takes 1 (Called (commands.Do 0 1)) ∷ Posts 1 ∷ Takes 0 (Got 75) ∷ Posts 0 ∷ Takes 1 (Got 76) ∷ Posts 1 ∷
    Takes 1 (Called (commands.Do 0 2)) ∷ Posts 1 ∷ Takes 0 (Got 77) ∷ Posts 0 ∷ Takes 1 (Got 78) ∷ Posts 1 ∷
    Takes 1 (Called (commands.Do 0 1)) ∷ Posts 1 ∷ Takes 0 (Got 79) ∷ Posts 0 ∷ Takes 1 (Got 80) ∷ Posts 1 ∷
    Takes 1 (Called commands.Commit) ∷ Posts 1 ∷ Takes 0 (Got 81) ∷ Posts 0 ∷ Takes 1 (Got 82) ∷ Posts 1 ∷
    Takes 0 (Got 83) ∷ Posts 0 ∷ []

abbrev pub history : List Entry
history =
    marked 5 (Phase 1) ∷ marked 1 (Called commands.Begin) ∷ marked 1 (Told (replies.Began (tx 0 1))) ∷
    marked 2 (Called commands.Begin) ∷ marked 3 (Called commands.Begin) ∷ marked 2 (Told (replies.Began (tx 1 1))) ∷
    marked 3 (Told (replies.Began (tx 2 1))) ∷ marked 1 (Called (commands.Do 0 2)) ∷
    marked 1 (Sent 0 0 (messages.Request (tx 0 1) 1 0 (wants.Append 0 [] (own_line 1 0 4 ∷ [])))) ∷
    marked 3 (Called (commands.Do 0 0)) ∷
    marked 3 (Sent 1 0 (messages.Request (tx 2 1) 1 0 (wants.Read (first_read 0 0))))
    ∷
    marked 0 (Got 0) ∷ marked 0 (Sent 2 1 (messages.Answer 0 (answers.Granted (whole_grant 1 0 [])))) ∷ marked 0 (Got 1)
    ∷
    marked 2 (Called (commands.Do 0 0)) ∷ marked 0 (Sent 3 3 (messages.Answer 1 (answers.Clash (tx 0 1) 0 4))) ∷
    marked 0 (Sent 4 1 (messages.Inquiry (tx 0 1))) ∷
    marked 2 (Sent 5 0 (messages.Request (tx 1 1) 1 0 (wants.Read (first_read 0 0)))) ∷ marked 1 (Got 2) ∷
    marked 1 (Told (replies.Response 2)) ∷ marked 1 (Got 4) ∷
    marked 1 (Sent 6 0 (messages.Decision (tx 0 1) outcomes.Active)) ∷ marked 3 (Got 3) ∷
    marked 3 (Told (replies.Conflict (tx 0 1) 0)) ∷ marked 1 (Called (commands.Do 0 1)) ∷
    marked 1 (Sent 7 0 (messages.Request (tx 0 1) 1 1 (wants.Read (first_read 0 1)))) ∷
    marked 3 (Called (commands.Do 0 0))
    ∷
    marked 3 (Sent 8 0 (messages.Request (tx 2 1) 1 0 (wants.Read (first_read 0 0)))) ∷ marked 0 (Got 5) ∷
    marked 0 (Sent 9 2 (messages.Answer 5 (answers.Clash (tx 0 1) 0 4))) ∷
    marked 0 (Sent 10 1 (messages.Inquiry (tx 0 1))) ∷ marked 2 (Got 9) ∷
    marked 2 (Told (replies.Conflict (tx 0 1) 0)) ∷ marked 0 (Got 6) ∷ marked 1 (Got 10) ∷
    marked 1 (Sent 11 0 (messages.Decision (tx 0 1) outcomes.Active)) ∷ marked 0 (Got 7) ∷
    marked 0 (Sent 12 1 (messages.Answer 7 (answers.Granted (whole_grant 1 0 [])))) ∷ marked 1 (Got 12) ∷
    marked 1 (Told replies.Absent) ∷ marked 0 (Got 8) ∷ marked 1 (Called (commands.Do 0 1)) ∷
    marked 1 (Sent 13 0 (messages.Request (tx 0 1) 1 1 (wants.Read (first_read 0 1)))) ∷
    marked 0 (Sent 14 3 (messages.Answer 8 (answers.Clash (tx 0 1) 0 4))) ∷
    marked 0 (Sent 15 1 (messages.Inquiry (tx 0 1))) ∷ marked 0 (Got 11) ∷ marked 3 (Got 14) ∷
    marked 3 (Told (replies.Conflict (tx 0 1) 0)) ∷ marked 1 (Got 15) ∷
    marked 1 (Sent 16 0 (messages.Decision (tx 0 1) outcomes.Active)) ∷ marked 1 (Lost 13) ∷
    marked 1 (Told (replies.Quorum halves.Read 0 1)) ∷ marked 1 (Called commands.Commit) ∷
    marked 1 (Sent 17 0 (messages.Request (tx 0 1) 1 1 wants.Prepare)) ∷ marked 0 (Got 16) ∷ marked 0 (Got 17) ∷
    marked 0 (Wrote (prepare (tx 0 1) 1 (read_lock 0 1 ∷ []) (own_line 1 0 4 ∷ []) [])) ∷
    marked 0 (Sent 18 1 (messages.Answer 17 (answers.Yes 0))) ∷ marked 1 (Got 18) ∷
    marked 1 (Wrote (commit (stamp 1 0) (tx 0 1) (operation 0 2 (Some 2) ∷ operation 0 1 None ∷ []))) ∷
    marked 1 (Sent 19 0 (messages.Decision (tx 0 1) (outcomes.Committed (stamp 1 0)))) ∷
    marked 1 (Told (replies.Committed (stamp 1 0))) ∷ marked 0 (Got 17) ∷
    marked 0 (Sent 20 1 (messages.Answer 17 (answers.Yes 0))) ∷ marked 0 (Got 19) ∷
    marked 0 (Wrote (records.Done (tx 0 1) 1)) ∷ marked 3 (Called commands.Commit) ∷
    marked 3 (Wrote (commit (stamp 1 2) (tx 2 1) [])) ∷
    marked 3 (Sent 21 0 (messages.Decision (tx 2 1) (outcomes.Committed (stamp 1 2)))) ∷
    marked 3 (Told (replies.Committed (stamp 1 2))) ∷ marked 0 (Got 21) ∷ marked 1 (Got 20) ∷ marked 5 (Phase 2) ∷
    marked 0 (Got 7)
    ∷ marked 0 (Sent 22 1 (messages.Answer 7 (answers.Granted (whole_grant 1 1 (line 1 0 1 1 0 4 ∷ []))))) ∷
    marked 1 (Got 10) ∷ marked 1 (Sent 23 0 (messages.Decision (tx 0 1) (outcomes.Committed (stamp 1 0)))) ∷
    marked 0 (Got 21) ∷ marked 2 (Called (commands.Do 0 1)) ∷
    marked 2 (Sent 24 0 (messages.Request (tx 1 1) 1 0 (wants.Read (first_read 0 1)))) ∷ marked 1 (Got 22)
    ∷ marked 0 (Got 23) ∷
    marked 3 (Called commands.Begin) ∷ marked 0 (Got 24) ∷
    marked 0 (Sent 25 2 (messages.Answer 24 (answers.Granted (whole_grant 1 1 (line 1 0 1 1 0 4 ∷ []))))) ∷
    marked 3 (Told (replies.Began (tx 2 2))) ∷ marked 1 (Called commands.Begin) ∷
    marked 1 (Told (replies.Began (tx 0 2))) ∷ marked 2 (Got 25) ∷ marked 2 (Told replies.Absent) ∷
    marked 2 (Called (commands.Do 0 2)) ∷
    marked 2 (Sent 26 0 (messages.Request (tx 1 1) 1 1 (wants.Append 0 (line 1 0 1 1 0 4 ∷ []) (own_line 2 0 4 ∷ []))))
    ∷
    marked 0 (Got 26) ∷ marked 0 (Sent 27 2 (messages.Answer 26 (answers.Granted (whole_grant 1 1 []))))
    ∷ marked 2 (Got 27) ∷
    marked 2 (Told (replies.Response 2)) ∷ marked 1 (Called (commands.Do 0 2)) ∷
    marked 1 (Sent 28 0 (messages.Request (tx 0 2) 1 0 (wants.Append 0 [] (own_line 1 0 4 ∷ [])))) ∷ marked 0 (Got 28) ∷
    marked 0 (Sent 29 1 (messages.Answer 28 (answers.Clash (tx 1 1) 1 4))) ∷
    marked 0 (Sent 30 2 (messages.Inquiry (tx 1 1))) ∷ marked 1 (Got 29) ∷
    marked 1 (Told (replies.Conflict (tx 1 1) 0)) ∷ marked 2 (Got 30) ∷
    marked 2 (Sent 31 0 (messages.Decision (tx 1 1) outcomes.Active)) ∷ marked 1 (Called (commands.Do 0 1)) ∷
    marked 0 (Got 31) ∷ marked 1 (Told replies.Doomed) ∷ marked 2 (Called commands.Commit) ∷
    marked 2 (Sent 32 0 (messages.Request (tx 1 1) 1 1 wants.Prepare)) ∷ marked 2 (Lost 32) ∷
    marked 2 (Sent 33 0 (messages.Decision (tx 1 1) outcomes.Aborted)) ∷
    marked 2 (Told (replies.Aborted (causes.NoAnswer 0))) ∷ marked 0 (Got 33) ∷ marked 5 (Phase 3) ∷ marked 0 (Got 26) ∷
    marked 0 (Sent 34 2 (messages.Answer 26 (answers.Granted (whole_grant 1 1 [])))) ∷ marked 2 (Got 27) ∷
    marked 1 (Called commands.Commit) ∷ marked 1 (Sent 35 0 (messages.Decision (tx 0 2) outcomes.Aborted)) ∷
    marked 1 (Told (replies.Aborted causes.Doomed)) ∷ marked 0 (Got 35) ∷ marked 2 (Got 34) ∷
    marked 3 (Called (commands.Do 0 1))
    ∷ marked 3 (Sent 36 0 (messages.Request (tx 2 2) 1 0 (wants.Read (first_read 0 1)))) ∷
    marked 2 (Called commands.Begin) ∷ marked 2 (Told (replies.Began (tx 1 2))) ∷ marked 1 (Called commands.Begin) ∷
    marked 1 (Told (replies.Began (tx 0 3))) ∷ marked 1 (Called commands.Commit) ∷
    marked 1 (Wrote (commit (stamp 2 0) (tx 0 3) [])) ∷ marked 1 (Told (replies.Committed (stamp 2 0))) ∷
    marked 2 (Called (commands.Do 0 1))
    ∷ marked 2 (Sent 37 0 (messages.Request (tx 1 2) 1 0 (wants.Read (first_read 0 1)))) ∷
    marked 0 (Got 36) ∷ marked 0 (Sent 38 3 (messages.Answer 36 (answers.Clash (tx 1 1) 1 4))) ∷
    marked 0 (Sent 39 2 (messages.Inquiry (tx 1 1))) ∷ marked 3 (Got 38) ∷
    marked 3 (Told (replies.Conflict (tx 1 1) 0)) ∷ marked 3 (Called commands.Commit) ∷
    marked 3 (Wrote (commit (stamp 2 2) (tx 2 2) [])) ∷
    marked 3 (Sent 40 0 (messages.Decision (tx 2 2) (outcomes.Committed (stamp 2 2)))) ∷
    marked 3 (Told (replies.Committed (stamp 2 2))) ∷ marked 3 (Called commands.Begin) ∷
    marked 3 (Told (replies.Began (tx 2 3))) ∷ marked 3 (Called (commands.Do 0 0)) ∷
    marked 3 (Sent 41 0 (messages.Request (tx 2 3) 1 0 (wants.Read (first_read 0 0)))) ∷ marked 0 (Got 37) ∷
    marked 0 (Sent 42 2 (messages.Answer 37 (answers.Clash (tx 1 1) 1 4))) ∷
    marked 0 (Sent 43 2 (messages.Inquiry (tx 1 1))) ∷ marked 2 (Got 39) ∷ marked 0 (Got 37) ∷
    marked 2 (Sent 44 0 (messages.Decision (tx 1 1) outcomes.Aborted)) ∷
    marked 0 (Sent 45 2 (messages.Answer 37 (answers.Clash (tx 1 1) 1 4))) ∷
    marked 0 (Sent 46 2 (messages.Inquiry (tx 1 1))) ∷ marked 0 (Got 41) ∷ marked 2 (Got 42) ∷
    marked 2 (Told (replies.Conflict (tx 1 1) 0)) ∷ marked 2 (Got 43) ∷
    marked 0 (Sent 47 3 (messages.Answer 41 (answers.Clash (tx 1 1) 0 4))) ∷
    marked 0 (Sent 48 2 (messages.Inquiry (tx 1 1))) ∷
    marked 2 (Sent 49 0 (messages.Decision (tx 1 1) outcomes.Aborted)) ∷ marked 3 (Got 47) ∷
    marked 3 (Told (replies.Conflict (tx 1 1) 0)) ∷ marked 2 (Got 45) ∷ marked 3 (Called commands.Commit) ∷
    marked 3 (Wrote (commit (stamp 3 2) (tx 2 3) [])) ∷
    marked 3 (Sent 50 0 (messages.Decision (tx 2 3) (outcomes.Committed (stamp 3 2)))) ∷
    marked 3 (Told (replies.Committed (stamp 3 2))) ∷ marked 2 (Got 46) ∷
    marked 2 (Sent 51 0 (messages.Decision (tx 1 1) outcomes.Aborted)) ∷ marked 0 (Got 44) ∷ marked 2 (Got 48) ∷
    marked 0 (Got 49) ∷ marked 2 (Sent 52 0 (messages.Decision (tx 1 1) outcomes.Aborted)) ∷
    marked 2 (Called commands.Commit) ∷ marked 2 (Wrote (commit (stamp 2 1) (tx 1 2) [])) ∷
    marked 2 (Sent 53 0 (messages.Decision (tx 1 2) (outcomes.Committed (stamp 2 1)))) ∷
    marked 2 (Told (replies.Committed (stamp 2 1))) ∷ marked 0 (Got 50) ∷ marked 0 (Got 50) ∷ marked 0 (Got 51) ∷
    marked 0 (Got 52) ∷ marked 0 (Got 53) ∷ marked 5 (Phase 4) ∷ marked 5 (Cut 0 3) ∷ marked 3 (Got 38) ∷
    marked 2 (Called commands.Begin) ∷ marked 2 (Told (replies.Began (tx 1 3))) ∷ marked 2 (Called commands.Commit) ∷
    marked 2 (Wrote (commit (stamp 3 1) (tx 1 3) [])) ∷ marked 2 (Told (replies.Committed (stamp 3 1))) ∷
    marked 5 (Phase 5) ∷ marked 5 (Heal 0 3) ∷ marked 5 (Cut 1 3) ∷ marked 3 (Called commands.Begin) ∷
    marked 1 (Called commands.Begin) ∷ marked 3 (Told (replies.Began (tx 2 4))) ∷ marked 3 (Called commands.Commit) ∷
    marked 3 (Wrote (commit (stamp 4 2) (tx 2 4) [])) ∷ marked 3 (Told (replies.Committed (stamp 4 2))) ∷
    marked 1 (Told (replies.Began (tx 0 4))) ∷ marked 1 (Called (commands.Do 0 2)) ∷
    marked 1 (Sent 54 0 (messages.Request (tx 0 4) 1 0 (wants.Append 0 [] (own_line 1 0 4 ∷ [])))) ∷ marked 0 (Got 54) ∷
    marked 0 (Sent 55 1 (messages.Answer 54 (answers.Granted (whole_grant 1 3 [])))) ∷
    marked 2 (Called commands.Begin) ∷
    marked 2 (Told (replies.Began (tx 1 4))) ∷ marked 1 (Got 55) ∷ marked 1 (Told (replies.Response 2)) ∷
    marked 1 (Called commands.Commit) ∷ marked 2 (Called commands.Begin) ∷ marked 2 (Told (replies.Already (tx 1 4))) ∷
    marked 1 (Sent 56 0 (messages.Request (tx 0 4) 1 1 wants.Prepare)) ∷ marked 0 (Got 56) ∷
    marked 0 (Wrote (prepare (tx 0 4) 1 [] (own_line 1 0 4 ∷ []) [])) ∷
    marked 0 (Sent 57 1 (messages.Answer 56 (answers.Yes 3))) ∷ marked 1 (Got 57) ∷
    marked 1 (Wrote (commit (stamp 4 0) (tx 0 4) (operation 0 2 (Some 2) ∷ []))) ∷
    marked 1 (Sent 58 0 (messages.Decision (tx 0 4) (outcomes.Committed (stamp 4 0)))) ∷
    marked 1 (Told (replies.Committed (stamp 4 0))) ∷ marked 1 (Called commands.Begin) ∷ marked 0 (Got 58) ∷
    marked 0 (Wrote (records.Done (tx 0 4) 4)) ∷ marked 1 (Told (replies.Began (tx 0 5))) ∷
    marked 1 (Called (commands.Do 0 0))
    ∷ marked 1 (Sent 59 0 (messages.Request (tx 0 5) 1 0 (wants.Read (first_read 0 0)))) ∷
    marked 0 (Got 59) ∷
    marked 0
    (Sent 60 1 (messages.Answer 59 (answers.Granted (whole_grant 1 4 (line 1 0 1 1 0 4 ∷ line 4 0 4 1 0 4 ∷ []))))) ∷
    marked 1 (Got 60) ∷
    marked 1 (Sent 61 0 (messages.Request (tx 0 5) 1 1 (wants.Append 0 (line 1 0 1 1 0 4 ∷ line 4 0 4 1 0 4 ∷ [])
    (own_line 1 0 0 ∷ [])))) ∷
    marked 0 (Got 61) ∷ marked 0 (Sent 62 1 (messages.Answer 61 (answers.Granted (whole_grant 1 4 []))))
    ∷ marked 1 (Got 62) ∷
    marked 1 (Told (replies.Response 0)) ∷ marked 5 (Phase 6) ∷ marked 5 (Heal 1 3) ∷
    marked 1 (Called (commands.Do 0 1))
    ∷ marked 1 (Sent 63 0 (messages.Request (tx 0 5) 1 1 (wants.Read (first_read 0 1)))) ∷
    marked 0 (Got 63) ∷
    marked 0
    (Sent 64 1 (messages.Answer 63 (answers.Granted (whole_grant 1 4 (line 1 0 1 1 0 4 ∷ line 4 0 4 1 0 4 ∷ []))))) ∷
    marked 1 (Got 64) ∷ marked 1 (Told (replies.Response 0)) ∷ marked 1 (Called commands.Commit) ∷
    marked 1 (Sent 65 0 (messages.Request (tx 0 5) 1 1 wants.Prepare)) ∷ marked 0 (Got 65) ∷
    marked 0 (Wrote (prepare (tx 0 5) 1 (read_lock 0 0 ∷ read_lock 0 1 ∷ []) (own_line 1 0 0 ∷ []) [])) ∷
    marked 0 (Sent 66 1 (messages.Answer 65 (answers.Yes 4))) ∷ marked 1 (Got 66) ∷
    marked 1 (Wrote (commit (stamp 5 0) (tx 0 5) (operation 0 0 (Some 0) ∷ operation 0 1 (Some 0) ∷ []))) ∷
    marked 1 (Sent 67 0 (messages.Decision (tx 0 5) (outcomes.Committed (stamp 5 0)))) ∷
    marked 1 (Told (replies.Committed (stamp 5 0))) ∷ marked 1 (Called commands.Begin) ∷
    marked 1 (Told (replies.Began (tx 0 6))) ∷ marked 1 (Called (commands.Do 0 1)) ∷
    marked 1 (Sent 68 0 (messages.Request (tx 0 6) 1 0 (wants.Read (first_read 0 1)))) ∷ marked 0 (Got 67) ∷
    marked 0 (Wrote (records.Done (tx 0 5) 5)) ∷ marked 0 (Got 68) ∷
    marked 0
    (Sent 69 1
    (messages.Answer 68
    (answers.Granted (whole_grant 1 5 (line 1 0 1 1 0 4 ∷ line 4 0 4 1 0 4 ∷ line 5 0 5 1 0 0 ∷ []))))) ∷
    marked 1 (Got 69) ∷ marked 1 (Told (replies.Response 0)) ∷ marked 1 (Called (commands.Do 0 2)) ∷
    marked 1 (Sent 70 0 (messages.Request (tx 0 6) 1 1 (wants.Append 0 (line 1 0 1 1 0 4 ∷ line 4 0 4 1 0 4 ∷ line 5 0 5
    1 0 0 ∷ []) (own_line 2 0 4 ∷ [])))) ∷
    marked 0 (Got 70) ∷ marked 0 (Sent 71 1 (messages.Answer 70 (answers.Granted (whole_grant 1 5 []))))
    ∷ marked 1 (Got 71) ∷
    marked 1 (Told (replies.Response 2)) ∷ marked 1 (Called commands.Commit) ∷
    marked 1 (Sent 72 0 (messages.Request (tx 0 6) 1 1 wants.Prepare)) ∷ marked 0 (Got 72) ∷
    marked 0 (Wrote (prepare (tx 0 6) 1 (read_lock 0 1 ∷ []) (own_line 2 0 4 ∷ []) [])) ∷
    marked 0 (Sent 73 1 (messages.Answer 72 (answers.Yes 5))) ∷ marked 1 (Got 73) ∷
    marked 1 (Wrote (commit (stamp 6 0) (tx 0 6) (operation 0 1 (Some 0) ∷ operation 0 2 (Some 2) ∷ []))) ∷
    marked 1 (Sent 74 0 (messages.Decision (tx 0 6) (outcomes.Committed (stamp 6 0)))) ∷
    marked 1 (Told (replies.Committed (stamp 6 0))) ∷ marked 0 (Got 74) ∷ marked 0 (Wrote (records.Done (tx 0 6) 6)) ∷
    marked 5 (Phase 7) ∷ marked 1 (Called commands.Begin) ∷ marked 1 (Told (replies.Began (tx 0 7))) ∷
    marked 1 (Called (commands.Do 0 1))
    ∷ marked 1 (Sent 75 0 (messages.Request (tx 0 7) 1 0 (wants.Read (first_read 0 1)))) ∷
    marked 0 (Got 75) ∷
    marked 0
    (Sent 76 1
    (messages.Answer 75
    (answers.Granted (whole_grant 1 6
    (line 1 0 1 1 0 4 ∷ line 4 0 4 1 0 4 ∷ line 5 0 5 1 0 0 ∷ line 6 0 6 2 0 4 ∷ []))))) ∷
    marked 1 (Got 76) ∷ marked 1 (Told replies.Absent) ∷ marked 1 (Called (commands.Do 0 2)) ∷
    marked 1 (Sent 77 0 (messages.Request (tx 0 7) 1 1 (wants.Append 0 (line 1 0 1 1 0 4 ∷ line 4 0 4 1 0 4 ∷ line 5 0 5
    1 0 0 ∷ line 6 0 6 2 0 4 ∷ []) (own_line 2 0 4 ∷ [])))) ∷
    marked 0 (Got 77) ∷ marked 0 (Sent 78 1 (messages.Answer 77 (answers.Granted (whole_grant 1 6 []))))
    ∷ marked 1 (Got 78) ∷
    marked 1 (Told (replies.Response 2)) ∷ marked 1 (Called (commands.Do 0 1)) ∷
    marked 1 (Sent 79 0 (messages.Request (tx 0 7) 1 1 (wants.Read (first_read 0 1)))) ∷ marked 0 (Got 79) ∷
    marked 0
    (Sent 80 1
    (messages.Answer 79
    (answers.Granted (whole_grant 1 6
    (line 1 0 1 1 0 4 ∷ line 4 0 4 1 0 4 ∷ line 5 0 5 1 0 0 ∷ line 6 0 6 2 0 4 ∷ []))))) ∷
    marked 1 (Got 80) ∷ marked 1 (Told replies.Absent) ∷ marked 1 (Called commands.Commit) ∷
    marked 1 (Sent 81 0 (messages.Request (tx 0 7) 1 1 wants.Prepare)) ∷ marked 0 (Got 81) ∷
    marked 0 (Wrote (prepare (tx 0 7) 1 (read_lock 0 1 ∷ []) (own_line 2 0 4 ∷ []) [])) ∷
    marked 0 (Sent 82 1 (messages.Answer 81 (answers.Yes 6))) ∷ marked 1 (Got 82) ∷
    marked 1 (Wrote (commit (stamp 7 0) (tx 0 7) (operation 0 1 None ∷ operation 0 2 (Some 2) ∷ operation 0 1 None ∷
    []))) ∷
    marked 1 (Sent 83 0 (messages.Decision (tx 0 7) (outcomes.Committed (stamp 7 0)))) ∷
    marked 1 (Told (replies.Committed (stamp 7 0))) ∷ marked 0 (Got 83) ∷ marked 0 (Wrote (records.Done (tx 0 7) 7)) ∷
    []
