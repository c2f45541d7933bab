-- Random: sites 4, clients 1, steps 128, messages 44, lost 6, commits 1, aborts 2, conflicts 1, short rounds 1.
use Rattle.std.specs.Prelude.{List, [], ◌∷◌}
use Rattle.qc_decl.specs.declared.declaration.Declaration.{Declaration}
use Rattle.qc_decl.specs.Vocabulary.{row}
use Rattle.qc_msg.specs.Vocabulary.{Entry, marked}
use Rattle.tests_histories.specs.Play.{Move, Takes, Posts, Acts}
use Rattle.tests_histories.specs.Words.{tx, stamp, own_line, read_lock, prepare, commit, declaration, kind, pair, plan}
use Rattle.qc_msg.specs.declared.step.Step.TheVariants.{Phase, Called, Got, Lost, Wrote, Sent, Told}
use Rattle.qc_msg.specs.declared.message.Answer.TheVariants as answers
use Rattle.qc_msg.specs.declared.reply.AbortCause.TheVariants as causes
use Rattle.qc_msg.specs.declared.step.Command.TheVariants as commands
use Rattle.qc_msg.specs.declared.reply.Half.TheVariants as halves
use Rattle.qc_msg.specs.declared.message.Message.TheVariants as messages
use Rattle.qc_msg.specs.declared.message.Outcome.TheVariants as outcomes
use Rattle.qc_msg.specs.declared.reply.Reply.TheVariants as replies
use Rattle.qc_msg.specs.declared.message.Want.TheVariants as wants
use Rattle.qc_msg.specs.Vocabulary.{whole_grant, first_read}

abbrev pub decl : Declaration
decl =
    declaration 4 1 (kind 4 3 3 0 (row 0 0 0 1 ∷ row 0 1 0 2 ∷ row 1 1 0 3 ∷ row 2 0 0 3 ∷ row 1 2 1 0 ∷ row 2 2 2 0 ∷
    row 3 2 1 2 ∷ row 3 2 2 1 ∷ []) (pair 0 0 ∷ pair 0 2 ∷ pair 1 1 ∷ pair 1 3 ∷ pair 2 0 ∷ pair 2 1 ∷ pair 2 2 ∷ pair 2
    3 ∷ []) ∷ kind 4 3 3 0 (row 0 0 0 1 ∷ row 0 1 2 3 ∷ row 0 2 0 2 ∷ row 1 0 2 3 ∷ row 1 2 2 0 ∷ row 1 2 1 3 ∷ row 2 0
    0 0 ∷ row 2 1 0 1 ∷ row 3 0 2 3 ∷ row 3 1 2 3 ∷ []) (pair 0 0 ∷ pair 0 1 ∷ pair 0 2 ∷ pair 0 4 ∷ pair 0 6 ∷ pair 1 0
    ∷ pair 1 2 ∷ pair 1 3 ∷ pair 1 4 ∷ pair 1 5 ∷ pair 1 6 ∷ pair 2 0 ∷ pair 2 1 ∷ pair 2 2 ∷ pair 2 3 ∷ pair 2 4 ∷ pair
    2 5 ∷ pair 2 6 ∷ []) ∷ []) (0 ∷ []) (plan (0 ∷ 1 ∷ 1 ∷ 1 ∷ []) ((2 ∷ 1 ∷ 3 ∷ []) ∷ []) ((2 ∷ 3 ∷ 2 ∷ 3 ∷ []) ∷ []) ∷
    plan (1 ∷ 1 ∷ 1 ∷ 1 ∷ []) ((2 ∷ 3 ∷ 1 ∷ []) ∷ []) ((4 ∷ 4 ∷ 4 ∷ 4 ∷ []) ∷ []) ∷ plan (1 ∷ 3 ∷ 2 ∷ 1 ∷ []) ((2 ∷ 5 ∷
    4 ∷ []) ∷ []) ((6 ∷ 4 ∷ 7 ∷ 4 ∷ []) ∷ []) ∷ [])

abbrev pub moves : List Move
moves =
    Acts (Phase 1) ∷ Takes 4 (Called commands.Begin) ∷ Posts 4 ∷ Takes 4 (Called (commands.Do 0 1)) ∷ Posts 4 ∷
    Takes 1 (Got 0) ∷ Posts 1 ∷ Takes 4 (Lost 0) ∷ Posts 4 ∷ Takes 2 (Got 2) ∷ Posts 2 ∷ Takes 4 (Got 3) ∷ Posts 4 ∷
    Takes 3 (Got 6) ∷ Takes 1 (Got 4) ∷ Takes 2 (Got 5) ∷ Posts 2 ∷ Takes 4 (Got 7) ∷ Posts 4 ∷ Posts 1 ∷ Posts 3 ∷
    Takes 4 (Got 7) ∷ Posts 4 ∷ Takes 4 (Got 8) ∷ Posts 4 ∷ Takes 4 (Got 8) ∷ Posts 4 ∷ Takes 4 (Got 9) ∷ Posts 4 ∷
    Takes 4 (Called commands.Commit) ∷ Posts 4 ∷ Takes 2 (Got 11) ∷ Takes 1 (Got 10) ∷ Posts 2 ∷ Takes 3 (Got 12) ∷
    Takes 4 (Got 13) ∷ Posts 4 ∷ Posts 1 ∷ Takes 4 (Lost 10) ∷ Posts 4 ∷ Posts 3 ∷ Takes 4 (Got 15) ∷ Posts 4 ∷
    Takes 3 (Got 18) ∷ Posts 3 ∷ Takes 4 (Got 15) ∷ Posts 4 ∷ Acts (Phase 2) ∷ Takes 4 (Got 1) ∷ Posts 4 ∷
    Takes 4 (Got 14) ∷ Posts 4 ∷ Takes 4 (Called commands.Begin) ∷ Posts 4 ∷ Takes 4 (Called (commands.Do 0 2)) ∷
    Posts 4 ∷ Takes 1 (Got 19) ∷ Takes 4 (Lost 21) ∷ Posts 4 ∷ Takes 2 (Got 20) ∷ Posts 2 ∷ Takes 4 (Got 22) ∷ Posts 4 ∷
    Takes 4 (Got 23) ∷ Posts 1 ∷ Posts 4 ∷ Takes 2 (Got 26) ∷ Posts 2 ∷ Takes 4 (Lost 19) ∷ Posts 4 ∷
    Takes 4 (Called commands.Commit) ∷ Posts 4 ∷ Takes 3 (Got 29) ∷ Posts 3 ∷ Takes 1 (Got 27) ∷ Posts 1 ∷
    Takes 2 (Got 28) ∷ Posts 2 ∷ Acts (Phase 3) ∷ Takes 4 (Got 24) ∷ Posts 4 ∷ Takes 4 (Got 25) ∷ Posts 4 ∷
    Takes 1 (Got 30) ∷ Posts 1 ∷ Takes 4 (Called commands.Begin) ∷ Posts 4 ∷ Takes 4 (Called (commands.Do 0 1)) ∷
    Posts 4 ∷ Takes 1 (Got 31) ∷ Posts 1 ∷ Takes 4 (Lost 31) ∷ Posts 4 ∷ Takes 2 (Got 33) ∷ Posts 2 ∷ Takes 4 (Got 34) ∷
    Posts 4 ∷ Takes 2 (Got 36) ∷ Takes 1 (Got 35) ∷ Takes 3 (Got 37) ∷ Posts 2 ∷ Takes 4 (Got 38) ∷ Posts 4 ∷ Posts 3 ∷
    Takes 4 (Got 39) ∷ Posts 4 ∷ Posts 1 ∷ Takes 4 (Lost 35) ∷ Posts 4 ∷ Takes 4 (Called (commands.Do 0 2)) ∷ Posts 4 ∷
    Takes 4 (Called (commands.Do 0 1)) ∷ Posts 4 ∷ Takes 4 (Called commands.Commit) ∷ Posts 4 ∷ Takes 1 (Got 41) ∷
    Posts 1 ∷ Takes 2 (Got 42) ∷ Posts 2 ∷ Takes 3 (Got 43) ∷ Posts 3 ∷ Acts (Phase 4) ∷ Takes 4 (Got 32) ∷ Posts 4 ∷
    Takes 4 (Got 40) ∷ Posts 4 ∷ Takes 4 (Called commands.Begin) ∷ Posts 4 ∷ Takes 4 (Called commands.Abort) ∷ Posts 4 ∷
    []

abbrev pub history : List Entry
history =
    marked 6 (Phase 1) ∷ marked 4 (Called commands.Begin) ∷ marked 4 (Told (replies.Began (tx 0 1))) ∷
    marked 4 (Called (commands.Do 0 1)) ∷
    marked 4 (Sent 0 1 (messages.Request (tx 0 1) 1 0 (wants.Read (first_read 0 1))))
    ∷
    marked 1 (Got 0) ∷ marked 1 (Sent 1 4 (messages.Answer 0 (answers.Granted (whole_grant 1 0 [])))) ∷
    marked 4 (Lost 0)
    ∷
    marked 4 (Sent 2 2 (messages.Request (tx 0 1) 1 0 (wants.Read (first_read 0 1)))) ∷ marked 2 (Got 2) ∷
    marked 2 (Sent 3 4 (messages.Answer 2 (answers.Granted (whole_grant 1 0 [])))) ∷ marked 4 (Got 3) ∷
    marked 4 (Sent 4 1 (messages.Request (tx 0 1) 1 0 (wants.Append 0 [] (own_line 1 0 1 ∷ [])))) ∷
    marked 4 (Sent 5 2 (messages.Request (tx 0 1) 1 1 (wants.Append 0 [] (own_line 1 0 1 ∷ [])))) ∷
    marked 4 (Sent 6 3 (messages.Request (tx 0 1) 1 0 (wants.Append 0 [] (own_line 1 0 1 ∷ [])))) ∷ marked 3 (Got 6) ∷
    marked 1 (Got 4) ∷ marked 2 (Got 5) ∷ marked 2 (Sent 7 4 (messages.Answer 5 (answers.Granted (whole_grant 1 0 []))))
    ∷
    marked 4 (Got 7) ∷ marked 1 (Sent 8 4 (messages.Answer 4 (answers.Granted (whole_grant 1 0 [])))) ∷
    marked 3 (Sent 9 4 (messages.Answer 6 (answers.Granted (whole_grant 1 0 [])))) ∷ marked 4 (Got 7) ∷ marked 4 (Got 8)
    ∷
    marked 4 (Got 8) ∷ marked 4 (Got 9) ∷ marked 4 (Told (replies.Response 0)) ∷ marked 4 (Called commands.Commit) ∷
    marked 4 (Sent 10 1 (messages.Request (tx 0 1) 1 1 wants.Prepare)) ∷
    marked 4 (Sent 11 2 (messages.Request (tx 0 1) 1 1 wants.Prepare)) ∷
    marked 4 (Sent 12 3 (messages.Request (tx 0 1) 1 1 wants.Prepare)) ∷ marked 2 (Got 11) ∷ marked 1 (Got 10) ∷
    marked 2 (Wrote (prepare (tx 0 1) 1 (read_lock 0 1 ∷ []) (own_line 1 0 1 ∷ []) [])) ∷
    marked 2 (Sent 13 4 (messages.Answer 11 (answers.Yes 0))) ∷ marked 3 (Got 12) ∷ marked 4 (Got 13) ∷
    marked 1 (Wrote (prepare (tx 0 1) 1 (read_lock 0 1 ∷ []) (own_line 1 0 1 ∷ []) [])) ∷
    marked 1 (Sent 14 4 (messages.Answer 10 (answers.Yes 0))) ∷ marked 4 (Lost 10) ∷
    marked 3 (Wrote (prepare (tx 0 1) 1 [] (own_line 1 0 1 ∷ []) [])) ∷
    marked 3 (Sent 15 4 (messages.Answer 12 (answers.Yes 0))) ∷ marked 4 (Got 15) ∷
    marked 4 (Sent 16 1 (messages.Decision (tx 0 1) outcomes.Aborted)) ∷
    marked 4 (Sent 17 2 (messages.Decision (tx 0 1) outcomes.Aborted)) ∷
    marked 4 (Sent 18 3 (messages.Decision (tx 0 1) outcomes.Aborted)) ∷
    marked 4 (Told (replies.Aborted (causes.NoAnswer 1))) ∷ marked 3 (Got 18) ∷ marked 4 (Got 15) ∷ marked 6 (Phase 2) ∷
    marked 4 (Got 1) ∷ marked 4 (Got 14) ∷ marked 4 (Called commands.Begin) ∷ marked 4 (Told (replies.Began (tx 0 2))) ∷
    marked 4 (Called (commands.Do 0 2))
    ∷ marked 4 (Sent 19 1 (messages.Request (tx 0 2) 1 0 (wants.Read (first_read 0 2)))) ∷
    marked 4 (Sent 20 2 (messages.Request (tx 0 2) 1 0 (wants.Read (first_read 0 2)))) ∷
    marked 4 (Sent 21 3 (messages.Request (tx 0 2) 1 0 (wants.Read (first_read 0 2)))) ∷ marked 1 (Got 19)
    ∷ marked 4 (Lost 21) ∷
    marked 2 (Got 20) ∷ marked 2 (Sent 22 4 (messages.Answer 20 (answers.Clash (tx 0 1) 2 1))) ∷
    marked 2 (Sent 23 4 (messages.Inquiry (tx 0 1))) ∷ marked 4 (Got 22) ∷ marked 4 (Got 23) ∷
    marked 1 (Sent 24 4 (messages.Answer 19 (answers.Clash (tx 0 1) 2 1))) ∷
    marked 1 (Sent 25 4 (messages.Inquiry (tx 0 1))) ∷
    marked 4 (Sent 26 2 (messages.Decision (tx 0 1) outcomes.Aborted)) ∷ marked 2 (Got 26) ∷ marked 4 (Lost 19) ∷
    marked 4 (Told (replies.Conflict (tx 0 1) 2)) ∷ marked 4 (Called commands.Commit) ∷
    marked 4 (Wrote (commit (stamp 1 0) (tx 0 2) [])) ∷
    marked 4 (Sent 27 1 (messages.Decision (tx 0 2) (outcomes.Committed (stamp 1 0)))) ∷
    marked 4 (Sent 28 2 (messages.Decision (tx 0 2) (outcomes.Committed (stamp 1 0)))) ∷
    marked 4 (Sent 29 3 (messages.Decision (tx 0 2) (outcomes.Committed (stamp 1 0)))) ∷
    marked 4 (Told (replies.Committed (stamp 1 0))) ∷ marked 3 (Got 29) ∷ marked 1 (Got 27) ∷ marked 2 (Got 28) ∷
    marked 6 (Phase 3) ∷ marked 4 (Got 24) ∷ marked 4 (Got 25) ∷
    marked 4 (Sent 30 1 (messages.Decision (tx 0 1) outcomes.Aborted)) ∷ marked 1 (Got 30) ∷
    marked 4 (Called commands.Begin) ∷ marked 4 (Told (replies.Began (tx 0 3))) ∷ marked 4 (Called (commands.Do 0 1)) ∷
    marked 4 (Sent 31 1 (messages.Request (tx 0 3) 1 0 (wants.Read (first_read 0 1)))) ∷ marked 1 (Got 31) ∷
    marked 1 (Sent 32 4 (messages.Answer 31 (answers.Granted (whole_grant 1 1 [])))) ∷ marked 4 (Lost 31) ∷
    marked 4 (Sent 33 2 (messages.Request (tx 0 3) 1 0 (wants.Read (first_read 0 1)))) ∷ marked 2 (Got 33) ∷
    marked 2 (Sent 34 4 (messages.Answer 33 (answers.Granted (whole_grant 1 1 [])))) ∷ marked 4 (Got 34) ∷
    marked 4 (Sent 35 1 (messages.Request (tx 0 3) 1 0 (wants.Append 0 [] (own_line 1 0 1 ∷ [])))) ∷
    marked 4 (Sent 36 2 (messages.Request (tx 0 3) 1 1 (wants.Append 0 [] (own_line 1 0 1 ∷ [])))) ∷
    marked 4 (Sent 37 3 (messages.Request (tx 0 3) 1 0 (wants.Append 0 [] (own_line 1 0 1 ∷ [])))) ∷ marked 2 (Got 36) ∷
    marked 1 (Got 35) ∷ marked 3 (Got 37)
    ∷ marked 2 (Sent 38 4 (messages.Answer 36 (answers.Granted (whole_grant 1 1 [])))) ∷
    marked 4 (Got 38) ∷ marked 3 (Sent 39 4 (messages.Answer 37 (answers.Granted (whole_grant 1 1 []))))
    ∷ marked 4 (Got 39) ∷
    marked 1 (Sent 40 4 (messages.Answer 35 (answers.Granted (whole_grant 1 1 [])))) ∷ marked 4 (Lost 35) ∷
    marked 4 (Told (replies.Quorum halves.Append 2 3)) ∷ marked 4 (Called (commands.Do 0 2)) ∷
    marked 4 (Told replies.Doomed) ∷ marked 4 (Called (commands.Do 0 1)) ∷ marked 4 (Told replies.Doomed) ∷
    marked 4 (Called commands.Commit) ∷ marked 4 (Sent 41 1 (messages.Decision (tx 0 3) outcomes.Aborted)) ∷
    marked 4 (Sent 42 2 (messages.Decision (tx 0 3) outcomes.Aborted)) ∷
    marked 4 (Sent 43 3 (messages.Decision (tx 0 3) outcomes.Aborted)) ∷
    marked 4 (Told (replies.Aborted causes.Doomed)) ∷ marked 1 (Got 41) ∷ marked 2 (Got 42) ∷ marked 3 (Got 43) ∷
    marked 6 (Phase 4) ∷ marked 4 (Got 32) ∷ marked 4 (Got 40) ∷ marked 4 (Called commands.Begin) ∷
    marked 4 (Told (replies.Began (tx 0 4))) ∷ marked 4 (Called commands.Abort) ∷ marked 4 (Told replies.Dropped) ∷ []
