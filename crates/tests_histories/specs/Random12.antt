-- Random: sites 2, clients 2, steps 79, messages 22, lost 2, cuts 1, commits 1, aborts 1, short rounds 1.
use Rattle.std.specs.Prelude.{List, [], ◌∷◌, Some}
use Rattle.qc_decl.specs.declared.declaration.Declaration.{Declaration}
use Rattle.qc_decl.specs.Vocabulary.{row}
use Rattle.qc_msg.specs.Vocabulary.{Entry, marked}
use Rattle.tests_histories.specs.Play.{Move, Takes, Posts, Acts}
use Rattle.tests_histories.specs.Words.{tx, stamp, line, own_line, operation, read_lock, prepare, commit, declaration}
use Rattle.tests_histories.specs.Words.{kind, pair, plan}
use Rattle.qc_msg.specs.declared.step.Step.TheVariants.{Phase, Cut, Heal, Called, Got, Lost, Wrote, Sent, Told}
use Rattle.qc_msg.specs.declared.message.Answer.TheVariants as answers
use Rattle.qc_msg.specs.declared.reply.AbortCause.TheVariants as causes
use Rattle.qc_msg.specs.declared.step.Command.TheVariants as commands
use Rattle.qc_msg.specs.declared.reply.Half.TheVariants as halves
use Rattle.qc_msg.specs.declared.message.Message.TheVariants as messages
use Rattle.qc_msg.specs.declared.message.Outcome.TheVariants as outcomes
use Rattle.qc_msg.specs.declared.record.Record.TheVariants as records
use Rattle.qc_msg.specs.declared.reply.Reply.TheVariants as replies
use Rattle.qc_msg.specs.declared.message.Want.TheVariants as wants
use Rattle.qc_msg.specs.Vocabulary.{whole_grant, first_read}

abbrev pub decl : Declaration
decl =
    declaration 2 2 (kind 4 3 3 0 (row 0 0 0 1 ∷ row 0 1 0 2 ∷ row 1 1 0 3 ∷ row 2 0 0 3 ∷ row 1 2 1 0 ∷ row 2 2 2 0 ∷
    row 3 2 1 2 ∷ row 3 2 2 1 ∷ []) (pair 0 0 ∷ pair 0 2 ∷ pair 0 3 ∷ pair 1 1 ∷ pair 1 2 ∷ pair 1 3 ∷ pair 2 0 ∷ pair 2
    1 ∷ pair 2 2 ∷ pair 2 3 ∷ []) ∷ []) (0 ∷ 0 ∷ []) (plan (1 ∷ 1 ∷ []) ((2 ∷ 2 ∷ 2 ∷ []) ∷ (1 ∷ 2 ∷ 2 ∷ []) ∷ []) ((1 ∷
    1 ∷ 1 ∷ 1 ∷ []) ∷ (2 ∷ 1 ∷ 2 ∷ 2 ∷ []) ∷ []) ∷ [])

abbrev pub moves : List Move
moves =
    Acts (Phase 1) ∷ Takes 3 (Called commands.Begin) ∷ Posts 3 ∷ Takes 3 (Called (commands.Do 0 0)) ∷ Posts 3 ∷
    Takes 1 (Got 0) ∷ Posts 1 ∷ Takes 3 (Got 2) ∷ Posts 3 ∷ Takes 0 (Got 1) ∷ Posts 0 ∷ Takes 3 (Got 3) ∷ Posts 3 ∷
    Takes 1 (Got 4) ∷ Posts 1 ∷ Takes 3 (Got 5) ∷ Posts 3 ∷ Takes 3 (Called commands.Commit) ∷ Posts 3 ∷
    Takes 1 (Got 6) ∷ Takes 0 (Got 7) ∷ Posts 1 ∷ Takes 3 (Got 8) ∷ Posts 3 ∷ Posts 0 ∷ Takes 3 (Got 9) ∷ Posts 3 ∷
    Takes 0 (Got 10) ∷ Takes 1 (Got 11) ∷ Posts 1 ∷ Posts 0 ∷ Acts (Phase 2) ∷ Acts (Cut 0 1) ∷
    Takes 2 (Called commands.Begin) ∷ Posts 2 ∷ Takes 2 (Called (commands.Do 0 2)) ∷ Posts 2 ∷ Takes 1 (Got 13) ∷
    Takes 0 (Got 12) ∷ Posts 0 ∷ Takes 2 (Got 14) ∷ Posts 2 ∷ Posts 1 ∷ Takes 2 (Got 15) ∷ Posts 2 ∷ Takes 2 (Lost 16) ∷
    Posts 2 ∷ Takes 2 (Lost 17) ∷ Posts 2 ∷ Takes 2 (Called (commands.Do 0 2)) ∷ Posts 2 ∷
    Takes 2 (Called (commands.Do 1 1)) ∷ Posts 2 ∷ Acts (Phase 3) ∷ Acts (Heal 0 1) ∷ Takes 0 (Got 16) ∷
    Takes 1 (Got 17) ∷ Posts 0 ∷ Takes 2 (Got 18) ∷ Posts 2 ∷ Posts 1 ∷ Takes 2 (Got 19) ∷ Posts 2 ∷ Acts (Phase 4) ∷
    Takes 2 (Called (commands.Do 1 1)) ∷ Posts 2 ∷ Takes 2 (Called (commands.Do 1 0)) ∷ Posts 2 ∷
    Takes 2 (Called (commands.Do 0 1)) ∷ Posts 2 ∷ Takes 2 (Called commands.Commit) ∷ Posts 2 ∷ Takes 0 (Got 20) ∷
    Posts 0 ∷ Takes 1 (Got 21) ∷ Posts 1 ∷ []

abbrev pub history : List Entry
history =
    marked 5 (Phase 1) ∷ marked 3 (Called commands.Begin) ∷ marked 3 (Told (replies.Began (tx 1 1))) ∷
    marked 3 (Called (commands.Do 0 0)) ∷
    marked 3 (Sent 0 1 (messages.Request (tx 1 1) 1 0 (wants.Read (first_read 0 0))))
    ∷
    marked 3 (Sent 1 0 (messages.Request (tx 1 1) 1 0 (wants.Read (first_read 0 0)))) ∷ marked 1 (Got 0) ∷
    marked 1 (Sent 2 3 (messages.Answer 0 (answers.Granted (whole_grant 1 0 [])))) ∷ marked 3 (Got 2) ∷ marked 0 (Got 1)
    ∷
    marked 0 (Sent 3 3 (messages.Answer 1 (answers.Granted (whole_grant 1 0 [])))) ∷ marked 3 (Got 3) ∷
    marked 3 (Sent 4 1 (messages.Request (tx 1 1) 1 1 (wants.Append 0 [] (own_line 1 0 0 ∷ [])))) ∷ marked 1 (Got 4) ∷
    marked 1 (Sent 5 3 (messages.Answer 4 (answers.Granted (whole_grant 1 0 [])))) ∷ marked 3 (Got 5) ∷
    marked 3 (Told (replies.Response 0)) ∷ marked 3 (Called commands.Commit) ∷
    marked 3 (Sent 6 1 (messages.Request (tx 1 1) 1 1 wants.Prepare)) ∷
    marked 3 (Sent 7 0 (messages.Request (tx 1 1) 1 1 wants.Prepare)) ∷ marked 1 (Got 6) ∷ marked 0 (Got 7) ∷
    marked 1 (Wrote (prepare (tx 1 1) 1 (read_lock 0 0 ∷ []) (own_line 1 0 0 ∷ []) [])) ∷
    marked 1 (Sent 8 3 (messages.Answer 6 (answers.Yes 0))) ∷ marked 3 (Got 8) ∷
    marked 0 (Wrote (prepare (tx 1 1) 1 (read_lock 0 0 ∷ []) [] [])) ∷
    marked 0 (Sent 9 3 (messages.Answer 7 (answers.Yes 0))) ∷ marked 3 (Got 9) ∷
    marked 3 (Wrote (commit (stamp 1 1) (tx 1 1) (operation 0 0 (Some 0) ∷ []))) ∷
    marked 3 (Sent 10 0 (messages.Decision (tx 1 1) (outcomes.Committed (stamp 1 1)))) ∷
    marked 3 (Sent 11 1 (messages.Decision (tx 1 1) (outcomes.Committed (stamp 1 1)))) ∷
    marked 3 (Told (replies.Committed (stamp 1 1))) ∷ marked 0 (Got 10) ∷ marked 1 (Got 11) ∷
    marked 1 (Wrote (records.Done (tx 1 1) 1)) ∷ marked 0 (Wrote (records.Done (tx 1 1) 1)) ∷ marked 5 (Phase 2) ∷
    marked 5 (Cut 0 1) ∷ marked 2 (Called commands.Begin) ∷ marked 2 (Told (replies.Began (tx 0 1))) ∷
    marked 2 (Called (commands.Do 0 2))
    ∷ marked 2 (Sent 12 0 (messages.Request (tx 0 1) 1 0 (wants.Read (first_read 0 2)))) ∷
    marked 2 (Sent 13 1 (messages.Request (tx 0 1) 1 0 (wants.Read (first_read 0 2)))) ∷ marked 1 (Got 13)
    ∷ marked 0 (Got 12) ∷
    marked 0 (Sent 14 2 (messages.Answer 12 (answers.Granted (whole_grant 1 1 [])))) ∷ marked 2 (Got 14) ∷
    marked 1 (Sent 15 2 (messages.Answer 13 (answers.Granted (whole_grant 1 1 (line 1 1 1 1 0 0 ∷ [])))))
    ∷ marked 2 (Got 15) ∷
    marked 2 (Sent 16 0 (messages.Request (tx 0 1) 1 1 (wants.Append 0 (line 1 1 1 1 0 0 ∷ []) (own_line 1 0 2 ∷ []))))
    ∷
    marked 2 (Lost 16) ∷
    marked 2 (Sent 17 1 (messages.Request (tx 0 1) 1 1 (wants.Append 0 (line 1 1 1 1 0 0 ∷ []) (own_line 1 0 2 ∷ []))))
    ∷
    marked 2 (Lost 17) ∷ marked 2 (Told (replies.Quorum halves.Append 0 1)) ∷ marked 2 (Called (commands.Do 0 2)) ∷
    marked 2 (Told replies.Doomed) ∷ marked 2 (Called (commands.Do 1 1)) ∷ marked 2 (Told replies.Doomed) ∷
    marked 5 (Phase 3) ∷ marked 5 (Heal 0 1) ∷ marked 0 (Got 16) ∷ marked 1 (Got 17) ∷
    marked 0 (Sent 18 2 (messages.Answer 16 (answers.Granted (whole_grant 1 1 [])))) ∷ marked 2 (Got 18) ∷
    marked 1 (Sent 19 2 (messages.Answer 17 (answers.Granted (whole_grant 1 1 [])))) ∷ marked 2 (Got 19)
    ∷ marked 5 (Phase 4) ∷
    marked 2 (Called (commands.Do 1 1)) ∷ marked 2 (Told replies.Doomed) ∷ marked 2 (Called (commands.Do 1 0)) ∷
    marked 2 (Told replies.Doomed) ∷ marked 2 (Called (commands.Do 0 1)) ∷ marked 2 (Told replies.Doomed) ∷
    marked 2 (Called commands.Commit) ∷ marked 2 (Sent 20 0 (messages.Decision (tx 0 1) outcomes.Aborted)) ∷
    marked 2 (Sent 21 1 (messages.Decision (tx 0 1) outcomes.Aborted)) ∷
    marked 2 (Told (replies.Aborted causes.Doomed)) ∷ marked 0 (Got 20) ∷ marked 1 (Got 21) ∷ []
