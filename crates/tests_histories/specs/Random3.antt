-- Random: sites 1, clients 1, steps 55, messages 16, lost 1, commits 1, aborts 1.
use Rattle.std.specs.Prelude.{List, [], ◌∷◌, Some}
use Rattle.qc_decl.specs.declared.declaration.Declaration.{Declaration}
use Rattle.qc_decl.specs.Vocabulary.{row}
use Rattle.qc_msg.specs.Vocabulary.{Entry, marked}
use Rattle.tests_histories.specs.Play.{Move, Takes, Posts, Acts}
use Rattle.tests_histories.specs.Words.{tx, stamp, own_line, operation, read_lock, prepare, commit, declaration, kind}
use Rattle.tests_histories.specs.Words.{pair, plan}
use Rattle.qc_msg.specs.declared.step.Step.TheVariants.{Phase, Called, Got, Lost, Wrote, Sent, Told}
use Rattle.qc_msg.specs.declared.message.Answer.TheVariants as answers
use Rattle.qc_msg.specs.declared.reply.AbortCause.TheVariants as causes
use Rattle.qc_msg.specs.declared.step.Command.TheVariants as commands
use Rattle.qc_msg.specs.declared.message.Message.TheVariants as messages
use Rattle.qc_msg.specs.declared.message.Outcome.TheVariants as outcomes
use Rattle.qc_msg.specs.declared.record.Record.TheVariants as records
use Rattle.qc_msg.specs.declared.reply.Reply.TheVariants as replies
use Rattle.qc_msg.specs.declared.message.Want.TheVariants as wants
use Rattle.qc_msg.specs.Vocabulary.{whole_grant, first_read}

abbrev pub decl : Declaration
decl =
    declaration 1 1 (kind 2 2 3 0 (row 0 0 0 1 ∷ row 1 0 1 1 ∷ row 0 1 2 0 ∷ row 1 1 2 0 ∷ []) (pair 0 0 ∷ pair 0 2 ∷
    []) ∷ kind 4 3 3 0 (row 0 0 0 1 ∷ row 0 1 0 2 ∷ row 1 1 0 3 ∷ row 2 0 0 3 ∷ row 1 2 1 0 ∷ row 2 2 2 0 ∷ row 3 2 1 2
    ∷ row 3 2 2 1 ∷ []) (pair 0 0 ∷ pair 0 2 ∷ pair 0 3 ∷ pair 1 1 ∷ pair 1 2 ∷ pair 1 3 ∷ pair 2 0 ∷ pair 2 1 ∷ pair 2
    2 ∷ pair 2 3 ∷ []) ∷ []) (0 ∷ []) (plan (1 ∷ []) ((1 ∷ 0 ∷ []) ∷ []) ((1 ∷ 1 ∷ 1 ∷ []) ∷ []) ∷ [])

abbrev pub moves : List Move
moves =
    Acts (Phase 1) ∷ Takes 1 (Called commands.Begin) ∷ Posts 1 ∷ Takes 1 (Called (commands.Do 0 1)) ∷ Posts 1 ∷
    Takes 0 (Got 0) ∷ Posts 0 ∷ Takes 1 (Got 1) ∷ Posts 1 ∷ Takes 1 (Called (commands.Do 0 1)) ∷ Posts 1 ∷
    Takes 0 (Got 2) ∷ Posts 0 ∷ Takes 1 (Got 3) ∷ Posts 1 ∷ Takes 1 (Got 3) ∷ Posts 1 ∷
    Takes 1 (Called commands.Commit) ∷ Posts 1 ∷ Takes 1 (Lost 4) ∷ Posts 1 ∷ Takes 0 (Got 5) ∷ Posts 0 ∷
    Acts (Phase 2) ∷ Takes 0 (Got 4) ∷ Posts 0 ∷ Takes 1 (Got 6) ∷ Posts 1 ∷ Takes 1 (Called commands.Begin) ∷ Posts 1 ∷
    Takes 1 (Called (commands.Do 0 0)) ∷ Posts 1 ∷ Takes 0 (Got 7) ∷ Posts 0 ∷ Takes 1 (Got 8) ∷ Posts 1 ∷
    Takes 0 (Got 9) ∷ Posts 0 ∷ Takes 1 (Got 10) ∷ Posts 1 ∷ Takes 1 (Called (commands.Do 0 1)) ∷ Posts 1 ∷
    Takes 0 (Got 11) ∷ Posts 0 ∷ Takes 1 (Got 12) ∷ Posts 1 ∷ Takes 1 (Called commands.Commit) ∷ Posts 1 ∷
    Takes 0 (Got 13) ∷ Posts 0 ∷ Takes 1 (Got 14) ∷ Posts 1 ∷ Takes 0 (Got 15) ∷ Posts 0 ∷ []

abbrev pub history : List Entry
history =
    marked 3 (Phase 1) ∷ marked 1 (Called commands.Begin) ∷ marked 1 (Told (replies.Began (tx 0 1))) ∷
    marked 1 (Called (commands.Do 0 1)) ∷
    marked 1 (Sent 0 0 (messages.Request (tx 0 1) 1 0 (wants.Append 0 [] (own_line 1 0 2 ∷ [])))) ∷ marked 0 (Got 0) ∷
    marked 0 (Sent 1 1 (messages.Answer 0 (answers.Granted (whole_grant 1 0 [])))) ∷ marked 1 (Got 1) ∷
    marked 1 (Told (replies.Response 2)) ∷ marked 1 (Called (commands.Do 0 1)) ∷
    marked 1 (Sent 2 0 (messages.Request (tx 0 1) 1 1 (wants.Append 0 [] (own_line 1 0 2 ∷ own_line 2 0 2 ∷ [])))) ∷
    marked 0 (Got 2) ∷ marked 0 (Sent 3 1 (messages.Answer 2 (answers.Granted (whole_grant 1 0 [])))) ∷ marked 1 (Got 3)
    ∷
    marked 1 (Told (replies.Response 2)) ∷ marked 1 (Got 3) ∷ marked 1 (Called commands.Commit) ∷
    marked 1 (Sent 4 0 (messages.Request (tx 0 1) 1 1 wants.Prepare)) ∷ marked 1 (Lost 4) ∷
    marked 1 (Sent 5 0 (messages.Decision (tx 0 1) outcomes.Aborted)) ∷
    marked 1 (Told (replies.Aborted (causes.NoAnswer 0))) ∷ marked 0 (Got 5) ∷ marked 3 (Phase 2) ∷ marked 0 (Got 4) ∷
    marked 0 (Sent 6 1 (messages.Answer 4 answers.Stale)) ∷ marked 1 (Got 6) ∷ marked 1 (Called commands.Begin) ∷
    marked 1 (Told (replies.Began (tx 0 2))) ∷ marked 1 (Called (commands.Do 0 0)) ∷
    marked 1 (Sent 7 0 (messages.Request (tx 0 2) 1 0 (wants.Read (first_read 0 0)))) ∷ marked 0 (Got 7) ∷
    marked 0 (Sent 8 1 (messages.Answer 7 (answers.Granted (whole_grant 1 0 [])))) ∷ marked 1 (Got 8) ∷
    marked 1 (Sent 9 0 (messages.Request (tx 0 2) 1 1 (wants.Append 0 [] (own_line 1 0 0 ∷ [])))) ∷ marked 0 (Got 9) ∷
    marked 0 (Sent 10 1 (messages.Answer 9 (answers.Granted (whole_grant 1 0 [])))) ∷ marked 1 (Got 10) ∷
    marked 1 (Told (replies.Response 0)) ∷ marked 1 (Called (commands.Do 0 1)) ∷
    marked 1 (Sent 11 0 (messages.Request (tx 0 2) 1 1 (wants.Append 0 [] (own_line 1 0 0 ∷ own_line 2 0 2 ∷ [])))) ∷
    marked 0 (Got 11) ∷ marked 0 (Sent 12 1 (messages.Answer 11 (answers.Granted (whole_grant 1 0 []))))
    ∷ marked 1 (Got 12) ∷
    marked 1 (Told (replies.Response 2)) ∷ marked 1 (Called commands.Commit) ∷
    marked 1 (Sent 13 0 (messages.Request (tx 0 2) 1 1 wants.Prepare)) ∷ marked 0 (Got 13) ∷
    marked 0 (Wrote (prepare (tx 0 2) 1 (read_lock 0 0 ∷ []) (own_line 1 0 0 ∷ own_line 2 0 2 ∷ []) [])) ∷
    marked 0 (Sent 14 1 (messages.Answer 13 (answers.Yes 0))) ∷ marked 1 (Got 14) ∷
    marked 1 (Wrote (commit (stamp 1 0) (tx 0 2) (operation 0 0 (Some 0) ∷ operation 0 1 (Some 2) ∷ []))) ∷
    marked 1 (Sent 15 0 (messages.Decision (tx 0 2) (outcomes.Committed (stamp 1 0)))) ∷
    marked 1 (Told (replies.Committed (stamp 1 0))) ∷ marked 0 (Got 15) ∷ marked 0 (Wrote (records.Done (tx 0 2) 1)) ∷
    []
