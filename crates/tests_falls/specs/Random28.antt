-- Random: sites 1, clients 4, steps 127, messages 32, cuts 1, commits 6, conflicts 2, falls 2, rises 1.
use Rattle.std.specs.Prelude.{List, [], ◌∷◌, Some, None, false}
use Rattle.qc_decl.specs.declared.declaration.Declaration.{Declaration}
use Rattle.qc_decl.specs.Vocabulary.{row}
use Rattle.qc_msg.specs.Vocabulary.{Entry, marked}
use Rattle.tests_histories.specs.Words.{tx, stamp, line, own_line, operation, read_lock, prepare, commit, declaration}
use Rattle.tests_histories.specs.Words.{kind, pair, plan}
use Rattle.qc_msg.specs.declared.step.Step.TheVariants.{Phase, Cut, Called, Got, Wrote, Sent, Told, Armed, Fell, Rose}
use Rattle.qc_msg.specs.declared.turn.Appended.TheVariants.{Done}
use Rattle.tests_falls.specs.Words.{tx_in}
use Rattle.tests_falls.specs.Perform.{Move, Begins, Acts, Takes, Posts, Rises}
use Rattle.qc_msg.specs.declared.message.Answer.TheVariants as answers
use Rattle.qc_msg.specs.declared.step.Command.TheVariants as commands
use Rattle.qc_msg.specs.declared.message.Message.TheVariants as messages
use Rattle.qc_msg.specs.declared.message.Outcome.TheVariants as outcomes
use Rattle.qc_msg.specs.declared.record.Record.TheVariants as records
use Rattle.qc_msg.specs.declared.reply.Reply.TheVariants as replies
use Rattle.qc_msg.specs.declared.message.Want.TheVariants as wants
use Rattle.qc_msg.specs.declared.step.Fall.TheVariants as falls
use Rattle.qc_msg.specs.Vocabulary.{whole_grant, first_read}
use Rattle.qc_outside.specs.declared.disk.ArmKind.TheVariants as arms

abbrev pub decl : Declaration
decl =
    declaration 1 4 (kind 3 3 1 0 (row 0 1 0 2 ∷ row 0 2 0 2 ∷ row 1 1 0 1 ∷ row 1 2 0 2 ∷ row 2 0 0 0 ∷ row 2 1 0 1 ∷
    row 2 2 0 2 ∷ []) (pair 0 0 ∷ pair 0 1 ∷ pair 0 2 ∷ []) ∷ []) (0 ∷ 0 ∷ []) (plan (1 ∷ []) ((1 ∷ 1 ∷ 0 ∷ []) ∷ (1 ∷ 0
    ∷ 0 ∷ []) ∷ []) ((1 ∷ 1 ∷ 1 ∷ []) ∷ (1 ∷ 1 ∷ 1 ∷ []) ∷ []) ∷ [])

abbrev pub moves : List Move
moves =
    Begins ∷ Acts ∷ Acts ∷ Takes 1 ∷ Posts 1 Done ∷ Takes 1 ∷ Posts 1 Done ∷ Begins ∷ Begins ∷ Acts ∷ Rises false Done ∷
    Takes 1 ∷ Takes 2 ∷ Takes 3 ∷ Posts 1 Done ∷ Takes 1 ∷ Posts 2 Done ∷ Takes 2 ∷ Posts 1 Done ∷ Takes 0 ∷
    Posts 3 Done ∷ Posts 2 Done ∷ Takes 3 ∷ Takes 2 ∷ Posts 2 Done ∷ Posts 0 Done ∷ Takes 1 ∷ Takes 0 ∷ Posts 0 Done ∷
    Takes 2 ∷ Posts 3 Done ∷ Posts 1 Done ∷ Takes 1 ∷ Takes 0 ∷ Posts 1 Done ∷ Posts 0 Done ∷ Takes 0 ∷ Takes 3 ∷
    Posts 3 Done ∷ Posts 0 Done ∷ Takes 0 ∷ Takes 1 ∷ Posts 2 Done ∷ Posts 0 Done ∷ Takes 2 ∷ Takes 3 ∷ Posts 3 Done ∷
    Takes 3 ∷ Posts 2 Done ∷ Takes 0 ∷ Posts 0 Done ∷ Takes 2 ∷ Posts 3 Done ∷ Posts 2 Done ∷ Takes 0 ∷ Posts 0 Done ∷
    Takes 3 ∷ Takes 0 ∷ Posts 0 Done ∷ Posts 3 Done ∷ Takes 0 ∷ Takes 2 ∷ Takes 3 ∷ Posts 1 Done ∷ Posts 0 Done ∷
    Takes 1 ∷ Posts 3 Done ∷ Takes 0 ∷ Posts 0 Done ∷ Posts 1 Done ∷ Takes 0 ∷ Posts 2 Done ∷ Takes 2 ∷ Posts 2 Done ∷
    Posts 0 Done ∷ Takes 0 ∷ Posts 0 Done ∷ Takes 1 ∷ Takes 2 ∷ Posts 2 Done ∷ Takes 0 ∷ Posts 1 Done ∷ Posts 0 Done ∷
    Takes 0 ∷ Posts 0 Done ∷ Begins ∷ Acts ∷ Acts ∷ Takes 2 ∷ Takes 4 ∷ Posts 4 Done ∷ Takes 4 ∷ Posts 2 Done ∷
    Takes 2 ∷ Posts 2 Done ∷ Posts 4 Done ∷ Takes 0 ∷ Posts 0 Done ∷ Takes 4 ∷ Posts 4 Done ∷ Takes 0 ∷ Posts 0 Done ∷
    Takes 4 ∷ Posts 4 Done ∷ Takes 4 ∷ Posts 4 Done ∷ Takes 0 ∷ Posts 0 Done ∷ Takes 4 ∷ Posts 4 Done ∷ Takes 0 ∷
    Posts 0 Done ∷ []

abbrev pub history : List Entry
history =
    marked 6 (Phase 1) ∷ marked 6 (Cut 5 4) ∷ marked 6 (Armed 0 arms.Fail 5) ∷ marked 1 (Called commands.Begin) ∷
    marked 1 (Told (replies.Began (tx 0 1))) ∷ marked 1 (Called commands.Commit) ∷
    marked 1 (Wrote (commit (stamp 1 0) (tx 0 1) [])) ∷ marked 1 (Told (replies.Committed (stamp 1 0))) ∷
    marked 6 (Phase 2) ∷ marked 6 (Phase 3) ∷ marked 2 (Fell falls.Script None) ∷ marked 2 (Rose []) ∷
    marked 2 (Wrote records.Life) ∷ marked 1 (Called commands.Begin) ∷ marked 2 (Called commands.Begin) ∷
    marked 3 (Called commands.Begin) ∷ marked 1 (Told (replies.Began (tx 0 2))) ∷ marked 1 (Called (commands.Do 1 1)) ∷
    marked 2 (Told (replies.Began (tx_in 1 2 1))) ∷ marked 2 (Called commands.Begin) ∷
    marked 1 (Sent 0 0 (messages.Request (tx 0 2) 1 0 (wants.Append 1 [] (own_line 1 1 0 ∷ [])))) ∷ marked 0 (Got 0) ∷
    marked 3 (Told (replies.Began (tx 2 1))) ∷ marked 2 (Told (replies.Already (tx_in 1 2 1))) ∷
    marked 3 (Called (commands.Do 0 1)) ∷ marked 2 (Called (commands.Do 0 2)) ∷
    marked 2 (Sent 1 0 (messages.Request (tx_in 1 2 1) 1 0 (wants.Append 0 [] (own_line 1 0 1 ∷ [])))) ∷
    marked 0 (Sent 2 1 (messages.Answer 0 (answers.Granted (whole_grant 1 0 [])))) ∷ marked 1 (Got 2) ∷ marked 0 (Got 1)
    ∷
    marked 0 (Sent 3 2 (messages.Answer 1 (answers.Granted (whole_grant 1 0 [])))) ∷ marked 2 (Got 3) ∷
    marked 3 (Sent 4 0 (messages.Request (tx 2 1) 1 0 (wants.Read (first_read 0 1))))
    ∷ marked 1 (Told (replies.Response 0)) ∷
    marked 1 (Called (commands.Do 0 0)) ∷ marked 0 (Got 4) ∷
    marked 1 (Sent 5 0 (messages.Request (tx 0 2) 1 1 (wants.Read (first_read 0 0)))) ∷
    marked 0 (Sent 6 3 (messages.Answer 4 (answers.Granted (whole_grant 1 0 [])))) ∷ marked 0 (Got 5) ∷ marked 3 (Got 6)
    ∷
    marked 3 (Sent 7 0 (messages.Request (tx 2 1) 1 1 (wants.Append 0 [] (own_line 1 0 0 ∷ [])))) ∷
    marked 0 (Sent 8 1 (messages.Answer 5 (answers.Clash (tx_in 1 2 1) 0 1))) ∷
    marked 0 (Sent 9 2 (messages.Inquiry (tx_in 1 2 1))) ∷ marked 0 (Got 7) ∷ marked 1 (Got 8) ∷
    marked 2 (Told (replies.Response 0))
    ∷ marked 0 (Sent 10 3 (messages.Answer 7 (answers.Granted (whole_grant 1 0 [])))) ∷
    marked 2 (Got 9) ∷ marked 3 (Got 10) ∷ marked 3 (Told (replies.Response 0)) ∷ marked 3 (Called commands.Commit) ∷
    marked 2 (Sent 11 0 (messages.Decision (tx_in 1 2 1) outcomes.Active)) ∷ marked 0 (Got 11) ∷
    marked 2 (Called (commands.Do 0 0)) ∷ marked 3 (Sent 12 0 (messages.Request (tx 2 1) 1 1 wants.Prepare)) ∷
    marked 2 (Sent 13 0 (messages.Request (tx_in 1 2 1) 1 1 (wants.Read (first_read 0 0)))) ∷ marked 0 (Got 12) ∷
    marked 0 (Wrote (prepare (tx 2 1) 1 (read_lock 0 1 ∷ []) (own_line 1 0 0 ∷ []) [])) ∷
    marked 0 (Sent 14 3 (messages.Answer 12 (answers.Yes 0))) ∷ marked 3 (Got 14) ∷ marked 0 (Got 13) ∷
    marked 0 (Sent 15 2 (messages.Answer 13 (answers.Clash (tx 2 1) 0 0))) ∷
    marked 0 (Sent 16 3 (messages.Inquiry (tx 2 1))) ∷
    marked 3 (Wrote (commit (stamp 1 2) (tx 2 1) (operation 0 1 (Some 0) ∷ []))) ∷
    marked 3 (Sent 17 0 (messages.Decision (tx 2 1) (outcomes.Committed (stamp 1 2)))) ∷
    marked 3 (Told (replies.Committed (stamp 1 2))) ∷ marked 0 (Got 17) ∷ marked 2 (Got 15) ∷ marked 3 (Got 16) ∷
    marked 1 (Told (replies.Conflict (tx_in 1 2 1) 0)) ∷ marked 0 (Wrote (records.Done (tx 2 1) 1)) ∷
    marked 1 (Called commands.Commit) ∷
    marked 3 (Sent 18 0 (messages.Decision (tx 2 1) (outcomes.Committed (stamp 1 2)))) ∷ marked 0 (Got 18) ∷
    marked 1 (Sent 19 0 (messages.Request (tx 0 2) 1 1 wants.Prepare)) ∷ marked 0 (Got 19) ∷
    marked 2 (Told (replies.Conflict (tx 2 1) 0)) ∷ marked 2 (Called commands.Commit) ∷
    marked 2 (Sent 20 0 (messages.Request (tx_in 1 2 1) 1 1 wants.Prepare)) ∷
    marked 0 (Wrote (prepare (tx 0 2) 1 [] (own_line 1 1 0 ∷ []) [])) ∷
    marked 0 (Sent 21 1 (messages.Answer 19 (answers.Yes 1))) ∷ marked 0 (Got 20) ∷
    marked 0 (Wrote (prepare (tx_in 1 2 1) 1 [] (own_line 1 0 1 ∷ []) [])) ∷
    marked 0 (Sent 22 2 (messages.Answer 20 (answers.Yes 1))) ∷ marked 1 (Got 21) ∷ marked 2 (Got 22) ∷
    marked 2 (Wrote (commit (stamp 2 1) (tx_in 1 2 1) (operation 0 2 (Some 0) ∷ []))) ∷
    marked 2 (Sent 23 0 (messages.Decision (tx_in 1 2 1) (outcomes.Committed (stamp 2 1)))) ∷
    marked 2 (Told (replies.Committed (stamp 2 1))) ∷ marked 0 (Got 23) ∷
    marked 1 (Wrote (commit (stamp 2 0) (tx 0 2) (operation 1 1 (Some 0) ∷ []))) ∷
    marked 1 (Sent 24 0 (messages.Decision (tx 0 2) (outcomes.Committed (stamp 2 0)))) ∷
    marked 1 (Told (replies.Committed (stamp 2 0))) ∷ marked 0 (Wrote (records.Done (tx_in 1 2 1) 2)) ∷
    marked 0 (Got 24) ∷ marked 0 (Wrote (records.Done (tx 0 2) 2)) ∷ marked 6 (Phase 4) ∷
    marked 6 (Armed 2 arms.Fail 3) ∷ marked 3 (Fell falls.Script None) ∷ marked 2 (Called commands.Begin) ∷
    marked 4 (Called commands.Begin) ∷ marked 4 (Told (replies.Began (tx 3 1))) ∷ marked 4 (Called (commands.Do 1 0)) ∷
    marked 2 (Told (replies.Began (tx_in 1 2 2))) ∷ marked 2 (Called commands.Commit) ∷
    marked 2 (Wrote (commit (stamp 3 1) (tx_in 1 2 2) [])) ∷ marked 2 (Told (replies.Committed (stamp 3 1))) ∷
    marked 4 (Sent 25 0 (messages.Request (tx 3 1) 1 0 (wants.Read (first_read 1 0)))) ∷ marked 0 (Got 25) ∷
    marked 0 (Sent 26 4 (messages.Answer 25 (answers.Granted (whole_grant 1 2 (line 2 0 2 1 1 0 ∷ [])))))
    ∷ marked 4 (Got 26) ∷
    marked 4 (Sent 27 0 (messages.Request (tx 3 1) 1 1 (wants.Append 1 (line 2 0 2 1 1 0 ∷ []) (own_line 1 1 2 ∷ []))))
    ∷
    marked 0 (Got 27) ∷ marked 0 (Sent 28 4 (messages.Answer 27 (answers.Granted (whole_grant 1 2 []))))
    ∷ marked 4 (Got 28) ∷
    marked 4 (Told (replies.Response 0)) ∷ marked 4 (Called commands.Commit) ∷
    marked 4 (Sent 29 0 (messages.Request (tx 3 1) 1 1 wants.Prepare)) ∷ marked 0 (Got 29) ∷
    marked 0 (Wrote (prepare (tx 3 1) 1 (read_lock 1 0 ∷ []) (own_line 1 1 2 ∷ []) [])) ∷
    marked 0 (Sent 30 4 (messages.Answer 29 (answers.Yes 2))) ∷ marked 4 (Got 30) ∷
    marked 4 (Wrote (commit (stamp 3 3) (tx 3 1) (operation 1 0 (Some 0) ∷ []))) ∷
    marked 4 (Sent 31 0 (messages.Decision (tx 3 1) (outcomes.Committed (stamp 3 3)))) ∷
    marked 4 (Told (replies.Committed (stamp 3 3))) ∷ marked 0 (Got 31) ∷ marked 0 (Wrote (records.Done (tx 3 1) 3)) ∷
    []
