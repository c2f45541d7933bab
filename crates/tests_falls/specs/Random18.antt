-- Random: sites 2, clients 2, steps 102, messages 30, lost 4, cuts 3, commits 1, conflicts 3, short rounds 3, falls 2,
-- rises 2.
use Rattle.std.specs.Prelude.{List, [], ◌∷◌, None, false}
use Rattle.qc_decl.specs.declared.declaration.Declaration.{Declaration}
use Rattle.qc_decl.specs.Vocabulary.{row}
use Rattle.qc_msg.specs.Vocabulary.{Entry, marked}
use Rattle.tests_histories.specs.Words.{tx, stamp, own_line, commit, declaration, kind, pair, plan}
use Rattle.qc_msg.specs.declared.step.Step.TheVariants.{Phase, Cut, Heal, Called, Got, Lost, Wrote, Sent, Told, Armed}
use Rattle.qc_msg.specs.declared.step.Step.TheVariants.{Fell, Rose}
use Rattle.qc_msg.specs.declared.turn.Appended.TheVariants.{Done}
use Rattle.tests_falls.specs.Perform.{Move, Begins, Acts, Takes, Posts, Rises}
use Rattle.qc_msg.specs.declared.message.Answer.TheVariants as answers
use Rattle.qc_msg.specs.declared.step.Command.TheVariants as commands
use Rattle.qc_msg.specs.declared.reply.Half.TheVariants as halves
use Rattle.qc_msg.specs.declared.message.Message.TheVariants as messages
use Rattle.qc_msg.specs.declared.message.Outcome.TheVariants as outcomes
use Rattle.qc_msg.specs.declared.record.Record.TheVariants as records
use Rattle.qc_msg.specs.declared.reply.Reply.TheVariants as replies
use Rattle.qc_msg.specs.declared.message.Want.TheVariants as wants
use Rattle.qc_msg.specs.declared.step.Fall.TheVariants as falls
use Rattle.qc_msg.specs.Vocabulary.{whole_grant, first_read}
use Rattle.qc_outside.specs.declared.disk.ArmKind.TheVariants as arms

abbrev pub decl : Declaration
decl =
    declaration 2 2 (kind 2 3 2 0 (row 0 0 1 1 ∷ row 0 0 0 1 ∷ row 0 1 1 1 ∷ row 0 2 0 0 ∷ row 1 1 1 0 ∷ row 1 2 1 1 ∷
    []) (pair 0 0 ∷ pair 0 1 ∷ pair 0 2 ∷ pair 2 0 ∷ pair 2 1 ∷ pair 2 2 ∷ []) ∷ []) (0 ∷ []) (plan (1 ∷ 1 ∷ []) ((2 ∷ 0
    ∷ 2 ∷ []) ∷ []) ((1 ∷ 1 ∷ 2 ∷ 0 ∷ 0 ∷ []) ∷ []) ∷ [])

abbrev pub moves : List Move
moves =
    Begins ∷ Acts ∷ Begins ∷ Acts ∷ Takes 2 ∷ Posts 2 Done ∷ Takes 2 ∷ Posts 2 Done ∷ Takes 1 ∷ Posts 1 Done ∷ Takes 2 ∷
    Posts 2 Done ∷ Takes 0 ∷ Posts 0 Done ∷ Takes 2 ∷ Posts 2 Done ∷ Begins ∷ Acts ∷ Acts ∷ Rises false Done ∷ Takes 2 ∷
    Posts 2 Done ∷ Takes 1 ∷ Posts 1 Done ∷ Takes 2 ∷ Posts 2 Done ∷ Takes 2 ∷ Posts 2 Done ∷ Takes 2 ∷ Posts 2 Done ∷
    Takes 2 ∷ Posts 2 Done ∷ Takes 1 ∷ Posts 1 Done ∷ Takes 2 ∷ Posts 2 Done ∷ Takes 2 ∷ Posts 2 Done ∷ Takes 1 ∷
    Posts 1 Done ∷ Takes 2 ∷ Posts 2 Done ∷ Takes 3 ∷ Takes 2 ∷ Posts 2 Done ∷ Posts 3 Done ∷ Takes 2 ∷ Posts 2 Done ∷
    Takes 3 ∷ Posts 3 Done ∷ Takes 3 ∷ Posts 3 Done ∷ Takes 3 ∷ Posts 3 Done ∷ Takes 1 ∷ Posts 1 Done ∷ Takes 0 ∷
    Posts 0 Done ∷ Takes 3 ∷ Posts 3 Done ∷ Takes 3 ∷ Posts 3 Done ∷ Takes 3 ∷ Posts 3 Done ∷ Takes 1 ∷ Posts 1 Done ∷
    Takes 3 ∷ Posts 3 Done ∷ Takes 0 ∷ Posts 0 Done ∷ Takes 3 ∷ Posts 3 Done ∷ Begins ∷ Acts ∷ Acts ∷ Acts ∷
    Rises false Done ∷ Acts ∷ Takes 3 ∷ Posts 3 Done ∷ Takes 3 ∷ Posts 3 Done ∷ Takes 2 ∷ Posts 2 Done ∷ Takes 0 ∷
    Posts 0 Done ∷ Takes 3 ∷ Posts 3 Done ∷ Takes 2 ∷ Posts 2 Done ∷ Takes 3 ∷ Posts 3 Done ∷ Takes 0 ∷ Posts 0 Done ∷
    Takes 0 ∷ Posts 0 Done ∷ []

abbrev pub history : List Entry
history =
    marked 5 (Phase 1) ∷ marked 5 (Cut 2 0) ∷ marked 5 (Phase 2) ∷ marked 5 (Heal 2 0) ∷
    marked 2 (Called commands.Begin) ∷ marked 2 (Told (replies.Began (tx 0 1))) ∷ marked 2 (Called (commands.Do 0 1)) ∷
    marked 2 (Sent 0 0 (messages.Request (tx 0 1) 1 0 (wants.Append 0 [] (own_line 1 0 2 ∷ [])))) ∷
    marked 2 (Sent 1 1 (messages.Request (tx 0 1) 1 0 (wants.Append 0 [] (own_line 1 0 2 ∷ [])))) ∷ marked 1 (Got 1) ∷
    marked 1 (Sent 2 2 (messages.Answer 1 (answers.Granted (whole_grant 1 0 [])))) ∷ marked 2 (Got 2) ∷ marked 0 (Got 0)
    ∷
    marked 0 (Sent 3 2 (messages.Answer 0 (answers.Granted (whole_grant 1 0 [])))) ∷ marked 2 (Got 3) ∷
    marked 2 (Told (replies.Response 1)) ∷ marked 5 (Phase 3) ∷ marked 5 (Cut 2 0) ∷ marked 1 (Fell falls.Script None) ∷
    marked 1 (Rose []) ∷ marked 1 (Wrote records.Life) ∷ marked 2 (Called (commands.Do 0 2)) ∷
    marked 2 (Sent 4 0 (messages.Request (tx 0 1) 1 1 (wants.Read (first_read 0 2)))) ∷
    marked 2 (Sent 5 1 (messages.Request (tx 0 1) 1 1 (wants.Read (first_read 0 2)))) ∷ marked 1 (Got 5) ∷
    marked 1 (Sent 6 2 (messages.Answer 5 (answers.Restarted 2))) ∷ marked 2 (Got 6) ∷ marked 2 (Lost 4) ∷
    marked 2 (Told (replies.Quorum halves.Read 0 2)) ∷ marked 2 (Called (commands.Do 0 0)) ∷
    marked 2 (Sent 7 0 (messages.Request (tx 0 1) 1 1 (wants.Read (first_read 0 0)))) ∷
    marked 2 (Sent 8 1 (messages.Request (tx 0 1) 1 1 (wants.Read (first_read 0 0)))) ∷ marked 2 (Lost 7)
    ∷ marked 1 (Got 8) ∷
    marked 1 (Sent 9 2 (messages.Answer 8 (answers.Restarted 2))) ∷ marked 2 (Got 9) ∷
    marked 2 (Told (replies.Quorum halves.Read 0 2)) ∷ marked 2 (Called (commands.Do 0 1)) ∷
    marked 2 (Sent 10 0 (messages.Request (tx 0 1) 1 1 (wants.Append 0 [] (own_line 1 0 2 ∷ own_line 2 0 2 ∷ [])))) ∷
    marked 2 (Sent 11 1 (messages.Request (tx 0 1) 1 1 (wants.Append 0 [] (own_line 1 0 2 ∷ own_line 2 0 2 ∷ [])))) ∷
    marked 1 (Got 11) ∷ marked 1 (Sent 12 2 (messages.Answer 11 (answers.Restarted 2))) ∷ marked 2 (Got 12) ∷
    marked 3 (Called commands.Begin) ∷ marked 2 (Lost 10) ∷ marked 2 (Told (replies.Quorum halves.Append 0 2)) ∷
    marked 3 (Told (replies.Began (tx 1 1))) ∷ marked 2 (Called (commands.Do 0 0)) ∷ marked 2 (Told replies.Doomed) ∷
    marked 3 (Called commands.Commit) ∷ marked 3 (Wrote (commit (stamp 1 1) (tx 1 1) [])) ∷
    marked 3 (Told (replies.Committed (stamp 1 1))) ∷ marked 3 (Called commands.Begin) ∷
    marked 3 (Told (replies.Began (tx 1 2))) ∷ marked 3 (Called (commands.Do 0 0)) ∷
    marked 3 (Sent 13 1 (messages.Request (tx 1 2) 1 0 (wants.Read (first_read 0 0)))) ∷
    marked 3 (Sent 14 0 (messages.Request (tx 1 2) 1 0 (wants.Read (first_read 0 0)))) ∷ marked 1 (Got 13) ∷
    marked 1 (Sent 15 3 (messages.Answer 13 (answers.Granted (whole_grant 2 0 [])))) ∷ marked 0 (Got 14) ∷
    marked 0 (Sent 16 3 (messages.Answer 14 (answers.Clash (tx 0 1) 0 2))) ∷
    marked 0 (Sent 17 2 (messages.Inquiry (tx 0 1))) ∷ marked 3 (Got 15) ∷ marked 3 (Got 16) ∷
    marked 3 (Told (replies.Conflict (tx 0 1) 0)) ∷ marked 3 (Called (commands.Do 0 2)) ∷
    marked 3 (Sent 18 1 (messages.Request (tx 1 2) 1 2 (wants.Read (first_read 0 2)))) ∷
    marked 3 (Sent 19 0 (messages.Request (tx 1 2) 1 0 (wants.Read (first_read 0 2)))) ∷ marked 1 (Got 18) ∷
    marked 1 (Sent 20 3 (messages.Answer 18 (answers.Granted (whole_grant 2 0 [])))) ∷ marked 3 (Got 20)
    ∷ marked 0 (Got 19) ∷
    marked 0 (Sent 21 3 (messages.Answer 19 (answers.Clash (tx 0 1) 2 2))) ∷
    marked 0 (Sent 22 2 (messages.Inquiry (tx 0 1))) ∷ marked 3 (Got 21) ∷
    marked 3 (Told (replies.Conflict (tx 0 1) 0)) ∷ marked 5 (Phase 4) ∷ marked 5 (Heal 2 0) ∷ marked 5 (Cut 3 1) ∷
    marked 2 (Fell falls.Script None) ∷ marked 2 (Rose []) ∷ marked 2 (Wrote records.Life) ∷
    marked 5 (Armed 3 arms.Stop 2) ∷ marked 3 (Called (commands.Do 0 0)) ∷
    marked 3 (Sent 23 1 (messages.Request (tx 1 2) 1 2 (wants.Read (first_read 0 0)))) ∷
    marked 3 (Sent 24 0 (messages.Request (tx 1 2) 1 0 (wants.Read (first_read 0 0)))) ∷ marked 3 (Lost 23) ∷
    marked 2 (Called (commands.Do 0 0)) ∷ marked 2 (Told replies.NoTransaction) ∷ marked 0 (Got 24) ∷
    marked 0 (Sent 25 3 (messages.Answer 24 (answers.Clash (tx 0 1) 0 2))) ∷
    marked 0 (Sent 26 2 (messages.Inquiry (tx 0 1))) ∷ marked 3 (Got 25) ∷
    marked 3 (Told (replies.Conflict (tx 0 1) 0)) ∷ marked 2 (Got 26) ∷
    marked 2 (Sent 27 0 (messages.Decision (tx 0 1) outcomes.Aborted)) ∷ marked 3 (Called commands.Abort) ∷
    marked 3 (Sent 28 0 (messages.Decision (tx 1 2) outcomes.Aborted)) ∷
    marked 3 (Sent 29 1 (messages.Decision (tx 1 2) outcomes.Aborted)) ∷ marked 3 (Told replies.Dropped) ∷
    marked 0 (Got 27) ∷ marked 0 (Got 28) ∷ []
