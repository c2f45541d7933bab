-- Random: sites 2, clients 3, steps 77, messages 19, lost 3, cuts 1, commits 1, conflicts 1, short rounds 1, falls 1,
-- rises 1.
use Rattle.std.specs.Prelude.{List, [], ◌∷◌, None, false}
use Rattle.qc_decl.specs.declared.declaration.Declaration.{Declaration}
use Rattle.qc_decl.specs.Vocabulary.{row}
use Rattle.qc_msg.specs.Vocabulary.{Entry, marked}
use Rattle.tests_histories.specs.Words.{tx, stamp, own_line, commit, declaration, kind, pair, plan}
use Rattle.qc_msg.specs.declared.step.Step.TheVariants.{Phase, Cut, Called, Got, Lost, Wrote, Sent, Told, Fell, Rose}
use Rattle.qc_msg.specs.declared.turn.Appended.TheVariants.{Done}
use Rattle.tests_falls.specs.Perform.{Move, Begins, Acts, Takes, Posts, Rises}
use Rattle.qc_msg.specs.declared.message.Answer.TheVariants as answers
use Rattle.qc_msg.specs.declared.step.Command.TheVariants as commands
use Rattle.qc_msg.specs.declared.reply.Half.TheVariants as halves
use Rattle.qc_msg.specs.declared.message.Message.TheVariants as messages
use Rattle.qc_msg.specs.declared.message.Outcome.TheVariants as outcomes
use Rattle.qc_msg.specs.declared.record.Record.TheVariants as records
use Rattle.qc_msg.specs.declared.reply.Reply.TheVariants as replies
use Rattle.qc_msg.specs.declared.message.Want.TheVariants as wants
use Rattle.qc_msg.specs.declared.step.Fall.TheVariants as falls
use Rattle.qc_msg.specs.Vocabulary.{whole_grant, first_read}

abbrev pub decl : Declaration
decl =
    declaration 2 3 (kind 2 3 3 0 (row 0 0 0 0 ∷ row 1 0 1 1 ∷ row 0 1 2 0 ∷ row 1 1 2 0 ∷ row 0 2 2 1 ∷ row 1 2 2 1 ∷
    []) (pair 0 2 ∷ pair 0 3 ∷ []) ∷ kind 3 2 2 0 (row 0 0 1 2 ∷ row 0 0 0 0 ∷ row 0 1 1 1 ∷ row 1 1 0 0 ∷ row 1 1 1 1 ∷
    row 2 1 0 2 ∷ []) (pair 0 0 ∷ pair 0 2 ∷ pair 0 3 ∷ pair 1 0 ∷ pair 1 2 ∷ pair 1 3 ∷ []) ∷ []) (1 ∷ []) (plan (1 ∷ 1
    ∷ []) ((1 ∷ 2 ∷ []) ∷ []) ((2 ∷ 0 ∷ 2 ∷ 2 ∷ []) ∷ []) ∷ plan (1 ∷ 1 ∷ []) ((2 ∷ 2 ∷ []) ∷ []) ((1 ∷ 0 ∷ 1 ∷ 1 ∷ [])
    ∷ []) ∷ plan (2 ∷ 1 ∷ []) ((2 ∷ 2 ∷ []) ∷ []) ((2 ∷ 0 ∷ 2 ∷ 2 ∷ []) ∷ []) ∷ [])

abbrev pub moves : List Move
moves =
    Begins ∷ Acts ∷ Takes 2 ∷ Posts 2 Done ∷ Takes 2 ∷ Posts 2 Done ∷ Takes 2 ∷ Posts 2 Done ∷ Takes 2 ∷ Posts 2 Done ∷
    Takes 2 ∷ Posts 2 Done ∷ Takes 2 ∷ Posts 2 Done ∷ Takes 2 ∷ Posts 2 Done ∷ Begins ∷ Acts ∷ Rises false Done ∷
    Takes 3 ∷ Posts 3 Done ∷ Takes 3 ∷ Posts 3 Done ∷ Takes 3 ∷ Posts 3 Done ∷ Takes 3 ∷ Posts 3 Done ∷ Takes 3 ∷
    Posts 3 Done ∷ Takes 0 ∷ Posts 0 Done ∷ Takes 3 ∷ Posts 3 Done ∷ Takes 3 ∷ Posts 3 Done ∷ Takes 3 ∷ Posts 3 Done ∷
    Takes 0 ∷ Posts 0 Done ∷ Takes 4 ∷ Posts 4 Done ∷ Takes 3 ∷ Posts 3 Done ∷ Takes 3 ∷ Posts 3 Done ∷ Takes 0 ∷
    Posts 0 Done ∷ Takes 3 ∷ Posts 3 Done ∷ Takes 3 ∷ Posts 3 Done ∷ Takes 4 ∷ Posts 4 Done ∷ Takes 0 ∷ Posts 0 Done ∷
    Takes 4 ∷ Posts 4 Done ∷ Takes 1 ∷ Posts 1 Done ∷ Takes 4 ∷ Posts 4 Done ∷ Takes 0 ∷ Posts 0 Done ∷ Takes 3 ∷
    Posts 3 Done ∷ Takes 0 ∷ Posts 0 Done ∷ Takes 4 ∷ Posts 4 Done ∷ Takes 1 ∷ Posts 1 Done ∷ Takes 4 ∷ Posts 4 Done ∷
    Takes 4 ∷ Posts 4 Done ∷ []

abbrev pub history : List Entry
history =
    marked 6 (Phase 1) ∷ marked 2 (Fell falls.Script None) ∷ marked 2 (Called commands.Begin) ∷
    marked 2 (Told replies.Down) ∷ marked 2 (Called (commands.Do 0 1)) ∷ marked 2 (Told replies.Down) ∷
    marked 2 (Called (commands.Do 0 0)) ∷ marked 2 (Told replies.Down) ∷ marked 2 (Called (commands.Do 0 0)) ∷
    marked 2 (Told replies.Down) ∷ marked 2 (Called (commands.Do 0 1)) ∷ marked 2 (Told replies.Down) ∷
    marked 2 (Called (commands.Do 0 1)) ∷ marked 2 (Told replies.Down) ∷ marked 2 (Called (commands.Do 0 1)) ∷
    marked 2 (Told replies.Down) ∷ marked 6 (Phase 2) ∷ marked 6 (Cut 1 3) ∷ marked 2 (Rose []) ∷
    marked 2 (Wrote records.Life) ∷ marked 3 (Called commands.Begin) ∷ marked 3 (Told (replies.Began (tx 1 1))) ∷
    marked 3 (Called commands.Commit) ∷ marked 3 (Wrote (commit (stamp 1 1) (tx 1 1) [])) ∷
    marked 3 (Told (replies.Committed (stamp 1 1))) ∷ marked 3 (Called commands.Begin) ∷
    marked 3 (Told (replies.Began (tx 1 2))) ∷ marked 3 (Called (commands.Do 0 0)) ∷
    marked 3 (Sent 0 1 (messages.Request (tx 1 2) 1 0 (wants.Read (first_read 0 0)))) ∷ marked 3 (Lost 0) ∷
    marked 3 (Sent 1 0 (messages.Request (tx 1 2) 1 0 (wants.Read (first_read 0 0)))) ∷ marked 0 (Got 1) ∷
    marked 0 (Sent 2 3 (messages.Answer 1 (answers.Granted (whole_grant 1 0 [])))) ∷ marked 3 (Got 2) ∷
    marked 3 (Told (replies.Response 0)) ∷ marked 3 (Called (commands.Do 0 0)) ∷
    marked 3 (Sent 3 1 (messages.Request (tx 1 2) 1 0 (wants.Read (first_read 0 0)))) ∷ marked 3 (Lost 3) ∷
    marked 3 (Sent 4 0 (messages.Request (tx 1 2) 1 1 (wants.Read (first_read 0 0)))) ∷ marked 0 (Got 4) ∷
    marked 0 (Sent 5 3 (messages.Answer 4 (answers.Granted (whole_grant 1 0 [])))) ∷ marked 4 (Called commands.Begin) ∷
    marked 4 (Told (replies.Began (tx 2 1))) ∷ marked 3 (Got 5) ∷ marked 3 (Told (replies.Response 0)) ∷
    marked 3 (Called (commands.Do 0 1)) ∷
    marked 3 (Sent 6 1 (messages.Request (tx 1 2) 1 0 (wants.Read (first_read 0 1))))
    ∷
    marked 3 (Sent 7 0 (messages.Request (tx 1 2) 1 1 (wants.Read (first_read 0 1)))) ∷ marked 0 (Got 7) ∷
    marked 0 (Sent 8 3 (messages.Answer 7 (answers.Granted (whole_grant 1 0 [])))) ∷ marked 3 (Got 8) ∷
    marked 3 (Lost 6)
    ∷
    marked 3 (Told (replies.Quorum halves.Read 1 2)) ∷ marked 4 (Called (commands.Do 0 1)) ∷
    marked 4 (Sent 9 0 (messages.Request (tx 2 1) 1 0 (wants.Read (first_read 0 1)))) ∷
    marked 4 (Sent 10 1 (messages.Request (tx 2 1) 1 0 (wants.Read (first_read 0 1)))) ∷ marked 0 (Got 9) ∷
    marked 0 (Sent 11 4 (messages.Answer 9 (answers.Granted (whole_grant 1 0 [])))) ∷ marked 4 (Got 11)
    ∷ marked 1 (Got 10) ∷
    marked 1 (Sent 12 4 (messages.Answer 10 (answers.Granted (whole_grant 1 0 [])))) ∷ marked 4 (Got 12) ∷
    marked 4 (Sent 13 0 (messages.Request (tx 2 1) 1 1 (wants.Append 0 [] (own_line 1 0 2 ∷ [])))) ∷
    marked 4 (Sent 14 1 (messages.Request (tx 2 1) 1 1 (wants.Append 0 [] (own_line 1 0 2 ∷ [])))) ∷ marked 0 (Got 13) ∷
    marked 0 (Sent 15 4 (messages.Answer 13 (answers.Clash (tx 1 2) 0 2))) ∷
    marked 0 (Sent 16 3 (messages.Inquiry (tx 1 2))) ∷ marked 3 (Got 16) ∷
    marked 3 (Sent 17 0 (messages.Decision (tx 1 2) outcomes.Active)) ∷ marked 0 (Got 17) ∷ marked 4 (Got 15) ∷
    marked 1 (Got 14) ∷ marked 1 (Sent 18 4 (messages.Answer 14 (answers.Granted (whole_grant 1 0 []))))
    ∷ marked 4 (Got 18) ∷
    marked 4 (Told (replies.Conflict (tx 1 2) 0)) ∷ marked 4 (Called (commands.Do 0 1)) ∷
    marked 4 (Told replies.Doomed) ∷ []
