-- Random: sites 4, clients 2, steps 74, messages 28, cuts 1, commits 1.
use Rattle.std.specs.Prelude.{List, [], ◌∷◌}
use Rattle.qc_decl.specs.declared.declaration.Declaration.{Declaration}
use Rattle.qc_decl.specs.Vocabulary.{row}
use Rattle.qc_msg.specs.Vocabulary.{Entry, marked}
use Rattle.tests_histories.specs.Play.{Move, Takes, Posts, Acts}
use Rattle.tests_histories.specs.Words.{tx, stamp, own_line, commit, declaration, kind, pair, plan}
use Rattle.qc_msg.specs.declared.step.Step.TheVariants.{Phase, Cut, Heal, Called, Got, Wrote, Sent, Told}
use Rattle.qc_msg.specs.declared.message.Answer.TheVariants as answers
use Rattle.qc_msg.specs.declared.step.Command.TheVariants as commands
use Rattle.qc_msg.specs.declared.message.Message.TheVariants as messages
use Rattle.qc_msg.specs.declared.reply.Reply.TheVariants as replies
use Rattle.qc_msg.specs.declared.message.Want.TheVariants as wants
use Rattle.qc_msg.specs.Vocabulary.{whole_grant, first_read}

abbrev pub decl : Declaration
decl =
    declaration 4 2 (kind 7 3 4 0 (row 0 0 0 1 ∷ row 0 1 0 2 ∷ row 1 0 0 3 ∷ row 1 1 0 4 ∷ row 2 0 0 5 ∷ row 2 1 0 6 ∷
    row 0 2 3 0 ∷ row 1 2 1 0 ∷ row 2 2 2 0 ∷ row 3 2 1 1 ∷ row 4 2 1 2 ∷ row 5 2 2 1 ∷ row 6 2 2 2 ∷ []) (pair 0 0 ∷
    pair 0 1 ∷ pair 0 3 ∷ pair 0 4 ∷ pair 1 0 ∷ pair 1 1 ∷ pair 1 3 ∷ pair 1 4 ∷ pair 2 0 ∷ pair 2 1 ∷ pair 2 3 ∷ pair 2
    4 ∷ []) ∷ []) (0 ∷ []) (plan (1 ∷ 0 ∷ 1 ∷ 1 ∷ []) ((3 ∷ 2 ∷ 2 ∷ []) ∷ []) ((2 ∷ 2 ∷ 1 ∷ 2 ∷ 2 ∷ []) ∷ []) ∷ plan (1
    ∷ 0 ∷ 2 ∷ 1 ∷ []) ((3 ∷ 3 ∷ 3 ∷ []) ∷ []) ((2 ∷ 2 ∷ 0 ∷ 4 ∷ 2 ∷ []) ∷ []) ∷ [])

abbrev pub moves : List Move
moves =
    Acts (Phase 1) ∷ Acts (Phase 2) ∷ Acts (Cut 3 1) ∷ Takes 5 (Called commands.Begin) ∷ Posts 5 ∷
    Takes 5 (Called (commands.Do 0 0)) ∷ Posts 5 ∷ Takes 3 (Got 1) ∷ Takes 0 (Got 2) ∷ Posts 0 ∷ Takes 5 (Got 3) ∷
    Posts 5 ∷ Posts 3 ∷ Takes 2 (Got 0) ∷ Posts 2 ∷ Takes 5 (Got 4) ∷ Posts 5 ∷ Takes 5 (Got 5) ∷
    Takes 4 (Called commands.Begin) ∷ Posts 4 ∷ Takes 4 (Called commands.Commit) ∷ Posts 4 ∷ Posts 5 ∷ Takes 2 (Got 6) ∷
    Takes 3 (Got 7) ∷ Posts 3 ∷ Takes 5 (Got 8) ∷ Posts 5 ∷ Posts 2 ∷ Takes 5 (Got 9) ∷ Posts 5 ∷
    Takes 5 (Called (commands.Do 0 0)) ∷ Posts 5 ∷ Takes 0 (Got 12) ∷ Posts 0 ∷ Takes 3 (Got 11) ∷ Takes 5 (Got 13) ∷
    Posts 5 ∷ Posts 3 ∷ Takes 2 (Got 10) ∷ Posts 2 ∷ Takes 5 (Got 14) ∷ Posts 5 ∷ Takes 5 (Got 15) ∷ Posts 5 ∷
    Takes 2 (Got 16) ∷ Posts 2 ∷ Takes 3 (Got 17) ∷ Posts 3 ∷ Takes 5 (Got 18) ∷ Posts 5 ∷ Takes 5 (Got 19) ∷ Posts 5 ∷
    Takes 5 (Called (commands.Do 0 2)) ∷ Posts 5 ∷ Takes 3 (Got 21) ∷ Posts 3 ∷ Takes 5 (Got 22) ∷ Posts 5 ∷
    Takes 2 (Got 20) ∷ Posts 2 ∷ Takes 5 (Got 23) ∷ Posts 5 ∷ Takes 3 (Got 25) ∷ Posts 3 ∷ Takes 2 (Got 24) ∷ Posts 2 ∷
    Takes 5 (Got 26) ∷ Posts 5 ∷ Takes 5 (Got 27) ∷ Posts 5 ∷ Acts (Phase 3) ∷ Acts (Heal 3 1) ∷ []

abbrev pub history : List Entry
history =
    marked 7 (Phase 1) ∷ marked 7 (Phase 2) ∷ marked 7 (Cut 3 1) ∷ marked 5 (Called commands.Begin) ∷
    marked 5 (Told (replies.Began (tx 1 1))) ∷ marked 5 (Called (commands.Do 0 0)) ∷
    marked 5 (Sent 0 2 (messages.Request (tx 1 1) 1 0 (wants.Read (first_read 0 0)))) ∷
    marked 5 (Sent 1 3 (messages.Request (tx 1 1) 1 0 (wants.Read (first_read 0 0)))) ∷
    marked 5 (Sent 2 0 (messages.Request (tx 1 1) 1 0 (wants.Read (first_read 0 0)))) ∷ marked 3 (Got 1) ∷
    marked 0 (Got 2)
    ∷
    marked 0 (Sent 3 5 (messages.Answer 2 (answers.Granted (whole_grant 1 0 [])))) ∷ marked 5 (Got 3) ∷
    marked 3 (Sent 4 5 (messages.Answer 1 (answers.Granted (whole_grant 1 0 [])))) ∷ marked 2 (Got 0) ∷
    marked 2 (Sent 5 5 (messages.Answer 0 (answers.Granted (whole_grant 1 0 [])))) ∷ marked 5 (Got 4) ∷ marked 5 (Got 5)
    ∷
    marked 4 (Called commands.Begin) ∷ marked 4 (Told (replies.Began (tx 0 1))) ∷ marked 4 (Called commands.Commit) ∷
    marked 4 (Wrote (commit (stamp 1 0) (tx 0 1) [])) ∷ marked 4 (Told (replies.Committed (stamp 1 0))) ∷
    marked 5 (Sent 6 2 (messages.Request (tx 1 1) 1 1 (wants.Append 0 [] (own_line 1 0 0 ∷ [])))) ∷
    marked 5 (Sent 7 3 (messages.Request (tx 1 1) 1 1 (wants.Append 0 [] (own_line 1 0 0 ∷ [])))) ∷ marked 2 (Got 6) ∷
    marked 3 (Got 7) ∷ marked 3 (Sent 8 5 (messages.Answer 7 (answers.Granted (whole_grant 1 0 [])))) ∷ marked 5 (Got 8)
    ∷
    marked 2 (Sent 9 5 (messages.Answer 6 (answers.Granted (whole_grant 1 0 [])))) ∷ marked 5 (Got 9) ∷
    marked 5 (Told (replies.Response 0)) ∷ marked 5 (Called (commands.Do 0 0)) ∷
    marked 5 (Sent 10 2 (messages.Request (tx 1 1) 1 1 (wants.Read (first_read 0 0)))) ∷
    marked 5 (Sent 11 3 (messages.Request (tx 1 1) 1 1 (wants.Read (first_read 0 0)))) ∷
    marked 5 (Sent 12 0 (messages.Request (tx 1 1) 1 1 (wants.Read (first_read 0 0)))) ∷ marked 0 (Got 12) ∷
    marked 0 (Sent 13 5 (messages.Answer 12 (answers.Granted (whole_grant 1 0 [])))) ∷ marked 3 (Got 11)
    ∷ marked 5 (Got 13) ∷
    marked 3 (Sent 14 5 (messages.Answer 11 (answers.Granted (whole_grant 1 0 [])))) ∷ marked 2 (Got 10) ∷
    marked 2 (Sent 15 5 (messages.Answer 10 (answers.Granted (whole_grant 1 0 [])))) ∷ marked 5 (Got 14)
    ∷ marked 5 (Got 15) ∷
    marked 5 (Sent 16 2 (messages.Request (tx 1 1) 1 1 (wants.Append 0 [] (own_line 1 0 0 ∷ own_line 2 0 0 ∷ [])))) ∷
    marked 5 (Sent 17 3 (messages.Request (tx 1 1) 1 1 (wants.Append 0 [] (own_line 1 0 0 ∷ own_line 2 0 0 ∷ [])))) ∷
    marked 2 (Got 16) ∷ marked 2 (Sent 18 5 (messages.Answer 16 (answers.Granted (whole_grant 1 0 []))))
    ∷ marked 3 (Got 17) ∷
    marked 3 (Sent 19 5 (messages.Answer 17 (answers.Granted (whole_grant 1 0 [])))) ∷ marked 5 (Got 18)
    ∷ marked 5 (Got 19) ∷
    marked 5 (Told (replies.Response 0)) ∷ marked 5 (Called (commands.Do 0 2)) ∷
    marked 5 (Sent 20 2 (messages.Request (tx 1 1) 1 1 (wants.Read (first_read 0 2)))) ∷
    marked 5 (Sent 21 3 (messages.Request (tx 1 1) 1 1 (wants.Read (first_read 0 2)))) ∷ marked 3 (Got 21) ∷
    marked 3 (Sent 22 5 (messages.Answer 21 (answers.Granted (whole_grant 1 0 [])))) ∷ marked 5 (Got 22)
    ∷ marked 2 (Got 20) ∷
    marked 2 (Sent 23 5 (messages.Answer 20 (answers.Granted (whole_grant 1 0 [])))) ∷ marked 5 (Got 23) ∷
    marked 5 (Sent 24 2 (messages.Request (tx 1 1) 1 1 (wants.Append 0 [] (own_line 1 0 0 ∷ own_line 2 0 0 ∷ own_line 3
    0 3 ∷ [])))) ∷
    marked 5 (Sent 25 3 (messages.Request (tx 1 1) 1 1 (wants.Append 0 [] (own_line 1 0 0 ∷ own_line 2 0 0 ∷ own_line 3
    0 3 ∷ [])))) ∷
    marked 3 (Got 25) ∷ marked 3 (Sent 26 5 (messages.Answer 25 (answers.Granted (whole_grant 1 0 []))))
    ∷ marked 2 (Got 24) ∷
    marked 2 (Sent 27 5 (messages.Answer 24 (answers.Granted (whole_grant 1 0 [])))) ∷ marked 5 (Got 26)
    ∷ marked 5 (Got 27) ∷
    marked 5 (Told (replies.Response 1)) ∷ marked 7 (Phase 3) ∷ marked 7 (Heal 3 1) ∷ []
