-- Random: sites 1, clients 2, steps 76, messages 15, lost 4, cuts 2, conflicts 1, short rounds 4.
use Rattle.std.specs.Prelude.{List, [], ◌∷◌}
use Rattle.qc_decl.specs.declared.declaration.Declaration.{Declaration}
use Rattle.qc_decl.specs.Vocabulary.{row}
use Rattle.qc_msg.specs.Vocabulary.{Entry, marked}
use Rattle.tests_histories.specs.Play.{Move, Takes, Posts, Acts}
use Rattle.tests_histories.specs.Words.{tx, own_line, declaration, kind, pair, plan}
use Rattle.qc_msg.specs.declared.step.Step.TheVariants.{Phase, Cut, Heal, Called, Got, Lost, Sent, Told}
use Rattle.qc_msg.specs.declared.message.Answer.TheVariants as answers
use Rattle.qc_msg.specs.declared.step.Command.TheVariants as commands
use Rattle.qc_msg.specs.declared.reply.Half.TheVariants as halves
use Rattle.qc_msg.specs.declared.message.Message.TheVariants as messages
use Rattle.qc_msg.specs.declared.message.Outcome.TheVariants as outcomes
use Rattle.qc_msg.specs.declared.reply.Reply.TheVariants as replies
use Rattle.qc_msg.specs.declared.message.Want.TheVariants as wants
use Rattle.qc_msg.specs.Vocabulary.{whole_grant, first_read}

abbrev pub decl : Declaration
decl =
    declaration 1 2 (kind 2 1 1 0 (row 0 0 0 0 ∷ row 1 0 0 0 ∷ []) [] ∷ kind 3 3 5 0 (row 0 0 0 1 ∷ row 1 0 0 2 ∷ row 2
    0 1 2 ∷ row 0 1 1 0 ∷ row 1 1 0 0 ∷ row 2 1 0 1 ∷ row 0 2 2 0 ∷ row 1 2 3 1 ∷ row 2 2 4 2 ∷ []) (pair 0 0 ∷ pair 0 3
    ∷ pair 1 0 ∷ pair 1 3 ∷ pair 2 0 ∷ pair 2 3 ∷ []) ∷ []) (1 ∷ []) (plan (1 ∷ []) ((1 ∷ 1 ∷ 1 ∷ []) ∷ []) ((1 ∷ 0 ∷ 0
    ∷ 1 ∷ 0 ∷ 0 ∷ 0 ∷ []) ∷ []) ∷ [])

abbrev pub moves : List Move
moves =
    Acts (Phase 1) ∷ Takes 2 (Called commands.Begin) ∷ Posts 2 ∷ Takes 2 (Called (commands.Do 0 2)) ∷ Posts 2 ∷
    Takes 0 (Got 0) ∷ Posts 0 ∷ Takes 2 (Got 1) ∷ Posts 2 ∷ Takes 2 (Called (commands.Do 0 1)) ∷ Posts 2 ∷
    Takes 0 (Got 2) ∷ Posts 0 ∷ Takes 2 (Got 3) ∷ Posts 2 ∷ Acts (Phase 2) ∷ Acts (Phase 3) ∷
    Takes 1 (Called commands.Begin) ∷ Posts 1 ∷ Takes 1 (Called (commands.Do 0 0)) ∷ Posts 1 ∷ Takes 0 (Got 4) ∷
    Posts 0 ∷ Takes 1 (Got 5) ∷ Posts 1 ∷ Takes 0 (Got 6) ∷ Posts 0 ∷ Takes 1 (Got 7) ∷ Posts 1 ∷
    Takes 1 (Called (commands.Do 0 1)) ∷ Posts 1 ∷ Takes 2 (Got 8) ∷ Posts 2 ∷ Takes 0 (Got 9) ∷ Posts 0 ∷
    Takes 1 (Called (commands.Do 0 0)) ∷ Posts 1 ∷ Takes 1 (Called (commands.Do 0 2)) ∷ Posts 1 ∷
    Takes 1 (Called (commands.Do 0 1)) ∷ Posts 1 ∷ Takes 1 (Called commands.Abort) ∷ Posts 1 ∷ Takes 0 (Got 10) ∷
    Posts 0 ∷ Acts (Phase 4) ∷ Acts (Phase 5) ∷ Takes 1 (Called (commands.Do 0 2)) ∷ Posts 1 ∷
    Takes 1 (Called (commands.Do 0 2)) ∷ Posts 1 ∷ Takes 1 (Called (commands.Do 0 1)) ∷ Posts 1 ∷
    Takes 1 (Called commands.Abort) ∷ Posts 1 ∷ Acts (Phase 6) ∷ Acts (Cut 0 2) ∷ Takes 2 (Called (commands.Do 0 0)) ∷
    Posts 2 ∷ Takes 2 (Lost 11) ∷ Posts 2 ∷ Takes 2 (Called (commands.Do 0 2)) ∷ Posts 2 ∷ Takes 2 (Lost 12) ∷ Posts 2 ∷
    Takes 2 (Called (commands.Do 0 1)) ∷ Posts 2 ∷ Takes 2 (Lost 13) ∷ Posts 2 ∷ Takes 2 (Called (commands.Do 0 2)) ∷
    Posts 2 ∷ Takes 2 (Lost 14) ∷ Posts 2 ∷ Acts (Phase 7) ∷ Acts (Heal 0 2) ∷ Acts (Cut 0 1) ∷ []

abbrev pub history : List Entry
history =
    marked 4 (Phase 1) ∷ marked 2 (Called commands.Begin) ∷ marked 2 (Told (replies.Began (tx 1 1))) ∷
    marked 2 (Called (commands.Do 0 2)) ∷
    marked 2 (Sent 0 0 (messages.Request (tx 1 1) 1 0 (wants.Read (first_read 0 2))))
    ∷
    marked 0 (Got 0) ∷ marked 0 (Sent 1 2 (messages.Answer 0 (answers.Granted (whole_grant 1 0 [])))) ∷ marked 2 (Got 1)
    ∷
    marked 2 (Told (replies.Response 2)) ∷ marked 2 (Called (commands.Do 0 1)) ∷
    marked 2 (Sent 2 0 (messages.Request (tx 1 1) 1 1 (wants.Read (first_read 0 1)))) ∷ marked 0 (Got 2) ∷
    marked 0 (Sent 3 2 (messages.Answer 2 (answers.Granted (whole_grant 1 0 [])))) ∷ marked 2 (Got 3) ∷
    marked 2 (Told (replies.Response 1)) ∷ marked 4 (Phase 2) ∷ marked 4 (Phase 3) ∷ marked 1 (Called commands.Begin) ∷
    marked 1 (Told (replies.Began (tx 0 1))) ∷ marked 1 (Called (commands.Do 0 0)) ∷
    marked 1 (Sent 4 0 (messages.Request (tx 0 1) 1 0 (wants.Read (first_read 0 0)))) ∷ marked 0 (Got 4) ∷
    marked 0 (Sent 5 1 (messages.Answer 4 (answers.Granted (whole_grant 1 0 [])))) ∷ marked 1 (Got 5) ∷
    marked 1 (Sent 6 0 (messages.Request (tx 0 1) 1 1 (wants.Append 0 [] (own_line 1 0 0 ∷ [])))) ∷ marked 0 (Got 6) ∷
    marked 0 (Sent 7 1 (messages.Answer 6 (answers.Clash (tx 1 1) 1 0))) ∷
    marked 0 (Sent 8 2 (messages.Inquiry (tx 1 1))) ∷ marked 1 (Got 7) ∷ marked 1 (Told (replies.Conflict (tx 1 1) 0)) ∷
    marked 1 (Called (commands.Do 0 1)) ∷ marked 1 (Told replies.Doomed) ∷ marked 2 (Got 8) ∷
    marked 2 (Sent 9 0 (messages.Decision (tx 1 1) outcomes.Active)) ∷ marked 0 (Got 9) ∷
    marked 1 (Called (commands.Do 0 0)) ∷ marked 1 (Told replies.Doomed) ∷ marked 1 (Called (commands.Do 0 2)) ∷
    marked 1 (Told replies.Doomed) ∷ marked 1 (Called (commands.Do 0 1)) ∷ marked 1 (Told replies.Doomed) ∷
    marked 1 (Called commands.Abort) ∷ marked 1 (Sent 10 0 (messages.Decision (tx 0 1) outcomes.Aborted)) ∷
    marked 1 (Told replies.Dropped) ∷ marked 0 (Got 10) ∷ marked 4 (Phase 4) ∷ marked 4 (Phase 5) ∷
    marked 1 (Called (commands.Do 0 2)) ∷ marked 1 (Told replies.NoTransaction) ∷ marked 1 (Called (commands.Do 0 2)) ∷
    marked 1 (Told replies.NoTransaction) ∷ marked 1 (Called (commands.Do 0 1)) ∷
    marked 1 (Told replies.NoTransaction) ∷ marked 1 (Called commands.Abort) ∷ marked 1 (Told replies.NoTransaction) ∷
    marked 4 (Phase 6) ∷ marked 4 (Cut 0 2) ∷ marked 2 (Called (commands.Do 0 0)) ∷
    marked 2 (Sent 11 0 (messages.Request (tx 1 1) 1 1 (wants.Read (first_read 0 0)))) ∷ marked 2 (Lost 11) ∷
    marked 2 (Told (replies.Quorum halves.Read 0 1)) ∷ marked 2 (Called (commands.Do 0 2)) ∷
    marked 2 (Sent 12 0 (messages.Request (tx 1 1) 1 1 (wants.Read (first_read 0 2)))) ∷ marked 2 (Lost 12) ∷
    marked 2 (Told (replies.Quorum halves.Read 0 1)) ∷ marked 2 (Called (commands.Do 0 1)) ∷
    marked 2 (Sent 13 0 (messages.Request (tx 1 1) 1 1 (wants.Read (first_read 0 1)))) ∷ marked 2 (Lost 13) ∷
    marked 2 (Told (replies.Quorum halves.Read 0 1)) ∷ marked 2 (Called (commands.Do 0 2)) ∷
    marked 2 (Sent 14 0 (messages.Request (tx 1 1) 1 1 (wants.Read (first_read 0 2)))) ∷ marked 2 (Lost 14) ∷
    marked 2 (Told (replies.Quorum halves.Read 0 1)) ∷ marked 4 (Phase 7) ∷ marked 4 (Heal 0 2) ∷ marked 4 (Cut 0 1) ∷
    []
