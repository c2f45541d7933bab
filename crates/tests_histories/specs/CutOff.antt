-- A client that is cut off from two sites gets no quorum.
use Rattle.std.specs.Prelude.{List, [], ◌∷◌}
use Rattle.qc_msg.specs.Vocabulary.{Entry, marked}
use Rattle.tests_histories.specs.Play.{Move, Takes, Posts, Acts}
use Rattle.tests_histories.specs.Words.{tx}
use Rattle.qc_msg.specs.declared.step.Step.TheVariants.{Phase, Cut, Called, Got, Lost, Sent, Told}
use Rattle.qc_msg.specs.declared.message.Answer.TheVariants as answers
use Rattle.qc_msg.specs.declared.step.Command.TheVariants as commands
use Rattle.qc_msg.specs.declared.reply.Half.TheVariants as halves
use Rattle.qc_msg.specs.declared.message.Message.TheVariants as messages
use Rattle.qc_msg.specs.declared.reply.Reply.TheVariants as replies
use Rattle.qc_msg.specs.declared.message.Want.TheVariants as wants
use Rattle.qc_msg.specs.Vocabulary.{whole_grant, first_read}

abbrev pub moves : List Move
moves =
    Acts (Phase 1) ∷ Acts (Cut 4 0) ∷ Acts (Cut 4 1) ∷ Takes 4 (Called commands.Begin) ∷ Posts 4 ∷
    Takes 4 (Called (commands.Do 0 0)) ∷ Posts 4 ∷ Takes 2 (Got 1) ∷ Posts 2 ∷ Takes 4 (Got 2) ∷ Posts 4 ∷
    Takes 4 (Lost 0) ∷ Posts 4 ∷ Takes 4 (Lost 3) ∷ Posts 4 ∷ []

abbrev pub history : List Entry
history =
    marked 7 (Phase 1) ∷ marked 7 (Cut 4 0) ∷ marked 7 (Cut 4 1) ∷ marked 4 (Called commands.Begin) ∷
    marked 4 (Told (replies.Began (tx 1 1))) ∷ marked 4 (Called (commands.Do 0 0)) ∷
    marked 4 (Sent 0 1 (messages.Request (tx 1 1) 1 0 (wants.Read (first_read 0 0)))) ∷
    marked 4 (Sent 1 2 (messages.Request (tx 1 1) 1 0 (wants.Read (first_read 0 0)))) ∷ marked 2 (Got 1) ∷
    marked 2 (Sent 2 4 (messages.Answer 1 (answers.Granted (whole_grant 1 0 [])))) ∷ marked 4 (Got 2) ∷
    marked 4 (Lost 0)
    ∷
    marked 4 (Sent 3 0 (messages.Request (tx 1 1) 1 0 (wants.Read (first_read 0 0)))) ∷ marked 4 (Lost 3) ∷
    marked 4 (Told (replies.Quorum halves.Read 1 2)) ∷ []
