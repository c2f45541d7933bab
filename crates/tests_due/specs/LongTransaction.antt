-- A history with the longest transaction.
use Rattle.std.specs.Prelude.{List, [], ◌∷◌}
use Rattle.qc_msg.specs.Vocabulary.{Entry, marked}
use Rattle.tests_histories.specs.Words.{tx, own_line}
use Rattle.qc_msg.specs.declared.step.Step.TheVariants.{Phase, Called, Got, Sent, Told}
use Rattle.qc_msg.specs.declared.message.Answer.TheVariants as answers
use Rattle.qc_msg.specs.declared.step.Command.TheVariants as commands
use Rattle.qc_msg.specs.declared.message.Message.TheVariants as messages
use Rattle.qc_msg.specs.declared.message.Outcome.TheVariants as outcomes
use Rattle.qc_msg.specs.declared.reply.Reply.TheVariants as replies
use Rattle.qc_msg.specs.declared.message.Want.TheVariants as wants
use Rattle.qc_msg.specs.Vocabulary.{whole_grant}

-- A transaction has too many operations.
abbrev pub too_long : List Entry
too_long =
    marked 7 (Phase 1) ∷ marked 3 (Called commands.Begin) ∷ marked 3 (Told (replies.Began (tx 0 1))) ∷
    marked 3 (Called (commands.Do 0 2)) ∷
    marked 3 (Sent 0 0 (messages.Request (tx 0 1) 1 0 (wants.Append 0 [] (own_line 1 0 3 ∷ [])))) ∷
    marked 3 (Sent 1 1 (messages.Request (tx 0 1) 1 0 (wants.Append 0 [] (own_line 1 0 3 ∷ [])))) ∷ marked 0 (Got 0) ∷
    marked 0 (Sent 2 3 (messages.Answer 0 (answers.Granted (whole_grant 1 0 [])))) ∷ marked 1 (Got 1) ∷
    marked 1 (Sent 3 3 (messages.Answer 1 (answers.Granted (whole_grant 1 0 [])))) ∷ marked 3 (Got 2) ∷ marked 3 (Got 3)
    ∷
    marked 3 (Told (replies.Response 2)) ∷ marked 3 (Called (commands.Do 0 2)) ∷
    marked 3 (Sent 4 0 (messages.Request (tx 0 1) 1 1 (wants.Append 0 [] (own_line 1 0 3 ∷ own_line 2 0 3 ∷ [])))) ∷
    marked 3 (Sent 5 1 (messages.Request (tx 0 1) 1 1 (wants.Append 0 [] (own_line 1 0 3 ∷ own_line 2 0 3 ∷ [])))) ∷
    marked 0 (Got 4) ∷ marked 0 (Sent 6 3 (messages.Answer 4 (answers.Granted (whole_grant 1 0 [])))) ∷ marked 1 (Got 5)
    ∷
    marked 1 (Sent 7 3 (messages.Answer 5 (answers.Granted (whole_grant 1 0 [])))) ∷ marked 3 (Got 6) ∷ marked 3 (Got 7)
    ∷
    marked 3 (Told (replies.Response 2)) ∷ marked 3 (Called (commands.Do 0 2)) ∷
    marked 3 (Sent 8 0 (messages.Request (tx 0 1) 1 1 (wants.Append 0 [] (own_line 1 0 3 ∷ own_line 2 0 3 ∷ own_line 3 0
    3 ∷ [])))) ∷
    marked 3 (Sent 9 1 (messages.Request (tx 0 1) 1 1 (wants.Append 0 [] (own_line 1 0 3 ∷ own_line 2 0 3 ∷ own_line 3 0
    3 ∷ [])))) ∷
    marked 0 (Got 8) ∷ marked 0 (Sent 10 3 (messages.Answer 8 (answers.Granted (whole_grant 1 0 [])))) ∷
    marked 1 (Got 9)
    ∷
    marked 1 (Sent 11 3 (messages.Answer 9 (answers.Granted (whole_grant 1 0 [])))) ∷ marked 3 (Got 10)
    ∷ marked 3 (Got 11) ∷
    marked 3 (Told (replies.Response 2)) ∷ marked 3 (Called (commands.Do 0 2)) ∷
    marked 3 (Sent 12 0 (messages.Request (tx 0 1) 1 1 (wants.Append 0 [] (own_line 1 0 3 ∷ own_line 2 0 3 ∷ own_line 3
    0 3 ∷ own_line 4 0 3 ∷ [])))) ∷
    marked 3 (Sent 13 1 (messages.Request (tx 0 1) 1 1 (wants.Append 0 [] (own_line 1 0 3 ∷ own_line 2 0 3 ∷ own_line 3
    0 3 ∷ own_line 4 0 3 ∷ [])))) ∷
    marked 0 (Got 12) ∷ marked 0 (Sent 14 3 (messages.Answer 12 (answers.Granted (whole_grant 1 0 []))))
    ∷ marked 1 (Got 13) ∷
    marked 1 (Sent 15 3 (messages.Answer 13 (answers.Granted (whole_grant 1 0 [])))) ∷ marked 3 (Got 14)
    ∷ marked 3 (Got 15) ∷
    marked 3 (Told (replies.Response 2)) ∷ marked 3 (Called (commands.Do 0 2)) ∷
    marked 3 (Sent 16 0 (messages.Request (tx 0 1) 1 1 (wants.Append 0 [] (own_line 1 0 3 ∷ own_line 2 0 3 ∷ own_line 3
    0 3 ∷ own_line 4 0 3 ∷ own_line 5 0 3 ∷ [])))) ∷
    marked 3 (Sent 17 1 (messages.Request (tx 0 1) 1 1 (wants.Append 0 [] (own_line 1 0 3 ∷ own_line 2 0 3 ∷ own_line 3
    0 3 ∷ own_line 4 0 3 ∷ own_line 5 0 3 ∷ [])))) ∷
    marked 0 (Got 16) ∷ marked 0 (Sent 18 3 (messages.Answer 16 (answers.Granted (whole_grant 1 0 []))))
    ∷ marked 1 (Got 17) ∷
    marked 1 (Sent 19 3 (messages.Answer 17 (answers.Granted (whole_grant 1 0 [])))) ∷ marked 3 (Got 18)
    ∷ marked 3 (Got 19) ∷
    marked 3 (Told (replies.Response 2)) ∷ marked 3 (Called (commands.Do 0 2)) ∷
    marked 3 (Sent 20 0 (messages.Request (tx 0 1) 1 1 (wants.Append 0 [] (own_line 1 0 3 ∷ own_line 2 0 3 ∷ own_line 3
    0 3 ∷ own_line 4 0 3 ∷ own_line 5 0 3 ∷ own_line 6 0 3 ∷ [])))) ∷
    marked 3 (Sent 21 1 (messages.Request (tx 0 1) 1 1 (wants.Append 0 [] (own_line 1 0 3 ∷ own_line 2 0 3 ∷ own_line 3
    0 3 ∷ own_line 4 0 3 ∷ own_line 5 0 3 ∷ own_line 6 0 3 ∷ [])))) ∷
    marked 0 (Got 20) ∷ marked 0 (Sent 22 3 (messages.Answer 20 (answers.Granted (whole_grant 1 0 []))))
    ∷ marked 1 (Got 21) ∷
    marked 1 (Sent 23 3 (messages.Answer 21 (answers.Granted (whole_grant 1 0 [])))) ∷ marked 3 (Got 22)
    ∷ marked 3 (Got 23) ∷
    marked 3 (Told (replies.Response 2)) ∷ marked 3 (Called (commands.Do 0 2)) ∷
    marked 3 (Sent 24 0 (messages.Request (tx 0 1) 1 1 (wants.Append 0 [] (own_line 1 0 3 ∷ own_line 2 0 3 ∷ own_line 3
    0 3 ∷ own_line 4 0 3 ∷ own_line 5 0 3 ∷ own_line 6 0 3 ∷ own_line 7 0 3 ∷ [])))) ∷
    marked 3 (Sent 25 1 (messages.Request (tx 0 1) 1 1 (wants.Append 0 [] (own_line 1 0 3 ∷ own_line 2 0 3 ∷ own_line 3
    0 3 ∷ own_line 4 0 3 ∷ own_line 5 0 3 ∷ own_line 6 0 3 ∷ own_line 7 0 3 ∷ [])))) ∷
    marked 0 (Got 24) ∷ marked 0 (Sent 26 3 (messages.Answer 24 (answers.Granted (whole_grant 1 0 []))))
    ∷ marked 1 (Got 25) ∷
    marked 1 (Sent 27 3 (messages.Answer 25 (answers.Granted (whole_grant 1 0 [])))) ∷ marked 3 (Got 26)
    ∷ marked 3 (Got 27) ∷
    marked 3 (Told (replies.Response 2)) ∷ marked 3 (Called (commands.Do 0 2)) ∷
    marked 3 (Sent 28 0 (messages.Request (tx 0 1) 1 1 (wants.Append 0 [] (own_line 1 0 3 ∷ own_line 2 0 3 ∷ own_line 3
    0 3 ∷ own_line 4 0 3 ∷ own_line 5 0 3 ∷ own_line 6 0 3 ∷ own_line 7 0 3 ∷ own_line 8 0 3 ∷ [])))) ∷
    marked 3 (Sent 29 1 (messages.Request (tx 0 1) 1 1 (wants.Append 0 [] (own_line 1 0 3 ∷ own_line 2 0 3 ∷ own_line 3
    0 3 ∷ own_line 4 0 3 ∷ own_line 5 0 3 ∷ own_line 6 0 3 ∷ own_line 7 0 3 ∷ own_line 8 0 3 ∷ [])))) ∷
    marked 0 (Got 28) ∷ marked 0 (Sent 30 3 (messages.Answer 28 (answers.Granted (whole_grant 1 0 []))))
    ∷ marked 1 (Got 29) ∷
    marked 1 (Sent 31 3 (messages.Answer 29 (answers.Granted (whole_grant 1 0 [])))) ∷ marked 3 (Got 30)
    ∷ marked 3 (Got 31) ∷
    marked 3 (Told (replies.Response 2)) ∷ marked 3 (Called (commands.Do 0 2)) ∷
    marked 3 (Sent 32 0 (messages.Request (tx 0 1) 1 1 (wants.Append 0 [] (own_line 1 0 3 ∷ own_line 2 0 3 ∷ own_line 3
    0 3 ∷ own_line 4 0 3 ∷ own_line 5 0 3 ∷ own_line 6 0 3 ∷ own_line 7 0 3 ∷ own_line 8 0 3 ∷ own_line 9 0 3 ∷ [])))) ∷
    marked 3 (Sent 33 1 (messages.Request (tx 0 1) 1 1 (wants.Append 0 [] (own_line 1 0 3 ∷ own_line 2 0 3 ∷ own_line 3
    0 3 ∷ own_line 4 0 3 ∷ own_line 5 0 3 ∷ own_line 6 0 3 ∷ own_line 7 0 3 ∷ own_line 8 0 3 ∷ own_line 9 0 3 ∷ [])))) ∷
    marked 0 (Got 32) ∷ marked 0 (Sent 34 3 (messages.Answer 32 (answers.Granted (whole_grant 1 0 []))))
    ∷ marked 1 (Got 33) ∷
    marked 1 (Sent 35 3 (messages.Answer 33 (answers.Granted (whole_grant 1 0 [])))) ∷ marked 3 (Got 34)
    ∷ marked 3 (Got 35) ∷
    marked 3 (Told (replies.Response 2)) ∷ marked 3 (Called (commands.Do 0 2)) ∷
    marked 3 (Sent 36 0 (messages.Request (tx 0 1) 1 1 (wants.Append 0 [] (own_line 1 0 3 ∷ own_line 2 0 3 ∷ own_line 3
    0 3 ∷ own_line 4 0 3 ∷ own_line 5 0 3 ∷ own_line 6 0 3 ∷ own_line 7 0 3 ∷ own_line 8 0 3 ∷ own_line 9 0 3 ∷ own_line
    10 0 3 ∷ [])))) ∷
    marked 3 (Sent 37 1 (messages.Request (tx 0 1) 1 1 (wants.Append 0 [] (own_line 1 0 3 ∷ own_line 2 0 3 ∷ own_line 3
    0 3 ∷ own_line 4 0 3 ∷ own_line 5 0 3 ∷ own_line 6 0 3 ∷ own_line 7 0 3 ∷ own_line 8 0 3 ∷ own_line 9 0 3 ∷ own_line
    10 0 3 ∷ [])))) ∷
    marked 0 (Got 36) ∷ marked 0 (Sent 38 3 (messages.Answer 36 (answers.Granted (whole_grant 1 0 []))))
    ∷ marked 1 (Got 37) ∷
    marked 1 (Sent 39 3 (messages.Answer 37 (answers.Granted (whole_grant 1 0 [])))) ∷ marked 3 (Got 38)
    ∷ marked 3 (Got 39) ∷
    marked 3 (Told (replies.Response 2)) ∷ marked 3 (Called (commands.Do 0 2)) ∷
    marked 3 (Sent 40 0 (messages.Request (tx 0 1) 1 1 (wants.Append 0 [] (own_line 1 0 3 ∷ own_line 2 0 3 ∷ own_line 3
    0 3 ∷ own_line 4 0 3 ∷ own_line 5 0 3 ∷ own_line 6 0 3 ∷ own_line 7 0 3 ∷ own_line 8 0 3 ∷ own_line 9 0 3 ∷ own_line
    10 0 3 ∷ own_line 11 0 3 ∷ [])))) ∷
    marked 3 (Sent 41 1 (messages.Request (tx 0 1) 1 1 (wants.Append 0 [] (own_line 1 0 3 ∷ own_line 2 0 3 ∷ own_line 3
    0 3 ∷ own_line 4 0 3 ∷ own_line 5 0 3 ∷ own_line 6 0 3 ∷ own_line 7 0 3 ∷ own_line 8 0 3 ∷ own_line 9 0 3 ∷ own_line
    10 0 3 ∷ own_line 11 0 3 ∷ [])))) ∷
    marked 0 (Got 40) ∷ marked 0 (Sent 42 3 (messages.Answer 40 (answers.Granted (whole_grant 1 0 []))))
    ∷ marked 1 (Got 41) ∷
    marked 1 (Sent 43 3 (messages.Answer 41 (answers.Granted (whole_grant 1 0 [])))) ∷ marked 3 (Got 42)
    ∷ marked 3 (Got 43) ∷
    marked 3 (Told (replies.Response 2)) ∷ marked 3 (Called (commands.Do 0 2)) ∷
    marked 3 (Sent 44 0 (messages.Request (tx 0 1) 1 1 (wants.Append 0 [] (own_line 1 0 3 ∷ own_line 2 0 3 ∷ own_line 3
    0 3 ∷ own_line 4 0 3 ∷ own_line 5 0 3 ∷ own_line 6 0 3 ∷ own_line 7 0 3 ∷ own_line 8 0 3 ∷ own_line 9 0 3 ∷ own_line
    10 0 3 ∷ own_line 11 0 3 ∷ own_line 12 0 3 ∷ [])))) ∷
    marked 3 (Sent 45 1 (messages.Request (tx 0 1) 1 1 (wants.Append 0 [] (own_line 1 0 3 ∷ own_line 2 0 3 ∷ own_line 3
    0 3 ∷ own_line 4 0 3 ∷ own_line 5 0 3 ∷ own_line 6 0 3 ∷ own_line 7 0 3 ∷ own_line 8 0 3 ∷ own_line 9 0 3 ∷ own_line
    10 0 3 ∷ own_line 11 0 3 ∷ own_line 12 0 3 ∷ [])))) ∷
    marked 0 (Got 44) ∷ marked 0 (Sent 46 3 (messages.Answer 44 (answers.Granted (whole_grant 1 0 []))))
    ∷ marked 1 (Got 45) ∷
    marked 1 (Sent 47 3 (messages.Answer 45 (answers.Granted (whole_grant 1 0 [])))) ∷ marked 3 (Got 46)
    ∷ marked 3 (Got 47) ∷
    marked 3 (Told (replies.Response 2)) ∷ marked 3 (Called (commands.Do 0 2)) ∷
    marked 3 (Sent 48 0 (messages.Request (tx 0 1) 1 1 (wants.Append 0 [] (own_line 1 0 3 ∷ own_line 2 0 3 ∷ own_line 3
    0 3 ∷ own_line 4 0 3 ∷ own_line 5 0 3 ∷ own_line 6 0 3 ∷ own_line 7 0 3 ∷ own_line 8 0 3 ∷ own_line 9 0 3 ∷ own_line
    10 0 3 ∷ own_line 11 0 3 ∷ own_line 12 0 3 ∷ own_line 13 0 3 ∷ [])))) ∷
    marked 3 (Sent 49 1 (messages.Request (tx 0 1) 1 1 (wants.Append 0 [] (own_line 1 0 3 ∷ own_line 2 0 3 ∷ own_line 3
    0 3 ∷ own_line 4 0 3 ∷ own_line 5 0 3 ∷ own_line 6 0 3 ∷ own_line 7 0 3 ∷ own_line 8 0 3 ∷ own_line 9 0 3 ∷ own_line
    10 0 3 ∷ own_line 11 0 3 ∷ own_line 12 0 3 ∷ own_line 13 0 3 ∷ [])))) ∷
    marked 0 (Got 48) ∷ marked 0 (Sent 50 3 (messages.Answer 48 (answers.Granted (whole_grant 1 0 []))))
    ∷ marked 1 (Got 49) ∷
    marked 1 (Sent 51 3 (messages.Answer 49 (answers.Granted (whole_grant 1 0 [])))) ∷ marked 3 (Got 50)
    ∷ marked 3 (Got 51) ∷
    marked 3 (Told (replies.Response 2)) ∷ marked 3 (Called (commands.Do 0 2)) ∷
    marked 3 (Sent 52 0 (messages.Request (tx 0 1) 1 1 (wants.Append 0 [] (own_line 1 0 3 ∷ own_line 2 0 3 ∷ own_line 3
    0 3 ∷ own_line 4 0 3 ∷ own_line 5 0 3 ∷ own_line 6 0 3 ∷ own_line 7 0 3 ∷ own_line 8 0 3 ∷ own_line 9 0 3 ∷ own_line
    10 0 3 ∷ own_line 11 0 3 ∷ own_line 12 0 3 ∷ own_line 13 0 3 ∷ own_line 14 0 3 ∷ [])))) ∷
    marked 3 (Sent 53 1 (messages.Request (tx 0 1) 1 1 (wants.Append 0 [] (own_line 1 0 3 ∷ own_line 2 0 3 ∷ own_line 3
    0 3 ∷ own_line 4 0 3 ∷ own_line 5 0 3 ∷ own_line 6 0 3 ∷ own_line 7 0 3 ∷ own_line 8 0 3 ∷ own_line 9 0 3 ∷ own_line
    10 0 3 ∷ own_line 11 0 3 ∷ own_line 12 0 3 ∷ own_line 13 0 3 ∷ own_line 14 0 3 ∷ [])))) ∷
    marked 0 (Got 52) ∷ marked 0 (Sent 54 3 (messages.Answer 52 (answers.Granted (whole_grant 1 0 []))))
    ∷ marked 1 (Got 53) ∷
    marked 1 (Sent 55 3 (messages.Answer 53 (answers.Granted (whole_grant 1 0 [])))) ∷ marked 3 (Got 54)
    ∷ marked 3 (Got 55) ∷
    marked 3 (Told (replies.Response 2)) ∷ marked 3 (Called (commands.Do 0 2)) ∷
    marked 3 (Sent 56 0 (messages.Request (tx 0 1) 1 1 (wants.Append 0 [] (own_line 1 0 3 ∷ own_line 2 0 3 ∷ own_line 3
    0 3 ∷ own_line 4 0 3 ∷ own_line 5 0 3 ∷ own_line 6 0 3 ∷ own_line 7 0 3 ∷ own_line 8 0 3 ∷ own_line 9 0 3 ∷ own_line
    10 0 3 ∷ own_line 11 0 3 ∷ own_line 12 0 3 ∷ own_line 13 0 3 ∷ own_line 14 0 3 ∷ own_line 15 0 3 ∷ [])))) ∷
    marked 3 (Sent 57 1 (messages.Request (tx 0 1) 1 1 (wants.Append 0 [] (own_line 1 0 3 ∷ own_line 2 0 3 ∷ own_line 3
    0 3 ∷ own_line 4 0 3 ∷ own_line 5 0 3 ∷ own_line 6 0 3 ∷ own_line 7 0 3 ∷ own_line 8 0 3 ∷ own_line 9 0 3 ∷ own_line
    10 0 3 ∷ own_line 11 0 3 ∷ own_line 12 0 3 ∷ own_line 13 0 3 ∷ own_line 14 0 3 ∷ own_line 15 0 3 ∷ [])))) ∷
    marked 0 (Got 56) ∷ marked 0 (Sent 58 3 (messages.Answer 56 (answers.Granted (whole_grant 1 0 []))))
    ∷ marked 1 (Got 57) ∷
    marked 1 (Sent 59 3 (messages.Answer 57 (answers.Granted (whole_grant 1 0 [])))) ∷ marked 3 (Got 58)
    ∷ marked 3 (Got 59) ∷
    marked 3 (Told (replies.Response 2)) ∷ marked 3 (Called (commands.Do 0 2)) ∷
    marked 3 (Sent 60 0 (messages.Request (tx 0 1) 1 1 (wants.Append 0 [] (own_line 1 0 3 ∷ own_line 2 0 3 ∷ own_line 3
    0 3 ∷ own_line 4 0 3 ∷ own_line 5 0 3 ∷ own_line 6 0 3 ∷ own_line 7 0 3 ∷ own_line 8 0 3 ∷ own_line 9 0 3 ∷ own_line
    10 0 3 ∷ own_line 11 0 3 ∷ own_line 12 0 3 ∷ own_line 13 0 3 ∷ own_line 14 0 3 ∷ own_line 15 0 3 ∷ own_line 16 0 3 ∷
    [])))) ∷
    marked 3 (Sent 61 1 (messages.Request (tx 0 1) 1 1 (wants.Append 0 [] (own_line 1 0 3 ∷ own_line 2 0 3 ∷ own_line 3
    0 3 ∷ own_line 4 0 3 ∷ own_line 5 0 3 ∷ own_line 6 0 3 ∷ own_line 7 0 3 ∷ own_line 8 0 3 ∷ own_line 9 0 3 ∷ own_line
    10 0 3 ∷ own_line 11 0 3 ∷ own_line 12 0 3 ∷ own_line 13 0 3 ∷ own_line 14 0 3 ∷ own_line 15 0 3 ∷ own_line 16 0 3 ∷
    [])))) ∷
    marked 0 (Got 60) ∷ marked 0 (Sent 62 3 (messages.Answer 60 (answers.Granted (whole_grant 1 0 []))))
    ∷ marked 1 (Got 61) ∷
    marked 1 (Sent 63 3 (messages.Answer 61 (answers.Granted (whole_grant 1 0 [])))) ∷ marked 3 (Got 62)
    ∷ marked 3 (Got 63) ∷
    marked 3 (Told (replies.Response 2)) ∷ marked 3 (Called (commands.Do 0 2)) ∷ marked 3 (Told replies.TooLong) ∷
    marked 3 (Called commands.Abort) ∷ marked 3 (Sent 64 0 (messages.Decision (tx 0 1) outcomes.Aborted)) ∷
    marked 3 (Sent 65 1 (messages.Decision (tx 0 1) outcomes.Aborted)) ∷ marked 3 (Told replies.Dropped) ∷
    marked 0 (Got 64) ∷ marked 1 (Got 65) ∷ []
