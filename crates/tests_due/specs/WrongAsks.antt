-- Wrong histories: requests that no round wants, replies of what isn't declared, and untold replies.
use Rattle.std.specs.Prelude.{List, [], ◌∷◌}
use Rattle.qc_msg.specs.Vocabulary.{Entry, marked}
use Rattle.tests_histories.specs.Words.{tx}
use Rattle.qc_msg.specs.declared.step.Step.TheVariants.{Phase, Cut, Called, Got, Lost, Sent, Told}
use Rattle.qc_msg.specs.declared.message.Answer.TheVariants as answers
use Rattle.qc_msg.specs.declared.step.Command.TheVariants as commands
use Rattle.qc_msg.specs.declared.message.Message.TheVariants as messages
use Rattle.qc_msg.specs.declared.reply.Reply.TheVariants as replies
use Rattle.qc_msg.specs.declared.message.Want.TheVariants as wants
use Rattle.qc_msg.specs.Vocabulary.{whole_grant, first_read}

-- The conflict of a third site is told where two are enough.
abbrev pub conflict_of_a_site_too_many : List Entry
conflict_of_a_site_too_many =
    marked 7 (Phase 1) ∷ marked 3 (Called commands.Begin) ∷ marked 3 (Told (replies.Began (tx 0 1))) ∷
    marked 3 (Called (commands.Do 0 0)) ∷
    marked 3 (Sent 0 0 (messages.Request (tx 0 1) 1 0 (wants.Read (first_read 0 0))))
    ∷
    marked 3 (Sent 1 1 (messages.Request (tx 0 1) 1 0 (wants.Read (first_read 0 0)))) ∷
    marked 3 (Sent 2 2 (messages.Request (tx 0 1) 1 0 (wants.Read (first_read 0 0)))) ∷ marked 0 (Got 0) ∷
    marked 0 (Sent 3 3 (messages.Answer 0 (answers.Granted (whole_grant 1 0 [])))) ∷ marked 1 (Got 1) ∷
    marked 1 (Sent 4 3 (messages.Answer 1 (answers.Granted (whole_grant 1 0 [])))) ∷ marked 2 (Got 2) ∷
    marked 2 (Sent 5 3 (messages.Answer 2 (answers.Clash (tx 1 1) 0 0))) ∷ marked 3 (Got 5) ∷ marked 3 (Got 3) ∷
    marked 3 (Got 4) ∷ marked 3 (Told (replies.Conflict (tx 1 1) 2)) ∷ []

-- So is a closed epoch.
abbrev pub closed_by_a_site_too_many : List Entry
closed_by_a_site_too_many =
    marked 7 (Phase 1) ∷ marked 3 (Called commands.Begin) ∷ marked 3 (Told (replies.Began (tx 0 1))) ∷
    marked 3 (Called (commands.Do 0 0)) ∷
    marked 3 (Sent 0 0 (messages.Request (tx 0 1) 1 0 (wants.Read (first_read 0 0))))
    ∷
    marked 3 (Sent 1 1 (messages.Request (tx 0 1) 1 0 (wants.Read (first_read 0 0)))) ∷
    marked 3 (Sent 2 2 (messages.Request (tx 0 1) 1 0 (wants.Read (first_read 0 0)))) ∷ marked 0 (Got 0) ∷
    marked 0 (Sent 3 3 (messages.Answer 0 (answers.Granted (whole_grant 1 0 [])))) ∷ marked 1 (Got 1) ∷
    marked 1 (Sent 4 3 (messages.Answer 1 (answers.Granted (whole_grant 1 0 [])))) ∷ marked 2 (Got 2) ∷
    marked 2 (Sent 5 3 (messages.Answer 2 (answers.Closed 2))) ∷ marked 3 (Got 5) ∷ marked 3 (Got 3) ∷
    marked 3 (Got 4) ∷ marked 3 (Told (replies.Closed 2 2)) ∷ []

-- The sites are asked in another order than the client's.
abbrev pub out_of_order : List Entry
out_of_order =
    marked 7 (Phase 1) ∷ marked 3 (Called commands.Begin) ∷ marked 3 (Told (replies.Began (tx 0 1))) ∷
    marked 3 (Called (commands.Do 0 0)) ∷
    marked 3 (Sent 0 1 (messages.Request (tx 0 1) 1 0 (wants.Read (first_read 0 0))))
    ∷
    marked 3 (Sent 1 2 (messages.Request (tx 0 1) 1 0 (wants.Read (first_read 0 0)))) ∷ marked 1 (Got 0) ∷
    marked 1 (Sent 2 3 (messages.Answer 0 (answers.Granted (whole_grant 1 0 [])))) ∷ marked 2 (Got 1) ∷
    marked 2 (Sent 3 3 (messages.Answer 1 (answers.Granted (whole_grant 1 0 [])))) ∷ marked 3 (Got 2) ∷ marked 3 (Got 3)
    ∷
    marked 3 (Told (replies.Response 0)) ∷ []

-- A third site is waited for where two have granted.
abbrev pub waits_for_a_site_too_many : List Entry
waits_for_a_site_too_many =
    marked 7 (Phase 1) ∷ marked 3 (Called commands.Begin) ∷ marked 3 (Told (replies.Began (tx 0 1))) ∷
    marked 3 (Called (commands.Do 0 0)) ∷
    marked 3 (Sent 0 0 (messages.Request (tx 0 1) 1 0 (wants.Read (first_read 0 0))))
    ∷
    marked 3 (Sent 1 1 (messages.Request (tx 0 1) 1 0 (wants.Read (first_read 0 0)))) ∷
    marked 3 (Sent 2 2 (messages.Request (tx 0 1) 1 0 (wants.Read (first_read 0 0)))) ∷ marked 0 (Got 0) ∷
    marked 0 (Sent 3 3 (messages.Answer 0 (answers.Granted (whole_grant 1 0 [])))) ∷ marked 1 (Got 1) ∷
    marked 1 (Sent 4 3 (messages.Answer 1 (answers.Granted (whole_grant 1 0 [])))) ∷ marked 3 (Got 3) ∷ marked 3 (Got 4)
    ∷
    marked 3 (Lost 2) ∷ []

-- A `do` is called though the begin has no reply.
abbrev pub begin_untold : List Entry
begin_untold =
    marked 7 (Phase 1) ∷ marked 3 (Called commands.Begin) ∷ marked 3 (Called (commands.Do 0 0)) ∷ []

-- A transaction is given up though its `do` is to be refused.
abbrev pub refusal_untold : List Entry
refusal_untold =
    marked 7 (Phase 1) ∷ marked 7 (Cut 4 0) ∷ marked 7 (Cut 4 1) ∷ marked 4 (Called commands.Begin) ∷
    marked 4 (Told (replies.Began (tx 1 1))) ∷ marked 4 (Called (commands.Do 0 0)) ∷
    marked 4 (Sent 0 1 (messages.Request (tx 1 1) 1 0 (wants.Read (first_read 0 0)))) ∷
    marked 4 (Sent 1 2 (messages.Request (tx 1 1) 1 0 (wants.Read (first_read 0 0)))) ∷ marked 2 (Got 1) ∷
    marked 2 (Sent 2 4 (messages.Answer 1 (answers.Granted (whole_grant 1 0 [])))) ∷ marked 4 (Got 2) ∷
    marked 4 (Lost 0)
    ∷
    marked 4 (Sent 3 0 (messages.Request (tx 1 1) 1 0 (wants.Read (first_read 0 0)))) ∷ marked 4 (Lost 3) ∷
    marked 4 (Called commands.Abort) ∷ []

-- A `do` is answered in an epoch that isn't declared.
abbrev pub response_without_a_plan : List Entry
response_without_a_plan =
    marked 7 (Phase 1) ∷ marked 3 (Called commands.Begin) ∷ marked 3 (Told (replies.Began (tx 0 1))) ∷
    marked 3 (Called (commands.Do 0 0)) ∷
    marked 3 (Sent 0 0 (messages.Request (tx 0 1) 1 0 (wants.Read (first_read 0 0))))
    ∷
    marked 3 (Sent 1 1 (messages.Request (tx 0 1) 1 0 (wants.Read (first_read 0 0)))) ∷ marked 0 (Got 0) ∷
    marked 0 (Sent 2 3 (messages.Answer 0 (answers.Granted (whole_grant 1 0 [])))) ∷ marked 1 (Got 1) ∷
    marked 1 (Sent 3 3 (messages.Answer 1 (answers.Closed 9))) ∷ marked 3 (Got 2) ∷ marked 3 (Got 3) ∷
    marked 3 (Told (replies.Closed 9 1)) ∷ marked 3 (Called commands.Abort) ∷ marked 3 (Told replies.Dropped) ∷
    marked 3 (Called commands.Begin) ∷ marked 3 (Told (replies.Began (tx 0 2))) ∷ marked 3 (Called (commands.Do 0 0)) ∷
    marked 3 (Told (replies.Response 0)) ∷ []

-- A `do` of an object that isn't declared is told Absent.
abbrev pub absent_without_a_table : List Entry
absent_without_a_table =
    marked 7 (Phase 1) ∷ marked 3 (Called commands.Begin) ∷ marked 3 (Told (replies.Began (tx 0 1))) ∷
    marked 3 (Called (commands.Do 7 0)) ∷ marked 3 (Told replies.Absent) ∷ []
