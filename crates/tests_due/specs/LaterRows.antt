-- Histories in which sites answer as they do once actors fall and epochs close.
use Rattle.std.specs.Prelude.{List, [], ◌∷◌, Some}
use Rattle.qc_msg.specs.Vocabulary.{Entry, marked}
use Rattle.tests_histories.specs.Words.{tx, stamp, own_line, operation, prepare, commit}
use Rattle.qc_msg.specs.declared.step.Step.TheVariants.{Phase, Called, Got, Wrote, Sent, Told, Fell}
use Rattle.qc_msg.specs.declared.message.Answer.TheVariants as answers
use Rattle.qc_msg.specs.declared.reply.AbortCause.TheVariants as causes
use Rattle.qc_msg.specs.declared.step.Command.TheVariants as commands
use Rattle.qc_msg.specs.declared.message.Message.TheVariants as messages
use Rattle.qc_msg.specs.declared.reply.Reply.TheVariants as replies
use Rattle.qc_msg.specs.declared.message.Want.TheVariants as wants
use Rattle.qc_msg.specs.declared.step.Fall.TheVariants as falls
use Rattle.qc_msg.specs.Vocabulary.{whole_grant, first_read}

-- A site's epoch is closed, as it is read.
abbrev pub closed_reading : List Entry
closed_reading =
    marked 7 (Phase 1) ∷ marked 3 (Called commands.Begin) ∷ marked 3 (Told (replies.Began (tx 0 1))) ∷
    marked 3 (Called (commands.Do 0 0)) ∷
    marked 3 (Sent 0 0 (messages.Request (tx 0 1) 1 0 (wants.Read (first_read 0 0))))
    ∷
    marked 3 (Sent 1 1 (messages.Request (tx 0 1) 1 0 (wants.Read (first_read 0 0)))) ∷ marked 0 (Got 0) ∷
    marked 0 (Sent 2 3 (messages.Answer 0 (answers.Granted (whole_grant 1 0 [])))) ∷ marked 1 (Got 1) ∷
    marked 1 (Sent 3 3 (messages.Answer 1 (answers.Closed 2))) ∷ marked 3 (Got 2) ∷ marked 3 (Got 3) ∷
    marked 3 (Told (replies.Closed 2 1)) ∷ []

-- A site's epoch is closed while its transaction appends; the next one is of the next epoch.
abbrev pub closed_appending : List Entry
closed_appending =
    marked 7 (Phase 1) ∷ marked 3 (Called commands.Begin) ∷ marked 3 (Told (replies.Began (tx 0 1))) ∷
    marked 3 (Called (commands.Do 0 2)) ∷
    marked 3 (Sent 0 0 (messages.Request (tx 0 1) 1 0 (wants.Append 0 [] (own_line 1 0 3 ∷ [])))) ∷
    marked 3 (Sent 1 1 (messages.Request (tx 0 1) 1 0 (wants.Append 0 [] (own_line 1 0 3 ∷ [])))) ∷ marked 0 (Got 0) ∷
    marked 0 (Sent 2 3 (messages.Answer 0 (answers.Granted (whole_grant 1 0 [])))) ∷ marked 1 (Got 1) ∷
    marked 1 (Sent 3 3 (messages.Answer 1 (answers.Closed 2))) ∷ marked 3 (Got 2) ∷ marked 3 (Got 3) ∷
    marked 3 (Told (replies.Closed 2 1)) ∷ marked 3 (Called (commands.Do 0 0)) ∷ marked 3 (Told replies.Doomed) ∷
    marked 3 (Called commands.Commit) ∷ marked 3 (Told (replies.Aborted causes.Doomed)) ∷
    marked 3 (Called commands.Begin) ∷ marked 3 (Told (replies.Began (tx 0 2))) ∷ marked 3 (Called (commands.Do 0 0)) ∷
    marked 3 (Sent 4 0 (messages.Request (tx 0 2) 2 0 (wants.Read (first_read 0 0)))) ∷ []

-- A site's epoch is closed, as it is to promise.
abbrev pub closed_vote : List Entry
closed_vote =
    marked 7 (Phase 1) ∷ marked 3 (Called commands.Begin) ∷ marked 3 (Told (replies.Began (tx 0 1))) ∷
    marked 3 (Called (commands.Do 0 2)) ∷
    marked 3 (Sent 0 0 (messages.Request (tx 0 1) 1 0 (wants.Append 0 [] (own_line 1 0 3 ∷ [])))) ∷
    marked 3 (Sent 1 1 (messages.Request (tx 0 1) 1 0 (wants.Append 0 [] (own_line 1 0 3 ∷ [])))) ∷ marked 0 (Got 0) ∷
    marked 0 (Sent 2 3 (messages.Answer 0 (answers.Granted (whole_grant 1 0 [])))) ∷ marked 1 (Got 1) ∷
    marked 1 (Sent 3 3 (messages.Answer 1 (answers.Granted (whole_grant 1 0 [])))) ∷ marked 3 (Got 2) ∷ marked 3 (Got 3)
    ∷
    marked 3 (Told (replies.Response 2)) ∷ marked 3 (Called commands.Commit) ∷
    marked 3 (Sent 4 0 (messages.Request (tx 0 1) 1 1 wants.Prepare)) ∷
    marked 3 (Sent 5 1 (messages.Request (tx 0 1) 1 1 wants.Prepare)) ∷ marked 0 (Got 4) ∷
    marked 0 (Wrote (prepare (tx 0 1) 1 [] (own_line 1 0 3 ∷ []) [])) ∷
    marked 0 (Sent 6 3 (messages.Answer 4 (answers.Yes 0))) ∷ marked 1 (Got 5) ∷
    marked 1 (Sent 7 3 (messages.Answer 5 (answers.Closed 2))) ∷ marked 3 (Got 6) ∷ marked 3 (Got 7) ∷
    marked 3 (Told (replies.Aborted (causes.Closed 2 1))) ∷ []

-- A site has risen since it granted.
abbrev pub restarted : List Entry
restarted =
    marked 7 (Phase 1) ∷ marked 3 (Called commands.Begin) ∷ marked 3 (Told (replies.Began (tx 0 1))) ∷
    marked 3 (Called (commands.Do 0 2)) ∷
    marked 3 (Sent 0 0 (messages.Request (tx 0 1) 1 0 (wants.Append 0 [] (own_line 1 0 3 ∷ [])))) ∷
    marked 3 (Sent 1 1 (messages.Request (tx 0 1) 1 0 (wants.Append 0 [] (own_line 1 0 3 ∷ [])))) ∷ marked 0 (Got 0) ∷
    marked 0 (Sent 2 3 (messages.Answer 0 (answers.Granted (whole_grant 1 0 [])))) ∷ marked 1 (Got 1) ∷
    marked 1 (Sent 3 3 (messages.Answer 1 (answers.Granted (whole_grant 1 0 [])))) ∷ marked 3 (Got 2) ∷ marked 3 (Got 3)
    ∷
    marked 3 (Told (replies.Response 2)) ∷ marked 3 (Called commands.Commit) ∷
    marked 3 (Sent 4 0 (messages.Request (tx 0 1) 1 1 wants.Prepare)) ∷
    marked 3 (Sent 5 1 (messages.Request (tx 0 1) 1 1 wants.Prepare)) ∷ marked 0 (Got 4) ∷
    marked 0 (Wrote (prepare (tx 0 1) 1 [] (own_line 1 0 3 ∷ []) [])) ∷
    marked 0 (Sent 6 3 (messages.Answer 4 (answers.Yes 0))) ∷ marked 1 (Got 5) ∷
    marked 1 (Sent 7 3 (messages.Answer 5 (answers.Restarted 2))) ∷ marked 3 (Got 6) ∷ marked 3 (Got 7) ∷
    marked 3 (Told (replies.Aborted (causes.Restarted 1 1 2))) ∷ []

-- A site can't write its promise.
abbrev pub fault : List Entry
fault =
    marked 7 (Phase 1) ∷ marked 3 (Called commands.Begin) ∷ marked 3 (Told (replies.Began (tx 0 1))) ∷
    marked 3 (Called (commands.Do 0 2)) ∷
    marked 3 (Sent 0 0 (messages.Request (tx 0 1) 1 0 (wants.Append 0 [] (own_line 1 0 3 ∷ [])))) ∷
    marked 3 (Sent 1 1 (messages.Request (tx 0 1) 1 0 (wants.Append 0 [] (own_line 1 0 3 ∷ [])))) ∷ marked 0 (Got 0) ∷
    marked 0 (Sent 2 3 (messages.Answer 0 (answers.Granted (whole_grant 1 0 [])))) ∷ marked 1 (Got 1) ∷
    marked 1 (Sent 3 3 (messages.Answer 1 (answers.Granted (whole_grant 1 0 [])))) ∷ marked 3 (Got 2) ∷ marked 3 (Got 3)
    ∷
    marked 3 (Told (replies.Response 2)) ∷ marked 3 (Called commands.Commit) ∷
    marked 3 (Sent 4 0 (messages.Request (tx 0 1) 1 1 wants.Prepare)) ∷
    marked 3 (Sent 5 1 (messages.Request (tx 0 1) 1 1 wants.Prepare)) ∷ marked 0 (Got 4) ∷
    marked 0 (Wrote (prepare (tx 0 1) 1 [] (own_line 1 0 3 ∷ []) [])) ∷
    marked 0 (Sent 6 3 (messages.Answer 4 (answers.Yes 0))) ∷ marked 1 (Got 5) ∷
    marked 1 (Sent 7 3 (messages.Answer 5 answers.Fault)) ∷ marked 3 (Got 6) ∷ marked 3 (Got 7) ∷
    marked 3 (Told (replies.Aborted (causes.Fault 1))) ∷ []

-- A site holds nothing any more.
abbrev pub forgotten : List Entry
forgotten =
    marked 7 (Phase 1) ∷ marked 3 (Called commands.Begin) ∷ marked 3 (Told (replies.Began (tx 0 1))) ∷
    marked 3 (Called (commands.Do 0 2)) ∷
    marked 3 (Sent 0 0 (messages.Request (tx 0 1) 1 0 (wants.Append 0 [] (own_line 1 0 3 ∷ [])))) ∷
    marked 3 (Sent 1 1 (messages.Request (tx 0 1) 1 0 (wants.Append 0 [] (own_line 1 0 3 ∷ [])))) ∷ marked 0 (Got 0) ∷
    marked 0 (Sent 2 3 (messages.Answer 0 (answers.Granted (whole_grant 1 0 [])))) ∷ marked 1 (Got 1) ∷
    marked 1 (Sent 3 3 (messages.Answer 1 (answers.Granted (whole_grant 1 0 [])))) ∷ marked 3 (Got 2) ∷ marked 3 (Got 3)
    ∷
    marked 3 (Told (replies.Response 2)) ∷ marked 3 (Called commands.Commit) ∷
    marked 3 (Sent 4 0 (messages.Request (tx 0 1) 1 1 wants.Prepare)) ∷
    marked 3 (Sent 5 1 (messages.Request (tx 0 1) 1 1 wants.Prepare)) ∷ marked 0 (Got 4) ∷
    marked 0 (Wrote (prepare (tx 0 1) 1 [] (own_line 1 0 3 ∷ []) [])) ∷
    marked 0 (Sent 6 3 (messages.Answer 4 (answers.Yes 0))) ∷ marked 1 (Got 5) ∷
    marked 1 (Sent 7 3 (messages.Answer 5 answers.Stale)) ∷ marked 3 (Got 6) ∷ marked 3 (Got 7) ∷
    marked 3 (Told (replies.Aborted (causes.Forgot 1))) ∷ []

-- A site is in an earlier epoch.
abbrev pub left_behind : List Entry
left_behind =
    marked 7 (Phase 1) ∷ marked 3 (Called commands.Begin) ∷ marked 3 (Told (replies.Began (tx 0 1))) ∷
    marked 3 (Called (commands.Do 0 2)) ∷
    marked 3 (Sent 0 0 (messages.Request (tx 0 1) 1 0 (wants.Append 0 [] (own_line 1 0 3 ∷ [])))) ∷
    marked 3 (Sent 1 1 (messages.Request (tx 0 1) 1 0 (wants.Append 0 [] (own_line 1 0 3 ∷ [])))) ∷ marked 0 (Got 0) ∷
    marked 0 (Sent 2 3 (messages.Answer 0 (answers.Granted (whole_grant 1 0 [])))) ∷ marked 1 (Got 1) ∷
    marked 1 (Sent 3 3 (messages.Answer 1 (answers.Granted (whole_grant 1 0 [])))) ∷ marked 3 (Got 2) ∷ marked 3 (Got 3)
    ∷
    marked 3 (Told (replies.Response 2)) ∷ marked 3 (Called commands.Commit) ∷
    marked 3 (Sent 4 0 (messages.Request (tx 0 1) 1 1 wants.Prepare)) ∷
    marked 3 (Sent 5 1 (messages.Request (tx 0 1) 1 1 wants.Prepare)) ∷ marked 0 (Got 4) ∷
    marked 0 (Wrote (prepare (tx 0 1) 1 [] (own_line 1 0 3 ∷ []) [])) ∷
    marked 0 (Sent 6 3 (messages.Answer 4 (answers.Yes 0))) ∷ marked 1 (Got 5) ∷
    marked 1 (Sent 7 3 (messages.Answer 5 (answers.Behind 0))) ∷ marked 3 (Got 6) ∷ marked 3 (Got 7) ∷
    marked 3 (Told (replies.Aborted (causes.Forgot 1))) ∷ []

-- A client falls as it writes its record.
abbrev pub unknown : List Entry
unknown =
    marked 7 (Phase 1) ∷ marked 3 (Called commands.Begin) ∷ marked 3 (Told (replies.Began (tx 0 1))) ∷
    marked 3 (Called (commands.Do 0 2)) ∷
    marked 3 (Sent 0 0 (messages.Request (tx 0 1) 1 0 (wants.Append 0 [] (own_line 1 0 3 ∷ [])))) ∷
    marked 3 (Sent 1 1 (messages.Request (tx 0 1) 1 0 (wants.Append 0 [] (own_line 1 0 3 ∷ [])))) ∷ marked 0 (Got 0) ∷
    marked 0 (Sent 2 3 (messages.Answer 0 (answers.Granted (whole_grant 1 0 [])))) ∷ marked 1 (Got 1) ∷
    marked 1 (Sent 3 3 (messages.Answer 1 (answers.Granted (whole_grant 1 0 [])))) ∷ marked 3 (Got 2) ∷ marked 3 (Got 3)
    ∷
    marked 3 (Told (replies.Response 2)) ∷ marked 3 (Called commands.Commit) ∷
    marked 3 (Sent 4 0 (messages.Request (tx 0 1) 1 1 wants.Prepare)) ∷
    marked 3 (Sent 5 1 (messages.Request (tx 0 1) 1 1 wants.Prepare)) ∷ marked 0 (Got 4) ∷
    marked 0 (Wrote (prepare (tx 0 1) 1 [] (own_line 1 0 3 ∷ []) [])) ∷
    marked 0 (Sent 6 3 (messages.Answer 4 (answers.Yes 0))) ∷ marked 1 (Got 5) ∷
    marked 1 (Wrote (prepare (tx 0 1) 1 [] (own_line 1 0 3 ∷ []) [])) ∷
    marked 1 (Sent 7 3 (messages.Answer 5 (answers.Yes 0))) ∷ marked 3 (Got 6) ∷ marked 3 (Got 7) ∷
    marked 3 (Told replies.Unknown) ∷
    marked 3 (Fell falls.Disk (Some (commit (stamp 1 0) (tx 0 1) (operation 0 2 (Some 2) ∷ [])))) ∷ []
