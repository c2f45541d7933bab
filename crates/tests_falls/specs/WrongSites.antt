-- Right beginnings of histories with falls of sites, and what is wrong behind them.
use Rattle.std.specs.Prelude.{List, [], ◌∷◌, Some, None}
use Rattle.qc_msg.specs.Vocabulary.{Entry, whole_grant, marked, first_read}
use Rattle.tests_histories.specs.Words.{tx, stamp, own_line, operation, prepare, commit}
use Rattle.qc_msg.specs.declared.step.Step.TheVariants.{Phase, Called, Got, Wrote, Sent, Told, Armed, Fell, Rose}
use Rattle.qc_msg.specs.declared.step.Step.{Step}
use Rattle.qc_msg.specs.declared.message.Answer.TheVariants as answers
use Rattle.qc_msg.specs.declared.step.Command.TheVariants as commands
use Rattle.qc_msg.specs.declared.message.Message.TheVariants as messages
use Rattle.qc_msg.specs.declared.record.Record.TheVariants as records
use Rattle.qc_msg.specs.declared.reply.Reply.TheVariants as replies
use Rattle.qc_msg.specs.declared.message.Want.TheVariants as wants
use Rattle.qc_msg.specs.declared.step.Fall.TheVariants as falls
use Rattle.qc_outside.specs.declared.disk.ArmKind.TheVariants as arms

-- A site that rose grants in its old life.

abbrev pub old_life : List Entry
old_life =
    marked 7 (Phase 1) ∷ marked 3 (Called commands.Begin) ∷ marked 3 (Told (replies.Began (tx 0 1))) ∷
    marked 3 (Called (commands.Do 0 2)) ∷
    marked 3 (Sent 0 0 (messages.Request (tx 0 1) 1 0 (wants.Append 0 [] (own_line 1 0 3 ∷ [])))) ∷
    marked 3 (Sent 1 1 (messages.Request (tx 0 1) 1 0 (wants.Append 0 [] (own_line 1 0 3 ∷ [])))) ∷ marked 0 (Got 0) ∷
    marked 0 (Sent 2 3 (messages.Answer 0 (answers.Granted (whole_grant 1 0 [])))) ∷ marked 1 (Got 1) ∷
    marked 1 (Sent 3 3 (messages.Answer 1 (answers.Granted (whole_grant 1 0 [])))) ∷ marked 3 (Got 2) ∷ marked 3 (Got 3)
    ∷
    marked 3 (Told (replies.Response 2)) ∷ marked 7 (Phase 2) ∷ marked 1 (Fell falls.Script None) ∷ marked 1 (Rose []) ∷
    marked 1 (Wrote records.Life) ∷ marked 1 (Got 1) ∷ []

abbrev pub old_life_then : List Step
old_life_then =
    (Sent 4 3 (messages.Answer 1 (answers.Granted (whole_grant 1 0 [])))) ∷ []

-- A site that rose votes for what it granted before.

abbrev pub old_grant : List Entry
old_grant =
    marked 7 (Phase 1) ∷ marked 3 (Called commands.Begin) ∷ marked 3 (Told (replies.Began (tx 0 1))) ∷
    marked 3 (Called (commands.Do 0 2)) ∷
    marked 3 (Sent 0 0 (messages.Request (tx 0 1) 1 0 (wants.Append 0 [] (own_line 1 0 3 ∷ [])))) ∷
    marked 3 (Sent 1 1 (messages.Request (tx 0 1) 1 0 (wants.Append 0 [] (own_line 1 0 3 ∷ [])))) ∷ marked 0 (Got 0) ∷
    marked 0 (Sent 2 3 (messages.Answer 0 (answers.Granted (whole_grant 1 0 [])))) ∷ marked 1 (Got 1) ∷
    marked 1 (Sent 3 3 (messages.Answer 1 (answers.Granted (whole_grant 1 0 [])))) ∷ marked 3 (Got 2) ∷ marked 3 (Got 3)
    ∷
    marked 3 (Told (replies.Response 2)) ∷ marked 7 (Phase 2) ∷ marked 1 (Fell falls.Script None) ∷ marked 1 (Rose []) ∷
    marked 1 (Wrote records.Life) ∷ marked 1 (Got 1) ∷
    marked 1 (Sent 4 3 (messages.Answer 1 (answers.Granted (whole_grant 2 0 [])))) ∷ marked 3 (Got 4) ∷
    marked 3 (Called commands.Commit) ∷ marked 3 (Sent 5 0 (messages.Request (tx 0 1) 1 1 wants.Prepare)) ∷
    marked 3 (Sent 6 1 (messages.Request (tx 0 1) 1 1 wants.Prepare)) ∷ marked 0 (Got 5) ∷
    marked 0 (Wrote (prepare (tx 0 1) 1 [] (own_line 1 0 3 ∷ []) [])) ∷
    marked 0 (Sent 7 3 (messages.Answer 5 (answers.Yes 0))) ∷ marked 1 (Got 6) ∷ []

abbrev pub old_grant_then : List Step
old_grant_then =
    (Wrote (prepare (tx 0 1) 1 [] (own_line 1 0 3 ∷ []) [])) ∷ (Sent 8 3 (messages.Answer 6 (answers.Yes 0))) ∷ []

-- It votes for it and writes nothing.

abbrev pub old_grant_unwritten : List Entry
old_grant_unwritten =
    marked 7 (Phase 1) ∷ marked 3 (Called commands.Begin) ∷ marked 3 (Told (replies.Began (tx 0 1))) ∷
    marked 3 (Called (commands.Do 0 2)) ∷
    marked 3 (Sent 0 0 (messages.Request (tx 0 1) 1 0 (wants.Append 0 [] (own_line 1 0 3 ∷ [])))) ∷
    marked 3 (Sent 1 1 (messages.Request (tx 0 1) 1 0 (wants.Append 0 [] (own_line 1 0 3 ∷ [])))) ∷ marked 0 (Got 0) ∷
    marked 0 (Sent 2 3 (messages.Answer 0 (answers.Granted (whole_grant 1 0 [])))) ∷ marked 1 (Got 1) ∷
    marked 1 (Sent 3 3 (messages.Answer 1 (answers.Granted (whole_grant 1 0 [])))) ∷ marked 3 (Got 2) ∷ marked 3 (Got 3)
    ∷
    marked 3 (Told (replies.Response 2)) ∷ marked 7 (Phase 2) ∷ marked 1 (Fell falls.Script None) ∷ marked 1 (Rose []) ∷
    marked 1 (Wrote records.Life) ∷ marked 1 (Got 1) ∷
    marked 1 (Sent 4 3 (messages.Answer 1 (answers.Granted (whole_grant 2 0 [])))) ∷ marked 3 (Got 4) ∷
    marked 3 (Called commands.Commit) ∷ marked 3 (Sent 5 0 (messages.Request (tx 0 1) 1 1 wants.Prepare)) ∷
    marked 3 (Sent 6 1 (messages.Request (tx 0 1) 1 1 wants.Prepare)) ∷ marked 0 (Got 5) ∷
    marked 0 (Wrote (prepare (tx 0 1) 1 [] (own_line 1 0 3 ∷ []) [])) ∷
    marked 0 (Sent 7 3 (messages.Answer 5 (answers.Yes 0))) ∷ marked 1 (Got 6) ∷ []

abbrev pub old_grant_unwritten_then : List Step
old_grant_unwritten_then =
    (Sent 8 3 (messages.Answer 6 (answers.Yes 0))) ∷ []

-- A site rises with a promise and asks nobody about it.

abbrev pub nothing_asked : List Entry
nothing_asked =
    marked 7 (Phase 1) ∷ marked 7 (Armed 3 arms.Stop 3) ∷ marked 3 (Called commands.Begin) ∷
    marked 3 (Told (replies.Began (tx 0 1))) ∷ marked 3 (Called (commands.Do 0 2)) ∷
    marked 3 (Sent 0 0 (messages.Request (tx 0 1) 1 0 (wants.Append 0 [] (own_line 1 0 3 ∷ [])))) ∷
    marked 3 (Sent 1 1 (messages.Request (tx 0 1) 1 0 (wants.Append 0 [] (own_line 1 0 3 ∷ [])))) ∷ marked 0 (Got 0) ∷
    marked 0 (Sent 2 3 (messages.Answer 0 (answers.Granted (whole_grant 1 0 [])))) ∷ marked 1 (Got 1) ∷
    marked 1 (Sent 3 3 (messages.Answer 1 (answers.Granted (whole_grant 1 0 [])))) ∷ marked 3 (Got 2) ∷ marked 3 (Got 3)
    ∷
    marked 3 (Told (replies.Response 2)) ∷ marked 3 (Called commands.Commit) ∷
    marked 3 (Sent 4 0 (messages.Request (tx 0 1) 1 1 wants.Prepare)) ∷
    marked 3 (Sent 5 1 (messages.Request (tx 0 1) 1 1 wants.Prepare)) ∷ marked 0 (Got 4) ∷
    marked 0 (Wrote (prepare (tx 0 1) 1 [] (own_line 1 0 3 ∷ []) [])) ∷
    marked 0 (Sent 6 3 (messages.Answer 4 (answers.Yes 0))) ∷ marked 1 (Got 5) ∷
    marked 1 (Wrote (prepare (tx 0 1) 1 [] (own_line 1 0 3 ∷ []) [])) ∷
    marked 1 (Sent 7 3 (messages.Answer 5 (answers.Yes 0))) ∷ marked 3 (Got 6) ∷ marked 3 (Got 7) ∷
    marked 3 (Told replies.Unknown) ∷
    marked 3 (Fell falls.Stop (Some (commit (stamp 1 0) (tx 0 1) (operation 0 2 (Some 2) ∷ [])))) ∷ marked 7 (Phase 2) ∷
    marked 0 (Fell falls.Script None) ∷ marked 0 (Rose ((prepare (tx 0 1) 1 [] (own_line 1 0 3 ∷ []) []) ∷ [])) ∷ []

abbrev pub nothing_asked_then : List Step
nothing_asked_then =
    (Wrote records.Life) ∷ []

-- A site rises and writes no Life.

abbrev pub no_life : List Entry
no_life =
    marked 7 (Phase 1) ∷ marked 7 (Armed 3 arms.Stop 3) ∷ marked 3 (Called commands.Begin) ∷
    marked 3 (Told (replies.Began (tx 0 1))) ∷ marked 3 (Called (commands.Do 0 2)) ∷
    marked 3 (Sent 0 0 (messages.Request (tx 0 1) 1 0 (wants.Append 0 [] (own_line 1 0 3 ∷ [])))) ∷
    marked 3 (Sent 1 1 (messages.Request (tx 0 1) 1 0 (wants.Append 0 [] (own_line 1 0 3 ∷ [])))) ∷ marked 0 (Got 0) ∷
    marked 0 (Sent 2 3 (messages.Answer 0 (answers.Granted (whole_grant 1 0 [])))) ∷ marked 1 (Got 1) ∷
    marked 1 (Sent 3 3 (messages.Answer 1 (answers.Granted (whole_grant 1 0 [])))) ∷ marked 3 (Got 2) ∷ marked 3 (Got 3)
    ∷
    marked 3 (Told (replies.Response 2)) ∷ marked 3 (Called commands.Commit) ∷
    marked 3 (Sent 4 0 (messages.Request (tx 0 1) 1 1 wants.Prepare)) ∷
    marked 3 (Sent 5 1 (messages.Request (tx 0 1) 1 1 wants.Prepare)) ∷ marked 0 (Got 4) ∷
    marked 0 (Wrote (prepare (tx 0 1) 1 [] (own_line 1 0 3 ∷ []) [])) ∷
    marked 0 (Sent 6 3 (messages.Answer 4 (answers.Yes 0))) ∷ marked 1 (Got 5) ∷
    marked 1 (Wrote (prepare (tx 0 1) 1 [] (own_line 1 0 3 ∷ []) [])) ∷
    marked 1 (Sent 7 3 (messages.Answer 5 (answers.Yes 0))) ∷ marked 3 (Got 6) ∷ marked 3 (Got 7) ∷
    marked 3 (Told replies.Unknown) ∷
    marked 3 (Fell falls.Stop (Some (commit (stamp 1 0) (tx 0 1) (operation 0 2 (Some 2) ∷ [])))) ∷ marked 7 (Phase 2) ∷
    marked 0 (Fell falls.Script None) ∷ marked 0 (Rose ((prepare (tx 0 1) 1 [] (own_line 1 0 3 ∷ []) []) ∷ [])) ∷ []

abbrev pub no_life_then : List Step
no_life_then =
    (Sent 8 3 (messages.Inquiry (tx 0 1))) ∷ []

-- A site that rises asks, though its Life isn't written.

abbrev pub asked_unwritten : List Entry
asked_unwritten =
    marked 7 (Phase 1) ∷ marked 7 (Armed 3 arms.Stop 3) ∷ marked 3 (Called commands.Begin) ∷
    marked 3 (Told (replies.Began (tx 0 1))) ∷ marked 3 (Called (commands.Do 0 2)) ∷
    marked 3 (Sent 0 0 (messages.Request (tx 0 1) 1 0 (wants.Append 0 [] (own_line 1 0 3 ∷ [])))) ∷
    marked 3 (Sent 1 1 (messages.Request (tx 0 1) 1 0 (wants.Append 0 [] (own_line 1 0 3 ∷ [])))) ∷ marked 0 (Got 0) ∷
    marked 0 (Sent 2 3 (messages.Answer 0 (answers.Granted (whole_grant 1 0 [])))) ∷ marked 1 (Got 1) ∷
    marked 1 (Sent 3 3 (messages.Answer 1 (answers.Granted (whole_grant 1 0 [])))) ∷ marked 3 (Got 2) ∷ marked 3 (Got 3)
    ∷
    marked 3 (Told (replies.Response 2)) ∷ marked 3 (Called commands.Commit) ∷
    marked 3 (Sent 4 0 (messages.Request (tx 0 1) 1 1 wants.Prepare)) ∷
    marked 3 (Sent 5 1 (messages.Request (tx 0 1) 1 1 wants.Prepare)) ∷ marked 0 (Got 4) ∷
    marked 0 (Wrote (prepare (tx 0 1) 1 [] (own_line 1 0 3 ∷ []) [])) ∷
    marked 0 (Sent 6 3 (messages.Answer 4 (answers.Yes 0))) ∷ marked 1 (Got 5) ∷
    marked 1 (Wrote (prepare (tx 0 1) 1 [] (own_line 1 0 3 ∷ []) [])) ∷
    marked 1 (Sent 7 3 (messages.Answer 5 (answers.Yes 0))) ∷ marked 3 (Got 6) ∷ marked 3 (Got 7) ∷
    marked 3 (Told replies.Unknown) ∷
    marked 3 (Fell falls.Stop (Some (commit (stamp 1 0) (tx 0 1) (operation 0 2 (Some 2) ∷ [])))) ∷ marked 7 (Phase 2) ∷
    marked 0 (Fell falls.Script None) ∷ marked 0 (Rose ((prepare (tx 0 1) 1 [] (own_line 1 0 3 ∷ []) []) ∷ [])) ∷ []

abbrev pub asked_unwritten_then : List Step
asked_unwritten_then =
    (Sent 8 3 (messages.Inquiry (tx 0 1))) ∷ (Fell falls.Disk (Some records.Life)) ∷ []

-- A site that rose grants what its promise holds.

abbrev pub promise_dropped : List Entry
promise_dropped =
    marked 7 (Phase 1) ∷ marked 7 (Armed 3 arms.Stop 3) ∷ marked 3 (Called commands.Begin) ∷
    marked 3 (Told (replies.Began (tx 0 1))) ∷ marked 3 (Called (commands.Do 0 2)) ∷
    marked 3 (Sent 0 0 (messages.Request (tx 0 1) 1 0 (wants.Append 0 [] (own_line 1 0 3 ∷ [])))) ∷
    marked 3 (Sent 1 1 (messages.Request (tx 0 1) 1 0 (wants.Append 0 [] (own_line 1 0 3 ∷ [])))) ∷ marked 0 (Got 0) ∷
    marked 0 (Sent 2 3 (messages.Answer 0 (answers.Granted (whole_grant 1 0 [])))) ∷ marked 1 (Got 1) ∷
    marked 1 (Sent 3 3 (messages.Answer 1 (answers.Granted (whole_grant 1 0 [])))) ∷ marked 3 (Got 2) ∷ marked 3 (Got 3)
    ∷
    marked 3 (Told (replies.Response 2)) ∷ marked 3 (Called commands.Commit) ∷
    marked 3 (Sent 4 0 (messages.Request (tx 0 1) 1 1 wants.Prepare)) ∷
    marked 3 (Sent 5 1 (messages.Request (tx 0 1) 1 1 wants.Prepare)) ∷ marked 0 (Got 4) ∷
    marked 0 (Wrote (prepare (tx 0 1) 1 [] (own_line 1 0 3 ∷ []) [])) ∷
    marked 0 (Sent 6 3 (messages.Answer 4 (answers.Yes 0))) ∷ marked 1 (Got 5) ∷
    marked 1 (Wrote (prepare (tx 0 1) 1 [] (own_line 1 0 3 ∷ []) [])) ∷
    marked 1 (Sent 7 3 (messages.Answer 5 (answers.Yes 0))) ∷ marked 3 (Got 6) ∷ marked 3 (Got 7) ∷
    marked 3 (Told replies.Unknown) ∷
    marked 3 (Fell falls.Stop (Some (commit (stamp 1 0) (tx 0 1) (operation 0 2 (Some 2) ∷ [])))) ∷ marked 7 (Phase 2) ∷
    marked 0 (Fell falls.Script None) ∷ marked 0 (Rose ((prepare (tx 0 1) 1 [] (own_line 1 0 3 ∷ []) []) ∷ [])) ∷
    marked 0 (Wrote records.Life) ∷ marked 0 (Sent 8 3 (messages.Inquiry (tx 0 1))) ∷ marked 5 (Called commands.Begin) ∷
    marked 5 (Told (replies.Began (tx 2 1))) ∷ marked 5 (Called (commands.Do 0 0)) ∷
    marked 5 (Sent 9 2 (messages.Request (tx 2 1) 1 0 (wants.Read (first_read 0 0)))) ∷
    marked 5 (Sent 10 0 (messages.Request (tx 2 1) 1 0 (wants.Read (first_read 0 0)))) ∷ marked 2 (Got 9) ∷
    marked 2 (Sent 11 5 (messages.Answer 9 (answers.Granted (whole_grant 1 0 [])))) ∷ marked 0 (Got 10) ∷ []

abbrev pub promise_dropped_then : List Step
promise_dropped_then =
    (Sent 12 5 (messages.Answer 10 (answers.Granted (whole_grant 2 0 [])))) ∷ []

-- A site says that it can't write its promise, and doesn't fall.

abbrev pub fault_alone : List Entry
fault_alone =
    marked 7 (Phase 1) ∷ marked 7 (Armed 1 arms.Fail 2) ∷ marked 3 (Called commands.Begin) ∷
    marked 3 (Told (replies.Began (tx 0 1))) ∷ marked 3 (Called (commands.Do 0 2)) ∷
    marked 3 (Sent 0 0 (messages.Request (tx 0 1) 1 0 (wants.Append 0 [] (own_line 1 0 3 ∷ [])))) ∷
    marked 3 (Sent 1 1 (messages.Request (tx 0 1) 1 0 (wants.Append 0 [] (own_line 1 0 3 ∷ [])))) ∷ marked 0 (Got 0) ∷
    marked 0 (Sent 2 3 (messages.Answer 0 (answers.Granted (whole_grant 1 0 [])))) ∷ marked 1 (Got 1) ∷
    marked 1 (Sent 3 3 (messages.Answer 1 (answers.Granted (whole_grant 1 0 [])))) ∷ marked 3 (Got 2) ∷ marked 3 (Got 3)
    ∷
    marked 3 (Told (replies.Response 2)) ∷ marked 3 (Called commands.Commit) ∷
    marked 3 (Sent 4 0 (messages.Request (tx 0 1) 1 1 wants.Prepare)) ∷
    marked 3 (Sent 5 1 (messages.Request (tx 0 1) 1 1 wants.Prepare)) ∷ marked 0 (Got 4) ∷
    marked 0 (Wrote (prepare (tx 0 1) 1 [] (own_line 1 0 3 ∷ []) [])) ∷
    marked 0 (Sent 6 3 (messages.Answer 4 (answers.Yes 0))) ∷ marked 1 (Got 5) ∷ []

abbrev pub fault_alone_then : List Step
fault_alone_then =
    (Sent 7 3 (messages.Answer 5 answers.Fault)) ∷ []

-- A site votes, and falls as it writes the promise.

abbrev pub voted_unwritten : List Entry
voted_unwritten =
    marked 7 (Phase 1) ∷ marked 7 (Armed 1 arms.Fail 2) ∷ marked 3 (Called commands.Begin) ∷
    marked 3 (Told (replies.Began (tx 0 1))) ∷ marked 3 (Called (commands.Do 0 2)) ∷
    marked 3 (Sent 0 0 (messages.Request (tx 0 1) 1 0 (wants.Append 0 [] (own_line 1 0 3 ∷ [])))) ∷
    marked 3 (Sent 1 1 (messages.Request (tx 0 1) 1 0 (wants.Append 0 [] (own_line 1 0 3 ∷ [])))) ∷ marked 0 (Got 0) ∷
    marked 0 (Sent 2 3 (messages.Answer 0 (answers.Granted (whole_grant 1 0 [])))) ∷ marked 1 (Got 1) ∷
    marked 1 (Sent 3 3 (messages.Answer 1 (answers.Granted (whole_grant 1 0 [])))) ∷ marked 3 (Got 2) ∷ marked 3 (Got 3)
    ∷
    marked 3 (Told (replies.Response 2)) ∷ marked 3 (Called commands.Commit) ∷
    marked 3 (Sent 4 0 (messages.Request (tx 0 1) 1 1 wants.Prepare)) ∷
    marked 3 (Sent 5 1 (messages.Request (tx 0 1) 1 1 wants.Prepare)) ∷ marked 0 (Got 4) ∷
    marked 0 (Wrote (prepare (tx 0 1) 1 [] (own_line 1 0 3 ∷ []) [])) ∷
    marked 0 (Sent 6 3 (messages.Answer 4 (answers.Yes 0))) ∷ marked 1 (Got 5) ∷ []

abbrev pub voted_unwritten_then : List Step
voted_unwritten_then =
    (Sent 7 3 (messages.Answer 5 (answers.Yes 0))) ∷
    (Fell falls.Disk (Some (prepare (tx 0 1) 1 [] (own_line 1 0 3 ∷ []) []))) ∷ []
