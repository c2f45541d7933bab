-- Random: sites 3, clients 2, steps 187, messages 11, lost 1, cuts 2, commits 7, falls 4, rises 4, unwritten records 4,
-- decisions 1, installs 2.
use Rattle.std.specs.Prelude.{List, [], ◌∷◌, Some}
use Rattle.qc_decl.specs.declared.declaration.Declaration.{Declaration}
use Rattle.qc_decl.specs.Vocabulary.{row}
use Rattle.qc_msg.specs.Vocabulary.{Entry, marked}
use Rattle.tests_histories.specs.Words.{tx, stamp, operation, commit, declaration, kind, plan}
use Rattle.qc_msg.specs.declared.step.Step.TheVariants.{Phase, Cut, Heal, Called, Got, Lost, Wrote, Sent, Told, Fell}
use Rattle.qc_msg.specs.declared.step.Step.TheVariants.{Rose}
use Rattle.tests_epochs.specs.Words.{tx_in}
use Rattle.qc_msg.specs.declared.message.Answer.TheVariants as answers
use Rattle.qc_msg.specs.declared.step.Command.TheVariants as commands
use Rattle.qc_msg.specs.declared.message.Message.TheVariants as messages
use Rattle.qc_msg.specs.declared.record.Record.TheVariants as records
use Rattle.qc_msg.specs.declared.reply.Reply.TheVariants as replies
use Rattle.qc_msg.specs.declared.step.Fall.TheVariants as falls
use Rattle.qc_msg.specs.Vocabulary.{start_with}

abbrev pub decl : Declaration
decl =
    declaration 3 2 (kind 2 1 1 0 (row 0 0 0 1 ∷ row 1 0 0 0 ∷ []) [] ∷ []) (0 ∷ []) (plan (1 ∷ 1 ∷ 1 ∷ []) ((0 ∷ []) ∷
    []) ((0 ∷ []) ∷ []) ∷ plan (1 ∷ 1 ∷ 1 ∷ []) ((0 ∷ []) ∷ []) ((0 ∷ []) ∷ []) ∷ plan (1 ∷ 1 ∷ 1 ∷ []) ((0 ∷ []) ∷ [])
    ((0 ∷ []) ∷ []) ∷ [])

abbrev pub history : List Entry
history =
    marked 6 (Phase 1) ∷ marked 4 (Called commands.Begin) ∷ marked 4 (Told (replies.Began (tx 1 1))) ∷
    marked 4 (Called commands.Commit) ∷ marked 4 (Wrote (commit (stamp 1 1) (tx 1 1) [])) ∷
    marked 4 (Told (replies.Committed (stamp 1 1))) ∷ marked 4 (Called commands.Begin) ∷
    marked 4 (Told (replies.Began (tx 1 2))) ∷ marked 4 (Called commands.Commit) ∷ marked 4 (Told replies.Unknown) ∷
    marked 4 (Fell falls.Stop (Some (commit (stamp 2 1) (tx 1 2) []))) ∷ marked 4 (Called commands.Begin) ∷
    marked 4 (Told replies.Down) ∷ marked 4 (Called commands.Commit) ∷ marked 4 (Told replies.Down) ∷
    marked 4 (Called commands.Begin) ∷ marked 4 (Told replies.Down) ∷ marked 4 (Called commands.Commit) ∷
    marked 4 (Told replies.Down) ∷ marked 4 (Called commands.Begin) ∷ marked 4 (Told replies.Down) ∷
    marked 4 (Called commands.Commit) ∷ marked 4 (Told replies.Down) ∷ marked 3 (Called commands.Begin) ∷
    marked 3 (Told (replies.Began (tx 0 1))) ∷ marked 3 (Called commands.Commit) ∷ marked 3 (Told replies.Unknown) ∷
    marked 3 (Fell falls.Stop (Some (commit (stamp 1 0) (tx 0 1) []))) ∷ marked 3 (Called commands.Begin) ∷
    marked 3 (Told replies.Down) ∷ marked 3 (Called commands.Commit) ∷ marked 3 (Told replies.Down) ∷
    marked 3 (Called commands.Begin) ∷ marked 3 (Told replies.Down) ∷ marked 3 (Called commands.Commit) ∷
    marked 3 (Told replies.Down) ∷ marked 3 (Called commands.Begin) ∷ marked 3 (Told replies.Down) ∷
    marked 3 (Called commands.Commit) ∷ marked 3 (Told replies.Down) ∷ marked 3 (Called commands.Begin) ∷
    marked 3 (Told replies.Down) ∷ marked 3 (Called commands.Commit) ∷ marked 3 (Told replies.Down) ∷
    marked 6 (Phase 2) ∷ marked 6 (Cut 5 0) ∷ marked 6 (Cut 5 2) ∷ marked 4 (Called commands.Begin) ∷
    marked 4 (Told replies.Down) ∷ marked 4 (Called (commands.Do 0 0)) ∷ marked 4 (Told replies.Down) ∷
    marked 4 (Called commands.Abort) ∷ marked 4 (Told replies.Down) ∷ marked 6 (Phase 3) ∷ marked 6 (Heal 5 0) ∷
    marked 6 (Heal 5 2) ∷ marked 6 (Phase 4) ∷ marked 5 (Called (commands.Epoch 2)) ∷ marked 4 (Called commands.Begin) ∷
    marked 4 (Told replies.Down) ∷ marked 4 (Called (commands.Do 0 0)) ∷ marked 4 (Told replies.Down) ∷
    marked 4 (Called (commands.Do 0 0)) ∷ marked 4 (Told replies.Down) ∷ marked 4 (Called commands.Commit) ∷
    marked 4 (Told replies.Down) ∷ marked 3 (Called commands.Begin) ∷ marked 3 (Told replies.Down) ∷
    marked 3 (Called (commands.Do 0 0)) ∷ marked 3 (Told replies.Down) ∷ marked 3 (Called (commands.Do 0 0)) ∷
    marked 3 (Told replies.Down) ∷ marked 3 (Called (commands.Do 0 0)) ∷ marked 3 (Told replies.Down) ∷
    marked 5 (Wrote (records.Decide (start_with 2 0 []))) ∷ marked 5 (Sent 0 0 (messages.Install (start_with 2 0 []))) ∷
    marked 5 (Sent 1 1 (messages.Install (start_with 2 0 [])))
    ∷ marked 5 (Sent 2 2 (messages.Install (start_with 2 0 []))) ∷ marked 0 (Got 0) ∷
    marked 0 (Sent 3 5 (messages.Answer 0 answers.Fault))
    ∷ marked 0 (Fell falls.Disk (Some (records.Install (start_with 2 0 [])))) ∷
    marked 1 (Got 1) ∷ marked 5 (Got 3) ∷ marked 2 (Got 2) ∷ marked 2 (Wrote (records.Install (start_with 2 0 []))) ∷
    marked 2 (Sent 4 5 (messages.Answer 2 answers.Installed)) ∷ marked 1 (Wrote (records.Install (start_with 2 0 []))) ∷
    marked 1 (Sent 5 5 (messages.Answer 1 answers.Installed)) ∷ marked 5 (Got 4) ∷ marked 5 (Got 5) ∷
    marked 5 (Told (replies.Moved 0 6)) ∷ marked 5 (Called (commands.Epoch 2)) ∷
    marked 5 (Sent 6 0 (messages.Install (start_with 2 0 [])))
    ∷ marked 5 (Sent 7 1 (messages.Install (start_with 2 0 []))) ∷
    marked 5 (Sent 8 2 (messages.Install (start_with 2 0 []))) ∷ marked 5 (Lost 6) ∷ marked 2 (Got 8) ∷
    marked 2 (Sent 9 5 (messages.Answer 8 answers.Installed)) ∷ marked 1 (Got 7) ∷
    marked 1 (Sent 10 5 (messages.Answer 7 answers.Installed)) ∷ marked 5 (Got 9) ∷ marked 5 (Got 10) ∷
    marked 5 (Told (replies.Moved 0 6)) ∷ marked 6 (Phase 5) ∷ marked 4 (Called commands.Begin) ∷
    marked 3 (Called commands.Commit) ∷ marked 3 (Told replies.Down) ∷ marked 5 (Called (commands.Epoch 3)) ∷
    marked 5 (Told replies.Fault) ∷ marked 5 (Fell falls.Disk (Some (records.Decide (start_with 3 0 [])))) ∷
    marked 4 (Told replies.Down) ∷ marked 4 (Called (commands.Do 0 0)) ∷ marked 4 (Told replies.Down) ∷
    marked 6 (Phase 6) ∷ marked 4 (Called (commands.Do 0 0)) ∷ marked 4 (Told replies.Down) ∷
    marked 4 (Called (commands.Do 0 0)) ∷ marked 3 (Called commands.Begin) ∷ marked 3 (Told replies.Down) ∷
    marked 5 (Called (commands.Epoch 3)) ∷ marked 5 (Told replies.Down) ∷ marked 4 (Told replies.Down) ∷
    marked 3 (Called (commands.Do 0 0)) ∷ marked 3 (Told replies.Down) ∷ marked 4 (Called commands.Abort) ∷
    marked 3 (Called commands.Commit) ∷ marked 3 (Told replies.Down) ∷ marked 3 (Called commands.Begin) ∷
    marked 3 (Told replies.Down) ∷ marked 4 (Told replies.Down) ∷ marked 3 (Called (commands.Do 0 0)) ∷
    marked 3 (Told replies.Down) ∷ marked 6 (Phase 7) ∷ marked 0 (Rose []) ∷ marked 0 (Wrote records.Life) ∷
    marked 3 (Rose []) ∷ marked 3 (Wrote records.Life) ∷
    marked 4 (Rose ((commit (stamp 1 1) (tx 1 1) []) ∷ (commit (stamp 2 1) (tx 1 2) []) ∷ [])) ∷
    marked 4 (Wrote records.Life)
    ∷ marked 5 (Rose ((records.Decide (start_with 2 0 [])) ∷ (records.Decide (start_with 3 0 [])) ∷ [])) ∷
    marked 5 (Wrote records.Life) ∷ marked 3 (Called commands.Abort) ∷ marked 4 (Called commands.Abort) ∷
    marked 4 (Told replies.NoTransaction) ∷ marked 4 (Called commands.Begin) ∷
    marked 4 (Told (replies.Began (tx_in 1 2 1))) ∷ marked 4 (Called (commands.Do 0 0)) ∷
    marked 4 (Told (replies.Response 0)) ∷ marked 4 (Called commands.Commit) ∷ marked 3 (Told replies.NoTransaction) ∷
    marked 3 (Called commands.Begin) ∷ marked 3 (Told (replies.Began (tx_in 0 2 1))) ∷
    marked 3 (Called (commands.Do 0 0)) ∷
    marked 4 (Wrote (commit (stamp 3 1) (tx_in 1 2 1) (operation 0 0 (Some 0) ∷ []))) ∷
    marked 4 (Told (replies.Committed (stamp 3 1))) ∷ marked 4 (Called commands.Begin) ∷
    marked 3 (Told (replies.Response 0)) ∷ marked 3 (Called commands.Commit) ∷
    marked 4 (Told (replies.Began (tx_in 1 2 2))) ∷
    marked 3 (Wrote (commit (stamp 1 0) (tx_in 0 2 1) (operation 0 0 (Some 0) ∷ []))) ∷
    marked 3 (Told (replies.Committed (stamp 1 0))) ∷ marked 3 (Called commands.Begin) ∷
    marked 4 (Called (commands.Do 0 0)) ∷ marked 3 (Told (replies.Began (tx_in 0 2 2))) ∷
    marked 3 (Called (commands.Do 0 0)) ∷ marked 3 (Told (replies.Response 0)) ∷ marked 3 (Called commands.Commit) ∷
    marked 3 (Wrote (commit (stamp 2 0) (tx_in 0 2 2) (operation 0 0 (Some 0) ∷ []))) ∷
    marked 3 (Told (replies.Committed (stamp 2 0))) ∷ marked 3 (Called commands.Begin) ∷
    marked 3 (Told (replies.Began (tx_in 0 2 3))) ∷ marked 3 (Called (commands.Do 0 0)) ∷
    marked 4 (Told (replies.Response 0)) ∷ marked 4 (Called commands.Commit) ∷ marked 3 (Told (replies.Response 0)) ∷
    marked 3 (Called commands.Commit) ∷
    marked 4 (Wrote (commit (stamp 4 1) (tx_in 1 2 2) (operation 0 0 (Some 0) ∷ []))) ∷
    marked 4 (Told (replies.Committed (stamp 4 1))) ∷ marked 4 (Called commands.Begin) ∷
    marked 3 (Wrote (commit (stamp 3 0) (tx_in 0 2 3) (operation 0 0 (Some 0) ∷ []))) ∷
    marked 3 (Told (replies.Committed (stamp 3 0))) ∷ marked 4 (Told (replies.Began (tx_in 1 2 3))) ∷
    marked 4 (Called (commands.Do 0 0)) ∷ marked 4 (Told (replies.Response 0)) ∷ marked 4 (Called commands.Commit) ∷
    marked 4 (Wrote (commit (stamp 5 1) (tx_in 1 2 3) (operation 0 0 (Some 0) ∷ []))) ∷
    marked 4 (Told (replies.Committed (stamp 5 1))) ∷ []
