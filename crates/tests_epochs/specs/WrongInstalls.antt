-- Wrong histories: the administrator installs elsewhere than everywhere, or counts what doesn't.
use Rattle.std.specs.Prelude.{List, [], ◌∷◌, ◌++◌, take}
use Rattle.qc_msg.specs.Vocabulary.{Entry, marked}
use Rattle.tests_histories.specs.Words.{line}
use Rattle.qc_msg.specs.declared.step.Step.TheVariants.{Phase, Called, Got, Lost, Wrote, Sent, Told}
use Rattle.qc_msg.specs.declared.message.Answer.TheVariants as answers
use Rattle.qc_msg.specs.declared.step.Command.TheVariants as commands
use Rattle.qc_msg.specs.declared.message.Message.TheVariants as messages
use Rattle.qc_msg.specs.declared.record.Record.TheVariants as records
use Rattle.qc_msg.specs.declared.reply.Reply.TheVariants as replies
use Rattle.qc_msg.specs.Vocabulary.{snapshot_with, start_with}
use Rattle.tests_epochs.specs.MovedOnce as moved_once
use Rattle.tests_epochs.specs.InstalledAgain as installed_again

-- A site is sent the epoch twice, and another one never.
abbrev pub a_site_left_out : List Entry
a_site_left_out =
    take 47 moved_once.history ++
    marked 6 (Sent 16 1 (messages.Install (start_with 2 1 (line 1 0 1 1 0 3 ∷ [])))) ∷ marked 0 (Got 14) ∷
    marked 0 (Wrote (records.Install (start_with 2 1 (line 1 0 1 1 0 3 ∷ [])))) ∷
    marked 0 (Sent 17 6 (messages.Answer 14 answers.Installed)) ∷ marked 1 (Got 15) ∷
    marked 1 (Wrote (records.Install (start_with 2 1 (line 1 0 1 1 0 3 ∷ [])))) ∷
    marked 1 (Sent 18 6 (messages.Answer 15 answers.Installed)) ∷ marked 1 (Got 16) ∷
    marked 1 (Sent 19 6 (messages.Answer 16 answers.Installed)) ∷ marked 6 (Got 17) ∷ marked 6 (Got 18) ∷
    marked 6 (Got 19) ∷ marked 6 (Told (replies.Moved 3 3)) ∷ []

-- What was sent of the epoch before counts for the next one.
abbrev pub earlier_installs_count : List Entry
earlier_installs_count =
    take 65 installed_again.history ++
    marked 6 (Called (commands.Epoch 3))
    ∷ marked 6 (Sent 20 0 (messages.Install (start_with 2 1 (line 1 0 1 1 0 3 ∷ [])))) ∷
    marked 6 (Sent 21 1 (messages.Install (start_with 2 1 (line 1 0 1 1 0 3 ∷ [])))) ∷
    marked 6 (Sent 22 2 (messages.Install (start_with 2 1 (line 1 0 1 1 0 3 ∷ [])))) ∷ marked 0 (Got 20) ∷
    marked 0 (Sent 23 6 (messages.Answer 20 answers.Installed)) ∷ marked 1 (Got 21) ∷
    marked 1 (Sent 24 6 (messages.Answer 21 answers.Installed)) ∷ marked 2 (Got 22) ∷
    marked 2 (Sent 25 6 (messages.Answer 22 answers.Installed)) ∷ marked 6 (Got 23) ∷ marked 6 (Got 24) ∷
    marked 6 (Got 25) ∷ marked 7 (Phase 4) ∷ marked 6 (Sent 26 0 (messages.Close 3)) ∷
    marked 6 (Sent 27 1 (messages.Close 3)) ∷ marked 6 (Sent 28 2 (messages.Close 3)) ∷ marked 0 (Got 26) ∷
    marked 0 (Wrote (records.Close 3)) ∷
    marked 0 (Sent 29 6 (messages.Answer 26 (answers.Shut (snapshot_with 1 (line 1 0 1 1 0 3 ∷ []) []))))
    ∷ marked 1 (Got 27) ∷
    marked 1 (Wrote (records.Close 3)) ∷
    marked 1 (Sent 30 6 (messages.Answer 27 (answers.Shut (snapshot_with 1 (line 1 0 1 1 0 3 ∷ []) []))))
    ∷ marked 2 (Got 28) ∷
    marked 2 (Wrote (records.Close 3)) ∷
    marked 2 (Sent 31 6 (messages.Answer 28 (answers.Shut (snapshot_with 1 (line 1 0 1 1 0 3 ∷ []) []))))
    ∷ marked 6 (Got 29) ∷
    marked 6 (Got 30) ∷ marked 6 (Got 31) ∷ marked 6 (Wrote (records.Decide (start_with 3 1 (line 1 0 1 1 0 3 ∷ [])))) ∷
    marked 6 (Told (replies.Moved 7 7)) ∷ []

-- An answer counts that came when its request was lost already.
abbrev pub an_answer_of_what_was_lost : List Entry
an_answer_of_what_was_lost =
    take 58 moved_once.history ++
    marked 6 (Lost 16) ∷ marked 6 (Got 19) ∷ marked 6 (Got 18) ∷ marked 6 (Told (replies.Moved 3 7)) ∷ []
