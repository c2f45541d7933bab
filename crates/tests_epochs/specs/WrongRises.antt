-- Wrong histories: the administrator's other deeds as he rises, and while he is down.
use Rattle.std.specs.Prelude.{List, [], ◌∷◌, ◌++◌, take}
use Rattle.qc_msg.specs.Vocabulary.{Entry, marked}
use Rattle.tests_histories.specs.Words.{line}
use Rattle.qc_msg.specs.declared.step.Step.TheVariants.{Called, Got, Wrote, Sent, Told}
use Rattle.qc_msg.specs.declared.message.Answer.TheVariants as answers
use Rattle.qc_msg.specs.declared.step.Command.TheVariants as commands
use Rattle.qc_msg.specs.declared.message.Message.TheVariants as messages
use Rattle.qc_msg.specs.declared.record.Record.TheVariants as records
use Rattle.qc_msg.specs.declared.reply.Reply.TheVariants as replies
use Rattle.qc_msg.specs.Vocabulary.{start_with}
use Rattle.tests_epochs.specs.DecideStops as decide_stops
use Rattle.tests_epochs.specs.InstalledAgain as installed_again
use Rattle.tests_epochs.specs.AdministratorDown as administrator_down

-- A decision is installed that he didn't rise with.
abbrev pub a_lost_decision_installed : List Entry
a_lost_decision_installed =
    take 51 decide_stops.history ++
    marked 6 (Sent 14 0 (messages.Install (start_with 2 1 (line 1 0 1 1 0 3 ∷ [])))) ∷
    marked 6 (Sent 15 1 (messages.Install (start_with 2 1 (line 1 0 1 1 0 3 ∷ [])))) ∷
    marked 6 (Sent 16 2 (messages.Install (start_with 2 1 (line 1 0 1 1 0 3 ∷ [])))) ∷ marked 0 (Got 14) ∷
    marked 0 (Wrote (records.Install (start_with 2 1 (line 1 0 1 1 0 3 ∷ [])))) ∷
    marked 0 (Sent 17 6 (messages.Answer 14 answers.Installed)) ∷ marked 1 (Got 15) ∷
    marked 1 (Wrote (records.Install (start_with 2 1 (line 1 0 1 1 0 3 ∷ [])))) ∷
    marked 1 (Sent 18 6 (messages.Answer 15 answers.Installed)) ∷ marked 2 (Got 16) ∷
    marked 2 (Wrote (records.Install (start_with 2 1 (line 1 0 1 1 0 3 ∷ [])))) ∷
    marked 2 (Sent 19 6 (messages.Answer 16 answers.Installed)) ∷ marked 6 (Got 17) ∷ marked 6 (Got 18) ∷
    marked 6 (Got 19) ∷ marked 6 (Told (replies.Moved 0 7)) ∷ []

-- What a site told before he fell counts.
abbrev pub a_shut_of_before_his_fall : List Entry
a_shut_of_before_his_fall =
    take 58 decide_stops.history ++
    marked 6 (Got 13) ∷ marked 6 (Wrote (records.Decide (start_with 2 1 (line 1 0 1 1 0 3 ∷ [])))) ∷ []

-- A risen administrator tells the sites as closed that had closed before.
abbrev pub closed_before_his_fall : List Entry
closed_before_his_fall =
    take 78 installed_again.history ++
    marked 6 (Told (replies.Moved 3 7)) ∷ []

-- He installs his decision as he rises, and nobody called.
abbrev pub installs_as_he_rises : List Entry
installs_as_he_rises =
    take 65 installed_again.history ++
    marked 6 (Sent 20 0 (messages.Install (start_with 2 1 (line 1 0 1 1 0 3 ∷ [])))) ∷
    marked 6 (Sent 21 1 (messages.Install (start_with 2 1 (line 1 0 1 1 0 3 ∷ [])))) ∷
    marked 6 (Sent 22 2 (messages.Install (start_with 2 1 (line 1 0 1 1 0 3 ∷ [])))) ∷ []

-- He rises and writes no record of it.
abbrev pub no_life_written : List Entry
no_life_written =
    take 64 installed_again.history ++
    marked 6 (Called (commands.Epoch 2)) ∷ []

-- A risen administrator knows of the first epoch alone.
abbrev pub the_first_epoch_again : List Entry
the_first_epoch_again =
    take 81 installed_again.history ++
    marked 6 (Told (replies.Order 1)) ∷ []

-- He refuses an epoch while he is down.
abbrev pub refused_while_down : List Entry
refused_while_down =
    take 32 administrator_down.history ++
    marked 6 (Told (replies.Order 2)) ∷ []
