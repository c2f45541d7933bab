-- Short histories with falls, as far as inboxes see them, and the scripts that they are of. The sites are 0 to 2, the
-- clients 3 to 5.
use Rattle.std.specs.Prelude.{ℕ, List, [], ◌∷◌, Some, None}
use Rattle.qc_link.specs.declared.rule.Rule.TheVariants as rules
use Rattle.qc_msg.specs.Vocabulary.{Entry, marked}
use Rattle.qc_msg.specs.declared.message.Envelope.{Envelope}
use Rattle.qc_msg.specs.declared.message.Message.{Message}
use Rattle.qc_msg.specs.declared.message.Message.TheVariants as messages
use Rattle.qc_msg.specs.declared.message.Want.TheVariants as wants
use Rattle.qc_msg.specs.declared.record.Record.TheVariants as records
use Rattle.qc_msg.specs.declared.reply.Reply.TheVariants as replies
use Rattle.qc_msg.specs.declared.step.Command.TheVariants as commands
use Rattle.qc_msg.specs.declared.step.Control.{Control}
use Rattle.qc_msg.specs.declared.step.Control.TheVariants as controls
use Rattle.qc_msg.specs.declared.step.Fall.{Fall}
use Rattle.qc_msg.specs.declared.step.Fall.TheVariants as causes
use Rattle.qc_msg.specs.declared.step.Step.TheVariants as steps
use Rattle.qc_msg.specs.Vocabulary.{first_read}
use Rattle.qc_script.specs.declared.script.Script.{Script}
use Rattle.tests_histories.specs.Words.{tx}
use Rattle.tests_runs.specs.Words.{asks, link, phase, script}

-- client 3 asks two sites

abbrev pub request : Message
request = messages.Request (tx 0 1) 1 0 (wants.Read (first_read 0 0))

abbrev pub request_to : ℕ → Envelope
request_to site = record { number = site; from = 3; to = site; message = request }

abbrev pub asked : List Entry
asked =
    marked 3 (steps.Called commands.Begin) ∷ marked 3 (steps.Told (replies.Began (tx 0 1)))
    ∷ marked 3 (steps.Called (commands.Do 0 0)) ∷ marked 3 (steps.Sent 0 0 request)
    ∷ marked 3 (steps.Sent 1 1 request) ∷ []

abbrev pub fell : ℕ → Fall → Entry
fell actor cause = marked actor (steps.Fell cause None)

abbrev pub fell_by_script : ℕ → Entry
fell_by_script actor = fell actor causes.Script

-- it rises, and writes the record of its rise
abbrev pub rose : ℕ → List Entry
rose actor = marked actor (steps.Rose []) ∷ marked actor (steps.Wrote records.Life) ∷ []

-- it rises in vain: that record isn't written
abbrev pub rose_in_vain : ℕ → List Entry
rose_in_vain actor = marked actor (steps.Rose []) ∷ marked actor (steps.Fell causes.Stop (Some records.Life)) ∷ []

abbrev pub begun : ℕ → Entry
begun number = marked 7 (steps.Phase number)

-- scripts: the requests of client 3 in phase 1, under these rules of its links to sites 0 and 1

abbrev pub asking : Script
asking = script [] (phase [] (asks 3 commands.Begin ∷ asks 3 (commands.Do 0 0) ∷ []) ∷ [])

abbrev pub asking_in_vain : Script
asking_in_vain =
    script (link (Some 3) (Some 0) (Some 1) rules.Drop ∷ [])
    (phase [] (asks 3 commands.Begin ∷ asks 3 (commands.Do 0 0) ∷ []) ∷ [])

abbrev pub asking_who_is_down : Script
asking_who_is_down =
    script [] (phase (controls.Crash 1 ∷ []) (asks 3 commands.Begin ∷ asks 3 (commands.Do 0 0) ∷ []) ∷ [])

abbrev pub asking_lately : List Control → Script
asking_lately lines =
    script (link (Some 3) (Some 1) (Some 1) rules.Late ∷ [])
    (phase [] (asks 3 commands.Begin ∷ asks 3 (commands.Do 0 0) ∷ []) ∷ phase lines [] ∷ [])

-- one phase with these lines, and a command
abbrev pub of_lines : List Control → Script
of_lines lines = script [] (phase lines (asks 3 commands.Begin ∷ []) ∷ [])

abbrev pub crash_and_restart : List Control
crash_and_restart = controls.Crash 1 ∷ controls.Restart 1 ∷ []
