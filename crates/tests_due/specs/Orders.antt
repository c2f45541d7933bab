-- Right histories: a site and a client fall and rise. And the words of the wrong ones.
use Rattle.std.specs.Prelude.{ℕ, List, [], ◌∷◌, Some, None}
use Rattle.qc_msg.specs.declared.message.Answer.TheVariants as answers
use Rattle.qc_msg.specs.declared.message.Message.{Message}
use Rattle.qc_msg.specs.declared.message.Message.TheVariants as messages
use Rattle.qc_msg.specs.declared.message.Outcome.TheVariants as outcomes
use Rattle.qc_msg.specs.declared.message.Want.TheVariants as wants
use Rattle.qc_msg.specs.declared.record.Record.{Record}
use Rattle.qc_msg.specs.declared.record.Record.TheVariants as records
use Rattle.qc_msg.specs.declared.reply.Reply.TheVariants as replies
use Rattle.qc_msg.specs.declared.step.Command.TheVariants as commands
use Rattle.qc_msg.specs.declared.step.Fall.TheVariants as causes
use Rattle.qc_msg.specs.declared.step.Step.TheVariants.{Phase, Called, Got, Lost, Wrote, Sent, Told, Fell, Rose}
use Rattle.qc_msg.specs.Vocabulary.{Entry, marked}
use Rattle.qc_msg.specs.Vocabulary.{whole_grant, first_read}
use Rattle.tests_histories.specs.Words.{commit, prepare, stamp, tx}

-- what a client asks a site, what the site grants, and what both write of a transaction that commits

abbrev pub asks : Message
asks = messages.Request (tx 0 1) 1 0 (wants.Read (first_read 0 0))

abbrev pub grants : ℕ → Message
grants number = messages.Answer number (answers.Granted (whole_grant 1 0 []))

abbrev pub decides : Message
decides = messages.Decision (tx 0 1) (outcomes.Committed (stamp 1 0))

abbrev pub promise : Record
promise = prepare (tx 0 1) 1 [] [] []

abbrev pub committed : Record
committed = commit (stamp 1 0) (tx 0 1) []

-- A site falls by a line, one by its disk as it writes its promise, and its journal isn't opened at first; both rise.
abbrev pub site_rises : List Entry
site_rises =
    marked 7 (Phase 1) ∷ marked 3 (Called commands.Begin) ∷ marked 3 (Told (replies.Began (tx 0 1))) ∷
    marked 3 (Called (commands.Do 0 0)) ∷ marked 3 (Sent 0 0 asks) ∷ marked 3 (Sent 1 1 asks) ∷ marked 0 (Got 0) ∷
    marked 0 (Sent 2 3 (grants 0)) ∷ marked 1 (Got 1) ∷ marked 1 (Sent 3 3 (grants 1)) ∷
    marked 0 (Fell causes.Script None) ∷ marked 3 (Got 2) ∷ marked 3 (Got 3) ∷ marked 3 (Told replies.Absent) ∷
    marked 3 (Called commands.Commit) ∷ marked 3 (Sent 4 1 (messages.Request (tx 0 1) 1 1 wants.Prepare)) ∷
    marked 1 (Got 4) ∷ marked 1 (Sent 5 3 (messages.Answer 4 answers.Fault)) ∷
    marked 1 (Fell causes.Disk (Some promise)) ∷ marked 1 (Fell causes.Disk None) ∷ marked 0 (Rose []) ∷
    marked 0 (Wrote records.Life) ∷ marked 1 (Rose (promise ∷ [])) ∷ marked 1 (Wrote records.Life) ∷
    marked 1 (Sent 6 3 (messages.Inquiry (tx 0 1))) ∷ marked 3 (Got 6) ∷
    marked 3 (Sent 7 1 (messages.Decision (tx 0 1) outcomes.Aborted)) ∷ marked 1 (Got 7) ∷ []

-- A client's record isn't written, it is called while it is down, and its rise isn't written at first.
abbrev pub client_rises : List Entry
client_rises =
    marked 7 (Phase 1) ∷ marked 3 (Called commands.Begin) ∷ marked 3 (Told (replies.Began (tx 0 1))) ∷
    marked 3 (Called commands.Commit) ∷ marked 3 (Told replies.Unknown) ∷
    marked 3 (Fell causes.Stop (Some committed)) ∷ marked 3 (Called commands.Begin) ∷ marked 3 (Told replies.Down) ∷
    marked 3 (Fell causes.Stop None) ∷ marked 3 (Rose (committed ∷ [])) ∷
    marked 3 (Fell causes.Disk (Some records.Life)) ∷ marked 3 (Rose (committed ∷ records.Life ∷ [])) ∷
    marked 3 (Wrote records.Life) ∷ marked 3 (Called commands.Begin) ∷
    marked 3 (Told (replies.Began (record { client = 0; life = 3; number = 1 }))) ∷
    marked 3 (Called (commands.Do 0 0)) ∷ marked 3 (Sent 0 0 asks) ∷ marked 3 (Lost 0) ∷
    marked 3 (Fell causes.Script None) ∷ []
