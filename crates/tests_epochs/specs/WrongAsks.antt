-- Wrong histories: the administrator asks other clients, or at another time.
use Rattle.std.specs.Prelude.{List, [], ◌∷◌, ◌++◌, take}
use Rattle.qc_msg.specs.Vocabulary.{Entry, marked}
use Rattle.tests_histories.specs.Words.{tx, stamp, line}
use Rattle.qc_msg.specs.declared.step.Step.TheVariants.{Got, Wrote, Sent}
use Rattle.qc_msg.specs.declared.message.Answer.TheVariants as answers
use Rattle.qc_msg.specs.declared.message.Message.TheVariants as messages
use Rattle.qc_msg.specs.declared.message.Outcome.TheVariants as outcomes
use Rattle.qc_msg.specs.declared.record.Record.TheVariants as records
use Rattle.qc_msg.specs.Vocabulary.{start_with}
use Rattle.tests_epochs.specs.StampsPassReads as stamps_pass_reads
use Rattle.tests_epochs.specs.SeveralPromises as several_promises

-- A client is asked before enough sites have closed.
abbrev pub asked_too_early : List Entry
asked_too_early =
    take 54 stamps_pass_reads.history ++
    marked 6 (Sent 14 3 (messages.Ask (tx 0 4))) ∷ marked 6 (Got 13) ∷ marked 3 (Got 14) ∷
    marked 3 (Sent 15 6 (messages.Answer 14 (answers.Answered (outcomes.Committed (stamp 4 0))))) ∷ marked 6 (Got 15) ∷
    marked 6 (Wrote (records.Decide (start_with 2 4 []))) ∷ []

-- Another client is asked about a transaction.
abbrev pub another_client_asked : List Entry
another_client_asked =
    take 55 stamps_pass_reads.history ++
    marked 6 (Sent 14 4 (messages.Ask (tx 0 4))) ∷ marked 4 (Got 14) ∷
    marked 4 (Sent 15 6 (messages.Answer 14 (answers.Answered (outcomes.Committed (stamp 4 0))))) ∷ marked 6 (Got 15) ∷
    marked 6 (Wrote (records.Decide (start_with 2 4 []))) ∷ []

-- Clients are asked in another order than that of the promises.
abbrev pub asked_out_of_order : List Entry
asked_out_of_order =
    take 96 several_promises.history ++
    marked 6 (Sent 33 5 (messages.Ask (tx 2 1))) ∷ marked 6 (Sent 34 3 (messages.Ask (tx 0 1))) ∷
    marked 6 (Sent 35 4 (messages.Ask (tx 1 1))) ∷ marked 3 (Got 34) ∷
    marked 3 (Sent 36 6 (messages.Answer 34 (answers.Answered outcomes.Aborted))) ∷ marked 5 (Got 33) ∷
    marked 5 (Sent 37 6 (messages.Answer 33 (answers.Answered (outcomes.Committed (stamp 1 2))))) ∷ marked 4 (Got 35) ∷
    marked 4 (Sent 38 6 (messages.Answer 35 (answers.Answered (outcomes.Committed (stamp 2 1))))) ∷ marked 6 (Got 36) ∷
    marked 6 (Got 37) ∷ marked 6 (Got 38) ∷
    marked 6 (Wrote (records.Decide (start_with 2 2 (line 1 2 1 1 0 3 ∷ line 2 1 1 1 0 2 ∷ [])))) ∷ []
