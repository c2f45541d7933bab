-- Messages and records of epochs, over three sites and three clients: a request of one epoch, and decisions.
use Rattle.std.specs.Prelude.{ℕ, List, [], ◌∷◌}
use Rattle.laws_guarantees.specs.Vocabulary.{name}
use Rattle.qc_msg.specs.Vocabulary.{Entry, marked}
use Rattle.qc_msg.specs.declared.message.Message.TheVariants.{Decision, Request}
use Rattle.qc_msg.specs.declared.message.Outcome.TheVariants.{Aborted}
use Rattle.qc_msg.specs.declared.message.Want.TheVariants.{Prepare}
use Rattle.qc_msg.specs.declared.record.Record.{Record}
use Rattle.qc_msg.specs.declared.record.Record.TheVariants.{Decide}
use Rattle.qc_msg.specs.declared.step.Step.TheVariants.{Sent}
use Rattle.qc_msg.specs.Vocabulary.{start_with}

-- the first client's transaction asks a site in the second epoch; the second client's only tells one that it aborted
abbrev pub asked : List Entry
asked =
    marked 3 (Sent 0 1 (Request (name 0) 2 1 Prepare))
    ∷ marked 4 (Sent 1 1 (Decision (name 1) Aborted))
    ∷ []

-- an epoch is decided with no lines
abbrev pub decides : ℕ → Record
decides epoch = Decide (start_with epoch 0 [])
