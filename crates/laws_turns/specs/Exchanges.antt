-- The exchanges of an actor: each command with the reply that was told to it.
use Rattle.std.specs.Prelude.{◌≡◌, List, [], ◌∷◌, ◌++◌, Option, Some, None}
use Rattle.qc_msg.specs.declared.reply.Reply.{Reply}
use Rattle.qc_msg.specs.declared.step.Command.{Command}
use Rattle.qc_msg.specs.declared.step.Input.TheVariants as inputs
use Rattle.qc_msg.specs.Vocabulary.{Deed, Falls, Rises, Sends, Takes, Tells, Writes}

-- a command with the reply that was told to it; a command that was told none misses it, and so does a reply to none
pub record Exchange : Type 0 where
  pub command : Option Command
  pub reply : Option Reply

abbrev pub exchanged : Command → Reply → Exchange
exchanged command reply = record { command = Some command; reply = Some reply }

abbrev pub without_reply : Option Command → List Exchange
without_reply None = []
without_reply (Some command) = record { command = Some command; reply = None } ∷ []

-- An actor's exchanges, while this command runs, if one does: a reply is the running command's, which the next command
-- ends, and so do a fall and a rise.

abbrev pub exchanges_from : Option Command → List Deed → List Exchange
exchanges_from running [] = without_reply running
exchanges_from running (Takes (inputs.Called command) ∷ ds) = without_reply running ++ exchanges_from (Some command) ds
exchanges_from running (Takes (inputs.Got envelope) ∷ ds) = exchanges_from running ds
exchanges_from running (Takes (inputs.Lost number) ∷ ds) = exchanges_from running ds
exchanges_from running (Writes written ∷ ds) = exchanges_from running ds
exchanges_from running (Sends number to message ∷ ds) = exchanges_from running ds
exchanges_from running (Tells reply ∷ ds) = record { command = running; reply = Some reply } ∷ exchanges_from None ds
exchanges_from running (Falls cause pending ∷ ds) = without_reply running ++ exchanges_from None ds
exchanges_from running (Rises records ∷ ds) = without_reply running ++ exchanges_from None ds

abbrev pub exchanges : List Deed → List Exchange
exchanges ds = exchanges_from None ds

-- just these commands, in their order, each with a reply
abbrev pub AreAnswered : List Command → List Exchange → Type 0
AreAnswered [] [] = Unit {0}
AreAnswered [] (x ∷ xs) = ⊥
AreAnswered (command ∷ commands) [] = ⊥
AreAnswered (command ∷ commands) (x ∷ xs) =
    ((reply : Reply) × (x ≡ exchanged command reply)) × AreAnswered commands xs
