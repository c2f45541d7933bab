-- What a client becomes and does for a command and for a message, each read once.
use Rattle.std.proofs.Common.{ℕ, [], ◌∷◌, Some}
use Rattle.qc_stamp.specs.declared.stamp.TxId.{TxId}
use Rattle.qc_decl.specs.declared.declaration.Declaration.{Declaration}
use Rattle.qc_msg.specs.declared.message.Answer.{Answer}
use Rattle.qc_msg.specs.declared.message.Answer.TheVariants as answers
use Rattle.qc_msg.specs.declared.message.Message.{Message}
use Rattle.qc_msg.specs.declared.message.Message.TheVariants as messages
use Rattle.qc_msg.specs.declared.step.Command.{Command}
use Rattle.qc_msg.specs.declared.step.Command.TheVariants as commands
use Rattle.qc_msg.specs.Vocabulary.{quiet, sending}
use Rattle.qc_front.specs.Conduct as fronts
use Rattle.qc_client.specs.declared.client.Client.{Client}
use Rattle.qc_client.specs.Vocabulary.{ClientMove, answered, by_front, called, commits, heard, moved, outcome_of}

module _ (decl : Declaration) (c : Client) where
  pub called_cases : (P : ClientMove → Type 0)
      → ((command : Command) → P (by_front c (fronts.called decl c.front command)))
      → P (commits decl c c.front.transaction) → (command : Command) → P (called decl c command)
  called_cases P fronted committing commands.Begin = fronted commands.Begin
  called_cases P fronted committing (commands.Do object inv) = fronted (commands.Do object inv)
  called_cases P fronted committing commands.Commit = committing
  called_cases P fronted committing commands.Abort = fronted commands.Abort
  called_cases P fronted committing (commands.Epoch number) = fronted (commands.Epoch number)

  pub heard_cases : (from number : ℕ) (P : Message → ClientMove → Type 0) → ((m : Message) → P m (moved c quiet))
      → ((to : ℕ) (answer : Answer) → P (messages.Answer to answer) (answered decl c to (Some answer)))
      → ((tx : TxId) → P (messages.Inquiry tx)
      (moved c (sending (record { to = from; message = messages.Decision tx (outcome_of c tx) } ∷ []))))
      → ((tx : TxId) → P (messages.Ask tx)
      (moved c (sending
      (record { to = from; message = messages.Answer number (answers.Answered (outcome_of c tx)) } ∷ []))))
      → (m : Message) → P m (heard decl c from number m)
  heard_cases from number P same answer inquire ask (messages.Request tx epoch life want) = same _
  heard_cases from number P same answer inquire ask (messages.Answer to told) = answer to told
  heard_cases from number P same answer inquire ask (messages.Decision tx verdict) = same _
  heard_cases from number P same answer inquire ask (messages.Inquiry tx) = inquire tx
  heard_cases from number P same answer inquire ask (messages.Ask tx) = ask tx
  heard_cases from number P same answer inquire ask (messages.Close epoch) = same _
  heard_cases from number P same answer inquire ask (messages.Install start) = same _
