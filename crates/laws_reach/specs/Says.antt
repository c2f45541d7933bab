-- What a reply that is due to a running command says of the command and of the transaction that its client has begun.
use Rattle.std.specs.Prelude.{◌≡◌, ℕ, ◌+◌, Option, Some, None}
use Rattle.qc_decl.specs.declared.declaration.Declaration.{Declaration}
use Rattle.qc_msg.specs.declared.reply.Reply.{Reply}
use Rattle.qc_msg.specs.declared.reply.Reply.TheVariants as replies
use Rattle.qc_msg.specs.declared.step.Command.{Command}
use Rattle.qc_msg.specs.declared.step.Command.TheVariants as commands
use Rattle.qc_promise.specs.Vocabulary.{Account, Current, answer_of, resp_of}

-- the response of a `do` is that of the view
pub record Responds (decl : Declaration) (d : Account) (command : Command) (resp : ℕ) : Type 0 where
  pub object : ℕ
  pub inv : ℕ
  pub event : ℕ
  pub t : Current
  pub command_is : command ≡ commands.Do object inv
  pub current_is : d.current ≡ Some t
  pub answer_is : answer_of decl t object inv ≡ Some event
  pub resp_is : resp ≡ resp_of decl object event

-- a `do` that finds nothing
pub record Finds (d : Account) (command : Command) : Type 0 where
  pub object : ℕ
  pub inv : ℕ
  pub t : Current
  pub command_is : command ≡ commands.Do object inv
  pub current_is : d.current ≡ Some t

-- the command isn't the commit of a transaction that is begun
abbrev pub IsNoCommit : Account → Command → Type 0
IsNoCommit d command = (t : Current) → d.current ≡ Some t → command ≡ commands.Commit → ⊥

abbrev pub Says : Declaration → Account → Command → Reply → Type 0
Says decl d command replies.Down = Unit {0}
Says decl d command (replies.Already tx) = IsNoCommit d command
Says decl d command (replies.Began tx) = tx ≡ record { client = d.client; life = d.life; number = d.count + 1 }
Says decl d command replies.NoTransaction = IsNoCommit d command
Says decl d command replies.Doomed = IsNoCommit d command
Says decl d command replies.TooLong = IsNoCommit d command
Says decl d command (replies.Closed epoch site) = IsNoCommit d command
Says decl d command (replies.Conflict tx site) = IsNoCommit d command
Says decl d command (replies.Quorum half got need) = IsNoCommit d command
Says decl d command replies.Absent = Finds d command
Says decl d command (replies.Response resp) = Responds decl d command resp
Says decl d command (replies.Aborted why) = Unit {0}
Says decl d command replies.Unknown = Unit {0}
Says decl d command (replies.Committed stamp) = command ≡ commands.Commit
Says decl d command replies.Dropped = Unit {0}
Says decl d command (replies.Order current) = IsNoCommit d command
Says decl d command (replies.InDoubt tx site) = IsNoCommit d command
Says decl d command replies.Fault = IsNoCommit d command
Says decl d command (replies.Moved closed installed) = IsNoCommit d command

abbrev pub SaysIn : Declaration → Account → Command → Option Reply → Type 0
SaysIn decl d command None = Unit {0}
SaysIn decl d command (Some reply) = Says decl d command reply
