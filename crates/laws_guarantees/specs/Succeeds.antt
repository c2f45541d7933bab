-- What a reply is in a run that nothing disturbs: a `do` is answered, or refused for a transaction that is open
-- elsewhere; a commit commits.
use Rattle.std.specs.Prelude.{[], MatchOption, ◌≡◌, ℕ, ◌<◌, false, List, ◌∷◌, ◌++◌, length, Option, Some, None}
use Rattle.qc_decl.specs.Vocabulary.{most_transaction_operations}
use Rattle.qc_decl.specs.declared.declaration.Declaration.{Declaration}
use Rattle.qc_msg.specs.declared.reply.Reply.{Reply}
use Rattle.qc_msg.specs.declared.reply.Reply.TheVariants as replies
use Rattle.qc_msg.specs.declared.step.Command.{Command}
use Rattle.qc_msg.specs.declared.step.Command.TheVariants as commands
use Rattle.qc_msg.specs.declared.step.Step.{Step}
use Rattle.qc_msg.specs.Vocabulary.{Entry, Invocation, committed_in, do_in, replied_in}
use Rattle.qc_promise.specs.Vocabulary.{Current, account}
use Rattle.laws_guarantees.specs.Elsewhere.{IsOpenElsewhere}
use Rattle.qc_stamp.specs.declared.stamp.Stamp.{Stamp}

-- each reply of a history has this property, of what stands before it and its actor

abbrev pub IfTold : (List Entry → ℕ → Reply → Type 0) → List Entry → ℕ → Step → Type 0
IfTold P before a step = MatchOption (replied_in step) (Unit {0}) (λ (reply : Reply). P before a reply)

abbrev pub EachReply : (List Entry → ℕ → Reply → Type 0) → List Entry → List Entry → Type 0
EachReply P before [] = Unit {0}
EachReply P before (e ∷ h) = IfTold P before e.actor e.step × EachReply P (before ++ e ∷ []) h

-- a `do` has its response, or none is legal, or another client's open transaction is in the way
abbrev pub IsDone : Declaration → List Entry → ℕ → Reply → Type 0
IsDone decl before a replies.Down = ⊥
IsDone decl before a (replies.Already tx) = ⊥
IsDone decl before a (replies.Began tx) = ⊥
IsDone decl before a replies.NoTransaction = ⊥
IsDone decl before a replies.Doomed = ⊥
IsDone decl before a replies.TooLong = ⊥
IsDone decl before a (replies.Closed epoch site) = ⊥
IsDone decl before a (replies.Conflict tx site) = IsOpenElsewhere decl a before tx
IsDone decl before a (replies.Quorum half got need) = ⊥
IsDone decl before a replies.Absent = Unit {0}
IsDone decl before a (replies.Response resp) = Unit {0}
IsDone decl before a (replies.Aborted why) = ⊥
IsDone decl before a replies.Unknown = ⊥
IsDone decl before a (replies.Committed stamp) = ⊥
IsDone decl before a replies.Dropped = ⊥
IsDone decl before a (replies.Order current) = ⊥
IsDone decl before a (replies.InDoubt tx site) = ⊥
IsDone decl before a replies.Fault = ⊥
IsDone decl before a (replies.Moved closed installed) = ⊥

-- a commit commits
abbrev pub IsCommitted : Reply → Type 0
IsCommitted reply = MatchOption (committed_in reply) ⊥ (λ (x : Stamp). Unit {0})

-- so is the reply to a `do`, of a begun transaction that isn't doomed and has room

abbrev pub DoOf : Declaration → List Entry → ℕ → Reply → Current → Command → Type 0
DoOf decl before a reply t command =
    MatchOption (do_in command) (Unit {0})
    (λ (x : Invocation). t.doomed ≡ false → length t.ops < most_transaction_operations → IsDone decl before a reply)

-- and the one to a commit, of one that isn't doomed

abbrev pub CommitOf : Reply → Current → Command → Type 0
CommitOf reply t commands.Begin = Unit {0}
CommitOf reply t (commands.Do object inv) = Unit {0}
CommitOf reply t commands.Commit = t.doomed ≡ false → IsCommitted reply
CommitOf reply t commands.Abort = Unit {0}
CommitOf reply t (commands.Epoch number) = Unit {0}

-- what is asked of a running command, where a transaction is begun

abbrev pub OfCommand : (Command → Type 0) → Option Command → Type 0
OfCommand P None = Unit {0}
OfCommand P (Some command) = P command

abbrev pub OfRunning : (Current → Command → Type 0) → Option Current → Option Command → Type 0
OfRunning P None command = Unit {0}
OfRunning P (Some t) command = OfCommand (P t) command

abbrev pub DoSucceeds : Declaration → List Entry → ℕ → Reply → Type 0
DoSucceeds decl before a reply =
    OfRunning (DoOf decl before a reply) (account decl a before).current (account decl a before).command

abbrev pub CommitSucceeds : Declaration → List Entry → ℕ → Reply → Type 0
CommitSucceeds decl before a reply =
    OfRunning (CommitOf reply) (account decl a before).current (account decl a before).command

-- each `do` of a history succeeds, and each commit

abbrev pub DosSucceed : Declaration → List Entry → Type 0
DosSucceed decl h = EachReply (DoSucceeds decl) [] h

abbrev pub CommitsSucceed : Declaration → List Entry → Type 0
CommitsSucceed decl h = EachReply (CommitSucceeds decl) [] h
