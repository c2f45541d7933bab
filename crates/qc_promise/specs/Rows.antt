-- The reply that is due to a command: that of the first row that applies, in the order of the table of replies. A row
-- that speaks of requests waits until each is answered or lost; none is there of what isn't declared.
use Rattle.std.specs.Option.{option_map_or}
use Rattle.std.specs.Prelude.{ℕ, ◌+◌, ◌&&◌, nat_le, if◌then◌else◌, Bool, true, length, Option, Some, None, is_some}
use Rattle.std.specs.Prelude.{option_and_then, option_map}
use Rattle.qc_stamp.specs.declared.stamp.Stamp.{Stamp}
use Rattle.qc_entry.specs.declared.record.Commit.{Commit}
use Rattle.qc_plan.specs.declared.standing.Verdict.{Verdict}
use Rattle.qc_plan.specs.declared.standing.Verdict.TheVariants as verdicts
use Rattle.qc_plan.specs.Vocabulary.{verdict}
use Rattle.qc_decl.specs.Vocabulary.{append_need_of, most_transaction_operations, plan_in, read_need_of, table_at}
use Rattle.qc_decl.specs.declared.declaration.Declaration.{Declaration}
use Rattle.qc_msg.specs.declared.record.Record.{Record}
use Rattle.qc_msg.specs.declared.record.Record.TheVariants as records
use Rattle.qc_msg.specs.declared.reply.Half.TheVariants as halves
use Rattle.qc_msg.specs.declared.reply.Reply.{Reply}
use Rattle.qc_msg.specs.declared.reply.Reply.TheVariants as replies
use Rattle.qc_msg.specs.declared.reply.AbortCause.{AbortCause}
use Rattle.qc_msg.specs.declared.reply.AbortCause.TheVariants as causes
use Rattle.qc_msg.specs.declared.step.Command.{Command}
use Rattle.qc_msg.specs.declared.step.Command.TheVariants as commands
use Rattle.qc_promise.specs.Account.{Account, Current, is_append, is_prepare, is_read, requests_for}
use Rattle.qc_promise.specs.Rounds.{answer_of, are_votes_in, first_against, resp_of, round_of}
use Rattle.qc_msg.specs.Vocabulary.{Invocation, committed_in, do_in, is_in_doubt}

-- a `do`

abbrev pub append_row : Declaration → ℕ → ℕ → Verdict → Option Reply
append_row decl object event verdicts.Waiting = None
append_row decl object event verdicts.Met = Some (replies.Response (resp_of decl object event))
append_row decl object event (verdicts.Closed epoch site) = Some (replies.Closed epoch site)
append_row decl object event (verdicts.Clash tx site) = Some (replies.Conflict tx site)
append_row decl object event (verdicts.Short got need) = Some (replies.Quorum halves.Append got need)

abbrev pub answer_row : Declaration → Account → Current → ℕ → Option ℕ → Option Reply
answer_row decl d t object None = Some replies.Absent
answer_row decl d t object (Some event) =
    append_row decl object event (verdict (round_of decl d t is_append (append_need_of decl t.epoch object event)))

abbrev pub read_row : Declaration → Account → Current → ℕ → ℕ → Verdict → Option Reply
read_row decl d t object inv verdicts.Waiting = None
read_row decl d t object inv verdicts.Met = answer_row decl d t object (answer_of decl t object inv)
read_row decl d t object inv (verdicts.Closed epoch site) = Some (replies.Closed epoch site)
read_row decl d t object inv (verdicts.Clash tx site) = Some (replies.Conflict tx site)
read_row decl d t object inv (verdicts.Short got need) = Some (replies.Quorum halves.Read got need)

abbrev pub do_row : Declaration → Account → Current → ℕ → ℕ → Option Reply
do_row decl d t object inv =
    if t.doomed then Some replies.Doomed
    else (if nat_le most_transaction_operations (length t.ops) then Some replies.TooLong
    else read_row decl d t object inv (verdict (round_of decl d t is_read (read_need_of decl t.epoch object inv))))

-- a commit: its record is written, or the client's disk falls as it writes it

-- the stamp is above all that the client has learned of (Lamport 1978)
abbrev pub next_stamp : Account → Stamp
next_stamp d = record { clock = d.clock + 1; client = d.client }

abbrev pub vote_row : Account → Bool → Option AbortCause → Option Reply
vote_row d unwritten (Some why) = Some (replies.Aborted why)
vote_row d unwritten None = Some (if unwritten then replies.Unknown else replies.Committed (next_stamp d))

abbrev pub commit_row : Declaration → Account → Bool → Current → Option Reply
commit_row decl d unwritten t =
    if t.doomed then Some (replies.Aborted causes.Doomed)
    else (if are_votes_in decl d t then vote_row d unwritten (first_against (requests_for is_prepare d)) else None)

-- each command, with a transaction begun or none. Nobody moves an epoch yet

abbrev pub row_without : Account → Command → Option Reply
row_without d commands.Begin =
    Some (replies.Began (record { client = d.client; life = d.life; number = d.count + 1 }))
row_without d (commands.Do object inv) = Some replies.NoTransaction
row_without d commands.Commit = Some replies.NoTransaction
row_without d commands.Abort = Some replies.NoTransaction
row_without d (commands.Epoch number) = None

abbrev pub row_within : Declaration → Account → Bool → Current → Command → Option Reply
row_within decl d unwritten t commands.Begin = Some (replies.Already t.tx)
row_within decl d unwritten t (commands.Do object inv) = do_row decl d t object inv
row_within decl d unwritten t commands.Commit = commit_row decl d unwritten t
row_within decl d unwritten t commands.Abort = Some replies.Dropped
row_within decl d unwritten t (commands.Epoch number) = None

abbrev pub row_of : Declaration → Account → Bool → Option Current → Command → Option Reply
row_of decl d unwritten None command = row_without d command
row_of decl d unwritten (Some t) command = row_within decl d unwritten t command

-- the row of the running command, if one runs, where the record of its post isn't written, or is
abbrev pub running_row : Declaration → Account → Bool → Option Reply
running_row decl d unwritten = option_and_then (row_of decl d unwritten d.current) d.command

-- whether what a command speaks of is declared: a `do` within a transaction, of its object's type and its epoch's plan

abbrev pub is_declared_within : Declaration → Current → Command → Bool
is_declared_within decl t command =
    option_map_or (λ (i : Invocation). is_some (plan_in decl t.epoch) && is_some (table_at decl i.object))
    (do_in command) true

abbrev pub is_declared_for : Declaration → Option Current → Command → Bool
is_declared_for decl None command = true
is_declared_for decl (Some t) command = is_declared_within decl t command

-- the reply that is due to a command: that of its row, where what it speaks of is declared; of one that is down, that
-- it is down
abbrev pub reply_to : Declaration → Account → Bool → Command → Option Reply
reply_to decl d unwritten command =
    if d.up
    then (if is_declared_for decl d.current command then row_of decl d unwritten d.current command else None)
    else Some replies.Down

-- the reply that is due, if one is
abbrev pub due : Declaration → Account → Bool → Option Reply
due decl d unwritten = option_and_then (reply_to decl d unwritten) d.command

-- the commit record that is written before a reply: all that the client was told of the transaction, under this stamp

abbrev pub commit_of : Account → Stamp → Option Commit
commit_of d stamp = option_map (λ (t : Current). record { stamp = stamp; tx = t.tx; ops = t.ops }) d.current

abbrev pub record_with : Account → Reply → Option Commit
record_with d reply = option_and_then (λ (stamp : Stamp). commit_of d stamp) (committed_in reply)

-- the record that was being written at the fall behind a reply: the one that would have been written

abbrev pub next_commit : Account → Option Record
next_commit d = option_map records.Commit (commit_of d (next_stamp d))

abbrev pub pending_with : Account → Reply → Option Record
pending_with d reply = if is_in_doubt reply then next_commit d else None
