-- How far a transaction is, as its client's deeds show (presumed abort: without a commit record it is given up), and
-- which deeds are right for it.
use Rattle.std.specs.Prelude.{[], MatchOption, ◌≡◌, ◌⊎◌, true, if◌then◌else◌, List, ◌∷◌, fold}
use Rattle.std.specs.Option.{option_map_or}
use Rattle.std.specs.List.{AllByRecursion as Every}
use Rattle.qc_msg.specs.Vocabulary.{Deed, Falls, Rises, Sends, Takes, Tells, Writes, Decided, Requested, already_in}
use Rattle.qc_msg.specs.Vocabulary.{began_in, commit_of, decision_in, request_in, is_given_up}
use Rattle.qc_msg.specs.declared.message.Message.{Message}
use Rattle.qc_msg.specs.declared.message.Outcome.{Outcome}
use Rattle.qc_msg.specs.declared.message.Outcome.TheVariants as outcomes
use Rattle.qc_msg.specs.declared.record.Record.{Record}
use Rattle.qc_msg.specs.declared.reply.Reply.{Reply}
use Rattle.qc_stamp.specs.Vocabulary.{same_tx}
use Rattle.qc_stamp.specs.declared.stamp.Stamp.{Stamp}
use Rattle.qc_stamp.specs.declared.stamp.TxId.{TxId}
use Rattle.qc_entry.specs.declared.record.Commit.{Commit}

pub data Status : Type 0 where
  Unborn : Status
  Begun : Status
  Committed : (stamp : Stamp) → Status
  Dead : Status

-- it is given up, where it is begun
abbrev pub given_up : Status → Status
given_up Unborn = Unborn
given_up Begun = Dead
given_up (Committed stamp) = Committed stamp
given_up Dead = Dead

-- one deed of its client more: its record is written; its sites are told that it is given up; it begins, or its client
-- is told that it has ended

abbrev pub status_written : TxId → Status → Record → Status
status_written tx s written =
    option_map_or (λ (c : Commit). if same_tx c.tx tx then Committed c.stamp else s) (commit_of written) s

abbrev pub status_decided : TxId → Status → TxId → Outcome → Status
status_decided tx s other (outcomes.Committed stamp) = s
status_decided tx s other outcomes.Aborted = if same_tx other tx then given_up s else s
status_decided tx s other outcomes.Active = s

abbrev pub status_sent : TxId → Status → Message → Status
status_sent tx s message = option_map_or (λ (v : Decided). status_decided tx s v.tx v.verdict) (decision_in message) s

abbrev pub status_told : TxId → Status → Reply → Status
status_told tx s reply =
    option_map_or (λ (other : TxId). if same_tx other tx then Begun else s) (began_in reply)
    (if is_given_up reply then given_up s else s)

-- a fall decides nothing, since a record may be pending; the rise does: it committed where the records have it, and
-- else it is given up
abbrev pub status_risen : TxId → Status → List Record → Status
status_risen tx s kept = fold (status_written tx) (given_up s) kept

abbrev pub status_at : TxId → Status → Deed → Status
status_at tx s (Takes given) = s
status_at tx s (Writes written) = status_written tx s written
status_at tx s (Sends number to message) = status_sent tx s message
status_at tx s (Tells reply) = status_told tx s reply
status_at tx s (Falls cause pending) = s
status_at tx s (Rises kept) = status_risen tx s kept

-- the status of a transaction after these deeds of its client
abbrev pub status : List Deed → TxId → Status
status ds tx = fold (status_at tx) Unborn ds

-- A deed is right for a transaction that is so far. Only an unborn one begins, only a begun one gets a record, and only
-- that of a begun or committed one rises. Sites
-- are told that it committed, with its stamp, only once it has; that it is given up only of one that was begun and has
-- no record; that it is active only while it is

abbrev pub IsRightRecord : TxId → Status → Record → Type 0
IsRightRecord tx s written =
    MatchOption (commit_of written) (Unit {0}) (λ (c : Commit). same_tx c.tx tx ≡ true → s ≡ Begun)

-- a record that a rise gives
abbrev pub IsRightKept : TxId → Status → Record → Type 0
IsRightKept tx s written =
    MatchOption (commit_of written) (Unit {0})
    (λ (c : Commit). same_tx c.tx tx ≡ true → (s ≡ Begun) ⊎ (s ≡ Committed c.stamp))

abbrev pub AreRightKept : TxId → Status → List Record → Type 0
AreRightKept tx s kept = Every (IsRightKept tx s) kept

abbrev pub IsRightVerdict : Status → Outcome → Type 0
IsRightVerdict s (outcomes.Committed stamp) = s ≡ Committed stamp
IsRightVerdict s outcomes.Aborted = (s ≡ Begun) ⊎ (s ≡ Dead)
IsRightVerdict s outcomes.Active = s ≡ Begun

abbrev pub IsRightMessage : TxId → Status → Message → Type 0
IsRightMessage tx s message =
    MatchOption (request_in message)
    (MatchOption (decision_in message) (Unit {0})
    (λ (v : Decided). same_tx v.tx tx ≡ true → IsRightVerdict s v.verdict))
    (λ (q : Requested). same_tx q.tx tx ≡ true → s ≡ Begun)

abbrev pub IsRightReply : TxId → Status → Reply → Type 0
IsRightReply tx s reply =
    MatchOption (already_in reply)
    (MatchOption (began_in reply) (Unit {0}) (λ (other : TxId). same_tx other tx ≡ true → s ≡ Unborn))
    (λ (other : TxId). same_tx other tx ≡ true → s ≡ Begun)

abbrev pub IsRight : TxId → Status → Deed → Type 0
IsRight tx s (Takes given) = Unit {0}
IsRight tx s (Writes written) = IsRightRecord tx s written
IsRight tx s (Sends number to message) = IsRightMessage tx s message
IsRight tx s (Tells reply) = IsRightReply tx s reply
IsRight tx s (Falls cause pending) = Unit {0}
IsRight tx s (Rises kept) = AreRightKept tx s kept

-- each deed is right for a transaction of its actor, as far as that is then
abbrev pub AreRightFrom : TxId → Status → List Deed → Type 0
AreRightFrom tx s [] = Unit {0}
AreRightFrom tx s (d ∷ ds) = IsRight tx s d × AreRightFrom tx (status_at tx s d) ds

abbrev pub AreRight : TxId → List Deed → Type 0
AreRight tx ds = AreRightFrom tx Unborn ds

-- the transaction has ended
abbrev pub HasEnded : Status → Type 0
HasEnded Unborn = ⊥
HasEnded Begun = ⊥
HasEnded (Committed stamp) = Unit {0}
HasEnded Dead = Unit {0}
