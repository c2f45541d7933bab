-- Readings of replies, each with a line for each kind.
use Rattle.std.specs.Prelude.{ℕ, Bool, true, false, Option, Some, None}
use Rattle.qc_stamp.specs.declared.stamp.Stamp.{Stamp}
use Rattle.qc_stamp.specs.declared.stamp.TxId.{TxId}
use Rattle.qc_msg.specs.declared.reply.Half.{Half}
use Rattle.qc_msg.specs.declared.reply.Reply.{Reply}
use Rattle.qc_msg.specs.declared.reply.Reply.TheVariants as replies

-- a transaction has begun, was begun already, or committed with this stamp

abbrev pub began_in : Reply → Option TxId
began_in replies.Down = None
began_in (replies.Already tx) = None
began_in (replies.Began tx) = Some tx
began_in replies.NoTransaction = None
began_in replies.Doomed = None
began_in replies.TooLong = None
began_in (replies.Closed epoch site) = None
began_in (replies.Conflict tx site) = None
began_in (replies.Quorum half got need) = None
began_in replies.Absent = None
began_in (replies.Response resp) = None
began_in (replies.Aborted why) = None
began_in replies.Unknown = None
began_in (replies.Committed stamp) = None
began_in replies.Dropped = None
began_in (replies.Order current) = None
began_in (replies.InDoubt tx site) = None
began_in replies.Fault = None
began_in (replies.Moved closed installed) = None

abbrev pub already_in : Reply → Option TxId
already_in replies.Down = None
already_in (replies.Already tx) = Some tx
already_in (replies.Began tx) = None
already_in replies.NoTransaction = None
already_in replies.Doomed = None
already_in replies.TooLong = None
already_in (replies.Closed epoch site) = None
already_in (replies.Conflict tx site) = None
already_in (replies.Quorum half got need) = None
already_in replies.Absent = None
already_in (replies.Response resp) = None
already_in (replies.Aborted why) = None
already_in replies.Unknown = None
already_in (replies.Committed stamp) = None
already_in replies.Dropped = None
already_in (replies.Order current) = None
already_in (replies.InDoubt tx site) = None
already_in replies.Fault = None
already_in (replies.Moved closed installed) = None

abbrev pub committed_in : Reply → Option Stamp
committed_in replies.Down = None
committed_in (replies.Already tx) = None
committed_in (replies.Began tx) = None
committed_in replies.NoTransaction = None
committed_in replies.Doomed = None
committed_in replies.TooLong = None
committed_in (replies.Closed epoch site) = None
committed_in (replies.Conflict tx site) = None
committed_in (replies.Quorum half got need) = None
committed_in replies.Absent = None
committed_in (replies.Response resp) = None
committed_in (replies.Aborted why) = None
committed_in replies.Unknown = None
committed_in (replies.Committed stamp) = Some stamp
committed_in replies.Dropped = None
committed_in (replies.Order current) = None
committed_in (replies.InDoubt tx site) = None
committed_in replies.Fault = None
committed_in (replies.Moved closed installed) = None

-- what a `do` gave: a response, or that there is none

abbrev pub response_in : Reply → Option (Option ℕ)
response_in replies.Down = None
response_in (replies.Already tx) = None
response_in (replies.Began tx) = None
response_in replies.NoTransaction = None
response_in replies.Doomed = None
response_in replies.TooLong = None
response_in (replies.Closed epoch site) = None
response_in (replies.Conflict tx site) = None
response_in (replies.Quorum half got need) = None
response_in replies.Absent = Some None
response_in (replies.Response resp) = Some (Some resp)
response_in (replies.Aborted why) = None
response_in replies.Unknown = None
response_in (replies.Committed stamp) = None
response_in replies.Dropped = None
response_in (replies.Order current) = None
response_in (replies.InDoubt tx site) = None
response_in replies.Fault = None
response_in (replies.Moved closed installed) = None

-- the transaction was given up: it aborted, or was dropped; it has ended, as far as its client knows; or nobody knows

abbrev pub is_given_up : Reply → Bool
is_given_up replies.Down = false
is_given_up (replies.Already tx) = false
is_given_up (replies.Began tx) = false
is_given_up replies.NoTransaction = false
is_given_up replies.Doomed = false
is_given_up replies.TooLong = false
is_given_up (replies.Closed epoch site) = false
is_given_up (replies.Conflict tx site) = false
is_given_up (replies.Quorum half got need) = false
is_given_up replies.Absent = false
is_given_up (replies.Response resp) = false
is_given_up (replies.Aborted why) = true
is_given_up replies.Unknown = false
is_given_up (replies.Committed stamp) = false
is_given_up replies.Dropped = true
is_given_up (replies.Order current) = false
is_given_up (replies.InDoubt tx site) = false
is_given_up replies.Fault = false
is_given_up (replies.Moved closed installed) = false

abbrev pub is_end : Reply → Bool
is_end replies.Down = false
is_end (replies.Already tx) = false
is_end (replies.Began tx) = false
is_end replies.NoTransaction = false
is_end replies.Doomed = false
is_end replies.TooLong = false
is_end (replies.Closed epoch site) = false
is_end (replies.Conflict tx site) = false
is_end (replies.Quorum half got need) = false
is_end replies.Absent = false
is_end (replies.Response resp) = false
is_end (replies.Aborted why) = true
is_end replies.Unknown = true
is_end (replies.Committed stamp) = true
is_end replies.Dropped = true
is_end (replies.Order current) = false
is_end (replies.InDoubt tx site) = false
is_end replies.Fault = false
is_end (replies.Moved closed installed) = false

abbrev pub is_in_doubt : Reply → Bool
is_in_doubt replies.Down = false
is_in_doubt (replies.Already tx) = false
is_in_doubt (replies.Began tx) = false
is_in_doubt replies.NoTransaction = false
is_in_doubt replies.Doomed = false
is_in_doubt replies.TooLong = false
is_in_doubt (replies.Closed epoch site) = false
is_in_doubt (replies.Conflict tx site) = false
is_in_doubt (replies.Quorum half got need) = false
is_in_doubt replies.Absent = false
is_in_doubt (replies.Response resp) = false
is_in_doubt (replies.Aborted why) = false
is_in_doubt replies.Unknown = true
is_in_doubt (replies.Committed stamp) = false
is_in_doubt replies.Dropped = false
is_in_doubt (replies.Order current) = false
is_in_doubt (replies.InDoubt tx site) = false
is_in_doubt replies.Fault = false
is_in_doubt (replies.Moved closed installed) = false

-- a `do` was refused, by a site that has closed the epoch, or that holds what conflicts

abbrev pub is_refused : Reply → Bool
is_refused replies.Down = false
is_refused (replies.Already tx) = false
is_refused (replies.Began tx) = false
is_refused replies.NoTransaction = false
is_refused replies.Doomed = false
is_refused replies.TooLong = false
is_refused (replies.Closed epoch site) = true
is_refused (replies.Conflict tx site) = true
is_refused (replies.Quorum half got need) = false
is_refused replies.Absent = false
is_refused (replies.Response resp) = false
is_refused (replies.Aborted why) = false
is_refused replies.Unknown = false
is_refused (replies.Committed stamp) = false
is_refused replies.Dropped = false
is_refused (replies.Order current) = false
is_refused (replies.InDoubt tx site) = false
is_refused replies.Fault = false
is_refused (replies.Moved closed installed) = false

-- or a half of it didn't come to its quorum

abbrev pub short_in : Reply → Option Half
short_in replies.Down = None
short_in (replies.Already tx) = None
short_in (replies.Began tx) = None
short_in replies.NoTransaction = None
short_in replies.Doomed = None
short_in replies.TooLong = None
short_in (replies.Closed epoch site) = None
short_in (replies.Conflict tx site) = None
short_in (replies.Quorum half got need) = Some half
short_in replies.Absent = None
short_in (replies.Response resp) = None
short_in (replies.Aborted why) = None
short_in replies.Unknown = None
short_in (replies.Committed stamp) = None
short_in replies.Dropped = None
short_in (replies.Order current) = None
short_in (replies.InDoubt tx site) = None
short_in replies.Fault = None
short_in (replies.Moved closed installed) = None
