-- What a reply says of a transaction's course, case by case: that it began, was begun already, or is given up.
use Rattle.std.specs.Prelude.{Bool, true, false, Option, Some, None}
use Rattle.qc_stamp.specs.declared.stamp.TxId.{TxId}
use Rattle.qc_msg.specs.declared.reply.AbortCause.{AbortCause}
use Rattle.qc_msg.specs.declared.reply.Reply.{Reply}
use Rattle.qc_msg.specs.declared.reply.Reply.TheVariants as replies
use Rattle.qc_msg.specs.Vocabulary.{already_in, began_in, is_given_up}

pub reply_cases : (P : Reply → Option TxId → Option TxId → Bool → Type 0)
    → ((other : TxId) → P (replies.Began other) (Some other) None false)
    → ((other : TxId) → P (replies.Already other) None (Some other) false)
    → ((why : AbortCause) → P (replies.Aborted why) None None true) → P replies.Dropped None None true
    → ((reply : Reply) → P reply None None false) → (reply : Reply)
    → P reply (began_in reply) (already_in reply) (is_given_up reply)
reply_cases P began already aborted dropped rest replies.Down = rest replies.Down
reply_cases P began already aborted dropped rest (replies.Already other) = already other
reply_cases P began already aborted dropped rest (replies.Began other) = began other
reply_cases P began already aborted dropped rest replies.NoTransaction = rest replies.NoTransaction
reply_cases P began already aborted dropped rest replies.Doomed = rest replies.Doomed
reply_cases P began already aborted dropped rest replies.TooLong = rest replies.TooLong
reply_cases P began already aborted dropped rest (replies.Closed epoch site) = rest (replies.Closed epoch site)
reply_cases P began already aborted dropped rest (replies.Conflict holder site) = rest (replies.Conflict holder site)
reply_cases P began already aborted dropped rest (replies.Quorum half got need) = rest (replies.Quorum half got need)
reply_cases P began already aborted dropped rest replies.Absent = rest replies.Absent
reply_cases P began already aborted dropped rest (replies.Response resp) = rest (replies.Response resp)
reply_cases P began already aborted dropped rest (replies.Aborted why) = aborted why
reply_cases P began already aborted dropped rest replies.Unknown = rest replies.Unknown
reply_cases P began already aborted dropped rest (replies.Committed stamp) = rest (replies.Committed stamp)
reply_cases P began already aborted dropped rest replies.Dropped = dropped
reply_cases P began already aborted dropped rest (replies.Order current) = rest (replies.Order current)
reply_cases P began already aborted dropped rest (replies.InDoubt holder site) = rest (replies.InDoubt holder site)
reply_cases P began already aborted dropped rest replies.Fault = rest replies.Fault
reply_cases P began already aborted dropped rest (replies.Moved closed installed) =
    rest (replies.Moved closed installed)
