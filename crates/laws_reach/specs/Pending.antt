-- Deeds that are right for a transaction, but for its records that had been written when they rise: at a rise only the
-- record that was being written is looked at, and its transaction is begun.
use Rattle.std.specs.Prelude.{List, [], ◌∷◌, option_to_list}
use Rattle.std.specs.List.{AllByRecursion as Every}
use Rattle.qc_core.specs.Vocabulary.{journal_at}
use Rattle.qc_msg.specs.Vocabulary.{Deed, Falls, Rises, Sends, Takes, Tells, Writes}
use Rattle.qc_promise.specs.Vocabulary.{IsRightMessage, IsRightRecord, IsRightReply, Journal, Status, status_at}
use Rattle.qc_stamp.specs.declared.stamp.TxId.{TxId}

abbrev pub IsRightButWritten : TxId → Status → Journal → Deed → Type 0
IsRightButWritten tx s j (Takes given) = Unit {0}
IsRightButWritten tx s j (Writes written) = IsRightRecord tx s written
IsRightButWritten tx s j (Sends number to message) = IsRightMessage tx s message
IsRightButWritten tx s j (Tells reply) = IsRightReply tx s reply
IsRightButWritten tx s j (Falls cause pending) = Unit {0}
IsRightButWritten tx s j (Rises records) = Every (IsRightRecord tx s) (option_to_list j.pending)

abbrev pub AreRightButWritten : TxId → Status → Journal → List Deed → Type 0
AreRightButWritten tx s j [] = Unit {0}
AreRightButWritten tx s j (d ∷ ds) =
    IsRightButWritten tx s j d × AreRightButWritten tx (status_at tx s d) (journal_at j d) ds
