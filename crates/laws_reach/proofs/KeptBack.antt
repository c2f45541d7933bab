-- Where records are kept an actor's deeds are right for a transaction, if they are but for its written records that
-- rise.
use Rattle.std.proofs.Common.{ℕ, List, []}
use Rattle.qc_core.proofs.KeptBack.{rises_give_back_journals_where_records_are_kept}
use Rattle.qc_msg.specs.Vocabulary.{Entry, deeds}
use Rattle.qc_promise.specs.Vocabulary.{AreRight, Kept, Unborn, no_journal}
use Rattle.qc_stamp.specs.declared.stamp.TxId.{TxId}
use Rattle.laws_reach.specs.Vocabulary.{AreRightButWritten}
use Rattle.laws_reach.proofs.Rises.{what_was_written_rises_rightly}

pub what_was_written_rises_rightly_where_records_are_kept : (h : List Entry) → Kept h → (a : ℕ) (tx : TxId)
    → AreRightButWritten tx Unborn no_journal (deeds a [] h) → AreRight tx (deeds a [] h)
what_was_written_rises_rightly_where_records_are_kept h kept a tx right =
    what_was_written_rises_rightly tx (deeds a [] h) (rises_give_back_journals_where_records_are_kept h kept a) right
