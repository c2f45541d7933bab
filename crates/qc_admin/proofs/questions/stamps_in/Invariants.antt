use Rattle.std.proofs.Common.{◌≡◌, ◌≤◌, drop, length}
use Rattle.qc_epoch.specs.Vocabulary.{stamp_of}
use Rattle.qc_stamp.specs.declared.stamp.TxId.{TxId}
use Rattle.qc_admin.specs.Vocabulary.{stamp_at, unasked}
use Rattle.qc_admin.proofs.questions.stamps_in.Given as goal

abbrev pub invariant-queries : goal.invariant-queries
invariant-queries l = record {
  inside : l.i ≤ length l.queries;
  told : (tx : TxId) → stamp_at l.stamps tx ≡ stamp_of (unasked (drop l.i l.queries)) tx;
}

abbrev pub decreases-queries : goal.decreases-queries
decreases-queries l = l.i
