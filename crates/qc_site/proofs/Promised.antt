-- Promises by number: what the laws of numbers say of them.
use Rattle.qc_stamp.specs.declared.stamp.TxId.{TxId}
use Rattle.qc_entry.specs.declared.record.Prepared.{Prepared}

-- whose promise it is
abbrev pub promiser : Prepared → TxId
promiser promise = promise.tx
