-- Which promises a test tells of: those of clients that may be declared.
use Rattle.std.specs.Prelude.{Bool, nat_lt}
use Rattle.qc_entry.specs.declared.record.Prepared.{Prepared}

abbrev pub is_of_client : Prepared → Bool
is_of_client p = nat_lt p.tx.client 16
