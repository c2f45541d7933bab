-- Which records a site may rise from here: each Prepare is of a client that may be declared.
use Rattle.std.specs.Prelude.{Bool, true, nat_lt}
use Rattle.qc_msg.specs.declared.record.Record.{Record}
use Rattle.qc_msg.specs.declared.record.Record.TheVariants as records

abbrev pub is_of_client : Record → Bool
is_of_client records.Life = true
is_of_client (records.Prepare p) = nat_lt p.tx.client 16
is_of_client (records.Done tx clock) = true
is_of_client (records.Close epoch) = true
is_of_client (records.Install start) = true
is_of_client (records.Commit commit) = true
is_of_client (records.Decide start) = true
