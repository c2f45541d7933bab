-- Records of a client with small clocks.
use Rattle.std.specs.Prelude.{Bool, true, nat_le}
use Rattle.qc_msg.specs.declared.record.Record.{Record}
use Rattle.qc_msg.specs.declared.record.Record.TheVariants as records
use Rattle.tests_actors.specs.Young.{most_told}

abbrev pub is_small : Record → Bool
is_small records.Life = true
is_small (records.Prepare p) = true
is_small (records.Done tx clock) = true
is_small (records.Close epoch) = true
is_small (records.Install start) = true
is_small (records.Commit commit) = nat_le commit.stamp.clock most_told
is_small (records.Decide start) = true
