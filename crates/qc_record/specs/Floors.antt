-- What a floor lets through, and the numbers that clear it.
use Rattle.std.specs.Prelude.{ℕ, Bool}
use Rattle.qc_record.specs.Form.{climbs, is_above, is_at_least, tops}
use Rattle.qc_record.specs.declared.field.Floor.{Floor}
use Rattle.qc_record.specs.declared.field.Floor.TheVariants.{Above, AtLeast}

abbrev pub lets_through : Floor → ℕ → Bool
lets_through (AtLeast floor) n = is_at_least floor.now n
lets_through (Above floor) n = is_above floor.now n

abbrev pub clears : ℕ → ℕ → Floor → ℕ → Bool
clears low high (AtLeast floor) = climbs low high floor.now
clears low high (Above floor) = tops low high floor.now
