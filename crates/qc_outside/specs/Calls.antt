-- The calls of a fake, some of which are to fail.
use Rattle.std.specs.Prelude.{ℕ, List, Bool, ◌==◌}
use Rattle.std.specs.List.{list_any}
use Rattle.qc_outside.specs.Causes.{one_more}

-- the numbers of the calls that are to fail, how many were made, and how many failed
pub record CallsMade : Type 0 where
  pub fail : List ℕ
  pub made : ℕ
  pub faults : ℕ

-- no call yet
abbrev pub no_calls : List ℕ → CallsMade
no_calls numbers = record { fail = numbers; made = 0; faults = 0 }

-- whether the next call is to fail
abbrev pub is_next_failing : CallsMade → Bool
is_next_failing calls = list_any (λ number. number == one_more calls.made) calls.fail

-- the counts after a call that failed
abbrev pub after_fault : CallsMade → CallsMade
after_fault calls = record { fail = calls.fail; made = one_more calls.made; faults = one_more calls.faults }

-- the counts after a call that did not fail
abbrev pub after_call : CallsMade → CallsMade
after_call calls = record { fail = calls.fail; made = one_more calls.made; faults = calls.faults }
