-- What an armed fault counts.
use Rattle.std.proofs.Common.{◌≡◌, ℕ, ◌+◌, ◌-◌, ◌^◌, ◌≤◌, min, Err, arith}
use Rattle.qc_outside.specs.Vocabulary.{DiskRose, Rose}
use Rattle.qc_outside.specs.declared.disk.DiskFault.TheVariants.{Failed, Stopped}

pub counted_fail : (i a b : ℕ) → a ≤ b → b ≡ min (a + 1) (2 ^ 64 - 1)
    → DiskRose {T = Unit {0}} (i + a) (i + b) (Err Failed)
counted_fail i a b up is = record {
  later = le;
  failed = λ _. rose;
  stopped = λ e. absurd (cc e);
  wanting = λ e. absurd (cc e);
}
  where
    le : i + a ≤ i + b
    le = omega (arith, up)

    rose : Rose (i + a) (i + b)
    rose = omega (arith, is)

pub counted_stop : (i j a b : ℕ) → i ≤ j → a ≤ b → b ≡ min (a + 1) (2 ^ 64 - 1)
    → DiskRose {T = Unit {0}} (i + a) (j + b) (Err Stopped)
counted_stop i j a b more up is = record {
  later = omega (arith, more, up);
  failed = λ e. absurd (cc e);
  stopped = λ _. rose;
  wanting = λ e. absurd (cc e);
}
  where
    rose : Rose (i + a) (j + b)
    rose = omega (arith, is, more)
