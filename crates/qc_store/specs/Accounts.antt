-- What the account of one actor's disk says of what is armed on the disk, and of the faults that it counted.
use Rattle.std.specs.Prelude.{◌≡◌, ℕ, ◌+◌, ◌-◌, ◌^◌, ◌≤◌, min, Option, Some, None}
use Rattle.qc_outside.specs.Vocabulary.{Armed, Fuse}
use Rattle.qc_outside.specs.declared.disk.ArmKind.{ArmKind}
use Rattle.qc_promise.specs.Vocabulary.{DiskAccount, DiskArm}

-- the disk counted so many faults of its own, or as many as 64 bits hold
abbrev pub IsCounted : ℕ → ℕ → Type 0
IsCounted falls count = min falls (2 ^ 64 - 1) ≤ count

-- the disk's arm is the one that waits in the account, as far as a history shows its calls
pub record IsArmOf (w : DiskArm) (arm : ArmKind × ℕ) : Type 0 where
  pub kind_is : arm.0 ≡ w.kind
  pub later : w.calls.fewest + arm.1 ≤ w.at
  pub sooner : w.at ≤ w.calls.most + arm.1
  pub some : 1 ≤ arm.1

-- Where nothing waits and yet a fault is armed, a fall that the disk made by itself has used up the account's arm. Then
-- the arm that is left stands for one fault more that the disk counted.
abbrev pub IsArmedBy : Option DiskArm → ℕ → Armed → ℕ → Type 0
IsArmedBy None unarmed None count = IsCounted unarmed count
IsArmedBy None unarmed (Some arm) count = IsCounted (unarmed + 1) count
IsArmedBy (Some w) unarmed None count = ⊥
IsArmedBy (Some w) unarmed (Some arm) count = IsArmOf w arm × IsCounted unarmed count

abbrev pub IsAccountOf : DiskAccount → Fuse → Type 0
IsAccountOf t f = IsArmedBy t.waiting t.unarmed f.armed f.unarmed
