-- The account of one actor's disk in a history: the fault that is armed for it, and the falls in which that can't have
-- acted. It is `tally` (`Spent`) for one actor alone, so a disk's owner can keep it.
use Rattle.std.specs.Prelude.{MatchOption, ◌≡◌, ℕ, zero, suc, ◌+◌, ◌<◌, ◌==◌, nat_le, Bool, ◌&&◌, if◌then◌else◌, List}
use Rattle.std.specs.Prelude.{◌++◌, Option, Some, None, fold}
use Rattle.std.specs.List.{AllByRecursion as Every}
use Rattle.qc_msg.specs.Vocabulary.{Entry, Fallen, fell_in}
use Rattle.qc_msg.specs.declared.step.Fall.{Fall}
use Rattle.qc_msg.specs.declared.step.Fall.TheVariants as falls
use Rattle.qc_msg.specs.declared.step.Step.{Step}
use Rattle.qc_msg.specs.declared.step.Step.TheVariants as steps
use Rattle.qc_outside.specs.declared.disk.ArmKind.{ArmKind}
use Rattle.qc_outside.specs.declared.disk.ArmKind.TheVariants as kinds
use Rattle.qc_promise.specs.Spent.{Calls, no_calls, of_fall, of_opening, of_reading, of_record, same_kind}

-- what is armed: in which call it is to act, and the calls since
pub record DiskArm : Type 0 where
  pub kind : ArmKind
  pub at : ℕ
  pub calls : Calls

pub record DiskAccount : Type 0 where
  pub waiting : Option DiskArm
  pub unarmed : ℕ

abbrev pub no_disk_account : DiskAccount
no_disk_account = record { waiting = None; unarmed = 0 }

-- a fault is armed, in the place of one that was
abbrev pub disk_armed : DiskAccount → ArmKind → ℕ → DiskAccount
disk_armed t kind at = record t { waiting = Some (record { kind = kind; at = at; calls = no_calls }) }

-- the disk has had these calls more

abbrev pub more_calls : Calls → DiskArm → DiskArm
more_calls calls w =
    record w { calls = record { fewest = w.calls.fewest + calls.fewest; most = w.calls.most + calls.most } }

abbrev pub waiting_after : Calls → Option DiskArm → Option DiskArm
waiting_after calls None = None
waiting_after calls (Some w) = Some (more_calls calls w)

abbrev pub disk_called : DiskAccount → Calls → DiskAccount
disk_called t calls = record t { waiting = waiting_after calls t.waiting }

-- a fall in one of these calls uses what is armed, where that may have acted; else it is the disk's own

abbrev pub may_have_acted : ArmKind → Calls → DiskArm → Bool
may_have_acted kind calls w = same_kind w.kind kind && nat_le w.at (w.calls.most + calls.most)

abbrev pub disk_fell_with : Option DiskArm → ℕ → ArmKind → Calls → DiskAccount
disk_fell_with None unarmed kind calls = record { waiting = None; unarmed = unarmed + 1 }
disk_fell_with (Some w) unarmed kind calls =
    if may_have_acted kind calls w
    then record { waiting = None; unarmed = unarmed }
    else record { waiting = Some (more_calls calls w); unarmed = unarmed + 1 }

abbrev pub disk_fell : DiskAccount → ArmKind → Calls → DiskAccount
disk_fell t kind calls = disk_fell_with t.waiting t.unarmed kind calls

abbrev pub disk_fell_by : DiskAccount → Fall → Calls → DiskAccount
disk_fell_by t falls.Script calls = t
disk_fell_by t falls.Stop calls = disk_fell t kinds.Stop calls
disk_fell_by t falls.Disk calls = disk_fell t kinds.Fail calls

-- the account of actor a's disk after a step of this actor
abbrev pub disk_account_with : ℕ → DiskAccount → ℕ → Step → DiskAccount
disk_account_with a t actor (steps.Phase number) = t
disk_account_with a t actor (steps.Cut x y) = t
disk_account_with a t actor (steps.Heal x y) = t
disk_account_with a t actor (steps.Armed b kind at) = if b == a then disk_armed t kind at else t
disk_account_with a t actor (steps.Called command) = t
disk_account_with a t actor (steps.Got number) = t
disk_account_with a t actor (steps.Lost number) = t
disk_account_with a t actor (steps.Wrote written) = if actor == a then disk_called t of_record else t
disk_account_with a t actor (steps.Sent number to message) = t
disk_account_with a t actor (steps.Told reply) = t
disk_account_with a t actor (steps.Fell cause pending) =
    if actor == a then disk_fell_by t cause (of_fall pending) else t
disk_account_with a t actor (steps.Rose records) = if actor == a then disk_called t (of_opening records) else t
disk_account_with a t actor (steps.Damaged offset) = if actor == a then disk_called t of_reading else t

abbrev pub disk_account : ℕ → List Entry → DiskAccount
disk_account a h = fold (λ t (e : Entry). disk_account_with a t e.actor e.step) no_disk_account h

-- What has to hold of each account for `Spent` to hold of the whole.

-- what is armed for it doesn't wait past its call
abbrev pub IsInTime : DiskAccount → Type 0
IsInTime t = (w : DiskArm) → t.waiting ≡ Some w → w.calls.fewest < w.at

abbrev pub IsEverInTime : ℕ → List Entry → Type 0
IsEverInTime a h = (before later : List Entry) → before ++ later ≡ h → IsInTime (disk_account a before)

-- falls are of actors below a number

abbrev pub IsFallBelow : ℕ → ℕ → Step → Type 0
IsFallBelow n actor step = MatchOption (fell_in step) (Unit {0}) (λ (x : Fallen). actor < n)

abbrev pub AreFallsBelow : ℕ → List Entry → Type 0
AreFallsBelow n h = Every (λ (e : Entry). IsFallBelow n e.actor e.step) h

-- the sum over the numbers below one
abbrev pub total_below : ℕ → (ℕ → ℕ) → ℕ
total_below zero f = 0
total_below (suc n) f = total_below n f + f n
