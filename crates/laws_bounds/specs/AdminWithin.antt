-- Clocks within a bound: those of what the administrator has decided, and of what he was told.
use Rattle.std.specs.Prelude.{ℕ, ◌≤◌, Option}
use Rattle.laws_bounds.specs.AdminParts as parts
use Rattle.laws_bounds.specs.AdminParts.{AnyNumber}
use Rattle.qc_entry.specs.declared.record.Prepared.{Prepared}
use Rattle.qc_epoch.specs.Vocabulary.{Admin}
use Rattle.qc_msg.specs.declared.payload.EpochStart.{EpochStart}
use Rattle.laws_turns.specs.Vocabulary.{LinesWithin, OutcomeWithin}
use Rattle.qc_msg.specs.declared.message.Outcome.{Outcome}
use Rattle.qc_stamp.specs.declared.stamp.TxId.{TxId}

-- clocks are within it, and each epoch will do

abbrev pub ClockWithin : ℕ → ℕ → Type 0
ClockWithin bound clock = clock ≤ bound

abbrev pub PromiseWithin : ℕ → Prepared → Type 0
PromiseWithin bound p = LinesWithin bound p.lines

abbrev pub VerdictWithin : ℕ → TxId → Outcome → Type 0
VerdictWithin bound tx verdict = OutcomeWithin bound verdict

abbrev pub AnyEpoch : ℕ → Type 0
AnyEpoch epoch = Unit {0}

abbrev pub DecidedWithin : ℕ → Option EpochStart → Type 0
DecidedWithin bound o =
    parts.DecidedKeeps (ClockWithin bound) (LinesWithin bound) (PromiseWithin bound)
    (VerdictWithin bound) AnyEpoch AnyNumber o

abbrev pub AdminWithin : ℕ → Admin → Type 0
AdminWithin bound m =
    parts.AdminKeeps (ClockWithin bound) (LinesWithin bound) (PromiseWithin bound)
    (VerdictWithin bound) AnyEpoch AnyNumber m
