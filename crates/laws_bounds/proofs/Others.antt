-- Of an actor that isn't below the number nothing is armed, and it neither falls nor rises.
use Rattle.std.proofs.Common.{◌≡◌, ℕ, ◌<◌, ◌≤◌, ◌==◌, nat_lt, Bool, true, false, if◌then◌else◌, List, [], ◌∷◌, fold}
use Rattle.std.proofs.Common.{Option, Some, None, refl, sym, ap, subst, arith}
use Rattle.std.specs.List.{AllByRecursion as Every}
use Rattle.std.proofs.lemmas.Bool.{eqb-true, ne_eqb}
use Rattle.std.proofs.lemmas.Bool.Decides.{nat_tests}
use Rattle.qc_msg.specs.Vocabulary.{Entry, own}
use Rattle.qc_msg.specs.declared.step.Step.{Step}
use Rattle.qc_msg.specs.declared.step.Step.TheVariants as steps
use Rattle.qc_promise.specs.Vocabulary.{AreKept, Calls, DiskAccount, DiskArm, IsEverInTime, IsKeptAt, disk_account}
use Rattle.qc_promise.specs.Vocabulary.{disk_account_with, disk_armed, disk_called, disk_fell_by, no_disk_account}
use Rattle.qc_promise.specs.Vocabulary.{of_fall, of_opening, of_reading, of_record, waiting_after, IsGivenBack}
use Rattle.qc_promise.specs.Vocabulary.{journal_of}
use Rattle.laws_bounds.specs.Vocabulary.{AreFaultsBelow, IsFaultBelow}
use Rattle.laws_bounds.proofs.Cuts.{every_at_cut}
use Rattle.laws_bounds.proofs.StepCases.{kept_cases}
use Rattle.qc_list.proofs.Members.{every-front}

pub at_least : (n a : ℕ) → nat_lt a n ≡ false → n ≤ a
at_least n a is = grind (arith, nat_tests)

apart : (n a b : ℕ) → b < n → n ≤ a → (b == a) ≡ false
apart n a b low high = ne_eqb b a (λ same. omega (arith, low, high, same))

-- nothing waits

stays : (t : DiskAccount) (u : DiskAccount) (c : Bool) → c ≡ false → t.waiting ≡ None
    → (if c then u else t).waiting ≡ None
stays t u true is none = absurd (let never : ⊥ = cc in never)
stays t u false is none = none

called_none : (t : DiskAccount) (calls : Calls) (c : Bool) → t.waiting ≡ None
    → (if c then disk_called t calls else t).waiting ≡ None
called_none t calls true none = ap (waiting_after calls) none
called_none t calls false none = none

none_waits : (n a : ℕ) → n ≤ a → (t : DiskAccount) (actor : ℕ) (s : Step) → IsFaultBelow n actor s
    → t.waiting ≡ None → (disk_account_with a t actor s).waiting ≡ None
none_waits n a high t actor (steps.Phase k) low none = none
none_waits n a high t actor (steps.Cut x y) low none = none
none_waits n a high t actor (steps.Heal x y) low none = none
none_waits n a high t actor (steps.Armed b kind at) low none =
    stays t (disk_armed t kind at) (b == a) (apart n a b low high) none
none_waits n a high t actor (steps.Called command) low none = none
none_waits n a high t actor (steps.Got k) low none = none
none_waits n a high t actor (steps.Lost k) low none = none
none_waits n a high t actor (steps.Wrote written) low none = called_none t of_record (actor == a) none
none_waits n a high t actor (steps.Sent k to message) low none = none
none_waits n a high t actor (steps.Told reply) low none = none
none_waits n a high t actor (steps.Fell cause pending) low none =
    stays t (disk_fell_by t cause (of_fall pending)) (actor == a) (apart n a actor low high) none
none_waits n a high t actor (steps.Rose records) low none = called_none t (of_opening records) (actor == a) none
none_waits n a high t actor (steps.Damaged offset) low none = called_none t of_reading (actor == a) none

none_ever : (n a : ℕ) → n ≤ a → (t : DiskAccount) (h : List Entry) → AreFaultsBelow n h → t.waiting ≡ None
    → (fold (λ (u : DiskAccount) (e : Entry). disk_account_with a u e.actor e.step) t h).waiting ≡ None
none_ever n a high t [] below none = none
none_ever n a high t (e ∷ h) below none =
    none_ever n a high (disk_account_with a t e.actor e.step) h below.1
    (none_waits n a high t e.actor e.step below.0 none)

in_time_of : (w : Option DiskArm) → w ≡ None → (v : DiskArm) → w ≡ Some v → v.calls.fewest < v.at
in_time_of w none v is = absurd (let never : ⊥ = cc in never)

pub others_in_time : (n a : ℕ) (h : List Entry) → AreFaultsBelow n h → n ≤ a → IsEverInTime a h
others_in_time n a h below high before later is =
    let fronts : AreFaultsBelow n before =
    every-front (λ (e : Entry). IsFaultBelow n e.actor e.step) before later (subst (AreFaultsBelow n) (sym is) below) in
    in_time_of (disk_account a before).waiting (none_ever n a high no_disk_account before fronts refl)

-- it doesn't rise, and finds no damage

keeps : (n a : ℕ) (before : List Step) (s : Step) → n ≤ a → IsFaultBelow n a s → IsKeptAt before s
keeps n a before s high low =
    kept_cases (IsFaultBelow n a) (IsGivenBack (journal_of before)) (λ (offset : ℕ). ⊥)
    (λ rs low. absurd (omega (arith, high, low))) (λ offset low. absurd (omega (arith, high, low))) s low

own_below : (n a : ℕ) (h : List Entry) → AreFaultsBelow n h → Every (IsFaultBelow n a) (own a h)
own_below n a [] below = tt
own_below n a (e ∷ h) below = by (own_below n a h below.1) (e.actor == a) refl
  where
    by : Every (IsFaultBelow n a) (own a h) → (c : Bool) → (e.actor == a) ≡ c
        → Every (IsFaultBelow n a) (own a (e ∷ h))
    by rest true mine =
        rw mine (subst (λ (k : ℕ). IsFaultBelow n k e.step) (eqb-true e.actor a mine) below.0, rest)
    by rest false other = rw other rest

pub others_kept : (n a : ℕ) (h : List Entry) → AreFaultsBelow n h → n ≤ a → AreKept (own a h)
others_kept n a h below high before later s is =
    keeps n a before s high
    (every_at_cut (IsFaultBelow n a) before later s
    (subst (Every (IsFaultBelow n a)) (sym is) (own_below n a h below)))
