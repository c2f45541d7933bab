-- One call of a journal after another: what is armed on its disk goes on.
use Rattle.std.proofs.Common.{ℕ, ◌+◌, ◌≤◌, List, [], ◌∷◌, Result, Ok, Err, IfOk, IfErr, arith}
use Rattle.qc_outside.specs.Vocabulary.{Fuse, HasPassed, IsRefused}
use Rattle.qc_outside.specs.declared.disk.ArmKind.TheVariants.{Fail, Stop}
use Rattle.qc_outside.specs.declared.disk.DiskFault.{DiskFault}
use Rattle.qc_outside.specs.declared.disk.DiskFault.TheVariants.{Failed as DiskFails, Stopped as DiskStops}
use Rattle.qc_outside.specs.declared.disk.DiskFault.TheVariants.{OutOfMemory as DiskWants}
use Rattle.qc_outside.proofs.Fuses.{faulted_more, faulted_wider, passed_more, passed_wider}
use Rattle.qc_journal.specs.Vocabulary.{JournalBurns, JournalIsRefused, most_of_opening, of_disk}
use Rattle.qc_journal.specs.declared.fault.JournalFault.{JournalFault}
use Rattle.qc_journal.specs.declared.fault.JournalFault.TheVariants.{Failed, Stopped, Torn, OutOfMemory}

-- a disk's fault is the journal's
pub disk_refused : (e : DiskFault) (l m k n whole : ℕ) (x y : Fuse) → k ≤ l → m ≤ n → IsRefused l m x y e
    → JournalIsRefused k n whole x y (of_disk e)
disk_refused DiskFails l m k n whole x y low high did = faulted_wider l m k n Fail x y low high did
disk_refused DiskStops l m k n whole x y low high did = faulted_wider l m k n Stop x y low high did
disk_refused DiskWants l m k n whole x y low high did = did

-- calls before a refusal

pub refusal_more : (e : JournalFault) (a l m whole : ℕ) (x y z : Fuse) → HasPassed a a x y
    → JournalIsRefused l m whole y z e → JournalIsRefused (a + l) (a + m) (a + whole) x z e
refusal_more Failed a l m whole x y z first second = faulted_more a a l m Fail x y z first second
refusal_more Stopped a l m whole x y z first second = faulted_more a a l m Stop x y z first second
refusal_more (Torn offset) a l m whole x y z first second = passed_more a a whole whole x y z first second
refusal_more OutOfMemory a l m whole x y z first second = omega (arith, first.later, second)

pub journal_more : {T : Type 0} (r : Result T JournalFault) (a l m whole : ℕ) (x y z : Fuse) → HasPassed a a x y
    → JournalBurns l m whole y z r → JournalBurns (a + l) (a + m) (a + whole) x z r
journal_more (Ok done) a l m whole x y z first second = passed_more a a whole whole x y z first second
journal_more (Err e) a l m whole x y z first second = refusal_more e a l m whole x y z first second

-- an opening that reads makes one call

one_at_most : (bodies : List (List ℕ)) → 1 ≤ most_of_opening bodies
one_at_most [] = omega arith
one_at_most (body ∷ bodies) = omega arith

pub reading_passed : {T : Type 0} (r : Result T JournalFault) (bodies : T → List (List ℕ)) (x z : Fuse)
    → JournalBurns 1 1 1 x z r → IfOk r (λ v. HasPassed 1 (most_of_opening (bodies v)) x z)
reading_passed (Ok v) bodies x z did =
    passed_wider 1 1 1 (most_of_opening (bodies v)) x z (omega arith) (one_at_most (bodies v)) did
reading_passed (Err e) bodies x z did = tt

refusal_wider : (e : JournalFault) (x z : Fuse) → JournalIsRefused 1 1 1 x z e → JournalIsRefused 0 2 1 x z e
refusal_wider Failed x z did = faulted_wider 1 1 0 2 Fail x z (omega arith) (omega arith) did
refusal_wider Stopped x z did = faulted_wider 1 1 0 2 Stop x z (omega arith) (omega arith) did
refusal_wider (Torn offset) x z did = did
refusal_wider OutOfMemory x z did = did

pub reading_refused : {T : Type 0} (r : Result T JournalFault) (x z : Fuse) → JournalBurns 1 1 1 x z r
    → IfErr r (λ e. JournalIsRefused 0 2 1 x z e)
reading_refused (Ok v) x z did = tt
reading_refused (Err e) x z did = refusal_wider e x z did
