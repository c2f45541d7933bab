-- What is known of an actor's store, its journal on its disk: what its own steps make of the journal and of the disk's
-- account, whatever others do meanwhile.
use Rattle.std.specs.Prelude.{[], MatchOption, ◌≡◌, ℕ, ◌==◌, Bool, true, false, List, ◌∷◌, ◌++◌, fold}
use Rattle.std.specs.Option.{option_map_or}
use Rattle.std.specs.List.{AllByRecursion as Every}
use Rattle.qc_msg.specs.Vocabulary.{Entry, own, Arming, armed_in, damaged_in, rose_in}
use Rattle.qc_msg.specs.declared.step.Step.{Step}
use Rattle.qc_promise.specs.DiskAccount.{DiskAccount, IsEverInTime, IsInTime, disk_account, disk_account_with}
use Rattle.qc_promise.specs.Kept.{IsGivenBack, IsKeptAt, Journal, journal_of, journal_with}
use Rattle.qc_msg.specs.declared.record.Record.{Record}

-- an actor's own steps keep its records
abbrev pub AreKept : List Step → Type 0
AreKept own = (before later : List Step) (s : Step) → before ++ s ∷ later ≡ own → IsKeptAt before s

-- whether a step arms a fault for actor a's disk
abbrev pub arms_disk : ℕ → Step → Bool
arms_disk a step = option_map_or (λ (x : Arming). x.actor == a) (armed_in step) false

-- others did this: nothing of it is the actor's, and nothing arms a fault for its disk
abbrev pub IsOfOthers : ℕ → List Entry → Type 0
IsOfOthers a h = Every (λ (e : Entry). ((e.actor == a) ≡ false) × (arms_disk a e.step ≡ false)) h

-- whether a step leaves the records of an actor whose journal is this
abbrev pub IsKeptBy : Journal → Step → Type 0
IsKeptBy j step =
    MatchOption (rose_in step) (MatchOption (damaged_in step) (Unit {0}) (λ (x : ℕ). ⊥))
    (λ (records : List Record). IsGivenBack j records)

-- each of an actor's next steps leaves its records, where its disk tells, and no fault waits past its call after it
abbrev pub AreStoreSteps : Bool → ℕ → Journal → DiskAccount → List Step → Type 0
AreStoreSteps tells a j t [] = Unit {0}
AreStoreSteps tells a j t (s ∷ more) =
    (tells ≡ true → IsKeptBy j s) × IsInTime (disk_account_with a t a s)
    × AreStoreSteps tells a (journal_with j s) (disk_account_with a t a s) more

abbrev pub journal_after : Journal → List Step → Journal
journal_after j steps = fold journal_with j steps

abbrev pub disk_account_after : ℕ → DiskAccount → List Step → DiskAccount
disk_account_after a t steps = fold (λ u s. disk_account_with a u a s) t steps

-- of an actor in a history: its journal, its disk's account, that its records were kept where its disk tells, and that
-- no fault waited past its call
pub record IsStoreOf (tells : Bool) (a : ℕ) (h : List Entry) (j : Journal) (t : DiskAccount) : Type 0 where
  pub journal_is : journal_of (own a h) ≡ j
  pub account_is : disk_account a h ≡ t
  pub kept : tells ≡ true → AreKept (own a h)
  pub in_time : IsEverInTime a h

-- whether a step leaves the records of an actor with these steps before it, or finds damage where a record doesn't fit
abbrev pub IsKeptOrUnfit : Bool → List Step → Step → Type 0
IsKeptOrUnfit fit before step =
    MatchOption (rose_in step) (MatchOption (damaged_in step) (Unit {0}) (λ (x : ℕ). fit ≡ false))
    (λ (records : List Record). IsGivenBack (journal_of before) records)
