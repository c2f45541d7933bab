-- Calls of a store are counted as a history's; and where nothing is armed, a fault is the disk's own.
use Rattle.std.proofs.Common.{◌≡◌, inl, inr, ℕ, ◌≤◌, List, [], ◌∷◌, length, Err, refl}
use Rattle.qc_journal.specs.Vocabulary.{JournalIsRefused, JournalRose, most_of_opening}
use Rattle.qc_journal.specs.declared.fault.JournalFault.{JournalFault}
use Rattle.qc_journal.specs.declared.fault.JournalFault.TheVariants.{Failed, Stopped, Torn, OutOfMemory}
use Rattle.qc_msg.specs.declared.record.Record.{Record}
use Rattle.qc_outside.specs.Vocabulary.{Fuse, HasFaulted, HasPassed, Rose, no_fuse}
use Rattle.qc_outside.specs.declared.disk.ArmKind.{ArmKind}
use Rattle.qc_outside.specs.declared.disk.ArmKind.TheVariants.{Fail, Stop}
use Rattle.qc_promise.specs.Vocabulary.{of_opening}
use Rattle.qc_store.specs.Vocabulary.{of_bodies}

pub openings_alike : (bodies : List (List ℕ)) (records : List Record) → length bodies ≡ length records
    → of_bodies bodies ≡ of_opening records
openings_alike [] [] same = refl
openings_alike [] (r ∷ records) same = absurd (cc same)
openings_alike (b ∷ bodies) [] same = absurd (cc same)
openings_alike (b ∷ bodies) (r ∷ records) same = refl

-- what an opening passed is what is counted of it
pub opening_passed : (bodies : List (List ℕ)) (old new : Fuse) → HasPassed 1 (most_of_opening bodies) old new
    → HasPassed (of_bodies bodies).fewest (of_bodies bodies).most old new
opening_passed [] old new did = did
opening_passed (b ∷ bodies) old new did = did

-- where nothing is armed

own_fault : (fewest most n : ℕ) (kind : ArmKind) (new : Fuse) → HasFaulted fewest most kind (no_fuse n) new
    → (n ≤ new.unarmed) × Rose n new.unarmed
own_fault fewest most n kind new (inl did) = absurd (cc did.was)
own_fault fewest most n kind new (inr did) = (did.later, did.rose)

pub opening_rose : (e : JournalFault) (n : ℕ) (new : Fuse) → JournalIsRefused 0 2 1 (no_fuse n) new e
    → JournalRose {T = Unit {0}} n new.unarmed (Err e)
opening_rose Failed n new did =
    let own = own_fault 0 2 n Fail new did in
    record { later = own.0; failed = λ _. own.1; stopped = λ is. absurd (cc is) }
opening_rose Stopped n new did =
    let own = own_fault 0 2 n Stop new did in
    record { later = own.0; failed = λ is. absurd (cc is); stopped = λ _. own.1 }
opening_rose (Torn offset) n new did =
    record { later = did.later; failed = λ is. absurd (cc is); stopped = λ is. absurd (cc is) }
opening_rose OutOfMemory n new did =
    record { later = did; failed = λ is. absurd (cc is); stopped = λ is. absurd (cc is) }
