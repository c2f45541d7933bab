-- The commit records that a client's deeds make: those that it wrote, and those that it was writing as it fell. A
-- journal that rises give back loses none of its records.
use Rattle.std.proofs.Common.{◌≡◌, ◌⊎◌, List, [], ◌∷◌, inl, inr, fold, Some, option_and_then, subst}
use Rattle.std.specs.List.{cons_option}
use Rattle.qc_list.specs.Vocabulary.{In}
use Rattle.qc_list.proofs.Members.{In-first, In-last}
use Rattle.qc_core.specs.Vocabulary.{AreGivenBack, IsGivenBackAt, journal_at}
use Rattle.qc_entry.specs.declared.record.Commit.{Commit}
use Rattle.qc_msg.specs.declared.record.Record.{Record}
use Rattle.qc_msg.specs.declared.record.Record.TheVariants as records
use Rattle.qc_msg.specs.Vocabulary.{Deed, Falls, Rises, Sends, Takes, Tells, Writes, commit_of}
use Rattle.qc_promise.specs.Vocabulary.{Journal}
use Rattle.laws_reach.proofs.Committing.{given_back}

abbrev pub made_at : List Commit → Deed → List Commit
made_at made (Takes given) = made
made_at made (Writes written) = cons_option (commit_of written) made
made_at made (Sends number to message) = made
made_at made (Tells reply) = made
made_at made (Falls cause pending) = cons_option (option_and_then commit_of pending) made
made_at made (Rises kept) = made

-- a record that a journal has, or that was being written as its actor fell last
abbrev pub IsHad : Commit → Journal → Type 0
IsHad c j = In (records.Commit c) j.records ⊎ (j.pending ≡ Some (records.Commit c))

stays : (w : Record) (j : Journal) (d : Deed) → IsGivenBackAt j d → In w j.records → In w (journal_at j d).records
stays w j (Takes given) back among = among
stays w j (Writes written) back among = In-first w j.records (written ∷ []) among
stays w j (Sends number to message) back among = among
stays w j (Tells reply) back among = among
stays w j (Falls cause pending) back among = among
stays w j (Rises kept) back among = given_back w j kept back among

pub all_stay : (w : Record) (j : Journal) (ds : List Deed) → AreGivenBack j ds → In w j.records
    → In w (fold journal_at j ds).records
all_stay w j [] back among = among
all_stay w j (d ∷ ds) back among = all_stay w (journal_at j d) ds back.1 (stays w j d back.0 among)

-- a record that was written is there after all deeds
pub wrote_stays : (c : Commit) (j : Journal) (ds : List Deed) → AreGivenBack j ds → In (Writes (records.Commit c)) ds
    → In (records.Commit c) (fold journal_at j ds).records
wrote_stays c j [] back among = absurd among
wrote_stays c j (d ∷ ds) back (inl same) =
    all_stay (records.Commit c) (journal_at j d) ds back.1
    (subst (λ (x : Deed). In (records.Commit c) (journal_at j x).records) same (In-last (records.Commit c) j.records))
wrote_stays c j (d ∷ ds) back (inr later) = wrote_stays c (journal_at j d) ds back.1 later
