-- The commit records of deeds, in each of their forms.
use Rattle.std.proofs.Common.{◌≡◌, List, [], ◌∷◌, ◌⊎◌, inl, inr, fold, Option, Some, None, refl, sym, ap, ◌∙◌, subst}
use Rattle.std.specs.List.{cons_option}
use Rattle.qc_list.specs.Vocabulary.{In}
use Rattle.qc_entry.specs.declared.record.Commit.{Commit}
use Rattle.qc_msg.specs.declared.record.Record.{Record}
use Rattle.qc_msg.specs.declared.record.Record.TheVariants as records
use Rattle.qc_msg.specs.Vocabulary.{Deed, Falls, Rises, Sends, Takes, Tells, Writes, commit_of}
use Rattle.laws_turns.specs.Vocabulary.{written_by, written_in}
use Rattle.laws_atomic.proofs.Seeing.{wrote_at}

pub record_is : (w : Record) (c : Commit) → commit_of w ≡ Some c → w ≡ records.Commit c
record_is records.Life c is = absurd (let never : ⊥ = cc in never)
record_is (records.Prepare prepared) c is = absurd (let never : ⊥ = cc in never)
record_is (records.Done tx clock) c is = absurd (let never : ⊥ = cc in never)
record_is (records.Close epoch) c is = absurd (let never : ⊥ = cc in never)
record_is (records.Install start) c is = absurd (let never : ⊥ = cc in never)
record_is (records.Commit commit) c is = ap (λ (x : Commit). records.Commit x) (let same : commit ≡ c = cc in same)
record_is (records.Decide start) c is = absurd (let never : ⊥ = cc in never)

deed_is : (d : Deed) (c : Commit) → written_by d ≡ Some c → d ≡ Writes (records.Commit c)
deed_is (Takes given) c is = absurd (let never : ⊥ = cc in never)
deed_is (Writes w) c is = ap (λ (x : Record). Writes x) (record_is w c is)
deed_is (Sends n to m) c is = absurd (let never : ⊥ = cc in never)
deed_is (Tells reply) c is = absurd (let never : ⊥ = cc in never)
deed_is (Falls cause pending) c is = absurd (let never : ⊥ = cc in never)
deed_is (Rises records) c is = absurd (let never : ⊥ = cc in never)

pub deed_written : (ds : List Deed) (c : Commit) → In (Writes (records.Commit c)) ds → In c (written_in ds)
deed_written [] c among = absurd among
deed_written (d ∷ ds) c (inl same) = subst (λ (x : Deed). In c (written_in (x ∷ ds))) same (inl refl)
deed_written (d ∷ ds) c (inr later) = by (written_by d) (deed_written ds c later)
  where
    by : (o : Option Commit) → In c (written_in ds) → In c (cons_option o (written_in ds))
    by None among = among
    by (Some x) among = inr among

pub written_deed : (ds : List Deed) (c : Commit) → In c (written_in ds) → In (Writes (records.Commit c)) ds
written_deed [] c among = absurd among
written_deed (d ∷ ds) c among = by (written_by d) refl among (written_deed ds c)
  where
    by : (o : Option Commit) → written_by d ≡ o → In c (cons_option o (written_in ds))
        → (In c (written_in ds) → In (Writes (records.Commit c)) ds) → In (Writes (records.Commit c)) (d ∷ ds)
    by None is among rest = inr (rest among)
    by (Some x) is (inl same) rest = inl (sym (deed_is d c (is ∙ ap (λ (y : Commit). Some y) (sym same))))
    by (Some x) is (inr later) rest = inr (rest later)

pub all_wrote : (ds : List Deed) (c : Commit) (wrote : List Commit) → In c wrote ⊎ In c (written_in ds)
    → In c (fold wrote_at wrote ds)
all_wrote [] c wrote (inl among) = among
all_wrote [] c wrote (inr never) = absurd never
all_wrote (d ∷ ds) c wrote among = all_wrote ds c (cons_option (written_by d) wrote) (by (written_by d) among)
  where
    by : (o : Option Commit) → In c wrote ⊎ In c (cons_option o (written_in ds))
        → In c (cons_option o wrote) ⊎ In c (written_in ds)
    by None old = old
    by (Some x) (inl old) = inl (inr old)
    by (Some x) (inr (inl same)) = inl (inl same)
    by (Some x) (inr (inr later)) = inr later
