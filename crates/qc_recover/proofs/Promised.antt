-- What is promised after records is of these records.
use Rattle.std.proofs.Common.{◌≡◌, ◌⊎◌, inl, inr, not, List, [], ◌∷◌, fold, sym, ap}
use Rattle.std.specs.List.{AllByRecursion as Every}
use Rattle.qc_entry.specs.declared.record.Prepared.{Prepared}
use Rattle.qc_list.specs.Vocabulary.{In}
use Rattle.qc_list.proofs.Members.{every-from_In, In-more, In-unfiltered}
use Rattle.qc_msg.specs.declared.record.Record.{Record}
use Rattle.qc_msg.specs.declared.record.Record.TheVariants as records
use Rattle.qc_site.specs.Vocabulary.{without_prepared}
use Rattle.qc_stamp.specs.declared.stamp.TxId.{TxId}
use Rattle.qc_stamp.specs.Vocabulary.{same_tx}
use Rattle.qc_recover.specs.Vocabulary.{Kept, keeps, kept_by, nothing_kept}

still : (ps : List Prepared) (tx : TxId) (p : Prepared) → In p (without_prepared ps tx) → In p ps
still ps tx p member = In-unfiltered (λ (q : Prepared). not (same_tx q.tx tx)) p ps member

-- a promise after one record more is one of before, or that record's
one_more : (k : Kept) (r : Record) (p : Prepared) → In p (keeps k r).promises
    → In p k.promises ⊎ (r ≡ records.Prepare p)
one_more k records.Life p member = inl member
one_more k (records.Prepare q) p member = by (In-more p q (without_prepared k.promises q.tx) member) where
  by : In p (without_prepared k.promises q.tx) ⊎ (p ≡ q) → In p k.promises ⊎ (records.Prepare q ≡ records.Prepare p)
  by (inl before) = inl (still k.promises q.tx p before)
  by (inr same) = inr (ap records.Prepare (sym same))
one_more k (records.Done tx clock) p member = inl (still k.promises tx p member)
one_more k (records.Close epoch) p member = inl member
one_more k (records.Install start) p member = absurd member
one_more k (records.Commit commit) p member = inl member
one_more k (records.Decide start) p member = inl member

pub from_records : (rs : List Record) (k : Kept) (p : Prepared) → In p (fold keeps k rs).promises
    → In p k.promises ⊎ In (records.Prepare p) rs
from_records [] k p member = inl member
from_records (r ∷ rs) k p member = by (from_records rs (keeps k r) p member) where
  first : In p k.promises ⊎ (r ≡ records.Prepare p) → In p k.promises ⊎ In (records.Prepare p) (r ∷ rs)
  first (inl before) = inl before
  first (inr same) = inr (inl (sym same))

  by : In p (keeps k r).promises ⊎ In (records.Prepare p) rs → In p k.promises ⊎ In (records.Prepare p) (r ∷ rs)
  by (inl member) = first (one_more k r p member)
  by (inr later) = inr (inr later)

-- so what holds of each Prepare holds of each promise
pub each_promise : (P : Prepared → Type 0) (rs : List Record) → ((p : Prepared) → In (records.Prepare p) rs → P p)
    → Every P (kept_by rs).promises
each_promise P rs each = every-from_In P (kept_by rs).promises
    (λ p member. by p (from_records rs nothing_kept p member)) where
      by : (p : Prepared) → In p [] ⊎ In (records.Prepare p) rs → P p
      by p (inl never) = absurd never
      by p (inr written) = each p written
