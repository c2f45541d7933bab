-- What is in order in the records of a site is so at the site that rises from them.
use Rattle.std.proofs.Common.{◌≡◌, ◌⊎◌, inl, inr, ℕ, not, List, [], ◌∷◌, ◌++◌, fold, Option, Some, None, refl, sym}
use Rattle.std.proofs.Common.{subst}
use Rattle.std.specs.Option.{option_map_or}
use Rattle.qc_entry.specs.declared.record.Prepared.{Prepared}
use Rattle.qc_entry.specs.Vocabulary.{IsAscending, without}
use Rattle.qc_entry.proofs.Union.{ascending-union}
use Rattle.qc_list.specs.Vocabulary.{In}
use Rattle.qc_list.proofs.Members.{In-more}
use Rattle.qc_msg.specs.declared.record.Record.{Record}
use Rattle.qc_msg.specs.declared.record.Record.TheVariants as records
use Rattle.qc_site.specs.Vocabulary.{ArePromisesSorted, IsSiteSorted, lines_of, prepared_of, without_prepared}
use Rattle.qc_site.proofs.Sorted.{ascending-stamped, ascending-without, held-sound, promises-filter, promises-push}
use Rattle.qc_stamp.specs.declared.stamp.TxId.{TxId}
use Rattle.qc_stamp.specs.Vocabulary.{same_tx}
use Rattle.qc_recover.specs.Vocabulary.{IsRecordSorted, Kept, done_lines, done_stamp, keeps, kept_by, nothing_kept}
use Rattle.qc_recover.specs.Vocabulary.{site_of}

record IsKeptSorted (k : Kept) : Type 0 where
  pub began : IsAscending k.began
  pub lines : IsAscending k.lines
  pub promises : ArePromisesSorted k.promises

done_ascends : (prepares : List Prepared) (tx : TxId) (clock : ℕ) → IsAscending (done_lines prepares tx clock)
done_ascends prepares tx clock = by (prepared_of prepares tx) where
  by : (p : Option Prepared) → IsAscending
      (option_map_or (λ (q : Prepared). lines_of (done_stamp tx clock) tx q.own) p [])
  by None = tt
  by (Some q) = ascending-stamped (done_stamp tx clock) tx [] q.own tt

left_sorted : (ps : List Prepared) (tx : TxId) → ArePromisesSorted ps → ArePromisesSorted (without_prepared ps tx)
left_sorted ps tx sorted = promises-filter (λ (q : Prepared). not (same_tx q.tx tx)) ps sorted

one_more : (k : Kept) (r : Record) → IsKeptSorted k → IsRecordSorted r → IsKeptSorted (keeps k r)
one_more k records.Life w sorted = record { began = w.began; lines = w.lines; promises = w.promises }
one_more k (records.Prepare p) w sorted = record {
  began = w.began;
  lines = ascending-union k.lines p.lines w.lines sorted.2;
  promises = promises-push (without_prepared k.promises p.tx) p
      (left_sorted k.promises p.tx w.promises) sorted.0 sorted.1 sorted.2;
}
one_more k (records.Done tx clock) w sorted = record {
  began = w.began;
  lines = ascending-union k.lines (without (done_lines k.prepares tx clock) k.began) w.lines
      (ascending-without (done_lines k.prepares tx clock) k.began (done_ascends k.prepares tx clock));
  promises = left_sorted k.promises tx w.promises;
}
one_more k (records.Close epoch) w sorted = record { began = w.began; lines = w.lines; promises = w.promises }
one_more k (records.Install start) w sorted = record { began = sorted; lines = tt; promises = tt }
one_more k (records.Commit commit) w sorted = w
one_more k (records.Decide start) w sorted = w

from : (k : Kept) (rs : List Record) → IsKeptSorted k → ((r : Record) → In r rs → IsRecordSorted r)
    → IsKeptSorted (fold keeps k rs)
from k [] w each = w
from k (r ∷ rs) w each = from (keeps k r) rs (one_more k r w (each r (inl refl))) (λ q later. each q (inr later))

site_sorted : (number : ℕ) (rs : List Record) → ((r : Record) → In r rs → IsRecordSorted r)
    → IsSiteSorted (site_of number rs)
site_sorted number rs each =
    let w = from nothing_kept rs (record { began = tt; lines = tt; promises = tt }) each in
    record {
      began = w.began;
      log = w.lines;
      recorded = w.lines;
      held = held-sound [] (kept_by rs).promises (record { single = tt; full = tt; sorted = tt });
      prepared = w.promises;
    }

pub risen_sorted : (number : ℕ) (rs : List Record) → ((r : Record) → In r rs → IsRecordSorted r)
    → IsSiteSorted (site_of number (rs ++ records.Life ∷ []))
risen_sorted number rs each = site_sorted number (rs ++ records.Life ∷ [])
    (λ r member. by r (In-more r records.Life rs member)) where
      by : (r : Record) → In r rs ⊎ (r ≡ records.Life) → IsRecordSorted r
      by r (inl before) = each r before
      by r (inr same) = subst IsRecordSorted (sym same) tt
