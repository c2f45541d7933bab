-- A site that rises with records of epochs with plans is in such an epoch, and has closed it for such a one or not at
-- all; it tells of none as it rises.
use Rattle.std.proofs.Common.{ℕ, List, [], ◌∷◌, ◌++◌, map, sym, subst}
use Rattle.std.specs.Prelude.{fold}
use Rattle.std.specs.List.{AllByRecursion as Every}
use Rattle.std.proofs.lemmas.List.Sums.{fold-append}
use Rattle.qc_stamp.specs.declared.stamp.TxId.{TxId}
use Rattle.qc_decl.specs.declared.declaration.Declaration.{Declaration}
use Rattle.qc_msg.specs.declared.record.Record.{Record}
use Rattle.qc_msg.specs.declared.record.Record.TheVariants as records
use Rattle.qc_msg.specs.Vocabulary.{first_epoch}
use Rattle.qc_recover.specs.Vocabulary.{Kept, inquiry, keeps, kept_by, nothing_kept, site_rises}
use Rattle.laws_due.specs.Vocabulary.{ArePlanned, IsPlanned, IsRecordPlanned}
use Rattle.laws_due.proofs.Epochs.{SitePlanned, TellPlanned, TurnPlanned}

record KeptPlanned (decl : Declaration) (k : Kept) : Type 0 where
  epoch : IsPlanned decl k.epoch
  closed : ArePlanned decl k.closed_for

one_kept : (decl : Declaration) (k : Kept) (r : Record) → IsRecordPlanned decl r → KeptPlanned decl k
    → KeptPlanned decl (keeps k r)
one_kept decl k records.Life is w = record { epoch = w.epoch; closed = w.closed }
one_kept decl k (records.Prepare p) is w = record { epoch = w.epoch; closed = w.closed }
one_kept decl k (records.Done tx clock) is w = record { epoch = w.epoch; closed = w.closed }
one_kept decl k (records.Close epoch) is w = record { epoch = w.epoch; closed = is }
one_kept decl k (records.Install start) is w = record { epoch = is; closed = tt }
one_kept decl k (records.Commit commit) is w = w
one_kept decl k (records.Decide start) is w = w

all_kept : (decl : Declaration) (rs : List Record) (k : Kept) → Every (IsRecordPlanned decl) rs → KeptPlanned decl k
    → KeptPlanned decl (fold keeps k rs)
all_kept decl [] k all w = w
all_kept decl (r ∷ rs) k all w = all_kept decl rs (keeps k r) all.1 (one_kept decl k r all.0 w)

pub rises_planned : (decl : Declaration) → IsPlanned decl first_epoch → (number : ℕ) (rs : List Record)
    → Every (IsRecordPlanned decl) rs → SitePlanned decl (site_rises decl number rs).site
rises_planned decl first number rs all =
    let k : KeptPlanned decl (keeps (kept_by rs) records.Life) =
    one_kept decl (kept_by rs) records.Life tt
    (all_kept decl rs nothing_kept all (record { epoch = first; closed = tt })) in
    let whole : KeptPlanned decl (kept_by (rs ++ records.Life ∷ [])) =
    subst (KeptPlanned decl) (sym (fold-append keeps nothing_kept rs (records.Life ∷ []))) k in
    record { epoch = whole.epoch; closed = whole.closed }

inquiries_planned : (decl : Declaration) (txs : List TxId) → TellPlanned decl (map (inquiry decl) txs)
inquiries_planned decl [] = tt
inquiries_planned decl (tx ∷ txs) = (tt, inquiries_planned decl txs)

pub rising_planned : (decl : Declaration) (number : ℕ) (rs : List Record)
    → TurnPlanned decl (site_rises decl number rs).turn
rising_planned decl number rs = record { sends = inquiries_planned decl _; failed_sends = tt; writes = (tt, tt) }
