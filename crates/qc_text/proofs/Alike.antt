-- Names of transactions that compare alike are of one transaction.
use Rattle.std.proofs.Common.{◌≡◌, Bool, true, false, refl, subst}
use Rattle.std.specs.BTreeMap.{is_at}
use Rattle.std.specs.Ordering.{is_eq}
use Rattle.std.specs.declared.cmp.Ordering.{Ordering}
use Rattle.std.specs.declared.cmp.Ordering.TheVariants.{Less, Equal, Greater}
use Rattle.std.proofs.lemmas.Cmp.{tied_itself}
use Rattle.qc_stamp.specs.declared.stamp.TxId.{TxId}
use Rattle.qc_stamp.specs.Vocabulary.{same_tx, tx_cmp}
use Rattle.qc_stamp.proofs.Orders.{same_tx_is, same_tx_itself, transactions_are_ordered}

same_by : (a b : TxId) (o : Ordering) (t : Bool) → tx_cmp a b ≡ o → same_tx a b ≡ t → is_eq o ≡ t
same_by a b Less false c s = refl
same_by a b Greater false c s = refl
same_by a b Equal true c s = refl
same_by a b Equal false c s =
    let same : same_tx a b ≡ true = subst (λ (u : TxId). same_tx a u ≡ true) (transactions_are_ordered.apart a b c)
    (same_tx_itself a) in
    absurd (let never : ⊥ = cc in never)
same_by a b Less true c s =
    let tied : tx_cmp a b ≡ Equal = subst (λ (u : TxId). tx_cmp a u ≡ Equal) (same_tx_is a b s)
    (tied_itself transactions_are_ordered.total a) in
    absurd (let never : ⊥ = cc in never)
same_by a b Greater true c s =
    let tied : tx_cmp a b ≡ Equal = subst (λ (u : TxId). tx_cmp a u ≡ Equal) (same_tx_is a b s)
    (tied_itself transactions_are_ordered.total a) in
    absurd (let never : ⊥ = cc in never)

pub same_key : (a b : TxId) → is_at (tx_cmp a) b ≡ same_tx a b
same_key a b = same_by a b (tx_cmp a b) (same_tx a b) refl refl
