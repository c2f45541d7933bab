-- The promises among records that no later record redeems are those that are left where each record in turn drops what
-- it redeems.
use Rattle.std.proofs.Common.{◌≡◌, Bool, true, false, not, cond, ◌||◌, List, [], ◌∷◌, ◌++◌, filter, fold, refl, ap, sym}
use Rattle.std.proofs.Common.{◌∙◌, append_assoc}
use Rattle.std.specs.List.{list_any}
use Rattle.std.proofs.lemmas.List.{append-nil}
use Rattle.qc_stamp.specs.declared.stamp.TxId.{TxId}
use Rattle.qc_stamp.specs.Vocabulary.{same_tx}
use Rattle.qc_stamp.proofs.Orders.{same_tx_turned}
use Rattle.qc_entry.specs.declared.record.Prepared.{Prepared}
use Rattle.qc_msg.specs.declared.record.Record.{Record}
use Rattle.qc_msg.specs.declared.record.Record.TheVariants as journals
use Rattle.qc_promise.specs.Vocabulary.{promises_of, redeems, unless_redeemed}

abbrev pub other_promises : List Prepared → TxId → List Prepared
other_promises ps tx = filter (λ (p : Prepared). not (same_tx p.tx tx)) ps

-- one record more
abbrev pub promises_with : List Prepared → Record → List Prepared
promises_with ps journals.Life = ps
promises_with ps (journals.Prepare p) = other_promises ps p.tx ++ p ∷ []
promises_with ps (journals.Done tx clock) = other_promises ps tx
promises_with ps (journals.Close epoch) = ps
promises_with ps (journals.Install start) = []
promises_with ps (journals.Commit commit) = ps
promises_with ps (journals.Decide start) = ps

-- promises that none of the records redeems
abbrev pub still : List Record → List Prepared → List Prepared
still rs [] = []
still rs (p ∷ ps) = unless_redeemed rs p ++ still rs ps

still_all : (ps : List Prepared) → still [] ps ≡ ps
still_all [] = refl
still_all (p ∷ ps) = ap (λ (l : List Prepared). p ∷ l) (still_all ps)

still_append : (rs : List Record) (ps qs : List Prepared) → still rs (ps ++ qs) ≡ still rs ps ++ still rs qs
still_append rs [] qs = refl
still_append rs (p ∷ ps) qs =
    ap (λ (l : List Prepared). unless_redeemed rs p ++ l) (still_append rs ps qs)
    ∙ sym (append_assoc (unless_redeemed rs p) (still rs ps) (still rs qs))

-- a record that redeems none, one that redeems those of a transaction, and one that redeems all

redeems_none : (r : Record) (rs : List Record) → ((tx : TxId) → redeems tx r ≡ false) → (ps : List Prepared)
    → still (r ∷ rs) ps ≡ still rs ps
redeems_none r rs none [] = refl
redeems_none r rs none (p ∷ ps) =
    ap (λ (b : Bool). cond (b || list_any (redeems p.tx) rs) [] (p ∷ []) ++ still (r ∷ rs) ps) (none p.tx)
    ∙ ap (λ (l : List Prepared). unless_redeemed rs p ++ l) (redeems_none r rs none ps)

redeems_one : (r : Record) (rs : List Record) (t : TxId) → ((tx : TxId) → redeems tx r ≡ same_tx tx t)
    → (ps : List Prepared) → still (r ∷ rs) ps ≡ still rs (other_promises ps t)
redeems_one r rs t one [] = refl
redeems_one r rs t one (p ∷ ps) =
    ap (λ (b : Bool). cond (b || list_any (redeems p.tx) rs) [] (p ∷ []) ++ still (r ∷ rs) ps) (one p.tx)
    ∙ by (same_tx p.tx t) (redeems_one r rs t one ps)
  where
    by : (b : Bool) → still (r ∷ rs) ps ≡ still rs (other_promises ps t)
        → cond (b || list_any (redeems p.tx) rs) [] (p ∷ []) ++ still (r ∷ rs) ps ≡ still rs
        (cond (not b) (p ∷ other_promises ps t) (other_promises ps t))
    by true rest = rest
    by false rest = ap (λ (l : List Prepared). unless_redeemed rs p ++ l) rest

redeems_all : (r : Record) (rs : List Record) → ((tx : TxId) → redeems tx r ≡ true) → (ps : List Prepared)
    → still (r ∷ rs) ps ≡ []
redeems_all r rs all [] = refl
redeems_all r rs all (p ∷ ps) =
    ap (λ (b : Bool). cond (b || list_any (redeems p.tx) rs) [] (p ∷ []) ++ still (r ∷ rs) ps) (all p.tx)
    ∙ redeems_all r rs all ps

pub promises_left : (ps : List Prepared) (rs : List Record) → still rs ps ++ promises_of rs ≡ fold promises_with ps rs
promises_left ps [] = append-nil (still [] ps) ∙ still_all ps
promises_left ps (journals.Life ∷ rs) =
    ap (λ (l : List Prepared). l ++ promises_of rs) (redeems_none journals.Life rs (λ tx. refl) ps)
    ∙ promises_left ps rs
promises_left ps (journals.Prepare p ∷ rs) =
    ap (λ (l : List Prepared). l ++ (unless_redeemed rs p ++ promises_of rs))
    (redeems_one (journals.Prepare p) rs p.tx (λ tx. same_tx_turned p.tx tx) ps)
    ∙ sym (append_assoc (still rs (other_promises ps p.tx)) (unless_redeemed rs p) (promises_of rs))
    ∙ ap (λ (l : List Prepared). (still rs (other_promises ps p.tx) ++ l) ++ promises_of rs)
    (sym (append-nil (unless_redeemed rs p)))
    ∙ ap (λ (l : List Prepared). l ++ promises_of rs) (sym (still_append rs (other_promises ps p.tx) (p ∷ [])))
    ∙ promises_left (promises_with ps (journals.Prepare p)) rs
promises_left ps (journals.Done tx clock ∷ rs) =
    ap (λ (l : List Prepared). l ++ promises_of rs)
    (redeems_one (journals.Done tx clock) rs tx (λ t. same_tx_turned tx t) ps)
    ∙ promises_left (promises_with ps (journals.Done tx clock)) rs
promises_left ps (journals.Close epoch ∷ rs) =
    ap (λ (l : List Prepared). l ++ promises_of rs) (redeems_none (journals.Close epoch) rs (λ tx. refl) ps)
    ∙ promises_left ps rs
promises_left ps (journals.Install start ∷ rs) =
    ap (λ (l : List Prepared). l ++ promises_of rs)
    (redeems_all (journals.Install start) rs (λ tx. refl) ps)
    ∙ promises_left [] rs
promises_left ps (journals.Commit c ∷ rs) =
    ap (λ (l : List Prepared). l ++ promises_of rs) (redeems_none (journals.Commit c) rs (λ tx. refl) ps)
    ∙ promises_left ps rs
promises_left ps (journals.Decide start ∷ rs) =
    ap (λ (l : List Prepared). l ++ promises_of rs)
    (redeems_none (journals.Decide start) rs (λ tx. refl) ps)
    ∙ promises_left ps rs

pub promises_by_record : (rs : List Record) → promises_of rs ≡ fold promises_with [] rs
promises_by_record rs = promises_left [] rs
