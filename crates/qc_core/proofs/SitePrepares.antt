-- Promises: that of a transaction is its last Prepare, and what becomes of all as one is written or dropped.
use Rattle.std.proofs.Common.{◌≡◌, ◌||◌, not, Bool, true, false, cond, List, [], ◌∷◌, ◌++◌, Option, Some, None, is_some}
use Rattle.std.proofs.Common.{refl, sym, ap, ◌∙◌, subst}
use Rattle.std.specs.Prelude.{filter, fold, map, option_and_then}
use Rattle.std.specs.List.{cons_option, filter_map, list_any}
use Rattle.std.specs.Option.{option_map_or, option_or}
use Rattle.std.proofs.lemmas.List.Folds.{find-append}
use Rattle.std.proofs.lemmas.List.Sums.{fold-append}
use Rattle.qc_stamp.specs.declared.stamp.TxId.{TxId}
use Rattle.qc_stamp.specs.Vocabulary.{same_tx}
use Rattle.qc_stamp.proofs.Orders.{same_tx_is}
use Rattle.qc_entry.specs.declared.record.Prepared.{Prepared}
use Rattle.qc_msg.specs.declared.record.Record.{Record}
use Rattle.qc_msg.specs.declared.record.Record.TheVariants as records
use Rattle.qc_msg.specs.Vocabulary.{Deed, Writes, prepare_in, written_in}
use Rattle.qc_promise.specs.Vocabulary.{is_aborted, is_decision, is_over, last_prepare, left_of, lifetime, prepare_by}
use Rattle.qc_promise.specs.Vocabulary.{prepared_shown, promise_in, promises_of, promises_since, records_in, redeems}
use Rattle.qc_promise.specs.Vocabulary.{unless_over, unless_redeemed}
use Rattle.qc_site.specs.Vocabulary.{is_prepared, prepared_of, without_prepared}

or_first : (x y : Bool) → (x || y) ≡ false → x ≡ false
or_first false y e = refl
or_first true y e = e

or_second : (x y : Bool) → (x || y) ≡ false → y ≡ false
or_second false y e = e
or_second true y e = (let never : ⊥ = cc in absurd never)

-- where no promise of a transaction comes later, the last one is that so far

none_later_record : (tx : TxId) (before : Option Prepared) (w : Record) → redeems tx w ≡ false
    → prepare_by tx before w ≡ before
none_later_record tx before records.Life e = refl
none_later_record tx before (records.Prepare p) e = ap (λ (b : Bool). option_or (cond b (Some p) None) before) e
none_later_record tx before (records.Done t clock) e = refl
none_later_record tx before (records.Close epoch) e = refl
none_later_record tx before (records.Install start) e = (let never : ⊥ = cc in absurd never)
none_later_record tx before (records.Commit commit) e = refl
none_later_record tx before (records.Decide start) e = refl

none_later : (tx : TxId) (before : Option Prepared) (ds : List Deed) → is_over tx ds ≡ false
    → fold (prepare_by tx) before (filter_map written_in ds) ≡ before
none_later tx before [] e = refl
none_later tx before (d ∷ ds) e = by (written_in d) (or_first _ _ e) (none_later tx before ds (or_second _ _ e))
  where
    by : (o : Option Record) → option_map_or (redeems tx) o (is_decision is_aborted tx d) ≡ false
        → fold (prepare_by tx) before (filter_map written_in ds) ≡ before
        → fold (prepare_by tx) before (cons_option o (filter_map written_in ds)) ≡ before
    by None none rest = rest
    by (Some w) none rest = ap (λ (v : Option Prepared). fold (prepare_by tx) v (filter_map written_in ds))
        (none_later_record tx before w none) ∙ rest

abbrev IsLast : TxId → Prepared → List Deed → Type 0
IsLast tx p ds = (v : Option Prepared) → promise_in (promises_since ds) tx ≡ Some p
    → fold (prepare_by tx) v (filter_map written_in ds) ≡ Some p

-- the promise that stands is the last one
promise_is_last : (tx : TxId) (p : Prepared) (before : Option Prepared) (ds : List Deed)
    → promise_in (promises_since ds) tx ≡ Some p → fold (prepare_by tx) before (filter_map written_in ds) ≡ Some p
promise_is_last tx p before [] e = (let never : ⊥ = cc in absurd never)
promise_is_last tx p before (d ∷ ds) e = by (written_in d) e (λ (v : Option Prepared). promise_is_last tx p v ds)
  where
    of_prepare : (q : Prepared) (b : Bool) → is_over q.tx ds ≡ b → (c : Bool) → same_tx q.tx tx ≡ c
        → promise_in (cond b [] (q ∷ []) ++ promises_since ds) tx ≡ Some p → IsLast tx p ds
        → fold (prepare_by tx) (option_or (cond c (Some q) None) before) (filter_map written_in ds) ≡ Some p
    of_prepare q true over c is e last = last (option_or (cond c (Some q) None) before) e
    of_prepare q false lasts true is e last =
        none_later tx (Some q) ds (subst (λ (u : TxId). is_over u ds ≡ false) (same_tx_is q.tx tx is) lasts)
        ∙ sym (ap (λ (b : Bool). cond b (Some q) (promise_in (promises_since ds) tx)) is)
        ∙ e
    of_prepare q false lasts false is e last =
        last before (sym (ap (λ (b : Bool). cond b (Some q) (promise_in (promises_since ds) tx)) is) ∙ e)

    by_record : (w : Record) → promise_in (option_map_or (unless_over ds) (prepare_in w) [] ++ promises_since ds) tx
        ≡ Some p → IsLast tx p ds → fold (prepare_by tx) before (w ∷ filter_map written_in ds) ≡ Some p
    by_record records.Life e last = last before e
    by_record (records.Prepare q) e last = of_prepare q (is_over q.tx ds) refl (same_tx q.tx tx) refl e last
    by_record (records.Done t clock) e last = last before e
    by_record (records.Close epoch) e last = last before e
    by_record (records.Install start) e last = last None e
    by_record (records.Commit commit) e last = last before e
    by_record (records.Decide start) e last = last before e

    by : (o : Option Record) → promise_in (option_map_or (unless_over ds) (option_and_then prepare_in o) []
        ++ promises_since ds) tx ≡ Some p → IsLast tx p ds
        → fold (prepare_by tx) before (cons_option o (filter_map written_in ds)) ≡ Some p
    by None e last = last before e
    by (Some w) e last = by_record w e last

-- records are like deeds that write them

later_frees : (tx : TxId) (rs : List Record) → is_over tx (map Writes rs) ≡ list_any (redeems tx) rs
later_frees tx [] = refl
later_frees tx (r ∷ rs) = ap (λ (b : Bool). redeems tx r || b) (later_frees tx rs)

promises_written : (rs : List Record) → promises_since (map Writes rs) ≡ promises_of rs
promises_written [] = refl
promises_written (r ∷ rs) =
    by (prepare_in r) ∙ ap (λ (v : List Prepared). option_map_or (unless_redeemed rs) (prepare_in r) [] ++ v)
    (promises_written rs)
  where
    by : (o : Option Prepared) → option_map_or (unless_over (map Writes rs)) o [] ++ promises_since (map Writes rs)
        ≡ option_map_or (unless_redeemed rs) o [] ++ promises_since (map Writes rs)
    by None = refl
    by (Some p) = ap (λ (b : Bool). cond b [] (p ∷ []) ++ promises_since (map Writes rs)) (later_frees p.tx rs)

records_written : (rs : List Record) → filter_map written_in (map Writes rs) ≡ rs
records_written [] = refl
records_written (r ∷ rs) = ap (λ (v : List Record). r ∷ v) (records_written rs)

promise_kept : (tx : TxId) (p : Prepared) (rs : List Record) → promise_in (promises_of rs) tx ≡ Some p
    → last_prepare tx rs ≡ Some p
promise_kept tx p rs is =
    ap (λ (v : List Record). last_prepare tx v) (sym (records_written rs))
    ∙ promise_is_last tx p None (map Writes rs) (ap (λ (v : List Prepared). promise_in v tx) (promises_written rs) ∙ is)

-- of the promises of a rise, those of a transaction are left, or none of them

left_in : (tx : TxId) (since : List Deed) (ps : List Prepared)
    → promise_in (left_of since ps) tx ≡ cond (is_over tx since) None (promise_in ps tx)
left_in tx since [] = by (is_over tx since)
  where
    nothing : Option Prepared
    nothing = None

    by : (b : Bool) → nothing ≡ cond b nothing nothing
    by true = refl
    by false = refl
left_in tx since (q ∷ ps) = by (is_over q.tx since) refl (same_tx q.tx tx) refl (left_in tx since ps)
  where
    by : (b : Bool) → is_over q.tx since ≡ b → (c : Bool) → same_tx q.tx tx ≡ c
        → promise_in (left_of since ps) tx ≡ cond (is_over tx since) None (promise_in ps tx)
        → promise_in (cond b [] (q ∷ []) ++ left_of since ps) tx ≡ cond (is_over tx since) None
        (cond c (Some q) (promise_in ps tx))
    by true over true is rest = rest ∙ both (is_over tx since)
        (subst (λ (t : TxId). is_over t since ≡ true) (same_tx_is q.tx tx is) over)
      where
        both : (b : Bool) → b ≡ true → cond b None (promise_in ps tx) ≡ cond b None (Some q)
        both true is = refl
        both false is = (let never : ⊥ = cc in absurd never)
    by true over false is rest = rest
    by false lasts true is rest =
        ap (λ (b : Bool). cond b (Some q) (promise_in (left_of since ps) tx)) is
        ∙ sym (ap (λ (b : Bool). cond b None (Some q))
        (subst (λ (t : TxId). is_over t since ≡ false) (same_tx_is q.tx tx is) lasts))
    by false lasts false is rest = ap (λ (b : Bool). cond b (Some q) (promise_in (left_of since ps) tx)) is ∙ rest

-- the promise of a transaction, if there is one, is its last Prepare among the records
pub last_of : (tx : TxId) (p : Prepared) (ds : List Deed) → promise_in (prepared_shown ds) tx ≡ Some p
    → last_prepare tx (records_in ds) ≡ Some p
last_of tx p ds is =
    fold-append (prepare_by tx) None kept (filter_map written_in since)
    ∙ by (is_over tx since) refl (sym both ∙ is)
  where
    kept : List Record
    kept = (lifetime ds).kept

    since : List Deed
    since = (lifetime ds).since

    both : promise_in (prepared_shown ds) tx ≡ option_or
        (cond (is_over tx since) None (promise_in (promises_of kept) tx)) (promise_in (promises_since since) tx)
    both =
        find-append (λ (q : Prepared). same_tx q.tx tx) (left_of since (promises_of kept)) (promises_since since)
        ∙ ap (λ (o : Option Prepared). option_or o (promise_in (promises_since since) tx))
        (left_in tx since (promises_of kept))

    by_kept : (o : Option Prepared) → promise_in (promises_of kept) tx ≡ o → is_over tx since ≡ false
        → option_or o (promise_in (promises_since since) tx) ≡ Some p
        → fold (prepare_by tx) (last_prepare tx kept) (filter_map written_in since) ≡ Some p
    by_kept None none lasts e = promise_is_last tx p (last_prepare tx kept) since e
    by_kept (Some q) there lasts e =
        ap (λ (o : Option Prepared). fold (prepare_by tx) o (filter_map written_in since))
        (promise_kept tx p kept (there ∙ e))
        ∙ none_later tx (Some p) since lasts

    by : (b : Bool) → is_over tx since ≡ b → option_or (cond b None (promise_in (promises_of kept) tx))
        (promise_in (promises_since since) tx) ≡ Some p
        → fold (prepare_by tx) (last_prepare tx kept) (filter_map written_in since) ≡ Some p
    by true over e = promise_is_last tx p (last_prepare tx kept) since e
    by false lasts e = by_kept (promise_in (promises_of kept) tx) refl lasts e

-- promises without those of a transaction

pub filter_same : {A : Type 0} (f g : A → Bool) → ((x : A) → f x ≡ g x) → (xs : List A) → filter f xs ≡ filter g xs
filter_same f g same [] = refl
filter_same {A = A} f g same (x ∷ xs) = ap (λ (b : Bool). cond b (x ∷ filter f xs) (filter f xs)) (same x)
    ∙ ap (λ (v : List A). cond (g x) (x ∷ v) v) (filter_same f g same xs)

-- where a transaction has none, all stay
pub none_prepared : (ps : List Prepared) (tx : TxId) → is_prepared ps tx ≡ false → without_prepared ps tx ≡ ps
none_prepared [] tx e = refl
none_prepared (q ∷ ps) tx e = by (same_tx q.tx tx) e (none_prepared ps tx)
  where
    by : (b : Bool) → is_some (cond b (Some q) (prepared_of ps tx)) ≡ false
        → (is_prepared ps tx ≡ false → without_prepared ps tx ≡ ps)
        → cond (not b) (q ∷ without_prepared ps tx) (without_prepared ps tx) ≡ q ∷ ps
    by true e ih = (let never : ⊥ = cc in absurd never)
    by false e ih = ap (λ (v : List Prepared). q ∷ v) (ih e)
