-- A site's promises, of each transaction at most one: one more, some dropped, and put in the order of their
-- transactions.
use Rattle.std.proofs.Common.{◌≡◌, Bool, true, false, cond, not, ◌⊎◌, inl, inr, List, [], ◌∷◌, ◌++◌, Option, Some, None}
use Rattle.std.proofs.Common.{is_some, fold, refl, sym, ap, ◌∙◌, subst}
use Rattle.std.specs.declared.cmp.Ordering.{Ordering}
use Rattle.std.specs.declared.cmp.Ordering.TheVariants.{Less, Equal, Greater}
use Rattle.qc_stamp.specs.declared.stamp.TxId.{TxId}
use Rattle.qc_stamp.specs.Vocabulary.{same_tx, tx_cmp}
use Rattle.qc_stamp.proofs.Orders.{other_tx_sym, same_tx_is, transactions_are_ordered, same_tx_test}
use Rattle.qc_list.specs.Vocabulary.{In, by_order, inserted}
use Rattle.qc_entry.specs.declared.record.Prepared.{Prepared}
use Rattle.qc_site.specs.Vocabulary.{is_prepared, prepared_of, promise_cmp, promises_in_order, without_prepared}
use Rattle.laws_refinement.specs.Vocabulary.{AreApart, IsApart}

not_prepared : (p : Prepared) (ps : List Prepared) → is_prepared ps p.tx ≡ false → (q : Prepared) → In q ps
    → same_tx q.tx p.tx ≡ false
not_prepared p [] none q h = absurd h
not_prepared p (x ∷ xs) none q h = by (same_tx x.tx p.tx) refl none (λ e more. not_prepared p xs e q more) h
  where
    by : (b : Bool) → same_tx x.tx p.tx ≡ b → is_some (cond b (Some x) (prepared_of xs p.tx)) ≡ false
        → (is_some (prepared_of xs p.tx) ≡ false → In q xs → same_tx q.tx p.tx ≡ false) → (q ≡ x) ⊎ In q xs
        → same_tx q.tx p.tx ≡ false
    by true is e rest k = absurd (let never : ⊥ = cc in never)
    by false is e rest (inl same) = subst (λ (y : Prepared). same_tx y.tx p.tx ≡ false) (sym same) is
    by false is e rest (inr more) = rest e more

apart_append : (tx : TxId) (p : Prepared) (ps : List Prepared) → IsApart tx ps → same_tx p.tx tx ≡ false
    → IsApart tx (ps ++ p ∷ [])
apart_append tx p [] a other = (other, tt)
apart_append tx p (x ∷ xs) a other = (a.0, apart_append tx p xs a.1 other)

pub apart_more : (p : Prepared) (ps : List Prepared) → is_prepared ps p.tx ≡ false → AreApart ps
    → AreApart (ps ++ p ∷ [])
apart_more p ps none a = by ps (λ q h. not_prepared p ps none q h) a
  where
    by : (xs : List Prepared) → ((q : Prepared) → In q xs → same_tx q.tx p.tx ≡ false) → AreApart xs
        → AreApart (xs ++ p ∷ [])
    by [] other k = (tt, tt)
    by (x ∷ xs) other k = (
      apart_append x.tx p xs k.0 (other_tx_sym x.tx p.tx (other x (inl refl))),
      by xs (λ q h. other q (inr h)) k.1,
    )

apart_dropped : (tx u : TxId) (ps : List Prepared) → IsApart u ps → IsApart u (without_prepared ps tx)
apart_dropped tx u [] a = tt
apart_dropped tx u (p ∷ ps) a = by (same_tx p.tx tx) (apart_dropped tx u ps a.1)
  where
    by : (b : Bool) → IsApart u (without_prepared ps tx)
        → IsApart u (cond (not b) (p ∷ without_prepared ps tx) (without_prepared ps tx))
    by true rest = rest
    by false rest = (a.0, rest)

pub aparts_dropped : (tx : TxId) (ps : List Prepared) → AreApart ps → AreApart (without_prepared ps tx)
aparts_dropped tx [] a = tt
aparts_dropped tx (p ∷ ps) a = by (same_tx p.tx tx) (aparts_dropped tx ps a.1)
  where
    by : (b : Bool) → AreApart (without_prepared ps tx)
        → AreApart (cond (not b) (p ∷ without_prepared ps tx) (without_prepared ps tx))
    by true rest = rest
    by false rest = (apart_dropped tx p.tx ps a.0, rest)

-- one among them is the one that is found
pub apart_found : (p : Prepared) (ps : List Prepared) → AreApart ps → In p ps → prepared_of ps p.tx ≡ Some p
apart_found p [] a h = absurd h
apart_found p (q ∷ qs) a (inl same) = subst (λ (x : Prepared). prepared_of (q ∷ qs) x.tx ≡ Some x) (sym same)
    (rw (same_tx_test q.tx q.tx refl) refl)
apart_found p (q ∷ qs) a (inr h) = rw (other qs a.0 h) (apart_found p qs a.1 h)
  where
    other : (xs : List Prepared) → IsApart q.tx xs → In p xs → same_tx q.tx p.tx ≡ false
    other [] s among = absurd among
    other (x ∷ xs) s (inl same) = subst (λ (y : Prepared). same_tx q.tx y.tx ≡ false) (sym same)
        (other_tx_sym x.tx q.tx s.0)
    other (x ∷ xs) s (inr among) = other xs s.1 among

pub found_in : (tx : TxId) (ps : List Prepared) (p : Prepared) → prepared_of ps tx ≡ Some p → In p ps × (p.tx ≡ tx)
found_in tx [] p e = absurd (let never : ⊥ = cc in never)
found_in tx (q ∷ qs) p e = by (same_tx q.tx tx) refl (found_in tx qs p) e
  where
    by : (b : Bool) → same_tx q.tx tx ≡ b → (prepared_of qs tx ≡ Some p → In p qs × (p.tx ≡ tx))
        → cond b (Some q) (prepared_of qs tx) ≡ Some p → In p (q ∷ qs) × (p.tx ≡ tx)
    by true is rest k = let same : p ≡ q = cc in
        (inl same, subst (λ (x : Prepared). x.tx ≡ tx) (sym same) (same_tx_is q.tx tx is))
    by false is rest k = let r = rest k in (inr r.0, r.1)

-- one more, in the order of transactions
abbrev with_promise : List Prepared → Prepared → List Prepared
with_promise ps p = inserted promise_cmp ps p

-- what holds of none of them holds of none once one is put among them
insert_apart : (tx : TxId) (p : Prepared) (ps : List Prepared) → IsApart tx ps → same_tx p.tx tx ≡ false
    → IsApart tx (with_promise ps p)
insert_apart tx p [] a other = (other, tt)
insert_apart tx p (x ∷ xs) a other = by (tx_cmp p.tx x.tx) (insert_apart tx p xs a.1 other)
  where
    by : (order : Ordering) → IsApart tx (with_promise xs p)
        → IsApart tx (by_order order (p ∷ x ∷ xs) (p ∷ xs) (x ∷ with_promise xs p))
    by Less rest = (other, a)
    by Equal rest = (other, a.1)
    by Greater rest = (a.0, rest)

-- the first of two, if it is there
abbrev either : Option Prepared → Option Prepared → Option Prepared
either (Some p) o = Some p
either None o = o

either_first : (x : Prepared) (b : Bool) (m n : Option Prepared)
    → either (cond b (Some x) m) n ≡ cond b (Some x) (either m n)
either_first x true m n = refl
either_first x false m n = refl

either_joined : (a b c : Option Prepared) → either (either a b) c ≡ either a (either b c)
either_joined (Some p) b c = refl
either_joined None b c = refl

-- none of them is of a transaction that they are apart from
apart_none : (t : TxId) (ps : List Prepared) → IsApart t ps → prepared_of ps t ≡ None
apart_none t [] a = refl
apart_none t (x ∷ xs) a = rw a.0 (apart_none t xs a.1)

-- one that is apart from the others is found besides them
insert_found : (p : Prepared) (ps : List Prepared) (t : TxId) → IsApart p.tx ps
    → prepared_of (with_promise ps p) t ≡ either (prepared_of ps t) (cond (same_tx p.tx t) (Some p) None)
insert_found p [] t a = refl
insert_found p (x ∷ xs) t a = by (tx_cmp p.tx x.tx) refl (insert_found p xs t a.1)
  where
    here : (b : Bool) → same_tx p.tx t ≡ b → cond b (Some p) (prepared_of (x ∷ xs) t) ≡ either (prepared_of (x ∷ xs) t)
        (cond b (Some p) None)
    here true is =
        let none : prepared_of (x ∷ xs) t ≡ None =
        subst (λ (u : TxId). prepared_of (x ∷ xs) u ≡ None) (same_tx_is p.tx t is) (apart_none p.tx (x ∷ xs) a) in
        sym (ap (λ (o : Option Prepared). either o (Some p)) none)
    here false is = sym (right (prepared_of (x ∷ xs) t))
      where
        right : (o : Option Prepared) → either o None ≡ o
        right (Some q) = refl
        right None = refl

    by : (order : Ordering) → tx_cmp p.tx x.tx ≡ order
        → prepared_of (with_promise xs p) t ≡ either (prepared_of xs t) (cond (same_tx p.tx t) (Some p) None)
        → prepared_of (by_order order (p ∷ x ∷ xs) (p ∷ xs) (x ∷ with_promise xs p)) t ≡ either (prepared_of (x ∷ xs) t)
        (cond (same_tx p.tx t) (Some p) None)
    by Less is rest = here (same_tx p.tx t) refl
    by Equal is rest = absurd (let same : same_tx x.tx p.tx ≡ true =
        same_tx_test x.tx p.tx (sym (transactions_are_ordered.apart p.tx x.tx is)) in let other : same_tx x.tx p.tx
        ≡ false =
        a.0 in
        let never : ⊥ = cc in never)
    by Greater is rest = ap (λ (o : Option Prepared). cond (same_tx x.tx t) (Some x) o) rest
        ∙ sym (either_first x (same_tx x.tx t) (prepared_of xs t) (cond (same_tx p.tx t) (Some p) None))

insert_aparts : (p : Prepared) (ps : List Prepared) → IsApart p.tx ps → AreApart ps → AreApart (with_promise ps p)
insert_aparts p [] a k = (tt, tt)
insert_aparts p (x ∷ xs) a k = by (tx_cmp p.tx x.tx) (insert_aparts p xs a.1 k.1)
  where
    by : (order : Ordering) → AreApart (with_promise xs p)
        → AreApart (by_order order (p ∷ x ∷ xs) (p ∷ xs) (x ∷ with_promise xs p))
    by Less rest = (a, k)
    by Equal rest = (a.1, k.1)
    by Greater rest = (insert_apart x.tx p xs k.0 (other_tx_sym x.tx p.tx a.0), rest)

-- each of these is apart from all of those
abbrev AllApart : List Prepared → List Prepared → Type 0
AllApart [] ps = Unit {0}
AllApart (q ∷ qs) ps = IsApart q.tx ps × AllApart qs ps

all_apart : (p : Prepared) (qs ps : List Prepared) → IsApart p.tx qs → AllApart qs ps → AllApart qs (with_promise ps p)
all_apart p [] ps a k = tt
all_apart p (q ∷ qs) ps a k = (insert_apart q.tx p ps k.0 (other_tx_sym q.tx p.tx a.0), all_apart p qs ps a.1 k.1)

fold_found : (ps qs : List Prepared) (t : TxId) → AllApart qs ps → AreApart qs
    → prepared_of (fold with_promise ps qs) t ≡ either (prepared_of ps t) (prepared_of qs t)
fold_found ps [] t a k = sym (right (prepared_of ps t))
  where
    right : (o : Option Prepared) → either o None ≡ o
    right (Some q) = refl
    right None = refl
fold_found ps (q ∷ qs) t a k =
    fold_found (with_promise ps q) qs t (all_apart q qs ps k.0 a.1) k.1
    ∙ ap (λ (o : Option Prepared). either o (prepared_of qs t)) (insert_found q ps t a.0)
    ∙ either_joined (prepared_of ps t) (cond (same_tx q.tx t) (Some q) None) (prepared_of qs t)
    ∙ ap (λ (o : Option Prepared). either (prepared_of ps t) o)
    (either_first q (same_tx q.tx t) None (prepared_of qs t))

fold_apart : (ps qs : List Prepared) → AllApart qs ps → AreApart ps → AreApart qs → AreApart (fold with_promise ps qs)
fold_apart ps [] a k m = k
fold_apart ps (q ∷ qs) a k m = fold_apart (with_promise ps q) qs (all_apart q qs ps m.0 a.1)
    (insert_aparts q ps a.0 k) m.1

none_apart : (qs : List Prepared) → AllApart qs []
none_apart [] = tt
none_apart (q ∷ qs) = (tt, none_apart qs)

-- in order, the same are found
pub order_found : (ps : List Prepared) (t : TxId) → AreApart ps
    → prepared_of (promises_in_order ps) t ≡ prepared_of ps t
order_found ps t a = fold_found [] ps t (none_apart ps) a

pub order_apart : (ps : List Prepared) → AreApart ps → AreApart (promises_in_order ps)
order_apart ps a = fold_apart [] ps (none_apart ps) tt a
