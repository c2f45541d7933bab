-- Members of joined and dropped lists.
use Rattle.std.proofs.Common.{◌≡◌, Bool, true, false, cond, ◌⊎◌, inl, inr, List, [], ◌∷◌, ◌++◌, Some, None, refl, sym}
use Rattle.std.proofs.Common.{ap, ◌∙◌, subst, true≢false}
use Rattle.qc_list.specs.Vocabulary.{In}
use Rattle.qc_stamp.specs.declared.stamp.TxId.{TxId}
use Rattle.qc_stamp.specs.Vocabulary.{same_tx}
use Rattle.qc_stamp.proofs.Orders.{same_tx_is, same_tx_test}
use Rattle.theory_machine.specs.Vocabulary.{Held, Item, Promise, each_held, items_of, promise_of, without_promise}
use Rattle.theory_machine.specs.Vocabulary.{without_tx}

pub items_of-append : (tx : TxId) (xs ys : List Held) → items_of tx (xs ++ ys) ≡ items_of tx xs ++ items_of tx ys
items_of-append tx [] ys = refl
items_of-append tx (h ∷ hs) ys = by (same_tx tx h.tx) (items_of-append tx hs ys)
  where
    by : (b : Bool) → items_of tx (hs ++ ys) ≡ items_of tx hs ++ items_of tx ys
        → cond b (h.item ∷ items_of tx (hs ++ ys)) (items_of tx (hs ++ ys)) ≡ cond b (h.item ∷ items_of tx hs)
        (items_of tx hs) ++ items_of tx ys
    by true ih = ap (λ (l : List Item). h.item ∷ l) ih
    by false ih = ih

pub items_of-each_held : (tx : TxId) (xs : List Item) → items_of tx (each_held tx xs) ≡ xs
items_of-each_held tx [] = refl
items_of-each_held tx (x ∷ xs) = rw (same_tx_test tx tx refl) (ap (λ (l : List Item). x ∷ l) (items_of-each_held tx xs))

pub items_of-other : (tx u : TxId) (xs : List Item) → same_tx tx u ≡ false → items_of tx (each_held u xs) ≡ []
items_of-other tx u [] ne = refl
items_of-other tx u (x ∷ xs) ne = rw ne (items_of-other tx u xs ne)

pub items_of-dropped : (tx : TxId) (hs : List Held) → items_of tx (without_tx tx hs) ≡ []
items_of-dropped tx [] = refl
items_of-dropped tx (h ∷ hs) = by (same_tx tx h.tx) refl (items_of-dropped tx hs)
  where
    by : (b : Bool) → same_tx tx h.tx ≡ b → items_of tx (without_tx tx hs) ≡ []
        → items_of tx (cond b (without_tx tx hs) (h ∷ without_tx tx hs)) ≡ []
    by true e ih = ih
    by false e ih = rw e ih

pub items_of-kept : (tx u : TxId) (hs : List Held) → same_tx u tx ≡ false
    → items_of u (without_tx tx hs) ≡ items_of u hs
items_of-kept tx u [] ne = refl
items_of-kept tx u (h ∷ hs) ne = by (same_tx tx h.tx) (same_tx u h.tx) refl refl (items_of-kept tx u hs ne)
  where
    by : (a b : Bool) → same_tx tx h.tx ≡ a → same_tx u h.tx ≡ b → items_of u (without_tx tx hs) ≡ items_of u hs
        → items_of u (cond a (without_tx tx hs) (h ∷ without_tx tx hs)) ≡ cond b (h.item ∷ items_of u hs)
        (items_of u hs)
    by true true p q ih =
        let x : tx ≡ h.tx = same_tx_is tx h.tx p in
        let y : u ≡ h.tx = same_tx_is u h.tx q in
        absurd (true≢false (sym (same_tx_test u tx (y ∙ sym x)) ∙ ne))
    by true false p q ih = ih
    by false true p q ih = rw q (ap (λ (l : List Item). h.item ∷ l) ih)
    by false false p q ih = rw q ih

pub in_dropped : (p : Promise) (tx : TxId) (ps : List Promise) → In p (without_promise tx ps)
    → In p ps × (same_tx tx p.tx ≡ false)
in_dropped p tx [] h = absurd h
in_dropped p tx (q ∷ qs) h = by (same_tx tx q.tx) refl (in_dropped p tx qs) h
  where
    by : (b : Bool) → same_tx tx q.tx ≡ b → (In p (without_promise tx qs) → In p qs × (same_tx tx p.tx ≡ false))
        → In p (cond b (without_promise tx qs) (q ∷ without_promise tx qs)) → In p (q ∷ qs) × (same_tx tx p.tx ≡ false)
    by true e ih h = let r = ih h in (inr r.0, r.1)
    by false e ih (inl same) = (inl same, subst (λ (x : Promise). same_tx tx x.tx ≡ false) (sym same) e)
    by false e ih (inr h) = let r = ih h in (inr r.0, r.1)

pub dropped_in : (p : Promise) (tx : TxId) (ps : List Promise) → In p ps → same_tx tx p.tx ≡ false
    → In p (without_promise tx ps)
dropped_in p tx [] h ne = absurd h
dropped_in p tx (q ∷ qs) h ne = by (same_tx tx q.tx) refl (λ t. dropped_in p tx qs t ne) h
  where
    by : (b : Bool) → same_tx tx q.tx ≡ b → (In p qs → In p (without_promise tx qs)) → (p ≡ q) ⊎ In p qs
        → In p (cond b (without_promise tx qs) (q ∷ without_promise tx qs))
    by true e ih (inl same) = absurd (true≢false (sym e ∙ subst (λ (x : Promise). same_tx tx x.tx ≡ false) same ne))
    by true e ih (inr h) = ih h
    by false e ih (inl same) = inl same
    by false e ih (inr h) = inr (ih h)

pub found : (tx : TxId) (ps : List Promise) (p : Promise) → promise_of tx ps ≡ Some p → In p ps × (p.tx ≡ tx)
found tx [] p e = absurd (cc)
found tx (q ∷ qs) p e = by (same_tx tx q.tx) refl (found tx qs p) e
  where
    by : (b : Bool) → same_tx tx q.tx ≡ b → (promise_of tx qs ≡ Some p → In p qs × (p.tx ≡ tx))
        → cond b (Some q) (promise_of tx qs) ≡ Some p → In p (q ∷ qs) × (p.tx ≡ tx)
    by true e ih h = let same : p ≡ q = cc in
        (inl same, subst (λ (x : Promise). x.tx ≡ tx) (sym same) (sym (same_tx_is tx q.tx e)))
    by false e ih h = let r = ih h in (inr r.0, r.1)

pub not_found : (tx : TxId) (ps : List Promise) → promise_of tx ps ≡ None → (p : Promise) → In p ps
    → same_tx tx p.tx ≡ false
not_found tx [] e p h = absurd h
not_found tx (q ∷ qs) e p h = by (same_tx tx q.tx) refl (λ t. not_found tx qs t p) e h
  where
    by : (b : Bool) → same_tx tx q.tx ≡ b → (promise_of tx qs ≡ None → In p qs → same_tx tx p.tx ≡ false)
        → cond b (Some q) (promise_of tx qs) ≡ None → (p ≡ q) ⊎ In p qs → same_tx tx p.tx ≡ false
    by true e ih n h = absurd (cc)
    by false e ih n (inl same) = subst (λ (x : Promise). same_tx tx x.tx ≡ false) (sym same) e
    by false e ih n (inr h) = ih n h
