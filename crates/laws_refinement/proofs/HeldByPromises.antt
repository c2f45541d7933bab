-- What a site holds by its promises is what the machine's site holds by its own, once a site has closed or risen.
use Rattle.std.proofs.Common.{◌≡◌, ◌≢◌, Bool, true, false, ◌⊎◌, inl, inr, List, [], ◌∷◌, Option, Some, None, fold, refl}
use Rattle.std.proofs.Common.{sym, ap, ◌∙◌, subst}
use Rattle.qc_stamp.specs.declared.stamp.TxId.{TxId}
use Rattle.qc_stamp.specs.Vocabulary.{same_tx}
use Rattle.qc_stamp.proofs.Orders.{same_tx_is, same_tx_test}
use Rattle.qc_list.specs.Vocabulary.{In}
use Rattle.qc_list.proofs.Members.{In-first, In-second, In-either}
use Rattle.qc_entry.specs.declared.line.OwnLine.{OwnLine}
use Rattle.qc_entry.specs.declared.line.ReadLock.{ReadLock}
use Rattle.qc_entry.specs.declared.record.Prepared.{Prepared}
use Rattle.qc_lock.specs.declared.held.Held.{Held}
use Rattle.qc_lock.specs.Vocabulary.{held_of, is_held, with_lock, with_locks}
use Rattle.qc_lock.proofs.Entries.{locks_given, own_given}
use Rattle.theory_machine.specs.Vocabulary.{Item, Lock, Own, Promise, each_held, held_by_promises, items_of, promise_of}
use Rattle.theory_machine.proofs.SiteLists.{found, items_of-append, items_of-each_held, items_of-other}
use Rattle.qc_site.specs.Vocabulary.{held_by, holds, prepared_of}
use Rattle.laws_refinement.specs.Vocabulary.{AreApart, AreSingle, IsApart, IsHeld, IsPromiseOf, IsPromised}
use Rattle.laws_refinement.proofs.Held.{given_back, given_held, given_other, lock_new, owns_new}
use Rattle.laws_refinement.proofs.Machine.{single_found}
use Rattle.laws_refinement.proofs.Apart.{apart_found, found_in}
use Rattle.qc_site.proofs.Holding.{locks_more}

-- what is held by promises

record HeldBy (ps : List Promise) (t : TxId) (x : Item) : Type 0 where
  promise : Promise
  among : In promise ps
  its : promise.tx ≡ t
  has : In x promise.items

held_from : (ps : List Promise) (t : TxId) (x : Item) → In x (items_of t (held_by_promises ps)) → HeldBy ps t x
held_from [] t x h = absurd h
held_from (p ∷ ps) t x h = elim (In-either x (items_of t (each_held p.tx p.items)) (items_of t (held_by_promises ps))
    (subst (λ (xs : List Item). In x xs) (items_of-append t (each_held p.tx p.items) (held_by_promises ps)) h)) [
      | inl here ↦ at (same_tx t p.tx) refl here
      | inr rest ↦ (let r : HeldBy ps t x = held_from ps t x rest in
          record { promise = r.promise; among = inr r.among; its = r.its; has = r.has })
    ]
  where
    at : (b : Bool) → same_tx t p.tx ≡ b → In x (items_of t (each_held p.tx p.items)) → HeldBy (p ∷ ps) t x
    at true is here =
        let e : t ≡ p.tx = same_tx_is t p.tx is in
        record {
          promise = p;
          among = inl refl;
          its = sym e;
          has = subst (λ (xs : List Item). In x xs) (items_of-each_held p.tx p.items)
              (subst (λ (u : TxId). In x (items_of u (each_held p.tx p.items))) e here);
        }
    at false is here = absurd (subst (λ (xs : List Item). In x xs) (items_of-other t p.tx p.items is) here)

from_held : (ps : List Promise) (p : Promise) (x : Item) → In p ps → In x p.items
    → In x (items_of p.tx (held_by_promises ps))
from_held [] p x among has = absurd among
from_held (q ∷ ps) p x among has = subst (λ (xs : List Item). In x xs)
    (sym (items_of-append p.tx (each_held q.tx q.items) (held_by_promises ps))) (elim among [
      | inl same ↦ In-first x (items_of p.tx (each_held q.tx q.items)) (items_of p.tx (held_by_promises ps))
          (subst (λ (y : Promise). In x (items_of p.tx (each_held y.tx y.items))) same
          (subst (λ (xs : List Item). In x xs) (sym (items_of-each_held p.tx p.items)) has))
      | inr rest ↦ In-second x (items_of p.tx (each_held q.tx q.items)) (items_of p.tx (held_by_promises ps))
          (from_held ps p x rest has)
    ])

-- the same at the site

pub locks_new : (ls locks : List ReadLock) (x : ReadLock) → In x locks → In x (with_locks ls locks)
locks_new ls [] x member = absurd member
locks_new ls (l ∷ locks) x (inl same) = locks_more (with_lock ls l) locks x
    (subst (λ (k : ReadLock). In k (with_lock ls l)) (sym same) (lock_new ls l))
locks_new ls (l ∷ locks) x (inr rest) = locks_new (with_lock ls l) locks x rest

-- own lines of one promise are one an operation
abbrev AgreeIn : List Prepared → Type 0
AgreeIn qs = (q : Prepared) (x y : OwnLine) → In q qs → In x q.own → In y q.own → x.op ≡ y.op → x ≡ y

given_here : (held : List Held) (q : Prepared) (x : Item)
    → ((y z : OwnLine) → In y q.own → In z q.own → y.op ≡ z.op → y ≡ z) → IsPromised q x
    → IsHeld (held_of (holds held q) q.tx) x
given_here held q (Lock lock) agree has =
    subst (λ (ls : List ReadLock). In lock ls) (sym (locks_given held q.tx q.locks q.own))
    (locks_new (held_of held q.tx).locks q.locks lock has)
given_here held q (Own own) agree has = subst (λ (os : List OwnLine). In own os)
    (sym (own_given held q.tx q.locks q.own))
    (owns_new (held_of held q.tx).own q.own own (λ l among same. agree own l has among same) has)

others_hold : (qs : List Prepared) (held : List Held) (t : TxId) (x : Item) → ((q : Prepared) → In q qs → q.tx ≢ t)
    → IsHeld (held_of held t) x → IsHeld (held_of (fold holds held qs) t) x
others_hold [] held t x other h = h
others_hold (q ∷ qs) held t x other h =
    others_hold qs (holds held q) t x (λ p among. other p (inr among))
    (subst (λ (e : Held). IsHeld e x) (sym (given_other held q.tx t q.locks q.own (apart (same_tx q.tx t) refl))) h)
  where
    apart : (b : Bool) → same_tx q.tx t ≡ b → same_tx q.tx t ≡ false
    apart true is = absurd (other q (inl refl) (same_tx_is q.tx t is))
    apart false is = is

-- another promise is of another transaction
apart_others : (p : Prepared) (qs : List Prepared) → IsApart p.tx qs → (r : Prepared) → In r qs → r.tx ≢ p.tx
apart_others p [] a r among same = absurd among
apart_others p (q ∷ qs) a r (inl is) same =
    (let k : same_tx q.tx p.tx ≡ true = same_tx_test q.tx p.tx (sym (ap (λ (y : Prepared). y.tx) is) ∙ same) in
    let f : same_tx q.tx p.tx ≡ false = a.0 in let never : ⊥ = cc in never)
apart_others p (q ∷ qs) a r (inr more) same = apart_others p qs a.1 r more same

promised_held : (qs : List Prepared) (held : List Held) (q : Prepared) (x : Item) → AreApart qs → AgreeIn qs → In q qs
    → IsPromised q x → IsHeld (held_of (fold holds held qs) q.tx) x
promised_held [] held q x once agree among has = absurd among
promised_held (p ∷ qs) held q x once agree (inl same) has =
    others_hold qs (holds held p) q.tx x (λ r r_in e. apart_others p qs once.0 r r_in
    (e ∙ ap (λ (y : Prepared). y.tx) same))
    (subst (λ (y : Prepared). IsHeld (held_of (holds held y) q.tx) x) same
    (given_here held q x (λ y z in_y in_z. agree q y z (inl same) in_y in_z) has))
promised_held (p ∷ qs) held q x once agree (inr rest) has =
    promised_held qs (holds held p) q x once.1 (λ r y z r_in. agree r y z (inr r_in)) rest has

record OwnedBy (qs : List Prepared) (t : TxId) (o : OwnLine) : Type 0 where
  by : Prepared
  among : In by qs
  its : by.tx ≡ t
  has : In o by.own

held_owned : (qs : List Prepared) (held : List Held) (t : TxId) (o : OwnLine)
    → In o (held_of (fold holds held qs) t).own → In o (held_of held t).own ⊎ OwnedBy qs t o
held_owned [] held t o h = inl h
held_owned (q ∷ qs) held t o h = elim (held_owned qs (holds held q) t o h) [
  | inl a ↦ elim (given_back held q.tx t q.locks q.own o a) [
    | inl b ↦ inl b
    | inr c ↦ inr (record { by = q; among = inl refl; its = sym c.0; has = c.1 })
  ]
  | inr r ↦ inr (record { by = r.by; among = inr r.among; its = r.its; has = r.has })
]

holders_of : (Q : TxId → Type 0) (qs : List Prepared) (held : List Held) → ((t : TxId) → is_held held t ≡ true → Q t)
    → ((q : Prepared) → In q qs → Q q.tx) → (t : TxId) → is_held (fold holds held qs) t ≡ true → Q t
holders_of Q [] held old each t is = old t is
holders_of Q (q ∷ qs) held old each t is =
    holders_of Q qs (holds held q) (λ u h. given_held Q held q.tx q.locks q.own old (each q (inl refl)) u h)
    (λ r among. each r (inr among)) t is

-- promises of the machine's site and of the site, one for each transaction, that agree; the machine's have one own line
-- of an operation
module _ (ps : List Promise) (qs : List Prepared) (single : AreSingle ps) (apart : AreApart qs)
    (promised : (t : TxId) → IsPromiseOf (promise_of t ps) (prepared_of qs t))
    (one : (t : TxId) (x y : OwnLine) → In (Own x) (items_of t (held_by_promises ps))
    → In (Own y) (items_of t (held_by_promises ps)) → x.op ≡ y.op → x ≡ y) where
  -- the machine's promise with the same own lines
  both : (q : Prepared) → In q qs → (p : Promise) × (promise_of q.tx ps ≡ Some p) × IsPromiseOf (Some p) (Some q)
  both q among = by (promise_of q.tx ps) refl
      (subst (λ (o : Option Prepared). IsPromiseOf (promise_of q.tx ps) o) (apart_found q qs apart among)
      (promised q.tx))
    where
      by : (o : Option Promise) → promise_of q.tx ps ≡ o → IsPromiseOf (promise_of q.tx ps) (Some q)
          → (p : Promise) × (promise_of q.tx ps ≡ Some p) × IsPromiseOf (Some p) (Some q)
      by None e same = absurd (subst (λ (x : Option Promise). IsPromiseOf x (Some q)) e same)
      by (Some p) e same = (p, e, subst (λ (x : Option Promise). IsPromiseOf x (Some q)) e same)

  agree : AgreeIn qs
  agree q x y among in_x in_y same =
      let b = both q among in
      let f : In b.0 ps × (b.0.tx ≡ q.tx) = found q.tx ps b.0 b.1 in
      one b.0.tx x y (from_held ps b.0 (Own x) f.0 (b.2.1 x in_x)) (from_held ps b.0 (Own y) f.0 (b.2.1 y in_y)) same

  pub by_promises_held : (t : TxId) (x : Item) → In x (items_of t (held_by_promises ps))
      → IsHeld (held_of (held_by qs) t) x
  by_promises_held t x among = by (prepared_of qs t) refl
      (subst (λ (o : Option Promise). IsPromiseOf o (prepared_of qs t)) at (promised t))
    where
      h : HeldBy ps t x
      h = held_from ps t x among

      at : promise_of t ps ≡ Some h.promise
      at = subst (λ (u : TxId). promise_of u ps ≡ Some h.promise) h.its (single_found h.promise ps single h.among)

      by : (o : Option Prepared) → prepared_of qs t ≡ o → IsPromiseOf (Some h.promise) (prepared_of qs t)
          → IsHeld (held_of (held_by qs) t) x
      by None e same = absurd (subst (λ (o : Option Prepared). IsPromiseOf (Some h.promise) o) e same)
      by (Some q) e same =
          let f : In q qs × (q.tx ≡ t) = found_in t qs q e in
          let s : IsPromiseOf (Some h.promise) (Some q) =
          subst (λ (o : Option Prepared). IsPromiseOf (Some h.promise) o) e same in
          subst (λ (u : TxId). IsHeld (held_of (held_by qs) u) x) f.1
          (promised_held qs [] q x apart agree f.0 (s.0 x h.has))

  pub by_promises_owned : (t : TxId) (o : OwnLine) → In o (held_of (held_by qs) t).own
      → In (Own o) (items_of t (held_by_promises ps))
  by_promises_owned t o among = by (held_owned qs [] t o among)
    where
      by : In o (held_of [] t).own ⊎ OwnedBy qs t o → In (Own o) (items_of t (held_by_promises ps))
      by (inl never) = absurd never
      by (inr w) =
          let b = both w.by w.among in
          let f : In b.0 ps × (b.0.tx ≡ w.by.tx) = found w.by.tx ps b.0 b.1 in
          subst (λ (u : TxId). In (Own o) (items_of u (held_by_promises ps))) (f.1 ∙ w.its)
          (from_held ps b.0 (Own o) f.0 (b.2.1 o w.has))

-- who holds something by promises has one of them
pub by_promises_holder : (Q : TxId → Type 0) (qs : List Prepared) → ((q : Prepared) → In q qs → Q q.tx) → (t : TxId)
    → is_held (held_by qs) t ≡ true → Q t
by_promises_holder Q qs each t is = holders_of Q qs [] (λ u never. absurd (let no_one : ⊥ = cc in no_one)) each t is
