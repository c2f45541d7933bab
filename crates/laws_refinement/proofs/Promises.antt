-- Promises of a site and of the machine's: one more, and those of one transaction dropped; and the lines of their own
-- lines.
use Rattle.std.proofs.Common.{◌≡◌, ◌≤◌, ℕ, Bool, true, false, cond, ◌⊎◌, inl, inr, List, [], ◌∷◌, ◌++◌, Option, Some}
use Rattle.std.proofs.Common.{None, fold, refl, sym, ap, ◌∙◌, subst, arith}
use Rattle.qc_stamp.specs.declared.stamp.Stamp.{Stamp}
use Rattle.qc_stamp.specs.declared.stamp.TxId.{TxId}
use Rattle.qc_stamp.specs.Vocabulary.{same_tx}
use Rattle.qc_stamp.proofs.Orders.{other_tx_sym, same_tx_is, same_tx_test}
use Rattle.qc_list.specs.Vocabulary.{In}
use Rattle.qc_list.proofs.Members.{In-first, In-second, In-either}
use Rattle.qc_entry.specs.declared.line.Line.{Line}
use Rattle.qc_entry.specs.declared.line.OwnLine.{OwnLine}
use Rattle.qc_entry.specs.declared.record.Prepared.{Prepared}
use Rattle.qc_entry.specs.Vocabulary.{IsAscending, union}
use Rattle.qc_entry.proofs.Union.{ascending-union, in_either, in_first, in_second}
use Rattle.theory_machine.specs.Vocabulary.{Item, Lock, Own, Promise, Site, after_commit, promise_of, stamped_lines}
use Rattle.theory_machine.specs.Vocabulary.{without_promise}
use Rattle.qc_site.specs.Vocabulary.{SiteState, joins, known, lines_of, prepared_of, stamped, with_stamped}
use Rattle.qc_site.specs.Vocabulary.{without_prepared}
use Rattle.qc_site.proofs.Votes.{prepared-without, prepared-without_other}
use Rattle.laws_refinement.specs.Vocabulary.{IsPromiseOf}
use Rattle.qc_site.proofs.KnownLines.{learned_ascends, learned_from, learned_in}

-- the machine's

pub gone : (u : TxId) (xs : List Promise) → promise_of u (without_promise u xs) ≡ None
gone u [] = refl
gone u (x ∷ xs) = by (same_tx u x.tx) refl (gone u xs)
  where
    by : (t : Bool) → same_tx u x.tx ≡ t → promise_of u (without_promise u xs) ≡ None
        → promise_of u (cond t (without_promise u xs) (x ∷ without_promise u xs)) ≡ None
    by true is rest = rest
    by false is rest = rw is rest

pub stays : (u v : TxId) (xs : List Promise) → same_tx v u ≡ false
    → promise_of v (without_promise u xs) ≡ promise_of v xs
stays u v [] other = refl
stays u v (x ∷ xs) other = by (same_tx u x.tx) (same_tx v x.tx) refl refl (stays u v xs other)
  where
    by : (s t : Bool) → same_tx u x.tx ≡ s → same_tx v x.tx ≡ t → promise_of v (without_promise u xs) ≡ promise_of v xs
        → promise_of v (cond s (without_promise u xs) (x ∷ without_promise u xs)) ≡ cond t (Some x) (promise_of v xs)
    by true true p q rest = absurd (let k : same_tx v u ≡ true =
        same_tx_test v u (same_tx_is v x.tx q ∙ sym (same_tx_is u x.tx p)) in let never : ⊥ = cc in never)
    by true false p q rest = rest
    by false true p q rest = rw q refl
    by false false p q rest = rw q rest

undropped : (u : TxId) (ps : List Promise) → promise_of u ps ≡ None → without_promise u ps ≡ ps
undropped u [] none = refl
undropped u (p ∷ ps) none = by (same_tx u p.tx) none (undropped u ps)
  where
    by : (t : Bool) → cond t (Some p) (promise_of u ps) ≡ None → (promise_of u ps ≡ None → without_promise u ps ≡ ps)
        → cond t (without_promise u ps) (p ∷ without_promise u ps) ≡ p ∷ ps
    by true e rest = let never : ⊥ = cc in absurd never
    by false e rest = ap (λ (xs : List Promise). p ∷ xs) (rest e)

-- the site's

pub found_last : (tx : TxId) (q : Prepared) (xs : List Prepared) → q.tx ≡ tx → prepared_of xs tx ≡ None
    → prepared_of (xs ++ q ∷ []) tx ≡ Some q
found_last tx q [] its e = rw (same_tx_test q.tx tx its) refl
found_last tx q (x ∷ xs) its e = by (same_tx x.tx tx) e (found_last tx q xs its)
  where
    by : (b : Bool) → cond b (Some x) (prepared_of xs tx) ≡ None
        → (prepared_of xs tx ≡ None → prepared_of (xs ++ q ∷ []) tx ≡ Some q)
        → cond b (Some x) (prepared_of (xs ++ q ∷ []) tx) ≡ Some q
    by true k rest = let never : ⊥ = cc in absurd never
    by false k rest = rest k

pub found_other : (t : TxId) (q : Prepared) (xs : List Prepared) → same_tx q.tx t ≡ false
    → prepared_of (xs ++ q ∷ []) t ≡ prepared_of xs t
found_other t q [] other = rw other refl
found_other t q (x ∷ xs) other = ap (λ (r : Option Prepared). cond (same_tx x.tx t) (Some x) r)
    (found_other t q xs other)

-- both

pub dropped_promise : (tx t : TxId) (ps : List Promise) (qs : List Prepared)
    → IsPromiseOf (promise_of t ps) (prepared_of qs t)
    → IsPromiseOf (promise_of t (without_promise tx ps)) (prepared_of (without_prepared qs tx) t)
dropped_promise tx t ps qs same = by (same_tx t tx) refl
  where
    by : (b : Bool) → same_tx t tx ≡ b → IsPromiseOf (promise_of t (without_promise tx ps))
        (prepared_of (without_prepared qs tx) t)
    by true is =
        subst (λ (u : TxId). IsPromiseOf (promise_of u (without_promise tx ps))
        (prepared_of (without_prepared qs tx) u)) (sym (same_tx_is t tx is))
        (subst (λ (x : Option Promise). IsPromiseOf x (prepared_of (without_prepared qs tx) tx)) (sym (gone tx ps))
        (subst (λ (x : Option Prepared). IsPromiseOf None x) (sym (prepared-without qs tx)) tt))
    by false is =
        subst (λ (x : Option Promise). IsPromiseOf x (prepared_of (without_prepared qs tx) t)) (sym (stays tx t ps is))
        (subst (λ (x : Option Prepared). IsPromiseOf (promise_of t ps) x)
        (sym (prepared-without_other qs tx t (other_tx_sym t tx is))) same)

pub more_promise : (tx t : TxId) (p : Promise) (q : Prepared) (ps : List Promise) (qs : List Prepared) → p.tx ≡ tx
    → q.tx ≡ tx → prepared_of qs tx ≡ None → IsPromiseOf (Some p) (Some q)
    → IsPromiseOf (promise_of t ps) (prepared_of qs t)
    → IsPromiseOf (promise_of t (p ∷ ps)) (prepared_of (qs ++ q ∷ []) t)
more_promise tx t p q ps qs named its none has same = by (same_tx t tx) refl
  where
    by : (b : Bool) → same_tx t tx ≡ b → IsPromiseOf (promise_of t (p ∷ ps)) (prepared_of (qs ++ q ∷ []) t)
    by true is =
        subst (λ (u : TxId). IsPromiseOf (promise_of u (p ∷ ps)) (prepared_of (qs ++ q ∷ []) u))
        (sym (same_tx_is t tx is))
        (rw (same_tx_test tx p.tx (sym named)) (subst (λ (x : Option Prepared). IsPromiseOf (Some p) x)
        (sym (found_last tx q qs its none)) has))
    by false is =
        let other : same_tx t p.tx ≡ false = subst (λ (n : TxId). same_tx t n ≡ false) (sym named) is in
        rw other (subst (λ (x : Option Prepared). IsPromiseOf (promise_of t ps) x)
        (sym (found_other t q qs (subst (λ (n : TxId). same_tx n t ≡ false) (sym its) (other_tx_sym t tx is))))
        same)

-- the lines of own lines with a stamp

pub stamped_in : (stamp : Stamp) (tx : TxId) (own : List OwnLine) (old : List Line) (l : Line)
    → In l old ⊎ ((o : OwnLine) × In o own × (l ≡ stamped stamp tx o)) → In l (fold (with_stamped stamp tx) old own)
stamped_in stamp tx [] old l (inl h) = h
stamped_in stamp tx [] old l (inr h) = absurd h.1
stamped_in stamp tx (k ∷ ks) old l (inl h) =
    stamped_in stamp tx ks (union old (stamped stamp tx k ∷ [])) l (inl (in_first l old (stamped stamp tx k ∷ []) h))
stamped_in stamp tx (k ∷ ks) old l (inr h) = elim h.1 [
  | inl same ↦ stamped_in stamp tx ks (union old (stamped stamp tx k ∷ [])) l
      (inl (in_second l old (stamped stamp tx k ∷ []) (inl (h.2 ∙ ap (stamped stamp tx) same))))
  | inr rest ↦ stamped_in stamp tx ks (union old (stamped stamp tx k ∷ [])) l (inr (h.0, rest, h.2))
]

pub in_stamped : (stamp : Stamp) (tx : TxId) (own : List OwnLine) (old : List Line) (l : Line)
    → In l (fold (with_stamped stamp tx) old own) → In l old ⊎ ((o : OwnLine) × In o own × (l ≡ stamped stamp tx o))
in_stamped stamp tx [] old l h = inl h
in_stamped stamp tx (k ∷ ks) old l h = elim (in_stamped stamp tx ks (union old (stamped stamp tx k ∷ [])) l h) [
  | inl a ↦ elim (in_either l old (stamped stamp tx k ∷ []) a)
      [ inl b ↦ inl b | inr c ↦ elim c [ inl same ↦ inr (k, inl refl, same) | inr never ↦ absurd never ] ]
  | inr b ↦ inr (b.0, inr b.1, b.2)
]

pub ascending-stamped : (stamp : Stamp) (tx : TxId) (own : List OwnLine) (old : List Line) → IsAscending old
    → IsAscending (fold (with_stamped stamp tx) old own)
ascending-stamped stamp tx [] old a = a
ascending-stamped stamp tx (k ∷ ks) old a =
    ascending-stamped stamp tx ks (union old (stamped stamp tx k ∷ []))
    (ascending-union old (stamped stamp tx k ∷ []) a (tt, tt))

pub stamped_from : (stamp : Stamp) (tx : TxId) (items : List Item) (l : Line) → In l (stamped_lines tx stamp items)
    → (o : OwnLine) × In (Own o) items × (l ≡ stamped stamp tx o)
stamped_from stamp tx [] l h = absurd h
stamped_from stamp tx (Lock k ∷ xs) l h = let r = stamped_from stamp tx xs l h in (r.0, inr r.1, r.2)
stamped_from stamp tx (Own o ∷ xs) l (inl same) = (o, inl refl, same)
stamped_from stamp tx (Own o ∷ xs) l (inr h) = let r = stamped_from stamp tx xs l h in (r.0, inr r.1, r.2)

pub from_items : (stamp : Stamp) (tx : TxId) (items : List Item) (o : OwnLine) → In (Own o) items
    → In (stamped stamp tx o) (stamped_lines tx stamp items)
from_items stamp tx [] o h = absurd h
from_items stamp tx (Lock k ∷ xs) o (inl same) = absurd (let never : ⊥ = cc in never)
from_items stamp tx (Lock k ∷ xs) o (inr h) = from_items stamp tx xs o h
from_items stamp tx (Own p ∷ xs) o (inl same) = let e : o ≡ p = cc in inl (ap (stamped stamp tx) e)
from_items stamp tx (Own p ∷ xs) o (inr h) = inr (from_items stamp tx xs o h)

-- a verdict that it committed: the own lines of the promise join both logs

pub commit_log : (s : SiteState) (k : Site) → ((l : Line) → In l k.volatile → In l (known s))
    → (tx : TxId) (stamp : Stamp) (p : Option Promise) (q : Option Prepared) → IsPromiseOf p q
    → (l : Line) → In l (after_commit tx stamp p k).volatile → In l (known (joins s tx stamp q).site)
commit_log s k old tx stamp None None same l among = old l among
commit_log s k old tx stamp None (Some q) same l among = absurd same
commit_log s k old tx stamp (Some p) None same l among = absurd same
commit_log s k old tx stamp (Some p) (Some q) same l among =
    elim (In-either l (stamped_lines tx stamp p.items) k.volatile among) [
      | inl new ↦ (let r : (o : OwnLine) × In (Own o) p.items
          × (l ≡ stamped stamp tx o) = stamped_from stamp tx p.items l new in
          learned_in l s.began s.log (lines_of stamp tx q.own)
          (inr (stamped_in stamp tx q.own [] l (inr (r.0, same.0 (Own r.0) r.1, r.2)))))
      | inr there ↦ learned_in l s.began s.log (lines_of stamp tx q.own) (inl (old l there))
    ]

pub commit_logged : (s : SiteState) (k : Site) → ((l : Line) → In l (known s) → In l k.volatile)
    → (tx : TxId) (stamp : Stamp) (p : Option Promise) (q : Option Prepared) → IsPromiseOf p q
    → (l : Line) → In l (known (joins s tx stamp q).site) → In l (after_commit tx stamp p k).volatile
commit_logged s k old tx stamp None None same l among = old l among
commit_logged s k old tx stamp None (Some q) same l among = absurd same
commit_logged s k old tx stamp (Some p) None same l among = absurd same
commit_logged s k old tx stamp (Some p) (Some q) same l among =
    elim (learned_from l s.began s.log (lines_of stamp tx q.own) among) [
      | inl there ↦ In-second l (stamped_lines tx stamp p.items) k.volatile (old l there)
      | inr new ↦ elim (in_stamped stamp tx q.own [] l new) [
        | inl never ↦ absurd never
        | inr r ↦ In-first l (stamped_lines tx stamp p.items) k.volatile
            (subst (λ (x : Line). In x (stamped_lines tx stamp p.items)) (sym r.2)
            (from_items stamp tx p.items r.0 (same.1 r.0 r.1)))
      ]
    ]

pub commit_passed : (k : Site) (clock : ℕ) → ((l : Line) → In l k.volatile → l.stamp.clock ≤ clock)
    → (tx : TxId) (stamp : Stamp) (p : Option Promise) → stamp.clock ≤ clock → (l : Line)
    → In l (after_commit tx stamp p k).volatile → l.stamp.clock ≤ clock
commit_passed k clock old tx stamp None low l among = old l among
commit_passed k clock old tx stamp (Some p) low l among =
    elim (In-either l (stamped_lines tx stamp p.items) k.volatile among) [
      | inl new ↦ (let r : (o : OwnLine) × In (Own o) p.items
          × (l ≡ stamped stamp tx o) = stamped_from stamp tx p.items l new in
          let e : l.stamp.clock ≡ stamp.clock = ap (λ (x : Line). x.stamp.clock) r.2 in omega arith)
      | inr there ↦ old l there
    ]

pub commit_sorted : (s : SiteState) (tx : TxId) (stamp : Stamp) (q : Option Prepared)
    → IsAscending s.began × IsAscending s.log
    → IsAscending (joins s tx stamp q).site.began × IsAscending (joins s tx stamp q).site.log
commit_sorted s tx stamp None a = a
commit_sorted s tx stamp (Some q) a = (
  a.0,
  learned_ascends s.began s.log (lines_of stamp tx q.own) a.1 (ascending-stamped stamp tx q.own [] tt),
)

pub commit_promised : (k : Site) (s : SiteState) (tx : TxId) (stamp : Stamp) (u : TxId) (p : Option Promise)
    (q : Option Prepared) → IsPromiseOf p q → promise_of tx k.prepared ≡ p
    → IsPromiseOf (promise_of u k.prepared) (prepared_of s.prepared u)
    → IsPromiseOf (promise_of u (after_commit tx stamp p k).prepared) (prepared_of (joins s tx stamp q).site.prepared u)
commit_promised k s tx stamp u None None same none old =
    subst (λ (ps : List Promise). IsPromiseOf (promise_of u ps) (prepared_of (without_prepared s.prepared tx) u))
    (undropped tx k.prepared none) (dropped_promise tx u k.prepared s.prepared old)
commit_promised k s tx stamp u None (Some q) same none old = absurd same
commit_promised k s tx stamp u (Some p) None same none old = absurd same
commit_promised k s tx stamp u (Some p) (Some q) same none old = dropped_promise tx u k.prepared s.prepared old
