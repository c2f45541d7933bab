-- What transactions hold at a site, by members: what stays, what is new, and who is in the way.
use Rattle.std.proofs.Common.{◌≡◌, ℕ, ◌⊎◌, inl, inr, Bool, true, false, cond, List, [], ◌∷◌, Option, Some, None}
use Rattle.std.proofs.Common.{unwrap_or, is_some, refl, sym, ap, ◌∙◌, subst}
use Rattle.std.specs.declared.cmp.Ordering.{Ordering}
use Rattle.std.specs.declared.cmp.Ordering.TheVariants.{Less, Equal, Greater}
use Rattle.qc_stamp.specs.declared.stamp.TxId.{TxId}
use Rattle.qc_stamp.specs.Vocabulary.{same_tx}
use Rattle.qc_stamp.proofs.Orders.{nat_apart, same_tx_is, same_tx_itself}
use Rattle.qc_list.specs.Vocabulary.{In, by_order, inserted}
use Rattle.qc_entry.specs.declared.line.OwnLine.{OwnLine}
use Rattle.qc_entry.specs.declared.line.ReadLock.{ReadLock}
use Rattle.qc_table.specs.Vocabulary.{depends}
use Rattle.qc_lock.specs.declared.clash.Clash.{Clash}
use Rattle.qc_lock.specs.declared.held.Held.{Held}
use Rattle.qc_lock.specs.Vocabulary.{In as IsAmong, IsAppendConflict, IsReadConflict, IsSmallest, append_clash}
use Rattle.qc_lock.specs.Vocabulary.{entry_of, held_of, is_held, lock_cmp, own_cmp, read_clash, with_held, with_lock}
use Rattle.qc_lock.specs.Vocabulary.{with_locks, with_own, with_owns, without_held}
use Rattle.qc_lock.proofs.Conflicts.{granted_appends_conflict_with_nothing, granted_reads_conflict_with_nothing}
use Rattle.qc_lock.proofs.Conflicts as conflicts
use Rattle.qc_lock.proofs.Entries.{entry-without, entry-without_other, locks_given, own_given, others_stay}
use Rattle.theory_machine.specs.Vocabulary.{Item, Lock, Own}
use Rattle.laws_refinement.specs.Vocabulary.{IsHeld}
use Rattle.qc_site.proofs.Holding.{locks_more}

to_among : {A : Type 0} (x : A) (xs : List A) → In x xs → IsAmong x xs
to_among x [] h = h
to_among x (y ∷ ys) (inl same) = inl same
to_among x (y ∷ ys) (inr h) = inr (to_among x ys h)

from_among : {A : Type 0} (x : A) (xs : List A) → IsAmong x xs → In x xs
from_among x [] h = h
from_among x (y ∷ ys) (inl same) = inl same
from_among x (y ∷ ys) (inr h) = inr (from_among x ys h)

-- locks: a new one, and those that there were

pub lock_new : (ls : List ReadLock) (lock : ReadLock) → In lock (with_lock ls lock)
lock_new [] lock = inl refl
lock_new (l ∷ ls) lock = by (lock_cmp lock l) (lock_new ls lock) where
  by : (order : Ordering) → In lock (inserted lock_cmp ls lock)
      → In lock (by_order order (lock ∷ l ∷ ls) (lock ∷ ls) (l ∷ inserted lock_cmp ls lock))
  by Less rest = inl refl
  by Equal rest = inl refl
  by Greater rest = inr rest

-- own lines besides others, where lines of one operation are one

own_apart : (a b : OwnLine) → own_cmp a b ≡ Equal → a.op ≡ b.op
own_apart a b h = nat_apart _ _ h

own_new : (ls : List OwnLine) (l : OwnLine) → In l (with_own ls l)
own_new [] l = inl refl
own_new (x ∷ xs) l = by (own_cmp l x) (own_new xs l) where
  by : (order : Ordering) → In l (inserted own_cmp xs l)
      → In l (by_order order (l ∷ x ∷ xs) (l ∷ xs) (x ∷ inserted own_cmp xs l))
  by Less rest = inl refl
  by Equal rest = inl refl
  by Greater rest = inr rest

own_keeps : (ls : List OwnLine) (l x : OwnLine) → (x.op ≡ l.op → x ≡ l) → In x ls → In x (with_own ls l)
own_keeps [] l x agree member = absurd member
own_keeps (y ∷ ys) l x agree member = by (own_cmp l y) refl (own_keeps ys l x agree) member where
  by : (order : Ordering) → own_cmp l y ≡ order → (In x ys → In x (inserted own_cmp ys l)) → In x (y ∷ ys)
      → In x (by_order order (l ∷ y ∷ ys) (l ∷ ys) (y ∷ inserted own_cmp ys l))
  by Less is rest m = inr m
  by Equal is rest (inl same) = inl (agree (ap (λ (k : OwnLine). k.op) same ∙ sym (own_apart l y is)))
  by Equal is rest (inr m) = inr m
  by Greater is rest (inl same) = inl same
  by Greater is rest (inr m) = inr (rest m)

own_back : (ls : List OwnLine) (l x : OwnLine) → In x (with_own ls l) → In x ls ⊎ (x ≡ l)
own_back [] l x (inl same) = inr same
own_back [] l x (inr never) = absurd never
own_back (y ∷ ys) l x h = by (own_cmp l y) (own_back ys l x) h where
  by : (order : Ordering) → (In x (inserted own_cmp ys l) → In x ys ⊎ (x ≡ l))
      → In x (by_order order (l ∷ y ∷ ys) (l ∷ ys) (y ∷ inserted own_cmp ys l)) → In x (y ∷ ys) ⊎ (x ≡ l)
  by Less rest (inl same) = inr same
  by Less rest (inr more) = inl more
  by Equal rest (inl same) = inr same
  by Equal rest (inr more) = inl (inr more)
  by Greater rest (inl same) = inl (inl same)
  by Greater rest (inr more) = elim (rest more) [ inl a ↦ inl (inr a) | inr b ↦ inr b ]

pub owns_keep : (ls own : List OwnLine) (x : OwnLine) → ((l : OwnLine) → In l own → x.op ≡ l.op → x ≡ l) → In x ls
    → In x (with_owns ls own)
owns_keep ls [] x agree member = member
owns_keep ls (l ∷ own) x agree member = owns_keep (with_own ls l) own x (λ k among. agree k (inr among))
    (own_keeps ls l x (agree l (inl refl)) member)

pub owns_new : (ls own : List OwnLine) (x : OwnLine) → ((l : OwnLine) → In l own → x.op ≡ l.op → x ≡ l) → In x own
    → In x (with_owns ls own)
owns_new ls [] x agree member = absurd member
owns_new ls (l ∷ own) x agree (inl same) =
    owns_keep (with_own ls l) own x (λ k among. agree k (inr among))
    (subst (λ (k : OwnLine). In k (with_own ls l)) (sym same) (own_new ls l))
owns_new ls (l ∷ own) x agree (inr rest) = owns_new (with_own ls l) own x (λ k among. agree k (inr among)) rest

pub owns_back : (ls own : List OwnLine) (x : OwnLine) → In x (with_owns ls own) → In x ls ⊎ In x own
owns_back ls [] x h = inl h
owns_back ls (l ∷ own) x h = elim (owns_back (with_own ls l) own x h) [
  | inl a ↦ elim (own_back ls l x a) [ inl b ↦ inl b | inr same ↦ inr (inl same) ]
  | inr c ↦ inr (inr c)
]

-- the entry of a transaction to which something is given, and those of others

pub given_other : (held : List Held) (tx t : TxId) (locks : List ReadLock) (own : List OwnLine) → same_tx tx t ≡ false
    → held_of (with_held held tx locks own) t ≡ held_of held t
given_other held tx t locks own other = ap (λ (o : Option Held). unwrap_or o (record { tx = t; locks = []; own = [] }))
    (others_stay held tx t locks own other)

-- what holds of the old entry, and of the given one, holds of each entry after
pub given_case : (P : List ReadLock → List OwnLine → Type 0) (held : List Held) (tx t : TxId) (locks : List ReadLock)
    (own : List OwnLine)
    → (tx ≡ t → P (with_locks (held_of held tx).locks locks) (with_owns (held_of held tx).own own))
    → P (held_of held t).locks (held_of held t).own
    → P (held_of (with_held held tx locks own) t).locks (held_of (with_held held tx locks own) t).own
given_case P held tx t locks own here there = by (same_tx tx t) refl
  where
    by : (b : Bool) → same_tx tx t ≡ b → P (held_of (with_held held tx locks own) t).locks
        (held_of (with_held held tx locks own) t).own
    by true is =
        let same : tx ≡ t = same_tx_is tx t is in
        subst (λ (u : TxId). P (held_of (with_held held tx locks own) u).locks
        (held_of (with_held held tx locks own) u).own) same
        (subst (λ (ls : List ReadLock). P ls (held_of (with_held held tx locks own) tx).own)
        (sym (locks_given held tx locks own))
        (subst (λ (os : List OwnLine). P (with_locks (held_of held tx).locks locks) os)
        (sym (own_given held tx locks own)) (here same)))
    by false other = subst (λ (e : Held). P e.locks e.own) (sym (given_other held tx t locks own other)) there

-- whoever holds something then did so before, or was given it
pub given_held : (Q : TxId → Type 0) (held : List Held) (tx : TxId) (locks : List ReadLock) (own : List OwnLine)
    → ((t : TxId) → is_held held t ≡ true → Q t) → Q tx
    → (t : TxId) → is_held (with_held held tx locks own) t ≡ true → Q t
given_held Q held tx locks own old here t is = by (same_tx tx t) refl
  where
    by : (b : Bool) → same_tx tx t ≡ b → Q t
    by true same = subst Q (same_tx_is tx t same) here
    by false other = old t (subst (λ (o : Option Held). is_some o ≡ true) (others_stay held tx t locks own other) is)

pub dropped_held : (Q : TxId → Type 0) (held : List Held) (tx : TxId) → ((t : TxId) → is_held held t ≡ true → Q t)
    → (t : TxId) → is_held (without_held held tx) t ≡ true → Q t
dropped_held Q held tx old t is = by (same_tx tx t) refl
  where
    by : (b : Bool) → same_tx tx t ≡ b → Q t
    by true same = absurd (
        let none : is_held (without_held held tx) t ≡ false =
        subst (λ (u : TxId). is_held (without_held held tx) u ≡ false) (same_tx_is tx t same)
        (ap (λ (o : Option Held). is_some o) (entry-without held tx)) in
        let never : ⊥ = cc in never)
    by false other = old t (subst (λ (o : Option Held). is_some o ≡ true) (entry-without_other held tx t other) is)

-- an entry that has something is listed, and so is that of each member

listed : (P : Held → Type 0) (held : List Held) (tx : TxId) → P (held_of held tx)
    → (P (record { tx = tx; locks = []; own = [] }) → ⊥)
    → In (held_of held tx) held × (same_tx (held_of held tx).tx tx ≡ true)
listed P [] tx p none = absurd (none p)
listed P (h ∷ hs) tx p none = by (same_tx h.tx tx) refl p (λ q. listed P hs tx q none)
  where
    by : (t : Bool) → same_tx h.tx tx ≡ t → P
        (unwrap_or (cond t (Some h) (entry_of hs tx)) (record { tx = tx; locks = []; own = [] }))
        → (P (held_of hs tx) → In (held_of hs tx) hs × (same_tx (held_of hs tx).tx tx ≡ true))
        → In (unwrap_or (cond t (Some h) (entry_of hs tx)) (record { tx = tx; locks = []; own = [] })) (h ∷ hs)
        × (same_tx (unwrap_or (cond t (Some h) (entry_of hs tx)) (record { tx = tx; locks = []; own = [] })).tx tx
        ≡ true)
    by true is q rest = (inl refl, is)
    by false is q rest = let r : In (held_of hs tx) hs × (same_tx (held_of hs tx).tx tx ≡ true) = rest q in
        (inr r.0, r.1)

entry_held : (held : List Held) (h : Held) → In h held → is_held held h.tx ≡ true
entry_held [] h among = absurd among
entry_held (x ∷ xs) h among = by (same_tx x.tx h.tx) refl among (entry_held xs h)
  where
    by : (t : Bool) → same_tx x.tx h.tx ≡ t → (h ≡ x) ⊎ In h xs → (In h xs → is_held xs h.tx ≡ true)
        → is_some (cond t (Some x) (entry_of xs h.tx)) ≡ true
    by true is a rest = refl
    by false is (inl same) rest = absurd (
        let itself : same_tx x.tx h.tx ≡ true = subst (λ (y : Held). same_tx x.tx y.tx ≡ true) (sym same)
        (same_tx_itself x.tx) in
        let never : ⊥ = cc in never)
    by false is (inr a) rest = rest a

other_by : (a t tx : TxId) → same_tx a t ≡ true → same_tx t tx ≡ false → same_tx a tx ≡ false
other_by a t tx same other = subst (λ (u : TxId). same_tx u tx ≡ false) (sym (same_tx_is a t same)) other

-- where a Read isn't refused, no other holds a line that its invocation depends on; nor is a lock in the way of own
-- lines
pub read_is_free : (relation : List ℕ) (held : List Held) (tx t : TxId) (object inv : ℕ) (line : OwnLine)
    → read_clash relation held tx object inv ≡ None → same_tx t tx ≡ false
    → In line (held_of held t).own → line.object ≡ object → depends relation inv line.event ≡ false
read_is_free relation held tx t object inv line free other among here =
    let l : In (held_of held t) held × (same_tx (held_of held t).tx t ≡ true) =
    listed (λ (h : Held). In line h.own) held t among (λ n. n) in
    granted_reads_conflict_with_nothing relation held tx object inv (held_of held t) line free
    (to_among (held_of held t) held l.0)
    (other_by (held_of held t).tx t tx l.1 other) (to_among line (held_of held t).own among) here

pub append_is_free : (relation : List ℕ) (held : List Held) (tx t : TxId) (own : List OwnLine) (line : OwnLine)
    (lock : ReadLock) → append_clash relation held tx own ≡ None → same_tx t tx ≡ false
    → In line own → In lock (held_of held t).locks → lock.object ≡ line.object
    → depends relation lock.inv line.event ≡ false
append_is_free relation held tx t own line lock free other one among here =
    let l : In (held_of held t) held × (same_tx (held_of held t).tx t ≡ true) =
    listed (λ (h : Held). In lock h.locks) held t among (λ n. n) in
    granted_appends_conflict_with_nothing relation held tx own line (held_of held t) lock free (to_among line own one)
    (to_among (held_of held t) held l.0) (other_by (held_of held t).tx t tx l.1 other)
    (to_among lock (held_of held t).locks among) here

-- who is in the way holds something

pub read_holder : (relation : List ℕ) (held : List Held) (tx : TxId) (object inv : ℕ) (c : Clash)
    → read_clash relation held tx object inv ≡ Some c → is_held held c.holder ≡ true
read_holder relation held tx object inv c e =
    let s : IsSmallest (IsReadConflict relation held tx object inv) (Some c) =
    subst (IsSmallest (IsReadConflict relation held tx object inv)) e
    (conflicts.reads_are_refused_on_conflict relation held tx object inv) in
    subst (λ (t : TxId). is_held held t ≡ true) (sym (ap (λ (x : Clash). x.holder) s.0.told))
    (entry_held held s.0.holder (from_among s.0.holder held s.0.holds))

pub append_holder : (relation : List ℕ) (held : List Held) (tx : TxId) (own : List OwnLine) (c : Clash)
    → append_clash relation held tx own ≡ Some c → is_held held c.holder ≡ true
append_holder relation held tx own c e =
    let s : IsSmallest (IsAppendConflict relation held tx own) (Some c) =
    subst (IsSmallest (IsAppendConflict relation held tx own)) e
    (conflicts.appends_are_refused_on_conflict relation held tx own) in
    subst (λ (t : TxId). is_held held t ≡ true) (sym (ap (λ (x : Clash). x.holder) s.0.told))
    (entry_held held s.0.holder (from_among s.0.holder held s.0.holds))

-- what was held stays, where own lines of one operation are one
pub given_keeps : (held : List Held) (tx t : TxId) (locks : List ReadLock) (own : List OwnLine) (x : Item)
    → ((o l : OwnLine) → x ≡ Own o → tx ≡ t → In l own → o.op ≡ l.op → o ≡ l) → IsHeld (held_of held t) x
    → IsHeld (held_of (with_held held tx locks own) t) x
given_keeps held tx t locks own (Lock lock) agree h =
    given_case (λ (ls : List ReadLock) (os : List OwnLine). In lock ls) held tx t locks own
    (λ same. locks_more (held_of held tx).locks locks lock
    (subst (λ (u : TxId). In lock (held_of held u).locks) (sym same) h)) h
given_keeps held tx t locks own (Own o) agree h =
    given_case (λ (ls : List ReadLock) (os : List OwnLine). In o os) held tx t locks own
    (λ same. owns_keep (held_of held tx).own own o (λ l among. agree o l refl same among)
    (subst (λ (u : TxId). In o (held_of held u).own) (sym same) h)) h

-- an own line that is held then was held before, or given
pub given_back : (held : List Held) (tx t : TxId) (locks : List ReadLock) (own : List OwnLine) (o : OwnLine)
    → In o (held_of (with_held held tx locks own) t).own → In o (held_of held t).own ⊎ ((t ≡ tx) × In o own)
given_back held tx t locks own o =
    given_case (λ (ls : List ReadLock) (os : List OwnLine). In o os → In o (held_of held t).own ⊎ ((t ≡ tx) × In o own))
    held tx t locks own
    (λ same h. elim (owns_back (held_of held tx).own own o h) [
      | inl a ↦ inl (subst (λ (u : TxId). In o (held_of held u).own) same a)
      | inr b ↦ inr (sym same, b)
    ])
    (λ h. inl h)

-- what was given is held
pub lock_given_here : (held : List Held) (tx : TxId) (lock : ReadLock)
    → In lock (held_of (with_held held tx (lock ∷ []) []) tx).locks
lock_given_here held tx lock = subst (λ (ls : List ReadLock). In lock ls) (sym (locks_given held tx (lock ∷ []) []))
    (lock_new (held_of held tx).locks lock)

pub own_given_here : (held : List Held) (tx : TxId) (own : List OwnLine) (o : OwnLine)
    → ((l : OwnLine) → In l own → o.op ≡ l.op → o ≡ l) → In o own → In o (held_of (with_held held tx [] own) tx).own
own_given_here held tx own o agree among =
    subst (λ (os : List OwnLine). In o os) (sym (own_given held tx [] own))
    (owns_new (held_of held tx).own own o agree among)
