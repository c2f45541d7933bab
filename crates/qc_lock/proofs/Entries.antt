-- The entries of what is held, by transaction.
use Rattle.std.proofs.Common.{◌≡◌, ℕ, ◌≤◌, ◌++◌, set, take, drop, add-one, ◌<◌, ◌+◌, arith, length, ◌==◌, ◌&&◌, not}
use Rattle.std.proofs.Common.{Bool, true, false, cond, fold, List, [], ◌∷◌, filter, Option, Some, None, unwrap_or, refl}
use Rattle.std.proofs.Common.{sym, ◌∙◌, ap, subst}
use Rattle.std.specs.List.{find}
use Rattle.std.proofs.lemmas.Bool.{eqb-true}
use Rattle.std.proofs.lemmas.List.{set_split, take_all, drop_all}
use Rattle.qc_stamp.specs.declared.stamp.TxId.{TxId}
use Rattle.qc_lock.specs.declared.held.Held.{Held}
use Rattle.std.specs.declared.cmp.Ordering.{Ordering}
use Rattle.std.specs.declared.cmp.Ordering.TheVariants.{Less, Equal, Greater}
use Rattle.qc_entry.specs.declared.line.OwnLine.{OwnLine}
use Rattle.qc_entry.specs.declared.line.ReadLock.{ReadLock}
use Rattle.qc_list.specs.Vocabulary.{by_order}
use Rattle.qc_lock.specs.Vocabulary.{AreFull, entry_of, held_of, inserted, lock_cmp, own_cmp, same_tx, with_entry}
use Rattle.qc_lock.specs.Vocabulary.{with_held, with_locks, with_owns, without_held}
use Rattle.qc_stamp.proofs.Orders.{same_tx_itself, same_tx_is}
use Rattle.qc_list.proofs.Booleans.{and_first, and_second}

-- the test of names

-- none that passes a test is left where those that pass it are left out
pub find-none : {A : Type 0} (p : A → Bool) (xs : List A) → find p (filter (λ x. not (p x)) xs) ≡ None
find-none p [] = refl
find-none {A = A} p (x ∷ xs) = by (p x) refl (find-none p xs) where
  by : (t : Bool) → p x ≡ t → find p (filter (λ y. not (p y)) xs) ≡ None
      → find p (cond (not t) (x ∷ filter (λ y. not (p y)) xs) (filter (λ y. not (p y)) xs)) ≡ None
  by true is rest = rest
  by false is rest = rw is rest

-- an entry that was put

pub entry-put : (held : List Held) (e : Held) → entry_of (with_entry held e) e.tx ≡ Some e
entry-put [] e = rw (same_tx_itself e.tx) refl
entry-put (h ∷ hs) e = by (same_tx h.tx e.tx) refl (entry-put hs e) where
  by : (t : Bool) → same_tx h.tx e.tx ≡ t → entry_of (with_entry hs e) e.tx ≡ Some e
      → entry_of (cond t (e ∷ hs) (h ∷ with_entry hs e)) e.tx ≡ Some e
  by true is rest = rw (same_tx_itself e.tx) refl
  by false is rest = rw is rest

pub held-put : (held : List Held) (e : Held) → held_of (with_entry held e) e.tx ≡ e
held-put held e = ap (λ (o : Option Held). unwrap_or o (record { tx = e.tx; locks = []; own = [] })) (entry-put held e)

pub entry-put_other : (held : List Held) (e : Held) (tx : TxId) → same_tx e.tx tx ≡ false
    → entry_of (with_entry held e) tx ≡ entry_of held tx
entry-put_other [] e tx other = rw other refl
entry-put_other (h ∷ hs) e tx other = by (same_tx h.tx e.tx) refl (entry-put_other hs e tx other) where
  by : (t : Bool) → same_tx h.tx e.tx ≡ t → entry_of (with_entry hs e) tx ≡ entry_of hs tx
      → entry_of (cond t (e ∷ hs) (h ∷ with_entry hs e)) tx ≡ entry_of (h ∷ hs) tx
  by true is rest =
      let same : same_tx h.tx tx ≡ false = subst (λ u. same_tx u tx ≡ false) (sym (same_tx_is h.tx e.tx is)) other in
      rw (other, same) refl
  by false is rest = ap (λ (o : Option Held). cond (same_tx h.tx tx) (Some h) o) rest

pub held-put_other : (held : List Held) (e : Held) (tx : TxId) → same_tx e.tx tx ≡ false
    → held_of (with_entry held e) tx ≡ held_of held tx
held-put_other held e tx other = ap (λ (o : Option Held). unwrap_or o (record { tx = tx; locks = []; own = [] }))
    (entry-put_other held e tx other)

-- entries that were left out

pub entry-without : (held : List Held) (tx : TxId) → entry_of (without_held held tx) tx ≡ None
entry-without held tx = find-none (λ (h : Held). same_tx h.tx tx) held

pub entry-without_other : (held : List Held) (tx other : TxId) → same_tx tx other ≡ false
    → entry_of (without_held held tx) other ≡ entry_of held other
entry-without_other [] tx other apart = refl
entry-without_other (h ∷ hs) tx other apart = by (same_tx h.tx tx) refl (entry-without_other hs tx other apart) where
  by : (t : Bool) → same_tx h.tx tx ≡ t → entry_of (without_held hs tx) other ≡ entry_of hs other
      → entry_of (cond (not t) (h ∷ without_held hs tx) (without_held hs tx)) other ≡ entry_of (h ∷ hs) other
  by true is rest =
      let same : same_tx h.tx other ≡ false =
      subst (λ u. same_tx u other ≡ false) (sym (same_tx_is h.tx tx is)) apart in
      rw same rest
  by false is rest = ap (λ (o : Option Held). cond (same_tx h.tx other) (Some h) o) rest

pub held-without_other : (held : List Held) (tx other : TxId) → same_tx tx other ≡ false
    → held_of (without_held held tx) other ≡ held_of held other
held-without_other held tx other apart =
    ap (λ (o : Option Held). unwrap_or o (record { tx = other; locks = []; own = [] }))
    (entry-without_other held tx other apart)

-- entries that hold something

pub full-put : (held : List Held) (e : Held) → AreFull held → 0 < length e.locks + length e.own
    → AreFull (with_entry held e)
full-put [] e full here = (here, tt)
full-put (h ∷ hs) e full here = by (same_tx h.tx e.tx) (full-put hs e full.1 here) where
  by : (t : Bool) → AreFull (with_entry hs e) → AreFull (cond t (e ∷ hs) (h ∷ with_entry hs e))
  by true rest = (here, full.1)
  by false rest = (full.0, rest)

pub full-filter : (test : Held → Bool) (held : List Held) → AreFull held → AreFull (filter test held)
full-filter test [] full = tt
full-filter test (h ∷ hs) full = by (test h) (full-filter test hs full.1) where
  by : (t : Bool) → AreFull (filter test hs) → AreFull (cond t (h ∷ filter test hs) (filter test hs))
  by true rest = (full.0, rest)
  by false rest = rest

cons_some : {A : Type 0} (x : A) (xs : List A) → 0 < length (x ∷ xs)
cons_some x xs = omega arith

inserted_some : {A : Type 0} (cmp : A → A → Ordering) (ys : List A) (x : A) → 0 < length (inserted cmp ys x)
inserted_some cmp [] x = cons_some x []
inserted_some {A = A} cmp (y ∷ ys) x = by (cmp x y) where
  by : (order : Ordering) → 0 < length (by_order order (x ∷ y ∷ ys) (x ∷ ys) (y ∷ inserted cmp ys x))
  by Less = cons_some x (y ∷ ys)
  by Equal = cons_some x ys
  by Greater = cons_some y (inserted cmp ys x)

fold_some : {A : Type 0} (cmp : A → A → Ordering) (xs others : List A) → 0 < length xs
    → 0 < length (fold (inserted cmp) xs others)
fold_some cmp xs [] some = some
fold_some cmp xs (o ∷ os) some = fold_some cmp (inserted cmp xs o) os (inserted_some cmp xs o)

-- a list with others holds something where there are others
pub any_some : {A : Type 0} (cmp : A → A → Ordering) (xs others : List A) → (length others == 0) ≡ false
    → 0 < length (fold (inserted cmp) xs others)
any_some cmp xs [] some = absurd (let never : ⊥ = cc in never)
any_some cmp xs (o ∷ os) some = fold_some cmp (inserted cmp xs o) os (inserted_some cmp xs o)

-- an entry with more holds something, where there is more
pub entry_some : (locks others : List ReadLock) (own lines : List OwnLine)
    → ((length others == 0) && (length lines == 0)) ≡ false
    → 0 < length (with_locks locks others) + length (with_owns own lines)
entry_some locks others own lines h = by (length others == 0) refl where
  by : (t : Bool) → (length others == 0) ≡ t → 0 < length (with_locks locks others) + length (with_owns own lines)
  by true is =
      let rest : (length lines == 0) ≡ false = subst (λ t. (t && (length lines == 0)) ≡ false) is h in
      let some : 0 < length (with_owns own lines) = any_some own_cmp own lines rest in omega arith
  by false is = let some : 0 < length (with_locks locks others) = any_some lock_cmp locks others is in omega arith

-- what a transaction holds with more, and what others hold

with_more : (P : List Held → Type 0) (held : List Held) (tx : TxId) (locks : List ReadLock) (own : List OwnLine)
    → (((length locks == 0) && (length own == 0)) ≡ true → P held)
    → P (with_entry held (record {
      tx = tx;
      locks = with_locks (held_of held tx).locks locks;
      own = with_owns (held_of held tx).own own;
    })) → P (with_held held tx locks own)
with_more P held tx locks own none some = by ((length locks == 0) && (length own == 0)) refl where
  by : (t : Bool) → ((length locks == 0) && (length own == 0)) ≡ t
      → P (cond t held (with_entry held (record
      { tx = tx; locks = with_locks (held_of held tx).locks locks; own = with_owns (held_of held tx).own own })))
  by true is = none is
  by false is = some

no_more : {A : Type 0} (xs : List A) → (length xs == 0) ≡ true → xs ≡ []
no_more [] h = refl
no_more (x ∷ xs) h = absurd (omega (arith, cons_some x xs, eqb-true (length (x ∷ xs)) 0 h))

pub locks_given : (held : List Held) (tx : TxId) (locks : List ReadLock) (own : List OwnLine)
    → (held_of (with_held held tx locks own) tx).locks ≡ with_locks (held_of held tx).locks locks
locks_given held tx locks own =
    with_more (λ (hs : List Held). (held_of hs tx).locks ≡ with_locks (held_of held tx).locks locks) held tx locks own
    (λ is. ap (λ (ls : List ReadLock). with_locks (held_of held tx).locks ls)
    (sym (no_more locks (and_first (length locks == 0) (length own == 0) is))))
    (ap (λ (h : Held). h.locks) (held-put held
    (record {
      tx = tx;
      locks = with_locks (held_of held tx).locks locks;
      own = with_owns (held_of held tx).own own;
    })))

pub own_given : (held : List Held) (tx : TxId) (locks : List ReadLock) (own : List OwnLine)
    → (held_of (with_held held tx locks own) tx).own ≡ with_owns (held_of held tx).own own
own_given held tx locks own =
    with_more (λ (hs : List Held). (held_of hs tx).own ≡ with_owns (held_of held tx).own own) held tx locks own
    (λ is. ap (λ (ls : List OwnLine). with_owns (held_of held tx).own ls)
    (sym (no_more own (and_second (length locks == 0) (length own == 0) is))))
    (ap (λ (h : Held). h.own) (held-put held
    (record {
      tx = tx;
      locks = with_locks (held_of held tx).locks locks;
      own = with_owns (held_of held tx).own own;
    })))

pub others_stay : (held : List Held) (tx other : TxId) (locks : List ReadLock) (own : List OwnLine)
    → same_tx tx other ≡ false → entry_of (with_held held tx locks own) other ≡ entry_of held other
others_stay held tx other locks own apart =
    with_more (λ (hs : List Held). entry_of hs other ≡ entry_of held other) held tx locks own
    (λ is. refl)
    (entry-put_other held (record {
      tx = tx;
      locks = with_locks (held_of held tx).locks locks;
      own = with_owns (held_of held tx).own own;
    }) other apart)

-- an entry put at its place

pub put_in : (held seen : List Held) (e : Held) (p : ℕ) → seen ≡ held → p < length held
    → with_entry seen e ≡ take p seen ++ e ∷ drop (p + 1) seen → set held p e ≡ with_entry held e
put_in held seen e p same within is =
    let put : with_entry held e ≡ take p held ++ e ∷ drop (p + 1) held =
    subst (λ (hs : List Held). with_entry hs e ≡ take p hs ++ e ∷ drop (p + 1) hs) same is in
    set_split held p e within ∙ rw (← add-one) (sym put)

pub put_last : (held seen : List Held) (e : Held) (p : ℕ) → seen ≡ held → length held ≤ p
    → with_entry seen e ≡ take p seen ++ e ∷ drop (p + 1) seen → held ++ e ∷ [] ≡ with_entry held e
put_last held seen e p same past is =
    let put : with_entry held e ≡ take p held ++ e ∷ drop (p + 1) held =
    subst (λ (hs : List Held). with_entry hs e ≡ take p hs ++ e ∷ drop (p + 1) hs) same is in
    let rest : drop (p + 1) held ≡ [] = drop_all (p + 1) held (omega arith) in
    let front : take p held ≡ held = take_all p held past in
    sym (put ∙ rw (front, rest) refl)
