-- What is held and promised of declared clients on declared things stays so, and becomes such lines.
use Rattle.std.proofs.Common.{◌≡◌, ℕ, ◌<◌, ◌==◌, ◌&&◌, Bool, true, false, cond, List, [], ◌∷◌, fold, length, Some}
use Rattle.std.proofs.Common.{Ordering, Less, Equal, Greater, refl, subst}
use Rattle.std.specs.Prelude.{unwrap_or}
use Rattle.std.specs.List.{AllByRecursion as Every}
use Rattle.qc_list.specs.Vocabulary.{by_order, inserted}
use Rattle.qc_decl.specs.declared.declaration.Declaration.{Declaration}
use Rattle.qc_entry.specs.declared.line.Line.{Line}
use Rattle.qc_entry.specs.declared.line.OwnLine.{OwnLine}
use Rattle.qc_entry.specs.declared.line.ReadLock.{ReadLock}
use Rattle.qc_entry.specs.declared.record.Prepared.{Prepared}
use Rattle.qc_entry.proofs.Union.{every-union}
use Rattle.qc_fit.specs.Vocabulary.{HasEvent, HasInvocation}
use Rattle.qc_lock.specs.declared.held.Held.{Held}
use Rattle.qc_lock.specs.Vocabulary.{entry_of, held_of, lock_cmp, own_cmp, with_entry, with_held, with_locks, with_owns}
use Rattle.qc_site.specs.Vocabulary.{held_by, holds, lines_of, prepared_of, stamped, with_stamped}
use Rattle.qc_stamp.specs.declared.stamp.Stamp.{Stamp}
use Rattle.qc_stamp.specs.declared.stamp.TxId.{TxId}
use Rattle.qc_stamp.specs.Vocabulary.{same_tx}
use Rattle.laws_bounds.proofs.Names.{LineNamed, LinesNamed, LocksNamed, OwnsNamed, PromiseNamed}
use Rattle.laws_turns.proofs.StampsOwn.{same_client}

-- what is put among items in order

pub every-inserted : {A : Type 0} (P : A → Type 0) (cmp : A → A → Ordering) (xs : List A) (x : A) → Every P xs → P x
    → Every P (inserted cmp xs x)
every-inserted P cmp [] x all here = (here, tt)
every-inserted P cmp (y ∷ ys) x all here = by (cmp x y) (every-inserted P cmp ys x all.1 here)
  where
    by : (o : Ordering) → Every P (inserted cmp ys x)
        → Every P (by_order o (x ∷ y ∷ ys) (x ∷ ys) (y ∷ inserted cmp ys x))
    by Less rest = (here, all)
    by Equal rest = (here, all.1)
    by Greater rest = (all.0, rest)

pub every-all_inserted : {A : Type 0} (P : A → Type 0) (cmp : A → A → Ordering) (xs others : List A) → Every P xs
    → Every P others → Every P (fold (inserted cmp) xs others)
every-all_inserted P cmp xs [] all more = all
every-all_inserted P cmp xs (y ∷ ys) all more =
    every-all_inserted P cmp (inserted cmp xs y) ys (every-inserted P cmp xs y all more.0) more.1

module _ (decl : Declaration) where
  pub record HeldNamed (h : Held) : Type 0 where
    pub client : h.tx.client < decl.clients
    pub locks : LocksNamed decl h.locks
    pub own : OwnsNamed decl h.own

  -- what is held

  pub record HasNamed (h : Held) : Type 0 where
    pub locks : LocksNamed decl h.locks
    pub own : OwnsNamed decl h.own

  pub has_named : (held : List Held) (tx : TxId) → Every HeldNamed held → HasNamed (held_of held tx)
  has_named [] tx all = record { locks = tt; own = tt }
  has_named (h ∷ hs) tx all = by (same_tx h.tx tx) (has_named hs tx all.1)
    where
      by : (t : Bool) → HasNamed (held_of hs tx)
          → HasNamed (unwrap_or (cond t (Some h) (entry_of hs tx)) (record { tx = tx; locks = []; own = [] }))
      by true rest = record { locks = all.0.locks; own = all.0.own }
      by false rest = rest

  entry_named : (held : List Held) (e : Held) → Every HeldNamed held → HeldNamed e → Every HeldNamed (with_entry held e)
  entry_named [] e all here = (here, tt)
  entry_named (h ∷ hs) e all here = by (same_tx h.tx e.tx) (entry_named hs e all.1 here)
    where
      by : (t : Bool) → Every HeldNamed (with_entry hs e) → Every HeldNamed (cond t (e ∷ hs) (h ∷ with_entry hs e))
      by true rest = (here, all.1)
      by false rest = (all.0, rest)

  pub held_named : (held : List Held) (tx : TxId) (locks : List ReadLock) (own : List OwnLine) → Every HeldNamed held
      → tx.client < decl.clients → LocksNamed decl locks → OwnsNamed decl own
      → Every HeldNamed (with_held held tx locks own)
  held_named held tx locks own all low here mine = by ((length locks == 0) && (length own == 0))
    where
      entry : Held
      entry =
          record {
            tx = tx;
            locks = with_locks (held_of held tx).locks locks;
            own = with_owns (held_of held tx).own own;
          }

      named : HeldNamed entry
      named = record {
        client = low;
        locks =
            every-all_inserted (λ (l : ReadLock). HasInvocation decl l.object l.inv) lock_cmp
            (held_of held tx).locks locks (has_named held tx all).locks here;
        own =
            every-all_inserted (λ (o : OwnLine). HasEvent decl o.object o.event) own_cmp (held_of held tx).own own
            (has_named held tx all).own mine;
      }

      by : (t : Bool) → Every HeldNamed (cond t held (with_entry held entry))
      by true = all
      by false = entry_named held entry all named

  -- what promises hold
  all_held : (held : List Held) (ps : List Prepared) → Every HeldNamed held → Every (PromiseNamed decl) ps
      → Every HeldNamed (fold holds held ps)
  all_held held [] named all = named
  all_held held (p ∷ ps) named all =
      all_held (holds held p) ps (held_named held p.tx p.locks p.own named all.0.client all.0.locks all.0.own) all.1

  pub promises_held : (ps : List Prepared) → Every (PromiseNamed decl) ps → Every HeldNamed (held_by ps)
  promises_held ps all = all_held [] ps tt all

  -- a promise becomes lines

  stamped_named : (stamp : Stamp) (tx : TxId) (lines : List Line) (own : List OwnLine) → tx.client < decl.clients
      → OwnsNamed decl own → LinesNamed decl lines → LinesNamed decl (fold (with_stamped stamp tx) lines own)
  stamped_named stamp tx lines [] low mine named = named
  stamped_named stamp tx lines (o ∷ os) low mine named =
      stamped_named stamp tx (with_stamped stamp tx lines o) os low mine.1
      (every-union (LineNamed decl) lines (stamped stamp tx o ∷ []) named (record { client = low; event = mine.0 }, tt))

  pub lines_named : (stamp : Stamp) (tx : TxId) (own : List OwnLine) → tx.client < decl.clients → OwnsNamed decl own
      → LinesNamed decl (lines_of stamp tx own)
  lines_named stamp tx own low mine = stamped_named stamp tx [] own low mine tt

  -- the promise that is found is of the transaction's client
  pub record FoundNamed (tx : TxId) (p : Prepared) : Type 0 where
    pub client : tx.client < decl.clients
    pub own : OwnsNamed decl p.own

  pub found_named : (ps : List Prepared) (tx : TxId) (p : Prepared) → Every (PromiseNamed decl) ps
      → prepared_of ps tx ≡ Some p
      → FoundNamed tx p
  found_named [] tx p all is = absurd (let never : ⊥ = cc in never)
  found_named (q ∷ qs) tx p all is = by (same_tx q.tx tx) refl is (found_named qs tx p all.1)
    where
      by : (t : Bool) → same_tx q.tx tx ≡ t → cond t (Some q) (prepared_of qs tx) ≡ Some p
          → (prepared_of qs tx ≡ Some p → FoundNamed tx p) → FoundNamed tx p
      by true same found rest =
          let it : q ≡ p = cc in
          let first : PromiseNamed decl q = all.0 in
          let low : q.tx.client < decl.clients = first.client in
          let client : q.tx.client ≡ tx.client = same_client q.tx tx same in
          record {
            client = subst (λ (n : ℕ). n < decl.clients) client low;
            own = subst
                (λ (x : Prepared). OwnsNamed decl x.own) it first.own;
          }
      by false same found rest = rest found
