-- What is held and promised in form stays so, and becomes such lines.
use Rattle.std.proofs.Common.{◌≡◌, ◌==◌, ◌&&◌, Bool, true, false, cond, List, [], ◌∷◌, fold, length, Some, refl, subst}
use Rattle.std.specs.Prelude.{unwrap_or}
use Rattle.std.specs.List.{AllByRecursion as Every}
use Rattle.qc_entry.specs.declared.line.Line.{Line}
use Rattle.qc_entry.specs.declared.line.OwnLine.{OwnLine}
use Rattle.qc_entry.specs.declared.line.ReadLock.{ReadLock}
use Rattle.qc_entry.specs.declared.record.Prepared.{Prepared}
use Rattle.qc_entry.proofs.Union.{every-union}
use Rattle.qc_lock.specs.declared.held.Held.{Held}
use Rattle.qc_lock.specs.Vocabulary.{entry_of, held_of, lock_cmp, own_cmp, with_entry, with_held, with_locks, with_owns}
use Rattle.qc_record.specs.Vocabulary.{IsLock, IsOwn, IsTx}
use Rattle.qc_site.specs.Vocabulary.{held_by, holds, lines_of, prepared_of, stamped, with_stamped}
use Rattle.qc_stamp.specs.declared.stamp.Stamp.{Stamp}
use Rattle.qc_stamp.specs.declared.stamp.TxId.{TxId}
use Rattle.qc_stamp.specs.Vocabulary.{same_tx}
use Rattle.qc_stamp.proofs.Orders.{same_tx_is}
use Rattle.laws_bounds.proofs.HeldNamed.{every-all_inserted}
use Rattle.laws_bounds.proofs.Forms.{LineInForm, PromiseInForm, StampInForm}

pub record HeldInForm (h : Held) : Type 0 where
  pub locks : Every IsLock h.locks
  pub own : Every IsOwn h.own

-- what is held

pub has_form : (held : List Held) (tx : TxId) → Every HeldInForm held → HeldInForm (held_of held tx)
has_form [] tx all = record { locks = tt; own = tt }
has_form (h ∷ hs) tx all = by (same_tx h.tx tx) (has_form hs tx all.1)
  where
    by : (t : Bool) → HeldInForm (held_of hs tx)
        → HeldInForm (unwrap_or (cond t (Some h) (entry_of hs tx)) (record { tx = tx; locks = []; own = [] }))
    by true rest = all.0
    by false rest = rest

entry_form : (held : List Held) (e : Held) → Every HeldInForm held → HeldInForm e → Every HeldInForm (with_entry held e)
entry_form [] e all here = (here, tt)
entry_form (h ∷ hs) e all here = by (same_tx h.tx e.tx) (entry_form hs e all.1 here)
  where
    by : (t : Bool) → Every HeldInForm (with_entry hs e) → Every HeldInForm (cond t (e ∷ hs) (h ∷ with_entry hs e))
    by true rest = (here, all.1)
    by false rest = (all.0, rest)

pub held_form : (held : List Held) (tx : TxId) (locks : List ReadLock) (own : List OwnLine) → Every HeldInForm held
    → Every IsLock locks → Every IsOwn own → Every HeldInForm (with_held held tx locks own)
held_form held tx locks own all here mine = by ((length locks == 0) && (length own == 0))
  where
    entry : Held
    entry =
        record {
          tx = tx;
          locks = with_locks (held_of held tx).locks locks;
          own = with_owns (held_of held tx).own own;
        }

    form : HeldInForm entry
    form = record {
      locks = every-all_inserted IsLock lock_cmp (held_of held tx).locks locks (has_form held tx all).locks here;
      own = every-all_inserted IsOwn own_cmp (held_of held tx).own own (has_form held tx all).own mine;
    }

    by : (t : Bool) → Every HeldInForm (cond t held (with_entry held entry))
    by true = all
    by false = entry_form held entry all form

-- what promises hold

all_held : (held : List Held) (ps : List Prepared) → Every HeldInForm held → Every PromiseInForm ps
    → Every HeldInForm (fold holds held ps)
all_held held [] form all = form
all_held held (p ∷ ps) form all =
    all_held (holds held p) ps (held_form held p.tx p.locks p.own form all.0.locks all.0.own) all.1

pub promises_held : (ps : List Prepared) → Every PromiseInForm ps → Every HeldInForm (held_by ps)
promises_held ps all = all_held [] ps tt all

-- a promise becomes lines

stamped_form : (stamp : Stamp) (tx : TxId) (lines : List Line) (own : List OwnLine) → StampInForm stamp tx → IsTx tx
    → Every IsOwn own → Every LineInForm lines → Every LineInForm (fold (with_stamped stamp tx) lines own)
stamped_form stamp tx lines [] its of mine all = all
stamped_form stamp tx lines (o ∷ os) its of mine all =
    stamped_form stamp tx (with_stamped stamp tx lines o) os its of mine.1
    (every-union LineInForm lines (stamped stamp tx o ∷ []) all
    (record { stamp = its; tx = of; op = mine.0.op; object = mine.0.object; event = mine.0.event }, tt))

pub lines_form : (stamp : Stamp) (tx : TxId) (own : List OwnLine) → StampInForm stamp tx → IsTx tx → Every IsOwn own
    → Every LineInForm (lines_of stamp tx own)
lines_form stamp tx own its of mine = stamped_form stamp tx [] own its of mine tt

-- the promise that is found is of the transaction
pub record FoundInForm (tx : TxId) (p : Prepared) : Type 0 where
  pub tx_is : IsTx tx
  pub own : Every IsOwn p.own

pub found_form : (ps : List Prepared) (tx : TxId) (p : Prepared) → Every PromiseInForm ps → prepared_of ps tx ≡ Some p
    → FoundInForm tx p
found_form [] tx p all is = absurd (let never : ⊥ = cc in never)
found_form (q ∷ qs) tx p all is = by (same_tx q.tx tx) refl is (found_form qs tx p all.1)
  where
    by : (t : Bool) → same_tx q.tx tx ≡ t → cond t (Some q) (prepared_of qs tx) ≡ Some p
        → (prepared_of qs tx ≡ Some p → FoundInForm tx p) → FoundInForm tx p
    by true same found rest =
        let it : q ≡ p = cc in
        record {
          tx_is = subst IsTx (same_tx_is q.tx tx same) all.0.tx;
          own = subst (λ (x : Prepared). Every IsOwn x.own) it all.0.own;
        }
    by false same found rest = rest found
