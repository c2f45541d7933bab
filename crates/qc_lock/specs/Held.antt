-- What unfinished transactions hold: an entry for each, in the order in which they came to hold something.
use Rattle.std.specs.Prelude.{Bool, ◌==◌, ◌&&◌, if◌then◌else◌, Option, is_some, unwrap_or, List, [], length, fold}
use Rattle.std.specs.List.{list_any}
use Rattle.std.specs.Ordering.{nat_cmp, on, then_cmp}
use Rattle.std.specs.declared.cmp.Ordering.{Ordering}
use Rattle.qc_stamp.specs.declared.stamp.TxId.{TxId}
use Rattle.qc_entry.specs.declared.line.OwnLine.{OwnLine}
use Rattle.qc_entry.specs.declared.line.ReadLock.{ReadLock}
pub use Rattle.qc_list.specs.Order.{inserted}
pub use Rattle.qc_stamp.specs.Order.{same_tx}
use Rattle.qc_lock.specs.TransactionMap.{one_of, put_one, without_one}
use Rattle.qc_lock.specs.declared.held.Held.{Held}

-- whether two locks are the same
abbrev pub same_lock : ReadLock → ReadLock → Bool
same_lock a b = (a.object == b.object) && (a.inv == b.inv)

-- locks by object, then invocation
abbrev pub lock_cmp : ReadLock → ReadLock → Ordering
lock_cmp = then_cmp (on (λ l. l.object) nat_cmp) (on (λ l. l.inv) nat_cmp)

-- own lines by operation
abbrev pub own_cmp : OwnLine → OwnLine → Ordering
own_cmp = on (λ o. o.op) nat_cmp

abbrev pub with_lock : List ReadLock → ReadLock → List ReadLock
with_lock locks lock = inserted lock_cmp locks lock

abbrev pub with_own : List OwnLine → OwnLine → List OwnLine
with_own own line = inserted own_cmp own line

-- locks, and own lines, with others one after another

abbrev pub with_locks : List ReadLock → List ReadLock → List ReadLock
with_locks locks others = fold with_lock locks others

abbrev pub with_owns : List OwnLine → List OwnLine → List OwnLine
with_owns own others = fold with_own own others

-- the entry of a transaction, if it holds something
abbrev pub entry_of : List Held → TxId → Option Held
entry_of held tx = one_of (λ h. h.tx) held tx

-- whether a transaction holds something
abbrev pub is_held : List Held → TxId → Bool
is_held held tx = is_some (entry_of held tx)

-- what a transaction holds
abbrev pub held_of : List Held → TxId → Held
held_of held tx = unwrap_or (entry_of held tx) (record { tx = tx; locks = []; own = [] })

-- whether a transaction holds a lock
abbrev pub has_lock : List Held → TxId → ReadLock → Bool
has_lock held tx lock = list_any (λ l. same_lock l lock) (held_of held tx).locks

-- the entry takes the place of its transaction's, or comes last where there is none
abbrev pub with_entry : List Held → Held → List Held
with_entry held entry = put_one (λ h. h.tx) held entry

-- the transaction holds these locks and own lines too, if there are any
abbrev pub with_held : List Held → TxId → List ReadLock → List OwnLine → List Held
with_held held tx locks own =
    let entry : Held = held_of held tx in
    if (length locks == 0) && (length own == 0)
    then held
    else with_entry held (record { tx = tx; locks = with_locks entry.locks locks; own = with_owns entry.own own })

-- the transaction holds nothing
abbrev pub without_held : List Held → TxId → List Held
without_held held tx = without_one (λ h. h.tx) held tx
