-- Who is in the way of a read, or of own lines: other transactions that hold what conflicts (Herlihy 1986).
use Rattle.std.specs.Prelude.{◌≡◌, ℕ, ◌==◌, ◌&&◌, if◌then◌else◌, List, [], fold, filter, map, Option, Some, None}
use Rattle.std.specs.List.{flat_map}
use Rattle.std.specs.Ordering.{nat_cmp, on, then_cmp}
use Rattle.std.specs.declared.cmp.Ordering.{Ordering}
use Rattle.qc_stamp.specs.declared.stamp.TxId.{TxId}
use Rattle.qc_stamp.specs.Vocabulary.{tx_cmp}
use Rattle.qc_entry.specs.declared.line.OwnLine.{OwnLine}
use Rattle.qc_entry.specs.declared.line.ReadLock.{ReadLock}
use Rattle.qc_list.specs.Vocabulary.{by_order}
use Rattle.qc_table.specs.Vocabulary.{depends}
use Rattle.qc_lock.specs.declared.clash.Clash.{Clash}
use Rattle.qc_lock.specs.declared.clash.LockFault.{LockFault}
use Rattle.qc_lock.specs.declared.clash.LockFault.TheVariants.{Conflict, OutOfMemory}
use Rattle.qc_lock.specs.declared.held.Held.{Held}
use Rattle.qc_lock.specs.Held.{same_tx}

-- clashes by holder, then invocation, then event
abbrev pub clash_cmp : Clash → Clash → Ordering
clash_cmp = then_cmp (on (λ c. c.holder) tx_cmp) (then_cmp (on (λ c. c.inv) nat_cmp) (on (λ c. c.event) nat_cmp))

-- the smaller of the best clash so far and one more
abbrev pub smaller : Option Clash → Clash → Option Clash
smaller None c = Some c
smaller (Some best) c = Some (by_order (clash_cmp c best) c best best)

-- the smallest of some clashes
abbrev pub smallest : List Clash → Option Clash
smallest clashes = fold smaller None clashes

-- the own lines of another transaction's entry that an invocation of an object depends on
abbrev pub lines_in_way : List ℕ → TxId → ℕ → ℕ → Held → List Clash
lines_in_way relation tx object inv h =
    if same_tx h.tx tx
    then []
    else map (λ (l : OwnLine). record { holder = h.tx; inv = inv; event = l.event })
    (filter (λ (l : OwnLine). (l.object == object) && depends relation inv l.event) h.own)

-- the read locks of another transaction's entry whose invocation depends on the event of an own line
abbrev pub locks_in_way : List ℕ → TxId → OwnLine → Held → List Clash
locks_in_way relation tx line h =
    if same_tx h.tx tx
    then []
    else map (λ (l : ReadLock). record { holder = h.tx; inv = l.inv; event = line.event })
    (filter (λ (l : ReadLock). (l.object == line.object) && depends relation l.inv line.event) h.locks)

-- the clashes of a read, and of own lines

abbrev pub read_clashes : List ℕ → List Held → TxId → ℕ → ℕ → List Clash
read_clashes relation held tx object inv = flat_map (lines_in_way relation tx object inv) held

abbrev pub append_clashes : List ℕ → List Held → TxId → List OwnLine → List Clash
append_clashes relation held tx own = flat_map (λ (line : OwnLine). flat_map (locks_in_way relation tx line) held) own

-- the smallest clash of a read, and of own lines; none where nobody is in the way

abbrev pub read_clash : List ℕ → List Held → TxId → ℕ → ℕ → Option Clash
read_clash relation held tx object inv = smallest (read_clashes relation held tx object inv)

abbrev pub append_clash : List ℕ → List Held → TxId → List OwnLine → Option Clash
append_clash relation held tx own = smallest (append_clashes relation held tx own)

-- the fault that tells this clash; want of memory tells that nobody is in the way
abbrev pub IsTold : LockFault → Option Clash → Type 0
IsTold (Conflict c) clash = clash ≡ Some c
IsTold OutOfMemory clash = clash ≡ None
