-- A queue's items, and how many it takes without memory.
use Rattle.std.specs.Prelude.{ℕ, ◌-◌, List}
use Rattle.std.specs.VecDeque.{deque_capacity, deque_len}
use Rattle.qc_mailbox.specs.declared.queue.Queue.{Queue}

module _ {T : Type 0} where
  abbrev pub items : Queue T → List T
  items q = q.queue.items

  abbrev pub spare : Queue T → ℕ
  spare q = deque_capacity q.queue - deque_len q.queue
