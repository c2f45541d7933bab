-- What happens to whom nobody asks anything.
use Rattle.std.specs.Prelude.{Option, Some, None}
use Rattle.qc_msg.specs.declared.record.Record.{Record}
use Rattle.qc_msg.specs.Vocabulary.{Deed, Falls, Rises, Sends, Takes, Tells, Writes}

-- nothing was being written
abbrev pub IsIdle : Option Record → Type 0
IsIdle None = Unit {0}
IsIdle (Some pending) = ⊥

-- a fall in which nothing was being written, and nothing else
abbrev pub IsFall : Deed → Type 0
IsFall (Takes given) = ⊥
IsFall (Writes written) = ⊥
IsFall (Sends number to message) = ⊥
IsFall (Tells reply) = ⊥
IsFall (Falls cause pending) = IsIdle pending
IsFall (Rises records) = ⊥
