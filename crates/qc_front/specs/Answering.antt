-- The view of an object, the event that it answers an invocation with, and what an operation leaves (Herlihy 1986).
use Rattle.std.specs.Prelude.{ℕ, ◌+◌, List, [], ◌∷◌, ◌++◌, length, slice_get, slice_set, Option, Some, None, option_map}
use Rattle.std.specs.Prelude.{option_and_then, unwrap_or}
use Rattle.std.specs.Option.{option_map_or}
use Rattle.qc_entry.specs.declared.line.Line.{Line}
use Rattle.qc_entry.specs.declared.line.Op.{Op}
use Rattle.qc_entry.specs.declared.line.OwnLine.{OwnLine}
use Rattle.qc_decl.specs.declared.declaration.Declaration.{Declaration}
use Rattle.qc_decl.specs.Vocabulary.{table_at}
use Rattle.qc_table.specs.declared.row.Event.{Event}
use Rattle.qc_table.specs.Vocabulary.{Rules, events_of}
use Rattle.qc_view.specs.declared.view.View.{View}
use Rattle.qc_view.specs.Vocabulary.{answer_in, with_log, with_own}
use Rattle.qc_front.specs.declared.transaction.Transaction.{Transaction}
pub use Rattle.qc_decl.specs.Vocabulary.{resp_of}

-- the event with the invocation's first response that is legal after the object's view
abbrev pub answer_of : Declaration → Transaction → ℕ → ℕ → Option ℕ
answer_of decl t object inv =
    option_and_then
    (λ (rules : Rules). option_and_then (λ (v : View). answer_in rules v inv) (slice_get t.views object))
    (table_at decl object)

-- the lines of the object's view
abbrev pub view_log : Transaction → ℕ → List Line
view_log t object = option_map_or (λ (v : View). v.log) (slice_get t.views object) []

-- the object's view is another one
abbrev pub with_view : Transaction → ℕ → Option View → Transaction
with_view t object None = t
with_view t object (Some v) = record t { views = slice_set t.views object v }

-- a log that was granted to a Read of the object joins its view
abbrev pub with_granted : Transaction → ℕ → List Line → Transaction
with_granted t object log = with_view t object (option_map (λ (v : View). with_log v log) (slice_get t.views object))

abbrev pub op_of : ℕ → ℕ → Option ℕ → Op
op_of object inv resp = record { object = object; inv = inv; resp = resp }

abbrev pub with_op : Transaction → Op → Transaction
with_op t op = record t { begun = record t.begun { ops = t.begun.ops ++ op ∷ [] } }

-- the own line of the next operation: operations are numbered from 1, those without a response too
abbrev pub next_own : Transaction → ℕ → ℕ → OwnLine
next_own t object event = record { op = length t.begun.ops + 1; object = object; event = event }

-- one operation more, with its event: its own line, which the object's view has too
abbrev pub with_event : Transaction → ℕ → ℕ → ℕ → ℕ → Transaction
with_event t object inv event resp =
    with_op
    (with_view (record t { own = t.own ++ next_own t object event ∷ [] }) object
    (option_map (λ (v : View). with_own v event) (slice_get t.views object)))
    (op_of object inv (Some resp))
