-- The operations of transactions, with what their clients answered them from.
use Rattle.std.specs.Prelude.{◌≡◌, ℕ, ◌<◌, Bool, false, true, ◌⊎◌, List, map, ◌++◌, Option, Some, None, slice_get}
use Rattle.std.specs.Prelude.{option_and_then}
use Rattle.std.specs.Option.{option_map_or}
use Rattle.std.specs.declared.cmp.Ordering.TheVariants.{Less}
use Rattle.qc_stamp.specs.declared.stamp.Stamp.{Stamp}
use Rattle.qc_stamp.specs.declared.stamp.TxId.{TxId}
use Rattle.qc_stamp.specs.Vocabulary.{stamp_cmp}
use Rattle.qc_entry.specs.declared.line.Line.{Line}
use Rattle.qc_entry.specs.declared.line.Op.{Op}
use Rattle.qc_entry.specs.declared.line.OwnLine.{OwnLine}
use Rattle.qc_entry.specs.Vocabulary.{line_cmp}
use Rattle.qc_table.specs.declared.kind.Kind.{Kind}
use Rattle.qc_table.specs.Vocabulary.{depends, event, event_number, events_of}
use Rattle.qc_cert.specs.Vocabulary.{allows}
use Rattle.qc_decl.specs.declared.declaration.Declaration.{Declaration}
pub use Rattle.qc_decl.specs.Lookup.{kind_at}
use Rattle.theory_onecopy.specs.Lists.{IsOrdered}

-- whether an invocation of the object depends on the event of this number
abbrev pub depends_at : Declaration → ℕ → ℕ → ℕ → Bool
depends_at decl object inv number =
    option_map_or (λ (kind : Kind). depends kind.relation inv number) (kind_at decl object) false

-- an operation, its number in its transaction, its event's number where it has a response; the log that it was
-- answered from, of other transactions' lines, and the lines that its own transaction had on the object
pub record Executed : Type 0 where
  pub number : ℕ
  pub op : Op
  pub event : ℕ
  pub view : List Line
  pub own : List OwnLine

-- an operation of the transaction that has this stamp
pub record Placed : Type 0 where
  pub stamp : Stamp
  pub tx : TxId
  pub operation : Executed

abbrev pub own_line : Executed → OwnLine
own_line d = record { op = d.number; object = d.op.object; event = d.event }

-- an own line as the line of a committed transaction
abbrev pub committed_line : Stamp → TxId → OwnLine → Line
committed_line stamp tx o = record { stamp = stamp; tx = tx; op = o.op; object = o.object; event = o.event }

abbrev pub line_of : Placed → Line
line_of p = committed_line p.stamp p.tx (own_line p.operation)

-- by stamp, and in one transaction by number
abbrev pub IsEarlier : Placed → Placed → Type 0
IsEarlier a b = (stamp_cmp a.stamp b.stamp ≡ Less)
    ⊎ ((a.stamp ≡ b.stamp) × (a.tx ≡ b.tx) × (a.operation.number < b.operation.number))

abbrev pub IsLineBefore : Line → Line → Type 0
IsLineBefore l m = line_cmp l m ≡ Less

-- own lines by operation
abbrev pub IsOwnBefore : OwnLine → OwnLine → Type 0
IsOwnBefore o p = o.op < p.op

-- what may be told after events: a response that they allow, or none where they allow none
abbrev pub Replies : Kind → List ℕ → ℕ → Option ℕ → Type 0
Replies kind history inv None = (resp : ℕ) → allows kind history inv resp ≡ false
Replies kind history inv (Some resp) = allows kind history inv resp ≡ true

-- the events that an operation was answered from
abbrev pub events_seen : Executed → List ℕ
events_seen d = map (λ (l : Line). l.event) d.view ++ map (λ (o : OwnLine). o.event) d.own

-- its object is declared, it has its event's number, and its reply is one that its view and its own lines allow
pub record IsAnswered (decl : Declaration) (d : Executed) : Type 0 where
  pub kind : Kind
  pub typed : kind_at decl d.op.object ≡ Some kind
  pub numbered : (resp : ℕ) → d.op.resp ≡ Some resp
      → event_number (events_of kind.table.rows) (event d.op.inv resp) ≡ Some d.event
  pub replies : Replies kind (events_seen d) d.op.inv d.op.resp
  pub sorted : IsOrdered IsLineBefore d.view
