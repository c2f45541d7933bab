-- What must be known of the committed transactions' operations, so that they are those of one copy of each object. It
-- knows no sites, locks, epochs, lives or messages.
use Rattle.std.specs.Prelude.{◌≡◌, ◌≢◌, ℕ, ◌<◌, ◌==◌, Bool, IsTrue, ◌⊎◌, if◌then◌else◌, List, [], ◌∷◌, ◌++◌, map}
use Rattle.std.specs.Prelude.{Option, Some, None, IsSome}
use Rattle.qc_table.specs.declared.kind.Kind.{Kind}
use Rattle.qc_cert.specs.Vocabulary.{IsView, picked}
use Rattle.qc_entry.specs.declared.line.Line.{Line}
use Rattle.qc_entry.specs.declared.line.OwnLine.{OwnLine}
use Rattle.qc_decl.specs.declared.declaration.Declaration.{Declaration}
use Rattle.theory_onecopy.specs.Lists.{IsOrdered}
use Rattle.qc_list.specs.Vocabulary.{In}
use Rattle.theory_onecopy.specs.Executed.{Placed, IsAnswered, IsEarlier, IsOwnBefore, depends_at, events_seen, kind_at}
use Rattle.theory_onecopy.specs.Executed.{line_of, own_line}

-- the second is a later operation of the first one's transaction, on the same object
pub record IsNext (a b : Placed) : Type 0 where
  pub stamp : a.stamp ≡ b.stamp
  pub tx : a.tx ≡ b.tx
  pub number : a.operation.number < b.operation.number
  pub object : a.operation.op.object ≡ b.operation.op.object

-- an operation of the list, with a response, that has this own line
pub record HasOwn (all : List Placed) (b : Placed) (o : OwnLine) : Type 0 where
  pub by : Placed
  pub listed : In by all
  pub next : IsNext by b
  pub some : IsSome by.operation.op.resp
  pub is : o ≡ own_line by.operation

-- one with a response on the object, of a transaction with a smaller clock, that has this line
pub record HasLine (all : List Placed) (b : Placed) (l : Line) : Type 0 where
  pub by : Placed
  pub listed : In by all
  pub some : IsSome by.operation.op.resp
  pub object : by.operation.op.object ≡ b.operation.op.object
  pub before : by.stamp.clock < b.stamp.clock
  pub is : l ≡ line_of by

pub record AreFromViews (decl : Declaration) (all : List Placed) : Type 0 where
  pub ordered : IsOrdered IsEarlier all
  pub answered : (b : Placed) → In b all → IsAnswered decl b.operation
  -- the own lines are those of the transaction's earlier operations on the object
  pub own : (b : Placed) (o : OwnLine) → In b all → In o b.operation.own → HasOwn all b o
  pub own_sorted : (b : Placed) → In b all → IsOrdered IsOwnBefore b.operation.own
  pub own_all : (a b : Placed) → In a all → In b all → IsNext a b → IsSome a.operation.op.resp
      → In (own_line a.operation) b.operation.own
  -- lines of views are lines of operations with smaller clocks
  pub smaller : (b : Placed) (l : Line) → In b all → In l b.operation.view → HasLine all b l
  -- the ordering lemma
  pub ordering : (a b : Placed) → In a all → In b all → a.stamp ≢ b.stamp
      → a.operation.op.object ≡ b.operation.op.object → IsSome a.operation.op.resp
      → IsTrue (depends_at decl b.operation.op.object b.operation.op.inv a.operation.event)
      → In (line_of a) b.operation.view ⊎ (b.stamp.clock < a.stamp.clock)
  -- closed logs: with a line, what it was answered from
  pub closed : (a b : Placed) (l : Line) → In a all → In b all → In (line_of a) b.operation.view
      → In l a.operation.view → In l b.operation.view
  -- and the earlier own lines on which it depends
  pub closed_own : (c a b : Placed) → In c all → In a all → In b all → In (line_of a) b.operation.view → IsNext c a
      → IsSome c.operation.op.resp
      → IsTrue (depends_at decl a.operation.op.object a.operation.op.inv c.operation.event)
      → In (line_of c) b.operation.view
  -- a transaction's view of an object only grows
  pub grows : (a b : Placed) (l : Line) → In a all → In b all → IsNext a b → In l a.operation.view
      → In l b.operation.view

-- the line of an operation that has a response
abbrev pub lines_of : Option ℕ → Line → List Line
lines_of None l = []
lines_of (Some resp) l = l ∷ []

-- the lines of the operations on an object, in their order
abbrev pub lines_on : ℕ → List Placed → List Line
lines_on object [] = []
lines_on object (b ∷ bs) =
    (if b.operation.op.object == object then lines_of b.operation.op.resp (line_of b) else []) ++ lines_on object bs

-- their events, a history of the object
abbrev pub history_of : ℕ → List Placed → List ℕ
history_of object bs = map (λ (l : Line). l.event) (lines_on object bs)

-- what an operation was answered from is what a view, in the sense of certificates, picks from the history before it
pub record IsFromView (decl : Declaration) (before : List Placed) (b : Placed) : Type 0 where
  pub kind : Kind
  pub typed : kind_at decl b.operation.op.object ≡ Some kind
  pub set : ℕ → Bool
  pub view : IsView kind (history_of b.operation.op.object before) b.operation.op.inv set
  pub picks : picked set (history_of b.operation.op.object before) ≡ events_seen b.operation
