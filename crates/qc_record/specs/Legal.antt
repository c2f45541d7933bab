-- Which records have a spelling, in words: numbers in their ranges, lists no longer than their counts allow, and locks,
-- own lines and lines each above the one before.
use Rattle.std.specs.Prelude.{◌≡◌, ◌⊎◌, ℕ, ◌-◌, ◌^◌, ◌<◌, ◌≤◌, List, [], ◌∷◌, length, Option, Some, None}
use Rattle.std.specs.List.{AllByRecursion as Every}
use Rattle.qc_entry.specs.Vocabulary.{IsAscending}
use Rattle.qc_entry.specs.declared.line.Line.{Line}
use Rattle.qc_entry.specs.declared.line.Op.{Op}
use Rattle.qc_entry.specs.declared.line.OwnLine.{OwnLine}
use Rattle.qc_entry.specs.declared.line.ReadLock.{ReadLock}
use Rattle.qc_entry.specs.declared.record.Commit.{Commit}
use Rattle.qc_entry.specs.declared.record.Prepared.{Prepared}
use Rattle.qc_msg.specs.declared.record.Record.{Record}
use Rattle.qc_msg.specs.declared.record.Record.TheVariants as records
use Rattle.qc_stamp.specs.declared.stamp.TxId.{TxId}

abbrev pub IsWithin : ℕ → ℕ → ℕ → Type 0
IsWithin low high n = (low ≤ n) × (n ≤ high)

-- each item is above the one before it

abbrev pub IsAbove : {A : Type 0} → (A → A → Type 0) → Option A → A → Type 0
IsAbove below None x = Unit {0}
IsAbove below (Some before) x = below before x

abbrev pub Rises : {A : Type 0} → (A → A → Type 0) → Option A → List A → Type 0
Rises below before [] = Unit {0}
Rises below before (x ∷ xs) = IsAbove below before x × Rises below (Some x) xs

-- Parts.

pub record IsTx (tx : TxId) : Type 0 where
  pub client : tx.client ≤ 15
  pub life : IsWithin 1 (2 ^ 32 - 1) tx.life
  pub number : IsWithin 1 (2 ^ 32 - 1) tx.number

pub record IsLock (lock : ReadLock) : Type 0 where
  pub object : lock.object ≤ 15
  pub inv : lock.inv ≤ 31

-- by object and invocation
abbrev pub IsLockBelow : ReadLock → ReadLock → Type 0
IsLockBelow a b = (a.object < b.object) ⊎ ((a.object ≡ b.object) × (a.inv < b.inv))

pub record IsOwn (own : OwnLine) : Type 0 where
  pub op : IsWithin 1 16 own.op
  pub object : own.object ≤ 15
  pub event : own.event ≤ 63

-- by operation
abbrev pub IsOwnBelow : OwnLine → OwnLine → Type 0
IsOwnBelow a b = a.op < b.op

pub record IsLine (line : Line) : Type 0 where
  pub stamp : line.stamp.client ≡ line.tx.client
  pub clock : IsWithin 1 (2 ^ 62) line.stamp.clock
  pub tx : IsTx line.tx
  pub op : IsWithin 1 16 line.op
  pub object : line.object ≤ 15
  pub event : line.event ≤ 63

abbrev pub IsResponse : Option ℕ → Type 0
IsResponse None = Unit {0}
IsResponse (Some resp) = resp ≤ 31

pub record IsOp (op : Op) : Type 0 where
  pub object : op.object ≤ 15
  pub inv : op.inv ≤ 31
  pub resp : IsResponse op.resp

-- Lists.

pub record AreLocks (locks : List ReadLock) : Type 0 where
  pub few : length locks ≤ 2 ^ 16 - 1
  pub each_is : Every IsLock locks
  pub rise : Rises IsLockBelow None locks

pub record AreOwns (owns : List OwnLine) : Type 0 where
  pub few : length owns ≤ 16
  pub each_is : Every IsOwn owns
  pub rise : Rises IsOwnBelow None owns

pub record AreLines (lines : List Line) : Type 0 where
  pub few : length lines ≤ 2 ^ 32 - 1
  pub each_is : Every IsLine lines
  pub rise : IsAscending lines

pub record AreOps (ops : List Op) : Type 0 where
  pub few : length ops ≤ 16
  pub each_is : Every IsOp ops

-- Records.

pub record IsPrepared (p : Prepared) : Type 0 where
  pub tx : IsTx p.tx
  pub epoch : IsWithin 1 8 p.epoch
  pub locks : AreLocks p.locks
  pub own : AreOwns p.own
  pub lines : AreLines p.lines

-- an epoch's begin
pub record IsStart (epoch clock : ℕ) (lines : List Line) : Type 0 where
  pub epoch_is : IsWithin 1 8 epoch
  pub clock_is : clock ≤ 2 ^ 62
  pub lines_are : AreLines lines

pub record IsCommit (c : Commit) : Type 0 where
  pub stamp : c.stamp.client ≡ c.tx.client
  pub tx : IsTx c.tx
  pub clock : IsWithin 1 (2 ^ 62) c.stamp.clock
  pub ops : AreOps c.ops

abbrev pub IsInForm : Record → Type 0
IsInForm records.Life = Unit {0}
IsInForm (records.Prepare p) = IsPrepared p
IsInForm (records.Done tx clock) = IsTx tx × IsWithin 1 (2 ^ 62) clock
IsInForm (records.Close epoch) = IsWithin 1 8 epoch
IsInForm (records.Install start) = IsStart start.epoch start.clock start.lines
IsInForm (records.Commit c) = IsCommit c
IsInForm (records.Decide start) = IsStart start.epoch start.clock start.lines
