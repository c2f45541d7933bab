-- The epochs that a line belongs to: the one whose transaction wrote it, and each that began with it.
use Rattle.std.specs.Prelude.{◌≡◌, ◌≢◌, ◌⊎◌, ℕ, ◌<◌, List}
use Rattle.qc_stamp.specs.declared.stamp.TxId.{TxId}
use Rattle.qc_entry.specs.declared.line.Line.{Line}
use Rattle.qc_entry.specs.declared.line.OwnLine.{OwnLine}
use Rattle.qc_decl.specs.declared.declaration.Declaration.{Declaration}
use Rattle.qc_decl.specs.Vocabulary.{append_need_of}
use Rattle.qc_list.specs.Vocabulary.{In}
use Rattle.theory_machine.specs.Vocabulary.{Decision, NotBegun, State, Status}

-- a line of a begun transaction of epoch k, whose event has a final threshold there
pub record IsWrittenIn (decl : Declaration) (status : TxId → Status) (epoch : TxId → ℕ) (k : ℕ)
    (l : Line) : Type 0 where
  pub begun : status l.tx ≢ NotBegun
  pub writer : epoch l.tx ≡ k
  pub weighs : 0 < append_need_of decl k l.object l.event

-- an own line of such a transaction and event
pub record IsOwnWrittenIn (decl : Declaration) (status : TxId → Status) (epoch : TxId → ℕ) (k : ℕ) (tx : TxId)
    (o : OwnLine) : Type 0 where
  pub begun : status tx ≢ NotBegun
  pub writer : epoch tx ≡ k
  pub weighs : 0 < append_need_of decl k o.object o.event

-- a line of the log of a decision of epoch k: of what the epoch began with
pub record IsInherited (decided : List Decision) (k : ℕ) (l : Line) : Type 0 where
  pub decision : Decision
  pub stands : In decision decided
  pub epoch : decision.epoch ≡ k
  pub merged : In l decision.log

-- a line of epoch k: written in it, or inherited by it
abbrev pub BelongsTo : Declaration → (TxId → Status) → (TxId → ℕ) → List Decision → ℕ → Line → Type 0
BelongsTo decl status epoch decided k l = IsWrittenIn decl status epoch k l ⊎ IsInherited decided k l

-- the same, in a state of the machine
abbrev pub BelongsNow : Declaration → State → ℕ → Line → Type 0
BelongsNow decl now k l = BelongsTo decl now.status now.epoch now.decided k l
