-- What clients were told of their transactions' ends, and in them, agrees with the commit records.
use Rattle.std.specs.Prelude.{MatchOption, ◌≡◌, ◌≢◌, ◌⊎◌, ℕ, ◌<◌, List}
use Rattle.qc_decl.specs.declared.declaration.Declaration.{Declaration}
use Rattle.qc_entry.specs.declared.record.Commit.{Commit}
use Rattle.qc_list.specs.Vocabulary.{In}
use Rattle.qc_msg.specs.Vocabulary.{Entry, Decided, decision_in}
use Rattle.qc_msg.specs.declared.message.Message.{Message}
use Rattle.qc_msg.specs.declared.message.Outcome.{Outcome}
use Rattle.qc_msg.specs.declared.message.Outcome.TheVariants as outcomes
use Rattle.qc_msg.specs.declared.reply.Reply.TheVariants.{Aborted, Committed, Dropped, Unknown}
use Rattle.qc_msg.specs.declared.reply.AbortCause.{AbortCause}
use Rattle.qc_stamp.specs.declared.stamp.Stamp.{Stamp}
use Rattle.qc_stamp.specs.declared.stamp.TxId.{TxId}
use Rattle.qc_promise.specs.Deals.{deals, endings}

-- a record of the transaction with this stamp
pub record HasCommit (commits : List Commit) (tx : TxId) (stamp : Stamp) : Type 0 where
  pub commit : Commit
  pub listed : In commit commits
  pub named : commit.tx ≡ tx
  pub stamped : commit.stamp ≡ stamp

-- Committed is told with a record's stamp; Aborted and Dropped only of a transaction without one; and of each record
-- its client was told, or that nobody knows: it fell as it wrote the record, which rose with it
pub record AreTold (decl : Declaration) (commits : List Commit) (h : List Entry) : Type 0 where
  pub committed : (client : ℕ) (tx : TxId) (stamp : Stamp) → client < decl.clients
      → In (Committed stamp) (endings decl h client tx) → HasCommit commits tx stamp
  pub aborted : (client : ℕ) (tx : TxId) (why : AbortCause) (c : Commit) → client < decl.clients
      → In (Aborted why) (endings decl h client tx) → In c commits → c.tx ≢ tx
  pub dropped : (client : ℕ) (tx : TxId) (c : Commit) → client < decl.clients
      → In Dropped (endings decl h client tx) → In c commits → c.tx ≢ tx
  pub each : (c : Commit) → In c commits
      → (In (Committed c.stamp) (endings decl h c.tx.client c.tx)) ⊎ (In Unknown (endings decl h c.tx.client c.tx))

-- a record has just the operations that its client was told, from its begin to its end
abbrev pub AreDealt : Declaration → List Commit → List Entry → Type 0
AreDealt decl commits h = (c : Commit) → In c commits → c.ops ≡ deals decl h c.tx

-- a Decision that anybody is sent agrees with the records: for ever, where this holds of each longer history, too

abbrev pub VerdictAgrees : List Commit → TxId → Outcome → Type 0
VerdictAgrees commits tx (outcomes.Committed stamp) = HasCommit commits tx stamp
VerdictAgrees commits tx outcomes.Aborted = (c : Commit) → In c commits → c.tx ≢ tx
VerdictAgrees commits tx outcomes.Active = Unit {0}

abbrev pub DecisionAgrees : List Commit → Message → Type 0
DecisionAgrees commits message =
    MatchOption (decision_in message) (Unit {0}) (λ (v : Decided). VerdictAgrees commits v.tx v.verdict)
