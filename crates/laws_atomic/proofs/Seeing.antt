-- A client's sight agrees with the account of its deeds: what was seen has a record whose stamp the clock has passed.
use Rattle.std.proofs.Common.{◌≡◌, ◌≢◌, ◌≤◌, ◌<◌, ℕ, true, List, Some, arith}
use Rattle.std.specs.List.{cons_option}
use Rattle.qc_stamp.specs.declared.stamp.Stamp.{Stamp}
use Rattle.qc_stamp.specs.declared.stamp.TxId.{TxId}
use Rattle.qc_list.specs.Vocabulary.{In}
use Rattle.qc_entry.specs.declared.record.Commit.{Commit}
use Rattle.qc_msg.specs.Vocabulary.{Deed}
use Rattle.theory_onecopy.proofs.Orders.{clock_less}
use Rattle.qc_promise.specs.Vocabulary.{Account, HasBefore, Sight, Status, given_up, is_begun}
use Rattle.qc_promise.specs.Status as statuses
use Rattle.laws_turns.specs.Vocabulary.{written_by}
use Rattle.laws_atomic.proofs.Counted.{IsOpen, name_of}

-- a record of the transaction whose stamp's clock is at most this
pub record IsUpTo (commits : List Commit) (tx : TxId) (clock : ℕ) : Type 0 where
  pub commit : Commit
  pub listed : In commit commits
  pub named : commit.tx ≡ tx
  pub low : commit.stamp.clock ≤ clock

pub higher : (commits : List Commit) (tx : TxId) (a b : ℕ) → a ≤ b → IsUpTo commits tx a → IsUpTo commits tx b
higher commits tx a b more u = record {
  commit = u.commit;
  listed = u.listed;
  named = u.named;
  low = (let low : u.commit.stamp.clock ≤ a = u.low in omega arith);
}

pub is_before : (commits : List Commit) (tx : TxId) (clock : ℕ) (stamp : Stamp) → clock < stamp.clock
    → IsUpTo commits tx clock → HasBefore commits tx stamp
is_before commits tx clock stamp less u = record {
  commit = u.commit;
  listed = u.listed;
  named = u.named;
  before = clock_less u.commit.stamp stamp (let low : u.commit.stamp.clock ≤ clock = u.low in omega arith);
}

-- a record was written
abbrev pub HasCommitted : Status → Type 0
HasCommitted statuses.Unborn = ⊥
HasCommitted statuses.Begun = ⊥
HasCommitted (statuses.Committed stamp) = Unit {0}
HasCommitted statuses.Dead = ⊥

pub stays_committed : (st : Status) → HasCommitted st → HasCommitted (given_up st)
stays_committed statuses.Unborn is = is
stays_committed statuses.Begun is = absurd is
stays_committed (statuses.Committed stamp) is = is
stays_committed statuses.Dead is = is

-- the commit records of a client's deeds, the last one first
abbrev pub wrote_at : List Commit → Deed → List Commit
wrote_at wrote d = cons_option (written_by d) wrote

-- among the records of all clients: a client's account and its sight of a transaction, its records, and how far the
-- transaction is
pub record Sees (commits : List Commit) (tx : TxId) (d : Account) (s : Sight) (wrote : List Commit) (st : Status)
    : Type 0 where
  pub begun : s.begun ≡ name_of d.current
  pub waiting : (n : ℕ) → In n s.waiting → IsOpen n d.requests
  pub shown : (t : TxId) → In t s.shown → IsUpTo commits t d.clock
  pub committed : (t : TxId) → In t s.committed → IsUpTo commits t d.clock
  pub seen : is_begun tx s.begun ≡ true → (t : TxId) → In t s.seen → IsUpTo commits t d.clock
  pub before : (r : Commit) → In r wrote → r.tx ≡ tx → (t : TxId) → In t s.seen → t ≢ tx → HasBefore commits t r.stamp
  pub ended : (r : Commit) → In r wrote → r.tx ≡ tx → HasCommitted st
  pub stands : (r : Commit) → In r wrote → r.tx ≡ tx → is_begun tx s.begun ≡ true → d.written ≡ Some r
  pub listed : (r : Commit) → d.written ≡ Some r → In r commits
