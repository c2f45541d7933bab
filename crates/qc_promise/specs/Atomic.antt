-- Hybrid atomicity (Weihl 1989, Herlihy 1986): transactions are serializable in the order of their commit stamps, with
-- the replies that their clients got.
use Rattle.std.specs.Prelude.{◌≡◌, ◌≢◌, List}
use Rattle.std.specs.declared.cmp.Ordering.TheVariants.{Less}
use Rattle.qc_decl.specs.declared.declaration.Declaration.{Declaration}
use Rattle.qc_entry.specs.declared.record.Commit.{Commit}
use Rattle.qc_list.specs.Vocabulary.{In}
use Rattle.qc_msg.specs.Vocabulary.{Entry}
use Rattle.theory_onecopy.specs.Vocabulary.{AreApart, OneCopy}
use Rattle.qc_promise.specs.Committed.{committed}
use Rattle.qc_promise.specs.Seen.{seen}
use Rattle.qc_promise.specs.Told.{AreDealt, AreTold}
use Rattle.qc_stamp.specs.Vocabulary.{stamp_cmp}
use Rattle.qc_stamp.specs.declared.stamp.Stamp.{Stamp}
use Rattle.qc_stamp.specs.declared.stamp.TxId.{TxId}

-- a record of the transaction, with a stamp before this one
pub record HasBefore (commits : List Commit) (tx : TxId) (stamp : Stamp) : Type 0 where
  pub commit : Commit
  pub listed : In commit commits
  pub named : commit.tx ≡ tx
  pub before : stamp_cmp commit.stamp stamp ≡ Less

-- each transaction comes after all that its client had seen
abbrev pub IsAfterSeen : Declaration → List Commit → List Entry → Type 0
IsAfterSeen decl commits h = (c : Commit) (tx : TxId) → In c commits → In tx (seen decl h c.tx) → tx ≢ c.tx
    → HasBefore commits tx c.stamp

pub record Atomic (decl : Declaration) (h : List Entry) : Type 0 where
  -- each transaction once, at a stamp of its own
  pub apart : AreApart (committed decl h)
  -- in the order of the stamps the operations are those of one copy
  pub one_copy : OneCopy decl (committed decl h)
  -- with just the replies that the clients got
  pub dealt : AreDealt decl (committed decl h) h
  -- each after all that its client had seen
  pub seen : IsAfterSeen decl (committed decl h) h
  -- and their clients know which of them committed
  pub told : AreTold decl (committed decl h) h
