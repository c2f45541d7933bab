-- What a client was told of the ends of its transactions agrees with its records: the laws, one by one.
use Rattle.std.proofs.Common.{◌≡◌, ◌≢◌, ℕ, false, List, [], sym, subst}
use Rattle.qc_list.specs.Vocabulary.{In}
use Rattle.qc_decl.specs.declared.declaration.Declaration.{Declaration}
use Rattle.qc_entry.specs.declared.record.Commit.{Commit as CommitRecord}
use Rattle.qc_core.specs.Vocabulary.{AreGivenBack, journal_after}
use Rattle.qc_msg.specs.declared.record.Record.TheVariants.{Commit}
use Rattle.qc_msg.specs.declared.reply.Reply.{Reply}
use Rattle.qc_msg.specs.declared.reply.Reply.TheVariants as replies
use Rattle.qc_msg.specs.declared.reply.AbortCause.{AbortCause}
use Rattle.qc_msg.specs.Vocabulary.{Deed}
use Rattle.qc_stamp.specs.declared.stamp.Stamp.{Stamp}
use Rattle.qc_stamp.specs.declared.stamp.TxId.{TxId}
use Rattle.qc_promise.specs.Vocabulary.{AreByTurns, AreRepliesDue, dealing_in, no_journal}
use Rattle.laws_reach.specs.Vocabulary.{AreCommitsTold, HasRecord, IsToldOf}
use Rattle.laws_reach.proofs.EndDeeds.{other_end, recorded_own, recorded_told, told_committed, told_own}

-- any record of a transaction
abbrev record_of : TxId → CommitRecord
record_of tx = record { stamp = record { clock = 0; client = 0 }; tx = tx; ops = [] }

module _ (decl : Declaration) (client : ℕ) (ds : List Deed) (turns : AreByTurns false ds)
    (its : AreRepliesDue decl client ds) (back : AreGivenBack no_journal ds) (told : AreCommitsTold ds) where
  pub ends_own : (tx : TxId) (r : Reply) → In r (dealing_in ds tx).ends → tx.client ≡ client
  ends_own tx r among = told_own decl (record_of tx) client ds turns its back told r among

  pub records_own : (c : CommitRecord) → In (Commit c) (journal_after ds).records → c.tx.client ≡ client
  records_own c among = recorded_own decl c client ds turns its back told among

  pub ends_committed : (tx : TxId) (stamp : Stamp) → In (replies.Committed stamp) (dealing_in ds tx).ends
      → HasRecord (journal_after ds).records tx stamp
  ends_committed tx stamp among = told_committed decl (record_of tx) client ds turns its back told stamp among

  ends_other : (tx : TxId) (r : Reply) (c : CommitRecord) → ((stamp : Stamp) → r ≡ replies.Committed stamp → ⊥)
      → (r ≡ replies.Unknown → ⊥) → In r (dealing_in ds tx).ends → In (Commit c) (journal_after ds).records → c.tx ≢ tx
  ends_other tx r c not never among recorded same =
      other_end decl c client ds turns its back told r not never
      (subst (λ (t : TxId). In r (dealing_in ds t).ends) (sym same) among) recorded

  pub ends_aborted : (tx : TxId) (why : AbortCause) (c : CommitRecord)
      → In (replies.Aborted why) (dealing_in ds tx).ends → In (Commit c) (journal_after ds).records → c.tx ≢ tx
  ends_aborted tx why c among recorded = ends_other tx (replies.Aborted why) c (λ stamp is. let no : ⊥ = cc in no)
      (λ is. let no : ⊥ = cc in no) among recorded

  pub ends_dropped : (tx : TxId) (c : CommitRecord) → In replies.Dropped (dealing_in ds tx).ends
      → In (Commit c) (journal_after ds).records → c.tx ≢ tx
  ends_dropped tx c among recorded = ends_other tx replies.Dropped c (λ stamp is. let no : ⊥ = cc in no)
      (λ is. let no : ⊥ = cc in no) among recorded

  pub records_told : (c : CommitRecord) → In (Commit c) (journal_after ds).records
      → IsToldOf c (dealing_in ds c.tx).ends
  records_told c among = recorded_told decl c client ds turns its back told among
