-- Each reply that the administrator tells is due, and so is each record that he writes, each message that he sends, and
-- what he does as he rises: what he did before shows it, and what stands behind it in the same post.
use Rattle.std.specs.Prelude.{◌≡◌, ℕ, Bool, true, false, List, [], ◌∷◌, Option, Some, None, is_some, option_map}
use Rattle.std.specs.Option.{option_map_or}
use Rattle.qc_stamp.specs.declared.stamp.TxId.{TxId}
use Rattle.qc_decl.specs.declared.declaration.Declaration.{Declaration}
use Rattle.qc_msg.specs.declared.message.Message.{Message}
use Rattle.qc_msg.specs.declared.record.Record.{Record}
use Rattle.qc_msg.specs.declared.record.Record.TheVariants as records
use Rattle.qc_msg.specs.declared.reply.Reply.{Reply}
use Rattle.qc_msg.specs.declared.step.Input.{Input}
use Rattle.qc_msg.specs.declared.step.Input.TheVariants as inputs
use Rattle.qc_msg.specs.Vocabulary.{Deed, Falls, Rises, Sends, Takes, Tells, Writes, asking_in, closing_in}
use Rattle.qc_msg.specs.declared.payload.EpochStart.{EpochStart}
use Rattle.qc_msg.specs.Vocabulary.{installing_in}
use Rattle.qc_promise.specs.AdminAccount.{AdminAccount, new_admin_account}
use Rattle.qc_promise.specs.AdminAccounting.{admin_account_at, calls_ask, calls_close, calls_install}
use Rattle.qc_promise.specs.AdminRows.{admin_due, decide_due}
use Rattle.qc_promise.specs.Replies.{rising_turn}
use Rattle.qc_promise.specs.Posts.{IsPostOf, pending_next}

abbrev pub decide_record : EpochStart → Record
decide_record i = records.Decide i

-- a command is called once the one before has its reply; and no input is taken while a reply is due that isn't told, or
-- a decision that isn't written

abbrev pub IsAdminFree : AdminAccount → Input → Type 0
IsAdminFree d (inputs.Called command) = d.command ≡ None
IsAdminFree d (inputs.Got envelope) = Unit {0}
IsAdminFree d (inputs.Lost number) = Unit {0}

abbrev pub IsAdminInputDue : Declaration → AdminAccount → Input → Type 0
IsAdminInputDue decl d given =
    (admin_due decl d false ≡ None) × (d.written ≡ decide_due decl d) × IsAdminFree d given

-- a decision is written once, where it is due; the record of a rise is written as he rises; he writes no others
abbrev pub IsAdminRecordDue : Declaration → AdminAccount → Record → Type 0
IsAdminRecordDue decl d records.Life = Unit {0}
IsAdminRecordDue decl d (records.Prepare prepared) = ⊥
IsAdminRecordDue decl d (records.Done tx clock) = ⊥
IsAdminRecordDue decl d (records.Close epoch) = ⊥
IsAdminRecordDue decl d (records.Install start) = ⊥
IsAdminRecordDue decl d (records.Commit commit) = ⊥
IsAdminRecordDue decl d (records.Decide start) =
    (decide_due decl d ≡ Some start) × (d.written ≡ None)

-- a reply is that of the row: with the decision written before it where one is due, or pending at the fall behind it

abbrev pub IsDecisionMet : Declaration → AdminAccount → Option Record → Type 0
IsDecisionMet decl d None = d.written ≡ decide_due decl d
IsDecisionMet decl d (Some r) = (d.written ≡ None) × (option_map decide_record (decide_due decl d) ≡ Some r)

abbrev pub IsAdminReplyDue : Declaration → AdminAccount → List Deed → Reply → Type 0
IsAdminReplyDue decl d after reply =
    (admin_due decl d (is_some (pending_next after)) ≡ Some reply) × IsDecisionMet decl d (pending_next after)

-- a message is a Close, an Ask or an Install that his command calls for next, and none of another kind
abbrev pub is_called_for : Declaration → AdminAccount → ℕ → Message → Bool
is_called_for decl d to message =
    option_map_or (λ (k : ℕ). calls_close decl d to k) (closing_in message)
    (option_map_or (λ (tx : TxId). calls_ask decl d to tx) (asking_in message)
    (option_map_or (λ (i : EpochStart). calls_install d to i) (installing_in message) false))

abbrev pub IsAdminDeedDue : Declaration → AdminAccount → Deed → List Deed → Type 0
IsAdminDeedDue decl d (Takes given) after = IsAdminInputDue decl d given
IsAdminDeedDue decl d (Writes written) after = IsAdminRecordDue decl d written
IsAdminDeedDue decl d (Sends number to message) after = is_called_for decl d to message ≡ true
IsAdminDeedDue decl d (Tells reply) after = IsAdminReplyDue decl d after reply
IsAdminDeedDue decl d (Falls cause pending) after = Unit {0}
IsAdminDeedDue decl d (Rises kept) after = IsPostOf rising_turn after

abbrev pub AreAdminDeedsDue : Declaration → AdminAccount → List Deed → Type 0
AreAdminDeedsDue decl d [] = Unit {0}
AreAdminDeedsDue decl d (deed ∷ after) =
    IsAdminDeedDue decl d deed after × AreAdminDeedsDue decl (admin_account_at decl d deed) after

-- each deed of the administrator is due
abbrev pub IsAdminDue : Declaration → List Deed → Type 0
IsAdminDue decl ds = AreAdminDeedsDue decl new_admin_account ds
