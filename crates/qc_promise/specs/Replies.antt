-- Each reply that a client tells is due, and so is each record that it writes and what it does as it rises: what has
-- happened at the client, and what stands behind it in the same post, show it.
use Rattle.std.specs.Prelude.{◌≡◌, ℕ, false, List, [], ◌∷◌, Option, Some, None, is_some}
use Rattle.qc_decl.specs.declared.declaration.Declaration.{Declaration}
use Rattle.qc_msg.specs.declared.record.Record.{Record}
use Rattle.qc_msg.specs.declared.record.Record.TheVariants as records
use Rattle.qc_msg.specs.declared.reply.Reply.{Reply}
use Rattle.qc_msg.specs.declared.reply.Reply.TheVariants as replies
use Rattle.qc_msg.specs.declared.step.Input.{Input}
use Rattle.qc_msg.specs.declared.step.Input.TheVariants as inputs
use Rattle.qc_msg.specs.Vocabulary.{Deed, Falls, Rises, Sends, Takes, Tells, Writes}
use Rattle.qc_promise.specs.Account.{Account, new_account}
use Rattle.qc_promise.specs.Accounting.{account_at}
use Rattle.qc_promise.specs.Posts.{IsPostOf, TurnDue, pending_next}
use Rattle.qc_promise.specs.Rows.{commit_of, due, pending_with, record_with}

-- What is due of a deed, the row of the running command being this one.

-- A command is called once the one before has its reply; and no input is taken while a reply is due that isn't told

abbrev pub IsFreeFor : Account → Input → Type 0
IsFreeFor d (inputs.Called command) = d.command ≡ None
IsFreeFor d (inputs.Got envelope) = Unit {0}
IsFreeFor d (inputs.Lost number) = Unit {0}

abbrev pub IsInputDue : Account → Option Reply → Input → Type 0
IsInputDue d row given = (row ≡ None) × IsFreeFor d given

-- a commit record is written once, with all that was told, where the row is Committed with its stamp; the record of a
-- rise is written as it rises; a client writes no others
abbrev pub IsRecordDue : Account → Option Reply → Record → Type 0
IsRecordDue d row records.Life = Unit {0}
IsRecordDue d row (records.Prepare prepared) = ⊥
IsRecordDue d row (records.Done tx clock) = ⊥
IsRecordDue d row (records.Close epoch) = ⊥
IsRecordDue d row (records.Install start) = ⊥
IsRecordDue d row (records.Commit commit) =
    (row ≡ Some (replies.Committed commit.stamp))
    × (commit_of d commit.stamp ≡ Some commit)
    × (d.written ≡ None)
IsRecordDue d row (records.Decide start) = ⊥

-- a reply is that of the row, with its record where it has one: written before it, or pending at the fall behind it
abbrev pub IsReplyDue : Account → Option Reply → List Deed → Reply → Type 0
IsReplyDue d row after reply =
    (row ≡ Some reply) × (d.written ≡ record_with d reply) × (pending_next after ≡ pending_with d reply)

-- as it rises a client writes so, and does nothing more
abbrev pub rising_turn : TurnDue
rising_turn = record { write = Some records.Life; sends = []; failed_sends = [] }

-- a deed, this being the account of those before it, and these the deeds behind it
abbrev pub IsDeedDue : Declaration → Account → Deed → List Deed → Type 0
IsDeedDue decl d (Takes given) after = IsInputDue d (due decl d false) given
IsDeedDue decl d (Writes written) after = IsRecordDue d (due decl d false) written
IsDeedDue decl d (Sends number to message) after = Unit {0}
IsDeedDue decl d (Tells reply) after = IsReplyDue d (due decl d (is_some (pending_next after))) after reply
IsDeedDue decl d (Falls cause pending) after = Unit {0}
IsDeedDue decl d (Rises kept) after = IsPostOf rising_turn after

abbrev pub AreDeedsDue : Declaration → Account → List Deed → Type 0
AreDeedsDue decl d [] = Unit {0}
AreDeedsDue decl d (deed ∷ after) = IsDeedDue decl d deed after × AreDeedsDue decl (account_at decl d deed) after

-- each deed of a client is due
abbrev pub AreRepliesDue : Declaration → ℕ → List Deed → Type 0
AreRepliesDue decl client ds = AreDeedsDue decl (new_account client) ds
