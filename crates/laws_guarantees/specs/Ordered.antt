-- Two committed operations one of which depends on the other: which is stamped first, and what the one had seen.
use Rattle.std.specs.Prelude.{◌≡◌, ◌≢◌, ℕ, ◌<◌, ◌⊎◌, Bool, false, IsTrue, List, [], ◌∷◌, ◌++◌, Option, Some, None}
use Rattle.std.specs.Prelude.{slice_get}
use Rattle.qc_core.specs.Vocabulary.{IsLawful}
use Rattle.qc_decl.specs.declared.declaration.Declaration.{Declaration}
use Rattle.qc_entry.specs.declared.line.Line.{Line}
use Rattle.qc_entry.specs.declared.line.Op.{Op}
use Rattle.qc_entry.specs.declared.record.Commit.{Commit}
use Rattle.qc_list.specs.Vocabulary.{In}
use Rattle.qc_msg.specs.declared.record.Record.TheVariants as records
use Rattle.qc_msg.specs.declared.reply.Reply.{Reply}
use Rattle.qc_msg.specs.declared.step.Step.TheVariants.{Told, Wrote}
use Rattle.qc_msg.specs.Vocabulary.{Entry, marked, written}
use Rattle.theory_onecopy.specs.Vocabulary.{IsLogged, depends_at}
use Rattle.qc_promise.specs.Vocabulary.{Current, account, answer_of, resp_of, view_of}
use Rattle.qc_script.specs.Vocabulary.{Runs}
use Rattle.qc_script.specs.declared.script.Script.{Script}
use Rattle.qc_stamp.specs.declared.stamp.Stamp.{Stamp}

-- a commit record of a history, and a moment before it, between two turns, at which its client had begun the
-- transaction and had been told the operation: right behind the operation's reply, or later
pub record IsToldBy (decl : Declaration) (script : Script) (h : List Entry) (c : Commit) (op : Op) (t : Current)
    : Type 0 where
  -- the entries until the moment, which are a run, and those between it and the record
  pub early : List Entry
  pub middle : List Entry
  pub open_inputs : List Bool
  pub run : Runs (IsLawful decl) decl script early open_inputs
  pub actor : ℕ
  pub after : List Entry
  pub stands : h ≡ (early ++ middle) ++ marked actor (Wrote (records.Commit c)) ∷ after
  pub begun : (account decl actor early).current ≡ Some t
  pub its : t.tx ≡ c.tx
  pub told : In op t.ops

-- an operation of the record depends on the event of the line, which is an operation of another transaction's record,
-- on the same object
pub record DependsOn (decl : Declaration) (h : List Entry) (c : Commit) (op : Op) (line : Line) : Type 0 where
  pub operation : In op c.ops
  pub logged : IsLogged decl (written h) line
  pub apart : line.tx ≢ c.tx
  pub on : line.object ≡ op.object
  pub depends : IsTrue (depends_at decl op.object op.inv line.event)

-- the line stands in the view, and its stamp is smaller
pub record IsSeenBefore (view : List Line) (line : Line) (stamp : Stamp) : Type 0 where
  pub seen : In line view
  pub before : line.stamp.clock < stamp.clock

-- it is seen before, or it is stamped later
abbrev pub IsOrdered : List Line → Line → Stamp → Type 0
IsOrdered view line stamp = IsSeenBefore view line stamp ⊎ (stamp.clock < line.stamp.clock)

-- the entries are a run, in which the actor has no open input
pub record IsRunWithout (decl : Declaration) (script : Script) (a : ℕ) (h : List Entry) : Type 0 where
  pub open_inputs : List Bool
  pub run : Runs (IsLawful decl) decl script h open_inputs
  pub none : slice_get open_inputs a ≡ Some false

-- the response of the event that a view chose, or none where it chose none
abbrev pub IsAnsweredFrom : Declaration → ℕ → Option ℕ → Option ℕ → Type 0
IsAnsweredFrom decl object chosen None = chosen ≡ None
IsAnsweredFrom decl object chosen (Some resp) =
    (event : ℕ) × (chosen ≡ Some event) × (resp ≡ resp_of decl object event)

-- a reply behind these entries answers a `do` from the begun transaction's views; behind it the operation is recorded,
-- and each view is as it was
pub record Records (decl : Declaration) (a : ℕ) (before : List Entry) (reply : Reply) (resp : Option ℕ) : Type 0 where
  pub t : Current
  pub begun : (account decl a before).current ≡ Some t
  pub object : ℕ
  pub inv : ℕ
  pub answered : IsAnsweredFrom decl object (answer_of decl t object inv) resp
  pub now : Current
  pub begun_now : (account decl a (before ++ marked a (Told reply) ∷ [])).current ≡ Some now
  pub its : now.tx ≡ t.tx
  pub ops : now.ops ≡ t.ops ++ record { object = object; inv = inv; resp = resp } ∷ []
  pub views : (o : ℕ) → view_of now o ≡ view_of t o
