-- Two committed operations one of which depends on the other, in a run with falls: a moment from which the one is told
-- until its record is written, or being written as its client falls.
use Rattle.std.specs.Prelude.{◌≡◌, ◌≢◌, ℕ, Bool, IsTrue, List, ◌++◌, Some}
use Rattle.qc_core.specs.Vocabulary.{IsLawfulWithFalls}
use Rattle.qc_decl.specs.declared.declaration.Declaration.{Declaration}
use Rattle.qc_entry.specs.declared.line.Line.{Line}
use Rattle.qc_entry.specs.declared.line.Op.{Op}
use Rattle.qc_entry.specs.declared.record.Commit.{Commit}
use Rattle.laws_votes.specs.Recorded.{AreWriting}
use Rattle.qc_list.specs.Vocabulary.{In}
use Rattle.qc_msg.specs.Vocabulary.{Entry, by}
use Rattle.qc_msg.specs.declared.record.Record.{Record}
use Rattle.qc_msg.specs.declared.step.Step.{Step}
use Rattle.theory_onecopy.specs.Vocabulary.{IsLogged, depends_at}
use Rattle.qc_promise.specs.Vocabulary.{Current, account, committed}
use Rattle.qc_script.specs.Vocabulary.{RunsWithFalls}
use Rattle.qc_script.specs.declared.script.Script.{Script}

-- a committed record that was written, or was being written as its client fell; and a moment before it, between two
-- events, at which its client had begun the transaction and had been told the operation: right behind the operation's
-- reply, or later
pub record IsToldBy (fits : ℕ → List Record → Type 0) (decl : Declaration) (script : Script) (h : List Entry)
    (c : Commit) (op : Op) (t : Current) : Type 0 where
  pub commits : In c (committed decl h)
  -- the entries until the moment, which are a run, and those between it and the record
  pub early : List Entry
  pub middle : List Entry
  pub open_inputs : List Bool
  pub run : RunsWithFalls (IsLawfulWithFalls decl) fits decl script early open_inputs
  pub actor : ℕ
  pub steps : List Step
  pub after : List Entry
  pub stands : h ≡ (early ++ middle) ++ (by actor steps ++ after)
  pub writing : AreWriting steps c
  pub begun : (account decl actor early).current ≡ Some t
  pub its : t.tx ≡ c.tx
  pub told : In op t.ops

-- an operation of the record depends on the event of the line, which is an operation of another committed transaction,
-- on the same object
pub record DependsOn (decl : Declaration) (h : List Entry) (c : Commit) (op : Op) (line : Line) : Type 0 where
  pub operation : In op c.ops
  pub logged : IsLogged decl (committed decl h) line
  pub apart : line.tx ≢ c.tx
  pub on : line.object ≡ op.object
  pub depends : IsTrue (depends_at decl op.object op.inv line.event)
