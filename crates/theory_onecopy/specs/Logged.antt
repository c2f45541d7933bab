-- Lines of logs, against the commit records.
use Rattle.std.specs.Prelude.{◌≡◌, ℕ, ◌+◌, Bool, false, IsTrue, List, Option, Some, slice_get, option_and_then}
use Rattle.std.specs.Option.{option_map_or}
use Rattle.qc_entry.specs.declared.line.Line.{Line}
use Rattle.qc_entry.specs.declared.line.Op.{Op}
use Rattle.qc_entry.specs.declared.record.Commit.{Commit}
use Rattle.qc_decl.specs.declared.declaration.Declaration.{Declaration}
use Rattle.qc_decl.specs.Vocabulary.{table_at}
use Rattle.qc_table.specs.Vocabulary.{Rules, depends, event, event_number, events_of}
use Rattle.qc_list.specs.Vocabulary.{In}
use Rattle.qc_table.specs.declared.kind.Kind.{Kind}
use Rattle.qc_cert.specs.Vocabulary.{inv_of}
use Rattle.theory_onecopy.specs.Executed.{IsLineBefore, kind_at}

-- the number of the event of an invocation and a response, in an object's type
abbrev pub event_at : Declaration → ℕ → ℕ → ℕ → Option ℕ
event_at decl object inv resp =
    option_and_then (λ (rules : Rules). event_number (events_of rules.rows) (event inv resp)) (table_at decl object)

-- the operation of this number in a transaction, from 1, has a response, and is this event of the object
pub record IsOperation (decl : Declaration) (ops : List Op) (number object number_of_event : ℕ) : Type 0 where
  pub place : ℕ
  pub numbered : number ≡ place + 1
  pub operation : Op
  pub found : slice_get ops place ≡ Some operation
  pub on : operation.object ≡ object
  pub resp : ℕ
  pub responded : operation.resp ≡ Some resp
  pub is_event : event_at decl operation.object operation.inv resp ≡ Some number_of_event

-- the line is an operation of one of the records, with its stamp
pub record IsLogged (decl : Declaration) (commits : List Commit) (l : Line) : Type 0 where
  pub commit : Commit
  pub listed : In commit commits
  pub stamped : l.stamp ≡ commit.stamp
  pub named : l.tx ≡ commit.tx
  pub operation : IsOperation decl commit.ops l.op l.object l.event

-- whether the invocation of a line's event depends on the event of this number
abbrev pub line_depends : Declaration → Line → ℕ → Bool
line_depends decl l number =
    option_map_or (λ (kind : Kind). depends kind.relation (inv_of kind l.event) number) (kind_at decl l.object) false

-- with a line, the log has each committed line of its object before it on which its invocation depends
abbrev pub IsClosedLog : Declaration → List Commit → List Line → Type 0
IsClosedLog decl commits log =
    (l m : Line) → In l log → IsLogged decl commits m → m.object ≡ l.object → IsLineBefore m l
    → IsTrue (line_depends decl l m.event) → In m log
