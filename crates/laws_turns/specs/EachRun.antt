-- What is said of each run with falls: whatever a law says of all runs begins with one of these.
use Rattle.std.specs.Prelude.{◌≤◌, ℕ, Bool, List}
use Rattle.qc_core.specs.Vocabulary.{IsLawfulWithFalls}
use Rattle.qc_decl.specs.Vocabulary.{IsAccepted, actors}
use Rattle.qc_decl.specs.declared.declaration.Declaration.{Declaration}
use Rattle.qc_link.specs.Vocabulary.{most_actors}
use Rattle.qc_msg.specs.Vocabulary.{Entry}
use Rattle.qc_msg.specs.declared.record.Record.{Record}
use Rattle.qc_promise.specs.Vocabulary.{Kept}
use Rattle.qc_script.specs.Vocabulary.{IsScriptFor, RunsWithFalls}
use Rattle.qc_script.specs.declared.script.Script.{Script}

-- of each run of no more actors than there may be, with such records as actors may rise with
abbrev pub OfEachRun : (ℕ → List Record → Type 0) → (Declaration → Script → List Entry → List Bool → Type 0) → Type 0
OfEachRun fits Holds = (decl : Declaration) (script : Script) → actors decl ≤ most_actors
    → (h : List Entry) (open_inputs : List Bool)
    → RunsWithFalls (IsLawfulWithFalls decl) fits decl script h open_inputs → Holds decl script h open_inputs

-- of each run of an accepted declaration and a script for it in which no disk lost a record
abbrev pub OfEachKeptRun : (ℕ → List Record → Type 0) → (Declaration → Script → List Entry → List Bool → Type 0)
    → Type 0
OfEachKeptRun fits Holds = (decl : Declaration) (script : Script) (h : List Entry) (open_inputs : List Bool)
    → IsAccepted decl → IsScriptFor decl script
    → RunsWithFalls (IsLawfulWithFalls decl) fits decl script h open_inputs → Kept h
    → Holds decl script h open_inputs
