-- A run without falls is a run with falls.
use Rattle.std.proofs.Common.{◌≡◌, ℕ, Bool, false, List, ◌++◌, length, Some, subst}
use Rattle.std.specs.Prelude.{slice_set}
use Rattle.qc_decl.specs.declared.declaration.Declaration.{Declaration}
use Rattle.qc_msg.specs.declared.record.Record.{Record}
use Rattle.qc_msg.specs.declared.step.Control.{Control}
use Rattle.qc_msg.specs.declared.step.Control.TheVariants as controls
use Rattle.qc_msg.specs.declared.step.Step.{Step}
use Rattle.qc_msg.specs.declared.turn.Appended.{Appended}
use Rattle.qc_msg.specs.declared.turn.Appended.TheVariants.{Done}
use Rattle.qc_msg.specs.declared.turn.Turn.{Turn}
use Rattle.qc_msg.specs.Vocabulary.{Deed, Entry, by, mail, posted_as}
use Rattle.qc_script.specs.Vocabulary.{Runs, RunsWithFalls, controller_step, step_of_control}
use Rattle.qc_script.specs.Runs.{begins, takes, posts, phase, control}
use Rattle.qc_script.specs.RunsWithFalls as falling
use Rattle.qc_script.specs.declared.script.Script.{Script}

pub same_step : (line : Control) (step : Step) → step_of_control line ≡ Some step → controller_step line ≡ Some step
same_step (controls.Phase k) step is = is
same_step (controls.Cut x y) step is = is
same_step (controls.Heal x y) step is = is
same_step (controls.Armed actor kind n) step is = absurd (let no : ⊥ = cc in no)
same_step (controls.Crash x) step is = is
same_step (controls.Restart x) step is = is

module _ (lawful : ℕ → List Deed → Turn → Type 0) (fits : ℕ → List Record → Type 0) (decl : Declaration)
    (script : Script)
    (done : (a : ℕ) (ds : List Deed) (turn : Turn) → lawful a ds turn → turn.append ≡ Done) where
  pub runs_without_falls_are_runs : (h : List Entry) (inputs : List Bool) → Runs lawful decl script h inputs
      → RunsWithFalls lawful fits decl script h inputs
  runs_without_falls_are_runs h inputs begins = falling.begins
  runs_without_falls_are_runs h inputs (takes a g before older run free rdy) =
      falling.takes a g before older (runs_without_falls_are_runs older before run) free rdy
  runs_without_falls_are_runs h inputs (posts a turn before older run taken law) =
      subst (λ (end : Appended). RunsWithFalls lawful fits decl script
      (older ++ by a (posted_as end (length (mail older)) turn)) (slice_set before a false)) (done a _ turn law)
      (falling.posts a turn before older (runs_without_falls_are_runs older before run) taken law)
  runs_without_falls_are_runs h inputs (phase before older run none left quiet more) =
      falling.phase before older (runs_without_falls_are_runs older before run) none left quiet more
  runs_without_falls_are_runs h inputs (control line lines step before older run left is) =
      falling.control line lines step before older (runs_without_falls_are_runs older before run) left
      (same_step line step is)
