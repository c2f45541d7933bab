-- What is promised of every run of a script that was read.
use Rattle.std.proofs.Common.{◌≡◌, ◌≤◌, ℕ, Bool, false, List, [], sym, ap, ◌∙◌, subst, arith}
use Rattle.std.specs.Prelude.{replicate}
use Rattle.laws_due.proofs.AccountDeclared.{scripts_ask_what_is_declared, asks_epochs}
use Rattle.laws_bounds.proofs.FitsNamed.{asks_known}
use Rattle.laws_bounds.proofs.Rising.{run_rises_fit}
use Rattle.qc_core.specs.Vocabulary.{IsLawfulWithFalls}
use Rattle.qc_decl.specs.Vocabulary.{actors}
use Rattle.qc_decl.specs.declared.declaration.Declaration.{Declaration}
use Rattle.laws_due.proofs.AllDue.{runs_with_falls_are_due}
use Rattle.laws_due.proofs.WholeLaw.{runs_with_falls_are_whole}
use Rattle.laws_due.specs.Vocabulary.{IsClosedWithFalls, IsWholeWithFalls}
use Rattle.qc_fabric.specs.Vocabulary.{IsBelow, before_last_event}
use Rattle.qc_fabric.proofs.Limits.{first_reached, none_reached}
use Rattle.qc_link.specs.Vocabulary.{most_actors}
use Rattle.qc_msg.specs.Vocabulary.{Entry}
use Rattle.qc_node.specs.Vocabulary.{HasEnded, IsScriptEnd, fits_of}
use Rattle.qc_node.specs.declared.ends.DriveEnd.{DriveEnd}
use Rattle.qc_node.specs.declared.ends.DriveEnd.TheVariants as ends
use Rattle.theory_onecopy.proofs.Copies.{replays_are_one_copy}
use Rattle.qc_promise.specs.Vocabulary.{Atomic, Due, Kept, committed}
use Rattle.laws_reach.proofs.AtomicLaw.{runs_with_falls_are_atomic_where_records_are_kept}
use Rattle.qc_script.specs.Vocabulary.{RunWithFalls, RunsWithFalls}
use Rattle.qc_script.specs.declared.script.Script.{Script}
use Rattle.qc_top.proofs.OwnRises.{run_own}
use Rattle.qc_top.proofs.Planned.{rises_planned}
use Rattle.qc_top.specs.Vocabulary.{AreStatesKnown, IsEnd, IsRunnable}
use Rattle.qc_list.proofs.Places.{all_false}

module _ (decl : Declaration) (script : Script) (ready : IsRunnable decl script) (h : List Entry)
    (run : RunWithFalls (IsLawfulWithFalls decl) (fits_of decl) decl script h) where
  pub run_atomic : Kept h → Atomic decl h
  run_atomic kept =
      runs_with_falls_are_atomic_where_records_are_kept (fits_of decl) decl script h run.0 ready.accepted ready.declared
      run.1 kept

  few : actors decl ≤ most_actors
  few =
      let sites : decl.sites ≤ 16 = ready.accepted.sites in
      let clients : decl.clients ≤ 16 = ready.accepted.clients in
      omega arith

  pub run_due : Due decl h
  run_due =
      runs_with_falls_are_due decl script (fits_of decl) ready.accepted
      (scripts_ask_what_is_declared decl script ready.accepted ready.declared) few h run.0 run.1
      (rises_planned decl h (run_rises_fit decl script (fits_of decl) (λ a records fit. fit.0) h run.0 run.1))
      (run_own decl script h run.0 run.1)

  pub run_known : Kept h → AreStatesKnown decl h
  run_known kept = (replays_are_one_copy decl (committed decl h)).1 (run_atomic kept).one_copy

module _ (decl : Declaration) (script : Script) (ready : IsRunnable decl script) (h : List Entry) where
  pub ended_run : (end : DriveEnd) → HasEnded decl script h end
      → RunWithFalls (IsLawfulWithFalls decl) (fits_of decl) decl script h
  ended_run end ended = (ended.inputs, ended.runs)

  -- where nothing is left to do, the run is whole
  pub ended_whole : (end : DriveEnd) → HasEnded decl script h end → end ≡ ends.Quiet
      → IsWholeWithFalls (fits_of decl) decl script h
  ended_whole end ended quiet =
      let over : IsScriptEnd decl script h ended.inputs ends.Quiet =
      subst (λ (e : DriveEnd). IsScriptEnd decl script h ended.inputs e) quiet ended.ended in
      let clear : ended.inputs ≡ replicate (actors decl) false = all_false ended.inputs over.1.1.none_open
      ∙ ap (λ (n : ℕ). replicate n false) ended.opens in
      let closed : IsClosedWithFalls (fits_of decl) decl script h =
      subst (λ (bits : List Bool). RunsWithFalls (IsLawfulWithFalls decl) (fits_of decl) decl script h bits) clear
      ended.runs in
      runs_with_falls_are_whole decl script ready.accepted
      (scripts_ask_what_is_declared decl script ready.accepted ready.declared)
      (fits_of decl) h closed over.1.1.none_ready over.1.1.none_left
      (asks_known decl ready.accepted script ready.declared (fits_of decl) (λ a records fit. fit.0))
      (asks_epochs decl script ready.declared) over.1.0

  pub ended_end : (end : DriveEnd) → HasEnded decl script h end → IsEnd end h
  ended_end ends.Quiet ended = none_reached h ended.ended.0
  ended_end (ends.Full full) ended = first_reached h full ended.ended
  ended_end ends.OutOfMemory ended = none_reached h ended.ended.0

  pub ended_below : (end : DriveEnd) → HasEnded decl script h end → IsBelow (before_last_event h)
  ended_below end ended = none_reached (before_last_event h) ended.below

-- the history with no entry is below every limit, and so is what is before its last event
pub begun_below : (h : List Entry) → h ≡ [] → IsBelow (before_last_event h)
begun_below h none = subst (λ (k : List Entry). IsBelow (before_last_event k)) (sym none)
    (record { steps = omega arith; operations = omega arith; carried = omega arith })
