-- What a schedule makes is a run with falls, and where nothing is left to do, a whole one.
use Rattle.std.proofs.Common.{◌≡◌, ◌==◌, ◌&&◌, Bool, true, false, cond, List, [], ◌∷◌, length, Option, Some, None, refl}
use Rattle.std.proofs.Common.{ap, subst, ◌∙◌}
use Rattle.std.specs.Prelude.{option_and_then, replicate, slice_get}
use Rattle.std.proofs.lemmas.Bool.{eqb-true}
use Rattle.std.proofs.lemmas.List.{length-replicate, length-set}
use Rattle.qc_decl.specs.declared.declaration.Declaration.{Declaration}
use Rattle.qc_decl.specs.Vocabulary.{actors}
use Rattle.qc_msg.specs.Vocabulary.{Entry}
use Rattle.qc_script.specs.declared.script.Script.{Script}
use Rattle.qc_script.specs.Vocabulary.{begins, control, controls_left, damaged, falls, phase, phase_of, posts, ready}
use Rattle.qc_script.specs.Vocabulary.{rises, takes, unopened}
use Rattle.tests_runs.specs.Perform.{Stage, ended, is_over, is_quiet, may_begin, none_left, nothing_done}
use Rattle.tests_runs.proofs.Sound.{all_closed, first_of_both, no_controls, quiet_below, quiet_closed, second_of_both}
use Rattle.tests_falls.specs.Perform.{Move, Begins, Acts, Takes, Posts, Rises, Unopened, moved, moved_on, restarted}
use Rattle.tests_falls.specs.Perform.{run_with_falls, turn_in}
use Rattle.tests_falls.proofs.KeptRecords.{all_kept}
use Rattle.tests_falls.proofs.SoundMoves.{IsRunTo, acts_soundly, begins_soundly, posts_soundly, takes_soundly}
use Rattle.tests_falls.proofs.SoundRises.{rises_by_soundly, unopened_soundly}
use Rattle.tests_falls.specs.Whole.{IsRun, IsWholeRun}

-- over a whole schedule

moves_soundly : (decl : Declaration) (script : Script) (s t : Stage) (move : Move) → IsRunTo decl script s
    → moved decl script s move ≡ Some t → IsRunTo decl script t
moves_soundly decl script s t Begins run is = begins_soundly decl script s t (may_begin decl script s) run refl is
moves_soundly decl script s t Acts run is = acts_soundly decl script s t (controls_left script s.history) run refl is
moves_soundly decl script s t (Takes a) run is =
    takes_soundly decl script s t a (slice_get s.open_inputs a) (ready decl script a s.history) run refl refl is
moves_soundly decl script s t (Posts a end) run is =
    posts_soundly decl script s t a end (slice_get s.open_inputs a) (turn_in decl a s.history end) run refl refl is
moves_soundly decl script s t (Rises back end) run is =
    rises_by_soundly decl script s t back end (restarted (controls_left script s.history)) run refl is
moves_soundly decl script s t (Unopened cause) run is =
    unopened_soundly decl script s t cause (restarted (controls_left script s.history)) run refl is

goes_soundly : (decl : Declaration) (script : Script) (moves : List Move) (s t : Stage) → IsRunTo decl script s
    → moved_on decl script s moves ≡ Some t → IsRunTo decl script t
goes_soundly decl script [] s t run is = let same : s ≡ t = cc in subst (IsRunTo decl script) same run
goes_soundly decl script (move ∷ moves) s t run is =
    by_next (moved decl script s move) (λ next. goes_soundly decl script moves next t) refl is
  where
    by_next : (next : Option Stage)
        → ((n : Stage) → IsRunTo decl script n → moved_on decl script n moves ≡ Some t → IsRunTo decl script t)
        → moved decl script s move ≡ next
        → option_and_then (λ (n : Stage). moved_on decl script n moves) next ≡ Some t → IsRunTo decl script t
    by_next None rest moves_to is = absurd (let never : ⊥ = cc in never)
    by_next (Some next) rest moves_to is = rest next (moves_soundly decl script s next move run moves_to) is

-- each actor has an open input or none

runs_length : (decl : Declaration) (script : Script) (h : List Entry) (open_inputs : List Bool)
    → IsRun decl script h open_inputs → length open_inputs ≡ actors decl
runs_length decl script h open_inputs begins = length-replicate (actors decl) false
runs_length decl script h open_inputs (takes a given before k run opens comes) =
    length-set before a true ∙ runs_length decl script k before run
runs_length decl script h open_inputs (posts a turn before k run opens calls) =
    length-set before a false ∙ runs_length decl script k before run
runs_length decl script h open_inputs (phase before k run closed acted quiet more) =
    runs_length decl script k before run
runs_length decl script h open_inputs (control line lines step before k run left acts) =
    runs_length decl script k before run
runs_length decl script h open_inputs (falls a lines before k run left) = runs_length decl script k before run
runs_length decl script h open_inputs (rises a records turn lines before k run left fit has calls) =
    runs_length decl script k before run
runs_length decl script h open_inputs (damaged a offset lines before k run left) = runs_length decl script k before run
runs_length decl script h open_inputs (unopened a cause lines before k run left disk) =
    runs_length decl script k before run

-- the whole run

over_is_whole : (decl : Declaration) (script : Script) (s : Stage) → IsRunTo decl script s
    → is_over decl script s ≡ true → IsWholeRun decl script s.history
over_is_whole decl script s so over =
    let before : (none_left (controls_left script s.history) && (phase_of s.history == length script.phases)) ≡ true =
    first_of_both (none_left (controls_left script s.history) && (phase_of s.history == length script.phases))
    (is_quiet decl script s) over in
    let quiet : is_quiet decl script s ≡ true =
    second_of_both (none_left (controls_left script s.history) && (phase_of s.history == length script.phases))
    (is_quiet decl script s) over in
    let closed : s.open_inputs ≡ replicate (actors decl) false =
    all_closed s.open_inputs (quiet_closed decl script s quiet)
    ∙ ap (λ n. replicate n false) (runs_length decl script s.history s.open_inputs so.run) in
    record {
      closed = subst (IsRun decl script s.history) closed so.run;
      kept = all_kept s.history so.kept;
      begun =
          eqb-true (phase_of s.history) (length script.phases)
          (second_of_both (none_left (controls_left script s.history)) (phase_of s.history == length script.phases)
          before);
      acted =
          no_controls (controls_left script s.history)
          (first_of_both (none_left (controls_left script s.history)) (phase_of s.history == length script.phases)
          before);
      quiet = quiet_below decl script s quiet;
    }

pub run_is_whole : (decl : Declaration) (script : Script) (moves : List Move) (h : List Entry)
    → run_with_falls decl script moves ≡ Some h → IsWholeRun decl script h
run_is_whole decl script moves h is = by_end (moved_on decl script (nothing_done decl) moves) refl is
  where
    by_test : (t : Stage) (over : Bool) → IsRunTo decl script t → is_over decl script t ≡ over
        → cond over (Some t.history) None ≡ Some h → IsWholeRun decl script h
    by_test t false run over is = absurd (let never : ⊥ = cc in never)
    by_test t true run over is =
        let same : t.history ≡ h = cc in
        subst (IsWholeRun decl script) same (over_is_whole decl script t run over)

    by_end : (last : Option Stage) → moved_on decl script (nothing_done decl) moves ≡ last
        → option_and_then (ended decl script) last ≡ Some h → IsWholeRun decl script h
    by_end None goes is = absurd (let never : ⊥ = cc in never)
    by_end (Some t) goes is =
        by_test t (is_over decl script t)
        (goes_soundly decl script moves (nothing_done decl) t (record { run = begins; kept = tt }) goes) refl is
