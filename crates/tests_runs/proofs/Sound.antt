-- What a schedule makes is a run, and where nothing is left to do, a whole one.
use Rattle.std.proofs.Common.{◌≡◌, ℕ, zero, suc, ◌+◌, ◌<◌, ◌≤◌, ◌==◌, ◌&&◌, not, nat_lt, Bool, true, false, cond, List}
use Rattle.std.proofs.Common.{[], ◌∷◌, length, Option, Some, None, refl, ap, subst, ◌∙◌, arith}
use Rattle.std.specs.Prelude.{is_none, option_map, option_and_then, replicate, slice_get, slice_set}
use Rattle.std.specs.List.{list_all, range_with_len}
use Rattle.std.proofs.lemmas.Bool.{eqb-false, eqb-true, ltb-true}
use Rattle.std.proofs.lemmas.List.{length-replicate, length-set}
use Rattle.qc_core.specs.Vocabulary.{IsLawful, turn_after}
use Rattle.qc_decl.specs.declared.declaration.Declaration.{Declaration}
use Rattle.qc_decl.specs.Vocabulary.{actors}
use Rattle.qc_msg.specs.declared.step.Control.{Control}
use Rattle.qc_msg.specs.declared.step.Input.{Input}
use Rattle.qc_msg.specs.declared.step.Step.{Step}
use Rattle.qc_msg.specs.declared.step.Step.TheVariants as steps
use Rattle.qc_msg.specs.declared.turn.Turn.{Turn}
use Rattle.qc_msg.specs.Vocabulary.{Entry, deeds}
use Rattle.qc_script.specs.declared.script.Script.{Script}
use Rattle.qc_script.specs.Vocabulary.{Runs, controls_left, phase_of, ready, step_of_control}
use Rattle.qc_script.specs.Runs.{begins, takes, posts, phase, control}
use Rattle.tests_histories.specs.Play.{Move, Takes, Posts, Acts}
use Rattle.tests_runs.specs.Perform.{Stage, acted_by, ended, is_over, is_quiet, may_begin, moved, moved_on}
use Rattle.tests_runs.specs.Perform.{next_control, none_left, nothing_done, posted_by, run_by, taken_by, with_posted}
use Rattle.tests_runs.specs.Perform.{with_step, with_taken}
use Rattle.tests_runs.specs.Whole.{IsWholeRun}

-- tests

pub first_of_both : (s t : Bool) → (s && t) ≡ true → s ≡ true
first_of_both true t e = refl
first_of_both false t e = e

pub second_of_both : (s t : Bool) → (s && t) ≡ true → t ≡ true
second_of_both true t e = e
second_of_both false t e = absurd (let never : ⊥ = cc in never)

pub no_controls : (lines : List Control) → none_left lines ≡ true → lines ≡ []
no_controls [] e = refl
no_controls (line ∷ lines) e = absurd (let never : ⊥ = cc in never)

is_no : (x : Option Input) → is_none x ≡ true → x ≡ None
is_no None e = refl
is_no (Some given) e = absurd (let never : ⊥ = cc in never)

pub none_open : (bs : List Bool) (a : ℕ) → list_all not bs ≡ true → slice_get bs a ≡ Some true → ⊥
none_open [] a all e = let never : ⊥ = cc in never
none_open (true ∷ bs) a all e = let never : ⊥ = cc in never
none_open (false ∷ bs) zero all e = let never : ⊥ = cc in never
none_open (false ∷ bs) (suc a) all e = none_open bs a all e

pub all_closed : (bs : List Bool) → list_all not bs ≡ true → bs ≡ replicate (length bs) false
all_closed [] all = refl
all_closed (true ∷ bs) all = absurd (let never : ⊥ = cc in never)
all_closed (false ∷ bs) all = ap (λ (v : List Bool). false ∷ v) (all_closed bs all)

all_below : (f : ℕ → Option Input) (n from a : ℕ) → list_all (λ a. is_none (f a)) (range_with_len from n) ≡ true
    → from ≤ a → a < from + n → f a ≡ None
all_below f zero from a all low high = absurd (omega arith)
all_below f (suc n) from a all low high =
    by_test (from == a) refl
    (λ further. all_below f n (from + 1) a
    (second_of_both (is_none (f from)) (list_all (λ a. is_none (f a)) (range_with_len (from + 1) n)) all) further
    (omega arith))
  where
    by_test : (b : Bool) → (from == a) ≡ b → (from + 1 ≤ a → f a ≡ None) → f a ≡ None
    by_test true here rest =
        subst (λ k. f k ≡ None) (eqb-true from a here)
        (is_no (f from)
        (first_of_both (is_none (f from)) (list_all (λ a. is_none (f a)) (range_with_len (from + 1) n)) all))
    by_test false here rest = let differs : from ≡ a → ⊥ = eqb-false from a here in rest (omega (arith, differs))

-- where nothing is left to do
pub quiet_below : (decl : Declaration) (script : Script) (s : Stage) → is_quiet decl script s ≡ true → (a : ℕ)
    → a < actors decl → ready decl script a s.history ≡ None
quiet_below decl script s quiet a below =
    all_below (λ a. ready decl script a s.history) (actors decl) 0 a
    (second_of_both (list_all not s.open_inputs)
    (list_all (λ a. is_none (ready decl script a s.history)) (range_with_len 0 (actors decl))) quiet)
    (omega arith) (omega arith)

pub quiet_closed : (decl : Declaration) (script : Script) (s : Stage) → is_quiet decl script s ≡ true
    → list_all not s.open_inputs ≡ true
quiet_closed decl script s quiet =
    first_of_both (list_all not s.open_inputs)
    (list_all (λ a. is_none (ready decl script a s.history)) (range_with_len 0 (actors decl))) quiet

-- each move is an event of a run

abbrev IsRunTo : Declaration → Script → Stage → Type 0
IsRunTo decl script s = Runs (IsLawful decl) decl script s.history s.open_inputs

takes_soundly : (decl : Declaration) (script : Script) (s t : Stage) (a : ℕ) (opened : Option Bool)
    (given : Option Input) → IsRunTo decl script s
    → slice_get s.open_inputs a ≡ opened → ready decl script a s.history ≡ given → taken_by s a opened given ≡ Some t
    → IsRunTo decl script t
takes_soundly decl script s t a None given run opens comes is = absurd (let never : ⊥ = cc in never)
takes_soundly decl script s t a (Some true) given run opens comes is = absurd (let never : ⊥ = cc in never)
takes_soundly decl script s t a (Some false) None run opens comes is = absurd (let never : ⊥ = cc in never)
takes_soundly decl script s t a (Some false) (Some given) run opens comes is =
    let same : with_taken s a given ≡ t = cc in
    subst (IsRunTo decl script) same (takes a given s.open_inputs s.history run opens comes)

posts_soundly : (decl : Declaration) (script : Script) (s t : Stage) (a : ℕ) (opened : Option Bool) (turn : Option Turn)
    → IsRunTo decl script s
    → slice_get s.open_inputs a ≡ opened → turn_after decl a (deeds a [] s.history) ≡ turn
    → posted_by s a opened turn ≡ Some t → IsRunTo decl script t
posts_soundly decl script s t a None turn run opens calls is = absurd (let never : ⊥ = cc in never)
posts_soundly decl script s t a (Some false) turn run opens calls is = absurd (let never : ⊥ = cc in never)
posts_soundly decl script s t a (Some true) None run opens calls is = absurd (let never : ⊥ = cc in never)
posts_soundly decl script s t a (Some true) (Some turn) run opens calls is =
    let same : with_posted s a turn ≡ t = cc in
    subst (IsRunTo decl script) same (posts a turn s.open_inputs s.history run opens calls)

begins_soundly : (decl : Declaration) (script : Script) (s t : Stage) (may : Bool) → IsRunTo decl script s
    → may_begin decl script s ≡ may
    → cond may (Some (with_step decl s (steps.Phase (phase_of s.history + 1)))) None ≡ Some t → IsRunTo decl script t
begins_soundly decl script s t false run may is = absurd (let never : ⊥ = cc in never)
begins_soundly decl script s t true run may is =
    let before : (none_left (controls_left script s.history) && nat_lt (phase_of s.history) (length script.phases))
    ≡ true =
    first_of_both (none_left (controls_left script s.history) && nat_lt (phase_of s.history) (length script.phases))
    (is_quiet decl script s) may in
    let quiet : is_quiet decl script s ≡ true =
    second_of_both (none_left (controls_left script s.history) && nat_lt (phase_of s.history) (length script.phases))
    (is_quiet decl script s) may in
    let same : with_step decl s (steps.Phase (phase_of s.history + 1)) ≡ t = cc in
    subst (IsRunTo decl script) same
    (phase s.open_inputs s.history run
    (λ a. none_open s.open_inputs a (quiet_closed decl script s quiet))
    (no_controls (controls_left script s.history)
    (first_of_both (none_left (controls_left script s.history)) (nat_lt (phase_of s.history) (length script.phases))
    before))
    (quiet_below decl script s quiet)
    (ltb-true (phase_of s.history) (length script.phases)
    (second_of_both (none_left (controls_left script s.history))
    (nat_lt (phase_of s.history) (length script.phases)) before)))

acts_soundly : (decl : Declaration) (script : Script) (s t : Stage) (lines : List Control) → IsRunTo decl script s
    → controls_left script s.history ≡ lines
    → option_map (with_step decl s) (next_control lines) ≡ Some t → IsRunTo decl script t
acts_soundly decl script s t [] run left is = absurd (let never : ⊥ = cc in never)
acts_soundly decl script s t (line ∷ lines) run left is = by_step (step_of_control line) refl is
  where
    by_step : (step : Option Step) → step_of_control line ≡ step → option_map (with_step decl s) step ≡ Some t
        → IsRunTo decl script t
    by_step None acts is = absurd (let never : ⊥ = cc in never)
    by_step (Some step) acts is =
        let same : with_step decl s step ≡ t = cc in
        subst (IsRunTo decl script) same (control line lines step s.open_inputs s.history run left acts)

controller_soundly : (decl : Declaration) (script : Script) (s t : Stage) (step : Step) → IsRunTo decl script s
    → acted_by decl script s step ≡ Some t → IsRunTo decl script t
controller_soundly decl script s t (steps.Phase k) run is =
    begins_soundly decl script s t (may_begin decl script s) run refl is
controller_soundly decl script s t (steps.Cut a b) run is =
    acts_soundly decl script s t (controls_left script s.history) run refl is
controller_soundly decl script s t (steps.Heal a b) run is =
    acts_soundly decl script s t (controls_left script s.history) run refl is
controller_soundly decl script s t (steps.Armed actor kind at) run is = absurd (let never : ⊥ = cc in never)
controller_soundly decl script s t (steps.Called command) run is = absurd (let never : ⊥ = cc in never)
controller_soundly decl script s t (steps.Got n) run is = absurd (let never : ⊥ = cc in never)
controller_soundly decl script s t (steps.Lost n) run is = absurd (let never : ⊥ = cc in never)
controller_soundly decl script s t (steps.Wrote written) run is = absurd (let never : ⊥ = cc in never)
controller_soundly decl script s t (steps.Sent n to message) run is = absurd (let never : ⊥ = cc in never)
controller_soundly decl script s t (steps.Told reply) run is = absurd (let never : ⊥ = cc in never)
controller_soundly decl script s t (steps.Fell cause pending) run is = absurd (let never : ⊥ = cc in never)
controller_soundly decl script s t (steps.Rose records) run is = absurd (let never : ⊥ = cc in never)
controller_soundly decl script s t (steps.Damaged offset) run is = absurd (let never : ⊥ = cc in never)

moves_soundly : (decl : Declaration) (script : Script) (s t : Stage) (move : Move) → IsRunTo decl script s
    → moved decl script s move ≡ Some t → IsRunTo decl script t
moves_soundly decl script s t (Takes a step) run is =
    takes_soundly decl script s t a (slice_get s.open_inputs a) (ready decl script a s.history) run refl refl is
moves_soundly decl script s t (Posts a) run is =
    posts_soundly decl script s t a (slice_get s.open_inputs a) (turn_after decl a (deeds a [] s.history)) run refl refl
    is
moves_soundly decl script s t (Acts step) run is = controller_soundly decl script s t step run is

goes_soundly : (decl : Declaration) (script : Script) (moves : List Move) (s t : Stage) → IsRunTo decl script s
    → moved_on decl script s moves ≡ Some t → IsRunTo decl script t
goes_soundly decl script [] s t run is = let same : s ≡ t = cc in subst (IsRunTo decl script) same run
goes_soundly decl script (move ∷ moves) s t run is =
    by_next (moved decl script s move) (λ next. goes_soundly decl script moves next t) refl is
  where
    by_next : (next : Option Stage)
        → ((n : Stage) → IsRunTo decl script n → moved_on decl script n moves ≡ Some t → IsRunTo decl script t)
        → moved decl script s move ≡ next
        → option_and_then (λ (n : Stage). moved_on decl script n moves) next ≡ Some t → IsRunTo decl script t
    by_next None rest moves_to is = absurd (let never : ⊥ = cc in never)
    by_next (Some next) rest moves_to is = rest next (moves_soundly decl script s next move run moves_to) is

-- each actor has an open input or none

length-slice_set : (bs : List Bool) (a : ℕ) (b : Bool) → length (slice_set bs a b) ≡ length bs
length-slice_set bs a b = length-set bs a b

runs_length : (decl : Declaration) (script : Script) (h : List Entry) (open_inputs : List Bool)
    → Runs (IsLawful decl) decl script h open_inputs → length open_inputs ≡ actors decl
runs_length decl script h open_inputs begins = length-replicate (actors decl) false
runs_length decl script h open_inputs (takes a given before k run opens comes) =
    length-slice_set before a true ∙ runs_length decl script k before run
runs_length decl script h open_inputs (posts a turn before k run opens calls) =
    length-slice_set before a false ∙ runs_length decl script k before run
runs_length decl script h open_inputs (phase before k run closed acted quiet more) =
    runs_length decl script k before run
runs_length decl script h open_inputs (control line lines step before k run left acts) =
    runs_length decl script k before run

-- the whole run

over_is_whole : (decl : Declaration) (script : Script) (s : Stage) → IsRunTo decl script s
    → is_over decl script s ≡ true → IsWholeRun decl script s.history
over_is_whole decl script s run over =
    let before : (none_left (controls_left script s.history) && (phase_of s.history == length script.phases)) ≡ true =
    first_of_both (none_left (controls_left script s.history) && (phase_of s.history == length script.phases))
    (is_quiet decl script s) over in
    let quiet : is_quiet decl script s ≡ true =
    second_of_both (none_left (controls_left script s.history) && (phase_of s.history == length script.phases))
    (is_quiet decl script s) over in
    let closed : s.open_inputs ≡ replicate (actors decl) false =
    all_closed s.open_inputs (quiet_closed decl script s quiet)
    ∙ ap (λ n. replicate n false) (runs_length decl script s.history s.open_inputs run) in
    record {
      closed = subst (Runs (IsLawful decl) decl script s.history) closed run;
      begun =
          eqb-true (phase_of s.history) (length script.phases)
          (second_of_both (none_left (controls_left script s.history)) (phase_of s.history == length script.phases)
          before);
      acted =
          no_controls (controls_left script s.history)
          (first_of_both (none_left (controls_left script s.history)) (phase_of s.history == length script.phases)
          before);
      quiet = quiet_below decl script s quiet;
    }

pub run_by_is_whole : (decl : Declaration) (script : Script) (moves : List Move) (h : List Entry)
    → run_by decl script moves ≡ Some h → IsWholeRun decl script h
run_by_is_whole decl script moves h is = by_end (moved_on decl script (nothing_done decl) moves) refl is
  where
    by_test : (t : Stage) (over : Bool) → IsRunTo decl script t → is_over decl script t ≡ over
        → cond over (Some t.history) None ≡ Some h → IsWholeRun decl script h
    by_test t false run over is = absurd (let never : ⊥ = cc in never)
    by_test t true run over is =
        let same : t.history ≡ h = cc in
        subst (IsWholeRun decl script) same (over_is_whole decl script t run over)

    by_end : (last : Option Stage) → moved_on decl script (nothing_done decl) moves ≡ last
        → option_and_then (ended decl script) last ≡ Some h → IsWholeRun decl script h
    by_end None goes is = absurd (let never : ⊥ = cc in never)
    by_end (Some t) goes is =
        by_test t (is_over decl script t) (goes_soundly decl script moves (nothing_done decl) t begins goes) refl is
