-- A run made by a schedule: whoever is named takes what is ready for it, or posts the turn of its conduct; the
-- controller begins the next phase, or carries out the next control line. A move that no run has there ends it.
use Rattle.std.specs.Prelude.{ℕ, ◌+◌, ◌==◌, ◌&&◌, nat_lt, not, Bool, true, false, cond, List, [], ◌∷◌, ◌++◌, length}
use Rattle.std.specs.Prelude.{replicate, slice_get, slice_set, filter, is_none, is_some, unwrap_or, Option, Some, None}
use Rattle.std.specs.Prelude.{option_map, option_and_then}
use Rattle.std.specs.List.{list_all, range_with_len}
use Rattle.std.specs.Option.{option_map_or}
use Rattle.qc_core.specs.Vocabulary.{turn_after}
use Rattle.qc_decl.specs.declared.declaration.Declaration.{Declaration}
use Rattle.qc_decl.specs.Vocabulary.{actors, controller}
use Rattle.qc_msg.specs.declared.step.Control.{Control}
use Rattle.qc_msg.specs.declared.step.Input.{Input}
use Rattle.qc_msg.specs.declared.step.Step.{Step}
use Rattle.qc_msg.specs.declared.step.Step.TheVariants as steps
use Rattle.qc_msg.specs.declared.turn.Turn.{Turn}
use Rattle.qc_msg.specs.Vocabulary.{Entry, by, deeds, mail, marked, posted, step_of}
use Rattle.qc_script.specs.declared.script.Script.{Script}
use Rattle.qc_script.specs.Vocabulary.{controls_left, phase_of, ready, step_of_control}
use Rattle.tests_histories.specs.Play.{Move, Takes, Posts, Acts}

-- the history so far, and which actors have an open input
pub record Stage : Type 0 where
  pub history : List Entry
  pub open_inputs : List Bool

abbrev pub nothing_done : Declaration → Stage
nothing_done decl = record { history = []; open_inputs = replicate (actors decl) false }

-- an actor without an open input takes what is ready for it

abbrev pub with_taken : Stage → ℕ → Input → Stage
with_taken s a given =
    record { history = s.history ++ marked a (step_of given) ∷ []; open_inputs = slice_set s.open_inputs a true }

abbrev pub taken_by : Stage → ℕ → Option Bool → Option Input → Option Stage
taken_by s a None given = None
taken_by s a (Some true) given = None
taken_by s a (Some false) given = option_map (with_taken s a) given

-- an actor with an open input posts the turn that its conduct calls for

abbrev pub with_posted : Stage → ℕ → Turn → Stage
with_posted s a turn =
    record {
      history = s.history ++ by a (posted (length (mail s.history)) turn);
      open_inputs = slice_set s.open_inputs a false;
    }

abbrev pub posted_by : Stage → ℕ → Option Bool → Option Turn → Option Stage
posted_by s a None turn = None
posted_by s a (Some false) turn = None
posted_by s a (Some true) turn = option_map (with_posted s a) turn

-- no input is open, and nothing is ready for any actor

abbrev pub is_quiet : Declaration → Script → Stage → Bool
is_quiet decl script s =
    list_all not s.open_inputs
    && list_all (λ a. is_none (ready decl script a s.history)) (range_with_len 0 (actors decl))

abbrev pub none_left : List Control → Bool
none_left [] = true
none_left (line ∷ lines) = false

-- the controller's step is added

abbrev pub with_step : Declaration → Stage → Step → Stage
with_step decl s step = record s { history = s.history ++ marked (controller decl) step ∷ [] }

-- the next phase begins

abbrev pub may_begin : Declaration → Script → Stage → Bool
may_begin decl script s =
    (none_left (controls_left script s.history) && nat_lt (phase_of s.history) (length script.phases))
    && is_quiet decl script s

abbrev pub with_phase : Declaration → Script → Stage → Option Stage
with_phase decl script s =
    cond (may_begin decl script s) (Some (with_step decl s (steps.Phase (phase_of s.history + 1)))) None

-- the first control line that hasn't acted does

abbrev pub next_control : List Control → Option Step
next_control [] = None
next_control (line ∷ lines) = step_of_control line

abbrev pub with_control : Declaration → Script → Stage → Option Stage
with_control decl script s = option_map (with_step decl s) (next_control (controls_left script s.history))

abbrev pub acted_by : Declaration → Script → Stage → Step → Option Stage
acted_by decl script s (steps.Phase k) = with_phase decl script s
acted_by decl script s (steps.Cut a b) = with_control decl script s
acted_by decl script s (steps.Heal a b) = with_control decl script s
acted_by decl script s (steps.Armed actor kind at) = None
acted_by decl script s (steps.Called command) = None
acted_by decl script s (steps.Got n) = None
acted_by decl script s (steps.Lost n) = None
acted_by decl script s (steps.Wrote written) = None
acted_by decl script s (steps.Sent n to message) = None
acted_by decl script s (steps.Told reply) = None
acted_by decl script s (steps.Fell cause pending) = None
acted_by decl script s (steps.Rose records) = None
acted_by decl script s (steps.Damaged offset) = None

-- a move, where it is an event of a run; which input is taken, and which control line acts, the move doesn't decide
abbrev pub moved : Declaration → Script → Stage → Move → Option Stage
moved decl script s (Takes a step) = taken_by s a (slice_get s.open_inputs a) (ready decl script a s.history)
moved decl script s (Posts a) = posted_by s a (slice_get s.open_inputs a) (turn_after decl a (deeds a [] s.history))
moved decl script s (Acts step) = acted_by decl script s step

abbrev pub moved_on : Declaration → Script → Stage → List Move → Option Stage
moved_on decl script s [] = Some s
moved_on decl script s (move ∷ moves) =
    option_and_then (λ (next : Stage). moved_on decl script next moves) (moved decl script s move)

-- the actors that may take an input, and those after each move, from the beginning on

abbrev pub may_take : Declaration → Script → Stage → ℕ → Bool
may_take decl script s a =
    unwrap_or (option_map not (slice_get s.open_inputs a)) false && is_some (ready decl script a s.history)

abbrev pub takers : Declaration → Script → Stage → List ℕ
takers decl script s = filter (may_take decl script s) (range_with_len 0 (actors decl))

abbrev pub takers_from : Declaration → Script → Stage → List Move → List (List ℕ)
takers_from decl script s [] = takers decl script s ∷ []
takers_from decl script s (move ∷ moves) =
    takers decl script s
    ∷ option_map_or (λ (next : Stage). takers_from decl script next moves) (moved decl script s move) []

abbrev pub all_takers : Declaration → Script → List Move → List (List ℕ)
all_takers decl script moves = takers_from decl script (nothing_done decl) moves

-- all phases have begun, all their control lines have acted, no input is open, and nothing is ready for any actor
abbrev pub is_over : Declaration → Script → Stage → Bool
is_over decl script s =
    (none_left (controls_left script s.history) && (phase_of s.history == length script.phases))
    && is_quiet decl script s

abbrev pub ended : Declaration → Script → Stage → Option (List Entry)
ended decl script s = cond (is_over decl script s) (Some s.history) None

-- the history that a whole run of the script by these moves makes
abbrev pub run_by : Declaration → Script → List Move → Option (List Entry)
run_by decl script moves = option_and_then (ended decl script) (moved_on decl script (nothing_done decl) moves)
