-- The view of an object: the events that were committed, as far as they are known, and the viewer's own (Herlihy 1986).
use Rattle.std.specs.Prelude.{ℕ, List, [], ◌∷◌, ◌++◌, Option, map, option_and_then}
use Rattle.qc_entry.specs.declared.line.Line.{Line}
use Rattle.qc_entry.specs.Vocabulary.{union}
use Rattle.qc_table.specs.Vocabulary.{Rules, after, first_of, step_of}
use Rattle.qc_view.specs.declared.view.View.{View}

-- nothing is known yet
abbrev pub empty_view : View
empty_view = record { log = []; own = [] }

-- a log is joined to the view
abbrev pub with_log : View → List Line → View
with_log view log = record { log = union view.log log; own = view.own }

-- one own event more, behind the others
abbrev pub with_own : View → ℕ → View
with_own view event = record { log = view.log; own = view.own ++ event ∷ [] }

-- the events of the view: those of the log in their order, and then the own ones
abbrev pub events_in : View → List ℕ
events_in view = map (λ (l : Line). l.event) view.log ++ view.own

-- the object's state after the view, or none where the type lacks a step
abbrev pub state_in : Rules → View → Option ℕ
state_in rules view = after (step_of rules.rows) rules.start (events_in view)

-- the event with the invocation's lowest response that is legal after the view
abbrev pub answer_in : Rules → View → ℕ → Option ℕ
answer_in rules view inv = option_and_then (λ state. first_of rules.rows state inv) (state_in rules view)
