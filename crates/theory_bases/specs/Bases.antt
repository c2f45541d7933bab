-- States in place of lines: of a log whose first part is known by the state after it.
use Rattle.std.specs.Prelude.{ℕ, ◌<◌, ◌++◌, List, map, Option}
use Rattle.qc_entry.specs.declared.line.Line.{Line}
use Rattle.qc_list.specs.Vocabulary.{In}
use Rattle.qc_table.specs.Vocabulary.{reached}

-- the events of lines
abbrev pub events : List Line → List ℕ
events lines = map (λ (l : Line). l.event) lines

-- each line of the second log has a greater clock than each of the first
abbrev pub IsAbove : List Line → List Line → Type 0
IsAbove first second = (m l : Line) → In m first → In l second → m.stamp.clock < l.stamp.clock

-- the state after a log's events and then own ones, from a base state, which may be none
abbrev pub state_from : (ℕ → ℕ → Option ℕ) → Option ℕ → List Line → List ℕ → Option ℕ
state_from step base log own = reached step base (events log ++ own)
