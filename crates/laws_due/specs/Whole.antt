-- A whole run with falls: all that the script asks was done, each command told its reply, and nothing is left to do.
use Rattle.std.specs.Prelude.{◌≡◌, ℕ, true, false, List, [], length, replicate}
use Rattle.qc_core.specs.Vocabulary.{IsLawfulWithFalls}
use Rattle.qc_decl.specs.declared.declaration.Declaration.{Declaration}
use Rattle.qc_decl.specs.Vocabulary.{actors}
use Rattle.laws_turns.specs.Vocabulary.{AreAnswered, IsQuiet, asked_by, exchanges}
use Rattle.qc_msg.specs.declared.record.Record.{Record}
use Rattle.qc_msg.specs.Vocabulary.{Entry, deeds}
use Rattle.qc_script.specs.Vocabulary.{RunsWithFalls, controls_left, phase_of, takes_commands}
use Rattle.qc_script.specs.declared.script.Script.{Script}

-- the history is a run with falls in which no input is open
abbrev pub IsClosedWithFalls : (ℕ → List Record → Type 0) → Declaration → Script → List Entry → Type 0
IsClosedWithFalls fits decl script h =
    RunsWithFalls (IsLawfulWithFalls decl) fits decl script h (replicate (actors decl) false)

-- the history is a whole run of the script
pub record IsWholeWithFalls (fits : ℕ → List Record → Type 0) (decl : Declaration) (script : Script)
    (h : List Entry) : Type 0 where
  -- it is a run, and each input that was taken has its turn
  pub closed : IsClosedWithFalls fits decl script h
  -- every phase began, and each of their control lines acted
  pub phases : phase_of h ≡ length script.phases
  pub controls : controls_left script h ≡ []
  -- each client and the administrator called just the commands that the script asks it, in their order, and told a
  -- reply to each, before the next one and before it fell; and it told nothing beside
  pub replies : (a : ℕ) → takes_commands decl a ≡ true → AreAnswered (asked_by a script) (exchanges (deeds a [] h))
  -- nothing is ready for any actor
  pub quiet : IsQuiet decl script h
