-- A client that doesn't act in this phase.
use Rattle.std.specs.Prelude.{◌≡◌, ℕ, false, List, []}
use Rattle.qc_core.specs.Vocabulary.{is_running}
use Rattle.qc_decl.specs.declared.declaration.Declaration.{Declaration}
use Rattle.laws_turns.specs.Vocabulary.{asked_until, calls_of}
use Rattle.qc_msg.specs.Vocabulary.{Entry, deeds}
use Rattle.qc_script.specs.Vocabulary.{phase_of}
use Rattle.qc_script.specs.declared.script.Script.{Script}
use Rattle.laws_guarantees.specs.Elsewhere.{before_phase, begun_by}

-- it runs no command, has called all that the phases so far ask it, and has begun what it had before this phase
pub record IsStill (decl : Declaration) (script : Script) (c : ℕ) (h : List Entry) : Type 0 where
  pub running : is_running (deeds c [] h) ≡ false
  pub called : calls_of c h ≡ asked_until c script (phase_of h)
  pub name : begun_by decl c h ≡ begun_by decl c (before_phase h)
