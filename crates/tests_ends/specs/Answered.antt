-- What a script asks a client is answered in a history.
use Rattle.std.specs.Prelude.{ℕ, List, []}
use Rattle.laws_turns.specs.Vocabulary.{AreAnswered, asked_by, exchanges}
use Rattle.qc_msg.specs.Vocabulary.{Entry, deeds}
use Rattle.qc_script.specs.declared.script.Script.{Script}

abbrev pub IsAnswered : Script → List Entry → ℕ → Type 0
IsAnswered script h a = AreAnswered (asked_by a script) (exchanges (deeds a [] h))
