-- What a wrong history with falls is refused for.
use Rattle.std.specs.Prelude.{◌≡◌, ℕ, List, [], length}
use Rattle.qc_core.specs.Vocabulary.{IsLawfulWithFalls, journal_after}
use Rattle.qc_decl.specs.declared.declaration.Declaration.{Declaration}
use Rattle.qc_msg.specs.declared.record.Record.{Record}
use Rattle.qc_msg.specs.declared.step.Step.{Step}
use Rattle.qc_msg.specs.declared.turn.Turn.{Turn}
use Rattle.qc_msg.specs.Vocabulary.{Entry, deeds, mail, posted_as}
use Rattle.qc_promise.specs.Vocabulary.{IsGivenBack}

-- whatever becomes of its record, no turn that is lawful for the actor after this history posts these steps
abbrev pub IsNoPost : Declaration → ℕ → List Entry → List Step → Type 0
IsNoPost decl a h steps = (turn : Turn) → IsLawfulWithFalls decl a (deeds a [] h) turn
    → posted_as turn.append (length (mail h)) turn ≡ steps → ⊥

-- the actor's journal doesn't give these records back
abbrev pub IsNoRise : Declaration → ℕ → List Entry → List Record → Type 0
IsNoRise decl a h records = IsGivenBack (journal_after (deeds a [] h)) records → ⊥
