-- Control lines that are carried out in the cell of an actor.
use Rattle.std.specs.Prelude.{◌≡◌, ℕ}
use Rattle.qc_msg.specs.declared.step.Control.{Control}
use Rattle.qc_msg.specs.declared.step.Control.TheVariants.{Phase, Cut, Heal, Armed, Crash, Restart}

-- it is one of this actor's
abbrev pub IsLineOf : ℕ → Control → Type 0
IsLineOf actor (Phase number) = ⊥
IsLineOf actor (Cut a b) = ⊥
IsLineOf actor (Heal a b) = ⊥
IsLineOf actor (Armed armed kind at) = armed ≡ actor
IsLineOf actor (Crash crashed) = crashed ≡ actor
IsLineOf actor (Restart restarted) = restarted ≡ actor
