use Rattle.std.proofs.Common.{◌≡◌, take}
use Rattle.std.specs.List.{flat_map}
use Rattle.qc_text.proofs.asked.commands_of.Given as goal

abbrev pub invariant-phases : goal.invariant-phases
invariant-phases l = l.commands.items ≡ flat_map (λ p. p.commands) (take l.phase-index l.phase-items)
