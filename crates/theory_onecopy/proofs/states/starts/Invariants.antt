use Rattle.std.proofs.Common.{◌≡◌, map, take}
use Rattle.theory_onecopy.specs.Vocabulary.{start_of}
use Rattle.theory_onecopy.proofs.states.starts.Given as goal

abbrev pub invariant-objects : goal.invariant-objects
invariant-objects l = l.states.items ≡ map (start_of l.decl) (take l.kind-index l.kind-items)
