use Rattle.std.proofs.Common.{◌≡◌, ◌++◌, option_map}
use Rattle.std.specs.List.{flat_map, range_with_len}
use Rattle.qc_text.specs.Vocabulary.{state_line}
use Rattle.qc_text.proofs.states.put_states.Given as goal

abbrev pub invariant-objects : goal.invariant-objects
invariant-objects l = l.page ≡ l.initial.page ++ flat_map (state_line l.decl (option_map (λ v. v.items) l.states))
    (range_with_len 0 l.object)
