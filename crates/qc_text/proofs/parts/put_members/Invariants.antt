use Rattle.std.proofs.Common.{◌≡◌, ◌++◌}
use Rattle.std.specs.List.{flat_map, range_with_len}
use Rattle.qc_text.specs.Vocabulary.{member_text}
use Rattle.qc_text.proofs.parts.put_members.Given as goal

abbrev pub invariant-sites : goal.invariant-sites
invariant-sites l = l.page ≡ l.initial.page ++ flat_map (member_text l.set) (range_with_len 0 l.site)
