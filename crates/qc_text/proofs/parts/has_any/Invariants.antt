use Rattle.std.proofs.Common.{◌≡◌, false}
use Rattle.std.specs.List.{list_any, range_with_len}
use Rattle.qc_table.specs.Vocabulary.{has}
use Rattle.qc_text.proofs.parts.has_any.Given as goal

abbrev pub invariant-sites : goal.invariant-sites
invariant-sites l = list_any (has l.set) (range_with_len 0 l.site) ≡ false
