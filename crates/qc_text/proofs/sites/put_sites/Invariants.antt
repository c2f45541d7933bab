use Rattle.std.proofs.Common.{◌≡◌, ◌++◌}
use Rattle.std.specs.List.{flat_map, range_with_len}
use Rattle.qc_text.specs.Vocabulary.{site_line}
use Rattle.qc_text.proofs.sites.put_sites.Given as goal

abbrev pub invariant-sites : goal.invariant-sites
invariant-sites l = l.page ≡ l.initial.page ++ flat_map (site_line l.entries) (range_with_len 0 l.number)
