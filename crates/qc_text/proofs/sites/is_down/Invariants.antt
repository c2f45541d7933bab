use Rattle.std.proofs.Common.{◌≡◌, drop}
use Rattle.std.specs.Prelude.{fold}
use Rattle.qc_msg.specs.Vocabulary.{own}
use Rattle.qc_text.specs.Vocabulary.{down_after, is_down}
use Rattle.qc_text.proofs.sites.is_down.Given as goal

abbrev pub invariant-entries : goal.invariant-entries
invariant-entries l = fold down_after l.down (own l.number (drop l.entry-index l.entries)) ≡ is_down l.number l.entries
