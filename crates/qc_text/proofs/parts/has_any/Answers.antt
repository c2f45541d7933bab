use Rattle.std.proofs.Common.{sym, ◌∙◌}
use Rattle.qc_table.specs.Vocabulary.{has}
use Rattle.qc_text.proofs.Sections.{any_below}
use Rattle.qc_text.proofs.parts.has_any.Goals as goal

pub sites-preserved : goal.sites-preserved
sites-preserved c = any_below (has c.args.set) c.sites.site c.sites.invariant (sym c.has.ensures ∙ c.if-has.false)
