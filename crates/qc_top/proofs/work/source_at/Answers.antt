use Rattle.std.proofs.Common.{◌∙◌, sym}
use Rattle.qc_top.proofs.Takes.{built_in_given}
use Rattle.qc_top.proofs.work.source_at.Goals as goal

pub returns-then-is_built_in-clause-source : goal.returns-then-is_built_in-clause-source
returns-then-is_built_in-clause-source c =
    built_in_given c.args.name.now c.args.answer c.built_in_source.result
    (sym c.is_built_in.ensures ∙ c.if-is_built_in.true) c.built_in_source.ensures.source
