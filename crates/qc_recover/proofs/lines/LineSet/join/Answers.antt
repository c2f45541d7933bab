use Rattle.std.proofs.Common.{◌∙◌, ap}
use Rattle.qc_entry.specs.Vocabulary.{union}
use Rattle.qc_recover.specs.Vocabulary.{log_of}
use Rattle.qc_recover.proofs.Logs.{log_joined}
use Rattle.qc_recover.proofs.lines.LineSet.join.Goals as goal

pub returns : goal.returns
returns c =
    ap log_of c.in_ok-extend_from_slice.ensures.items
    ∙ log_joined c.self.inside.lines.items c.args.lines.now c.requires
    ∙ ap (λ lines. union lines c.args.lines.now) c.self.view_is
