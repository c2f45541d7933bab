use Rattle.std.proofs.Common.{map, sym, ◌∙◌}
use Rattle.qc_text.specs.Vocabulary.{deed_of, envelope_in}
use Rattle.qc_text.proofs.Granted.{joins_no_view, joins_nothing}
use Rattle.qc_text.proofs.lines.join_view.Goals as goal

pub returns-else-is_granted : goal.returns-else-is_granted
returns-else-is_granted c =
    joins_nothing (envelope_in c.args.letter.now) (map deed_of c.args.after.now) c.args.known.now
    (sym c.is_granted.ensures ∙ c.if-is_granted.false)

pub returns-in_default : goal.returns-in_default
returns-in_default c = joins_no_view (envelope_in c.args.letter.now)
    (map deed_of c.args.after.now) c.args.known.now c.in_default.ensures
