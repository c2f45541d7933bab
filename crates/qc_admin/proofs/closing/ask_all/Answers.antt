use Rattle.std.proofs.Common.{sym, ◌∙◌}
use Rattle.qc_front.proofs.OneByOne.{all_asked, last_asked}
use Rattle.qc_admin.proofs.closing.ask_all.Goals as goal

pub returns-clause-sites : goal.returns-clause-sites
returns-clause-sites c =
    all_asked c.args.round.now c.asking.round c.asking.sites c.asking.invariant.sites
    (sym c.ask.ensures.told ∙ c.in_default.is)

pub returns-clause-asked : goal.returns-clause-asked
returns-clause-asked c =
    c.ask.ensures.asked
    ∙ last_asked c.args.round.now c.asking.round c.asking.invariant.round (sym c.ask.ensures.told ∙ c.in_default.is)
