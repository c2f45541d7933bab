use Rattle.std.proofs.Common.{sym, ◌∙◌}
use Rattle.qc_front.proofs.Moves.{read_met}
use Rattle.qc_front.proofs.front.Front.go_on_reading.Goals as goal

pub returns-in-Met : goal.returns-in-Met
returns-in-Met c =
    read_met c.args.decl.now c.args.self.now c.args.draft c.args.inv c.args.open_round.calls c.args.open_round.round
    c.answer_by_view.result
    c.requires.draft (sym c.verdict.ensures ∙ c.in-Met.is) c.answer_by_view.ensures
