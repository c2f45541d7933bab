use Rattle.std.proofs.Common.{sym, ◌∙◌}
use Rattle.qc_front.proofs.Moves.{append_asked}
use Rattle.qc_front.proofs.front.Front.go_on_appending.Goals as goal

pub returns-in-Waiting : goal.returns-in-Waiting
returns-in-Waiting c =
    append_asked c.args.decl.now c.args.self.now c.args.draft c.args.inv c.args.event c.args.open_round.calls
    c.args.open_round.round
    c.ask_to_append.result
    c.requires.draft (sym c.verdict.ensures ∙ c.in-Waiting.is) c.ask_to_append.ensures
