use Rattle.qc_front.proofs.Moves.{started}
use Rattle.qc_front.proofs.front.Front.start.Goals as goal

pub returns : goal.returns
returns c =
    started c.args.decl.now c.args.self.now c.args.transaction.now c.in_ok-draft.draft c.args.object c.args.inv
    c.read_need-need.result c.new-calls.result c.in_ok-round.round c.go_on_reading.result
    c.requires.begun c.in_ok-draft.ensures c.new-calls.ensures c.read_need-need.ensures c.in_ok-round.ensures
    c.go_on_reading.ensures
