use Rattle.qc_front.proofs.Moves.{responded}
use Rattle.qc_front.proofs.front.Front.respond.Goals as goal

pub returns : goal.returns
returns c =
    responded c.args.decl.now c.args.self.now c.args.draft c.add_event.new.self c.args.inv c.args.event
    c.response-resp.result c.telling.result
    c.requires.draft c.response-resp.ensures c.in_ok-add_event.ensures c.telling.ensures
