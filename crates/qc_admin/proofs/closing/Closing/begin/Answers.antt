use Rattle.std.proofs.Common.{sym, ap, ◌∙◌}
use Rattle.qc_admin.specs.Vocabulary.{becomes}
use Rattle.qc_admin.proofs.Moves.{begins_on}
use Rattle.qc_admin.proofs.closing.Closing.begin.Goals as goal

pub returns : goal.returns
returns c = λ m d.
    begins_on c.args.decl.now m d c.args.decided c.args.epoch c.before-closing.result c.go_on.new.self c.new.result
    c.in_ok-round.round c.in_ok-next.next
    c.before-closing.ensures.epoch c.before-closing.ensures.shuts c.new.ensures c.in_ok-round.ensures
    c.in_ok-next.ensures.ok
    ∙ ap (becomes m d) (sym c.begun.ensures)
