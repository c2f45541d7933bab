use Rattle.std.proofs.Common.{rules}
use Rattle.qc_script.proofs.Spaces.{cut_at, cut_nowhere, first_word}
use Rattle.qc_script.proofs.word.Words.cut.Goals as goal

pub returns-in-Some : goal.returns-in-Some
returns-in-Some c =
    rw (c.new.ensures, c.of.ensures) (first_word c.args.self _ c.self.inside.rest c.in_ok-line.line _ c.self.view_is
    c.in_ok-line.was
    (cut_at c.in_ok-line.line.now c.in-Some.place (search rules) (search rules)))

pub returns-in-None : goal.returns-in-None
returns-in-None c =
    rw c.new-in-None.ensures (first_word c.args.self _ c.self.inside.rest c.in_ok-line.line _ c.self.view_is
    c.in_ok-line.was
    (cut_nowhere c.in_ok-line.line.now (search rules)))
