use Rattle.std.proofs.Common.{sym, subst}
use Rattle.qc_admin.proofs.Promised.{AreAsked, questions_asked}
use Rattle.qc_admin.proofs.asking.ask.Goals as goal

pub asks-requires-clause-clients : goal.asks-requires-clause-clients
asks-requires-clause-clients c = subst AreAsked (sym c.in_ok-questions.ensures)
    (questions_asked c.args.shuts c.requires.fit)
