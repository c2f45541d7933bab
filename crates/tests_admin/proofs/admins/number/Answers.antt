use Rattle.std.proofs.Common.{sym, subst}
use Rattle.qc_admin.specs.Vocabulary.{AdminFits}
use Rattle.qc_admin.proofs.Fitting.{sent_fits}
use Rattle.tests_admin.proofs.admins.number.Goals as goal

pub returns : goal.returns
returns c = subst AdminFits (sym c.sent.ensures) (sent_fits c.args.admin.now c.args.first c.requires.fits)
