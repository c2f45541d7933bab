-- He fits over his inputs.
use Rattle.qc_admin.specs.Vocabulary.{AdminFits}
use Rattle.tests_admin.proofs.admins.check_rows.Given as goal

abbrev pub invariant-loop-row : goal.invariant-loop-row
invariant-loop-row g l = AdminFits l.admin
