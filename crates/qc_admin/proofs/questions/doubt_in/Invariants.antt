use Rattle.std.proofs.Common.{◌≡◌, drop}
use Rattle.qc_epoch.specs.Vocabulary.{first_doubt}
use Rattle.qc_admin.specs.Vocabulary.{unasked}
use Rattle.qc_admin.proofs.questions.doubt_in.Given as goal

abbrev pub invariant-queries : goal.invariant-queries
invariant-queries l = first_doubt (unasked (drop l.query-index l.queries)) ≡ first_doubt (unasked l.queries)
