use Rattle.std.proofs.Common.{◌≡◌, drop}
use Rattle.qc_admin.specs.Vocabulary.{latest_of, unasked}
use Rattle.qc_admin.proofs.questions.latest_in.Given as goal

abbrev pub invariant-queries : goal.invariant-queries
invariant-queries l = latest_of l.latest (unasked (drop l.query-index l.queries)) ≡ latest_of l.clock
    (unasked l.queries)
