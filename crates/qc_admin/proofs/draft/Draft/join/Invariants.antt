use Rattle.std.proofs.Common.{◌≡◌, drop, fold}
use Rattle.qc_epoch.specs.Vocabulary.{with_question, with_questions}
use Rattle.qc_admin.proofs.draft.Draft.join.Given as goal

abbrev pub invariant-loop-promise : goal.invariant-loop-promise
invariant-loop-promise l =
    fold (with_question l.shut.site) l.draft (drop l.promise-index l.promise-items) ≡ with_questions l.fn.self l.shut
