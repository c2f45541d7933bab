use Rattle.std.proofs.Common.{◌≡◌, drop, fold}
use Rattle.qc_epoch.specs.Vocabulary.{questions_of, with_questions}
use Rattle.qc_admin.proofs.questions.Questions.of.Given as goal

abbrev pub invariant-loop-shut : goal.invariant-loop-shut
invariant-loop-shut l = fold with_questions l.draft (drop l.shut-index l.shut-items) ≡ questions_of l.shuts
