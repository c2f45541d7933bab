use Rattle.std.proofs.Common.{◌≡◌, fold}
use Rattle.qc_site.specs.Vocabulary.{held_by, holds}
use Rattle.qc_site.proofs.epochs.held_by.Given as goal

abbrev pub invariant-promises : goal.invariant-promises
invariant-promises l =
    (goal.iterator-promises).can_next l.promise-iterator ×
    (goal.iterator-promises).is_finite l.promise-iterator ×
    (fold holds l.held l.promise-iterator ≡ held_by l.promises)
