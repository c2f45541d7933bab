use Rattle.std.proofs.Common.{◌≡◌, ◌++◌, drop}
use Rattle.qc_entry.specs.Vocabulary.{of_object}
use Rattle.qc_entry.proofs.slices.of_one.Given as goal

-- the lines found so far, with those of the object that are left, are all of them
abbrev pub invariant-loop-line : goal.invariant-loop-line
invariant-loop-line l =
    l.found.items ++ of_object (drop l.line-index l.lines) l.object ≡ of_object l.lines l.object
