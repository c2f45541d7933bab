use Rattle.qc_entry.proofs.Without.{without-behind}
use Rattle.qc_entry.proofs.slices.are_behind.Goals as goal

pub returns-in-Some : goal.returns-in-Some
returns-in-Some c = λ test.
    without-behind c.in-Some.first.now c.args.lines.now c.args.others.now c.requires.first c.in-Some.ensures.value
    (c.all_before.ensures.0 test)
