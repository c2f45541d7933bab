use Rattle.std.proofs.Common.{subst, ap, sym, ◌∙◌, IsTrue}
use Rattle.std.specs.Ordering.{is_lt}
use Rattle.qc_entry.proofs.Every.{below-last, last-below}
use Rattle.qc_entry.proofs.slices.all_before.Goals as goal

pub returns-in-Some : goal.returns-in-Some
returns-in-Some c =
    let same = c.is_lt.ensures ∙ ap is_lt c.compare.ensures in (
      λ test. below-last c.args.lines.now c.in-Some.last.now c.args.line.now c.requires c.in-Some.ensures.value
          (subst IsTrue same test),
      λ every. subst IsTrue (sym same) (last-below c.args.lines.now c.in-Some.last.now c.args.line.now
          c.in-Some.ensures.value every),
    )
