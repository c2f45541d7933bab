use Rattle.qc_entry.proofs.Behind.{none-behind, some-behind}
use Rattle.qc_entry.proofs.slices.behind.Goals.{in_default-via-in-Some+else-not-all_before, in_default-via-in_default}
use Rattle.qc_entry.proofs.slices.behind.Goals as goal

pub returns-in_default : goal.returns-in_default
returns-in_default c = elim c.in_default.branch [
  | in_default-via-in-Some+else-not-all_before w ↦
      some-behind c.args.lines.now c.args.others.now c.shared.result w.in-Some.first.now c.shared.ensures.alike
      w.in-Some.ensures.value (w.all_before.ensures.0 w.if-not-all_before.false)
  | in_default-via-in_default w ↦
      none-behind c.args.lines.now c.args.others.now c.shared.result c.shared.ensures.alike w.in_default.ensures.value
]
