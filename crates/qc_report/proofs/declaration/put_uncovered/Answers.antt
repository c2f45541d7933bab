use Rattle.qc_report.proofs.declaration.put_uncovered.Goals as goal

pub returns : goal.returns
returns c = rw (← c.name_at.ensures, ← c.format.ensures.text, ← c.name_at-2.ensures) c.put_all.ensures
