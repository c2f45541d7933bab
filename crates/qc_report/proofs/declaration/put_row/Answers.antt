use Rattle.qc_report.proofs.declaration.put_row.Goals as goal

pub returns : goal.returns
returns c = rw (← c.name_at.ensures, ← c.format.ensures.text) c.put_all.ensures
