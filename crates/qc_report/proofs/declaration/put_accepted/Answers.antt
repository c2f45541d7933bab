use Rattle.qc_report.proofs.declaration.put_accepted.Goals as goal

pub returns : goal.returns
returns c = rw (← c.format.ensures.text, ← c.format-2.ensures.text, ← c.format-3.ensures.text) c.put_all.ensures
