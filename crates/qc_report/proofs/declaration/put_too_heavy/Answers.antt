use Rattle.qc_report.proofs.declaration.put_too_heavy.Goals as goal

pub returns : goal.returns
returns c = rw (← c.format.ensures.text, ← c.name_at.ensures) c.put_all.ensures
