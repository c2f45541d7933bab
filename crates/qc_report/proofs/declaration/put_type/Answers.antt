use Rattle.qc_report.proofs.declaration.put_type.Goals as goal

pub returns : goal.returns
returns c = rw (← c.name_at.ensures) c.put_all.ensures
