use Rattle.qc_report.proofs.declaration.put_no_weight.Goals as goal

pub returns : goal.returns
returns c = rw (← c.format.ensures.text) c.put_all.ensures
