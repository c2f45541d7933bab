use Rattle.qc_report.proofs.cause.disk_text.Goals as goal

pub returns : goal.returns
returns c = rw (← c.format.ensures.text) c.put_all.ensures
