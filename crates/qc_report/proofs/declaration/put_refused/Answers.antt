use Rattle.qc_report.proofs.declaration.put_refused.Goals as goal

pub returns-in-Field : goal.returns-in-Field
returns-in-Field c = rw (c.in-Field.is, ← c.text.ensures) c.put_all.ensures

pub returns-in-OutOfMemory : goal.returns-in-OutOfMemory
returns-in-OutOfMemory c = rw c.in-OutOfMemory.is c.put-in-OutOfMemory.ensures
