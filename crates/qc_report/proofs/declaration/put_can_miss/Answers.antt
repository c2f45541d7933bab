use Rattle.qc_report.proofs.declaration.put_can_miss.Goals as goal

pub returns : goal.returns
returns c = rw (← c.format.ensures.text, ← c.name_at.ensures, ← c.name_at-2.ensures, ← c.name_at-3.ensures)
    c.put_all.ensures
