use Rattle.qc_report.proofs.declaration.put_unequal.Goals as goal

pub returns : goal.returns
returns c = rw (← c.name_at.ensures, ← c.format.ensures.text, ← c.name_at-inv.ensures, ← c.name_at-resp.ensures)
    c.put_all.ensures
