use Rattle.qc_report.proofs.script.put_line.Goals as goal

pub returns : goal.returns
returns c = rw (← c.kind_word.ensures, ← c.format.ensures.text) c.put_all.ensures
