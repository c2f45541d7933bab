use Rattle.qc_report.proofs.cause.full_text.Goals as goal

pub returns : goal.returns
returns c = rw (← c.what_word.ensures, ← c.format.ensures.text) c.put_all.ensures
