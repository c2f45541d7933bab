use Rattle.qc_journal.proofs.Append.{stays_whole}
use Rattle.qc_journal.proofs.writing.open_gate.Goals as goal

pub returns-clause-moments : goal.returns-clause-moments
returns-clause-moments g c = stays_whole _ _ _ c.write_through.ensures.moments
