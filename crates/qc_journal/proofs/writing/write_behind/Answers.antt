use Rattle.qc_journal.proofs.Append.{stays_closed}
use Rattle.qc_journal.proofs.writing.write_behind.Goals as goal

pub returns-clause-moments : goal.returns-clause-moments
returns-clause-moments g c = stays_closed _ _ _ _ c.write_through.ensures.moments
