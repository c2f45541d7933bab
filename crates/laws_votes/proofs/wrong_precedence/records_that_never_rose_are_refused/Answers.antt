use Rattle.laws_votes.proofs.WrongPrecedence.{reader_lost, reader_rose, writer_lost, writer_rose}
use Rattle.laws_votes.proofs.wrong_precedence.records_that_never_rose_are_refused.Goals as goal

pub returns-clause-writer : goal.returns-clause-writer
returns-clause-writer c = writer_rose

pub returns-clause-lost : goal.returns-clause-lost
returns-clause-lost c = writer_lost

pub returns-clause-reader : goal.returns-clause-reader
returns-clause-reader c = reader_rose

pub returns-clause-untold : goal.returns-clause-untold
returns-clause-untold c = reader_lost
