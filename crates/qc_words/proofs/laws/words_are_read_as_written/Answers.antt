use Rattle.qc_words.proofs.Written.{words_are_read_as_written}
use Rattle.qc_words.proofs.laws.words_are_read_as_written.Goals as goal

pub returns : goal.returns
returns c = words_are_read_as_written
