use Rattle.qc_words.proofs.Askable.{words_ask_within_limits}
use Rattle.qc_words.proofs.laws.words_ask_within_limits.Goals as goal

pub returns : goal.returns
returns c = words_ask_within_limits
