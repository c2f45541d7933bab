use Rattle.qc_words.proofs.Said.{options_are_one_word_or_two}
use Rattle.qc_words.proofs.laws.options_are_one_word_or_two.Goals as goal

pub returns : goal.returns
returns c = options_are_one_word_or_two
