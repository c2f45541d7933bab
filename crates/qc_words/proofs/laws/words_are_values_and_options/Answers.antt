use Rattle.qc_words.proofs.Said.{words_are_values_and_options}
use Rattle.qc_words.proofs.laws.words_are_values_and_options.Goals as goal

pub returns : goal.returns
returns c = words_are_values_and_options
