use Rattle.qc_words.proofs.Walks.{words_of_a_form_are_taken_by_clap}
use Rattle.qc_words.proofs.laws.words_of_a_form_are_taken_by_clap.Goals as goal

pub returns : goal.returns
returns c = words_of_a_form_are_taken_by_clap
