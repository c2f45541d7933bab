use Rattle.qc_words.proofs.Anywhere.{options_stand_anywhere}
use Rattle.qc_words.proofs.laws.options_stand_anywhere.Goals as goal

pub returns : goal.returns
returns c = options_stand_anywhere
