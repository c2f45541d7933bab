use Rattle.qc_pass.proofs.PassSteps.{opens}
use Rattle.qc_pass.proofs.token.Passes.word.Goals as goal

pub of_words-requires : goal.of_words-requires
of_words-requires g c = opens
