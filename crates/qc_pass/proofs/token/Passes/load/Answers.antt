use Rattle.std.proofs.Common.{rules}
use Rattle.qc_pass.proofs.Keeps.{loads}
use Rattle.qc_pass.proofs.token.Passes.load.Goals as goal

pub load-requires : goal.load-requires
load-requires g c = (search rules, search rules, loads _ _ _ c.requires.joined)
