use Rattle.std.proofs.Common.{rules}
use Rattle.qc_pass.proofs.Keeps.{adds}
use Rattle.qc_pass.proofs.token.Passes.add.Goals as goal

pub fetch_add-requires : goal.fetch_add-requires
fetch_add-requires g c = (search rules, search rules, adds _ _ _ _ _ c.requires.entry c.requires.joined)
