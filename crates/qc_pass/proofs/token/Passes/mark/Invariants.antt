use Rattle.std.proofs.Common.{Some}
use Rattle.qc_pass.proofs.token.Passes.mark.Given as goal

abbrev pub ghosts-add : goal.ghosts-add
ghosts-add g a = record { entry = Some a.entry.now }

abbrev pub ghosts-split_right : goal.ghosts-split_right
ghosts-split_right g a = record { room = a.room }
