use Rattle.qc_pass.proofs.token.Passes.look.Given as goal

abbrev pub ghosts-split_right : goal.ghosts-split_right
ghosts-split_right g a = record { room = a.room }
