use Rattle.std.proofs.Common.{rules, ap}
use Rattle.qc_pass.proofs.PassSteps.{joins}
use Rattle.qc_pass.proofs.token.Passes.join_right.Goals as goal

pub join_seat-requires : goal.join_seat-requires
join_seat-requires g c = (
  search rules,
  search rules,
  search rules,
  search rules,
  rw (ap (λ m. m.0) c.requires.pass, ap (λ m. m.0) c.args.right.is_right) (joins _ _ _ _ _ _ _ _ _),
)
