use Rattle.std.proofs.Common.{rules, ap}
use Rattle.qc_pass.proofs.PassSteps.{makes}
use Rattle.qc_pass.proofs.token.Passes.split_pass.Goals as goal

pub split_seat-seat-requires : goal.split_seat-seat-requires
split_seat-seat-requires g c = (
  search rules,
  search rules,
  rw (ap (λ m. m.0) c.args.right.now.is_right) (makes _ _ _ _),
)
