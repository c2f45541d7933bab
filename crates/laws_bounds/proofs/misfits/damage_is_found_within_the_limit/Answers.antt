use Rattle.laws_bounds.proofs.Limits.{damage_is_found_within_the_limit}
use Rattle.laws_bounds.proofs.misfits.damage_is_found_within_the_limit.Goals as goal

pub returns : goal.returns
returns c = damage_is_found_within_the_limit
