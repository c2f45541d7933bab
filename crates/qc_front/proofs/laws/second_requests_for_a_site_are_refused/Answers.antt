use Rattle.std.proofs.Common.{inl, refl}
use Rattle.qc_front.proofs.laws.second_requests_for_a_site_are_refused.Goals as goal

pub returns : goal.returns
returns c = λ first second site apart. apart.0 site (inl refl) refl
