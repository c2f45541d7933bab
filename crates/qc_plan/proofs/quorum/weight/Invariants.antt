use Rattle.std.proofs.Common.{◌≡◌, ◌≤◌, ◌*◌, ◌<◌, ℕ, Bool, take}
use Rattle.qc_plan.specs.Vocabulary.{weight}
use Rattle.qc_plan.proofs.quorum.weight.Given as goal

abbrev pub invariant-sites : goal.invariant-sites
invariant-sites g l = record {
  so_far : (sites : ℕ → Bool)
      → ((site : ℕ) → site < 16 → (passes : Bool) → goal.F-post g l.test site passes → passes ≡ sites site)
      → l.sum ≡ weight sites (take l.site l.weights);
  few : l.sum ≤ 255 * l.site;
}
