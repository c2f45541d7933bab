use Rattle.std.proofs.Common.{◌≡◌, ◌<◌, arith, take}
use Rattle.qc_plan.specs.Vocabulary.{weight}
use Rattle.qc_plan.proofs.Sums.{weight_more}
use Rattle.qc_plan.proofs.quorum.weight.Goals as goal

pub sites-preserved : goal.sites-preserved
sites-preserved g c = record {
  so_far = λ sites tests.
      let within : c.sites.site < 16 = omega (arith, c.sites-test.true, c.requires.few) in
      let passes : c.test.result ≡ sites c.sites.site = tests c.sites.site within c.test.result c.test.ensures in
      let so_far : c.sites.sum ≡ weight sites (take c.sites.site c.args.weights.now) =
      c.sites.invariant.so_far sites tests in
      grind (arith, so_far, passes, weight_more sites c.args.weights.now c.sites.site 0 c.sites-test.true);
  few = grind arith;
}
