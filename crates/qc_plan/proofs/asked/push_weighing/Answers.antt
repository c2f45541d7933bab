use Rattle.std.proofs.Common.{◌+◌, ◌-◌, ◌++◌, List, None, Vec, Global, ◌∙◌, ap, map, refl}
use Rattle.std.specs.List.{range_with_len}
use Rattle.qc_plan.specs.Vocabulary.{weighing}
use Rattle.qc_plan.specs.declared.standing.Asked.{Asked}
use Rattle.qc_plan.proofs.Rounds.{weighing_on, weighing_past}
use Rattle.qc_plan.proofs.asked.push_weighing.Goals as goal
use Rattle.qc_plan.proofs.asked.push_weighing.Goals.{then-weights-site-gt0+in_ok-push, else-weights-site-gt0}

pub loop-site-preserved : goal.loop-site-preserved
loop-site-preserved c =
    let weights = c.args.weights.now in
    elim c.if-weights-site-gt0.branch [
      | then-weights-site-gt0+in_ok-push w ↦
          ap (λ (v : Vec Asked Global). map (λ (a : Asked). a.site) v.items ++ weighing c.args.weights.now
          (range_with_len (c.loop-site.site + 1) (c.args.end - (c.loop-site.site + 1)))) w.sites-is
          ∙ ap (λ (items : List Asked). map (λ (a : Asked). a.site) items ++ weighing c.args.weights.now
          (range_with_len (c.loop-site.site + 1) (c.args.end - (c.loop-site.site + 1)))) w.in_ok-push.ensures.items
          ∙ weighing_on weights c.loop-site.sites.items
          (record { site = c.loop-site.site; standing = None }) c.loop-site.site c.args.end refl
          w.if-weights-site-gt0.true c.loop-site-test.true
          ∙ c.loop-site.invariant
      | else-weights-site-gt0 w ↦
          ap (λ (v : Vec Asked Global). map (λ (a : Asked). a.site) v.items ++ weighing c.args.weights.now
          (range_with_len (c.loop-site.site + 1) (c.args.end - (c.loop-site.site + 1)))) w.sites-is
          ∙ weighing_past weights c.loop-site.sites.items c.loop-site.site c.args.end w.if-weights-site-gt0.false
          c.loop-site-test.true
          ∙ c.loop-site.invariant
    ]
