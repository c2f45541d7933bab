use Rattle.std.proofs.Common.{rules, ◌≡◌, ◌+◌, ℕ, suc, take, arith, refl, subst}
use Rattle.std.proofs.lemmas.Option.{slice_get-get_or}
use Rattle.qc_entry.specs.Vocabulary.{IsAscending}
use Rattle.qc_entry.proofs.Logs.{ascending-more}
use Rattle.qc_entry.proofs.slices.ascend.Goals as goal

pub lines-preserved : goal.lines-preserved
lines-preserved c =
    let next : suc c.lines.count ≡ c.lines.count + 1 = omega arith in (
      search rules,
      subst (λ (n : ℕ). IsAscending (take n c.args.lines.now)) next
          (ascending-more c.args.lines.now c.lines.count _
          (slice_get-get_or c.args.lines.now c.lines.count _ c.lines-test.true) c.lines.invariant.1
          (c.if-not-all_before.ensures.0 refl)),
    )
