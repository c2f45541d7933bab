use Rattle.std.proofs.Common.{◌<◌, ◌≤◌, ◌^◌, Option, sym, subst, ap, ◌∙◌, arith, rules, w64}
use Rattle.std.specs.Int.{trailing_zeros}
use Rattle.std.proofs.lemmas.Nat.Bits.{bit_at-trailing_zeros}
use Rattle.qc_lock.specs.declared.clash.Clash.{Clash}
use Rattle.qc_lock.specs.Vocabulary.{IsPlaced, IsSmallest}
use Rattle.qc_lock.proofs.Lowest.{Passed, left_more, none_passed, passed_all, passed_more, without, without_small}
use Rattle.qc_table.specs.Vocabulary.{has}
use Rattle.qc_lock.proofs.clash.read_clash.Goals as goal
use Rattle.qc_table.proofs.Sets.{none_left, none_past}

pub turns-init : goal.turns-init
turns-init c =
    let fits : c.depended-rest.result < 2 ^ 64 = search rules in
    record {
      small = fits;
      left = λ k here. omega arith;
      best = none_passed (λ n d. IsPlaced c.args.relation.now c.args.lines.now c.args.tx c.args.object n c.args.inv n d)
          c.depended-rest.result
          (λ n d placed. ap (λ set. has set n) c.depended-rest.ensures ∙ placed.depended);
    }

pub turns-preserved : goal.turns-preserved
turns-preserved c =
    let some : 0 < c.turns.rest = omega (arith, c.if-rest-eq0.false) in
    let fits : c.turns.rest < 2 ^ 64 = c.turns.invariant.small in
    let low : trailing_zeros w64 c.turns.rest < 64 = (bit_at-trailing_zeros w64 c.turns.rest some fits).0 in
    record {
      small = without_small c.turns.rest (trailing_zeros w64 c.turns.rest) fits;
      left = left_more c.turns.rest c.turns._turn some fits c.turns.invariant.left;
      best =
          subst (λ (o : Option Clash). IsSmallest (Passed
          (λ n d. IsPlaced c.args.relation.now c.args.lines.now c.args.tx c.args.object n c.args.inv n d)
          (without c.turns.rest (trailing_zeros w64 c.turns.rest))) o) (sym c.smaller_of-best.ensures)
          (passed_more (λ n d. IsPlaced c.args.relation.now c.args.lines.now c.args.tx c.args.object n c.args.inv n d)
          c.turns.rest (trailing_zeros w64 c.turns.rest) c.turns.best c.clash_at-clash.result low fits
          c.turns.invariant.best c.clash_at-clash.ensures);
    }

pub returns-then-rest-eq0 : goal.returns-then-rest-eq0
returns-then-rest-eq0 c =
    passed_all (λ n d. IsPlaced c.args.relation.now c.args.lines.now c.args.tx c.args.object n c.args.inv n d)
    c.turns.rest c.turns.best (none_left c.turns.rest c.if-rest-eq0.true) c.turns.invariant.best

pub returns : goal.returns
returns c =
    passed_all (λ n d. IsPlaced c.args.relation.now c.args.lines.now c.args.tx c.args.object n c.args.inv n d)
    c.turns.rest c.turns.best
    (none_past c.turns.rest c.turns.invariant.small
    (λ k here. let past : c.turns._turn ≤ k = c.turns.invariant.left k here in
    omega (arith, past, c.turns-test.false))) c.turns.invariant.best
