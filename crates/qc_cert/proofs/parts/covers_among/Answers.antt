use Rattle.std.proofs.Common.{◌<◌, ◌≤◌, ◌^◌, sym, ◌∙◌, arith, w64}
use Rattle.std.specs.Int.{trailing_zeros}
use Rattle.qc_cert.proofs.Shared.{left_more, looked_more, without_small}
use Rattle.qc_cert.proofs.parts.covers_among.Goals as goal
use Rattle.qc_table.proofs.Sets.{none_past}

pub turns-preserved : goal.turns-preserved
turns-preserved c =
    let some : 0 < c.turns.rest = omega (arith, c.if-rest-eq0.false) in
    let fits : c.turns.rest < 2 ^ 64 = c.turns.invariant.small in
    let events : c.args.events < 2 ^ 64 = c.ranges.events.fits in
    record {
      small = without_small c.turns.rest (trailing_zeros w64 c.turns.rest) fits;
      left = left_more c.turns.rest c.turns._turn some fits c.turns.invariant.left;
      looked = looked_more c.args.parts.now c.args.out c.args.events c.turns.rest events some fits
          (sym c.covers_at.ensures ∙ c.if-covers_at.false) c.turns.invariant.looked;
    }

pub returns-clause-none : goal.returns-clause-none
returns-clause-none c = λ _ k here.
    c.turns.invariant.looked k here
    (none_past c.turns.rest c.turns.invariant.small
    (λ k here. let past : c.turns._turn ≤ k = c.turns.invariant.left k here in omega (arith, c.turns-test.false)) k)
