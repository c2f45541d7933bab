use Rattle.std.proofs.Common.{◌≡◌, ◌<◌, ◌≤◌, ◌^◌, None, length, subst, ◌∙◌, arith, w64}
use Rattle.std.specs.Int.{trailing_zeros}
use Rattle.qc_cert.proofs.Shared.{left_more, without_small}
use Rattle.qc_table.proofs.Sets.{none_left, none_past}
use Rattle.qc_cert.proofs.Told.{none_more}
use Rattle.qc_cert.specs.Asked.{Asked}
use Rattle.qc_cert.specs.Vocabulary.{taken_fault}
use Rattle.qc_list.proofs.Search.{below_none}
use Rattle.qc_table.specs.Vocabulary.{events_of}
use Rattle.qc_cert.proofs.faultless_walk.are_taken_covered.Goals as goal

pub returns-then-rest-eq0-clause-none : goal.returns-then-rest-eq0-clause-none
returns-then-rest-eq0-clause-none c = λ _.
    below_none (length (events_of c.args.kind.now.table.rows))
    (taken_fault c.args.kind.now c.args.covered.now.list 0 c.args.triple.now c.args.inv)
    (λ k l. c.turns.invariant.none k l (none_left c.turns.rest c.if-rest-eq0.true k))

pub turns-preserved : goal.turns-preserved
turns-preserved c =
    let some : 0 < c.turns.rest = omega (arith, c.if-rest-eq0.false) in
    let fits : c.turns.rest < 2 ^ 64 = c.turns.invariant.small in
    let low = trailing_zeros w64 c.turns.rest in
    let none : taken_fault c.args.kind.now c.args.covered.now.list 0 c.args.triple.now c.args.inv low ≡ None =
    subst (λ (a : Asked). taken_fault c.args.kind.now a.list 0 c.args.triple.now c.args.inv low ≡ None)
    c.turns.invariant.same
    (c.is_taken_covered.ensures.none c.if-not-is_taken_covered.false c.args.inv) in
    record {
      same = c.is_taken_covered.ensures.same ∙ c.turns.invariant.same;
      small = without_small c.turns.rest low fits;
      left = left_more c.turns.rest c.turns._turn some fits c.turns.invariant.left;
      none = none_more c.turns.rest (length (events_of c.args.kind.now.table.rows))
          (taken_fault c.args.kind.now c.args.covered.now.list 0 c.args.triple.now c.args.inv) some fits none
          c.turns.invariant.none;
    }

pub returns-clause-none : goal.returns-clause-none
returns-clause-none c = λ _.
    below_none (length (events_of c.args.kind.now.table.rows))
    (taken_fault c.args.kind.now c.args.covered.now.list 0 c.args.triple.now c.args.inv)
    (λ k l. c.turns.invariant.none k l
    (none_past c.turns.rest c.turns.invariant.small
    (λ k here. let past : c.turns._turn ≤ k = c.turns.invariant.left k here in
    omega (arith, past, c.turns-test.false)) k))
