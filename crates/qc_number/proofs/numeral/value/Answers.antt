use Rattle.std.proofs.Common.{refl, arith, rules}
use Rattle.qc_number.proofs.Numbers.{IsReadTo, digit_more}
use Rattle.qc_number.proofs.numeral.value.Goals as goal

pub overflow_mul-value : goal.overflow_mul-value
overflow_mul-value c =
    let read : IsReadTo c.args.digits.now c.loop-digit.digit-index c.loop-digit.value =
    record {
      few = c.requires.few;
      all = c.requires.digits;
      within = c.loop-digit-test.true;
      is = c.loop-digit.invariant;
    } in
    let more = digit_more c.args.digits.now c.loop-digit.digit-index c.loop-digit.value _ read refl in
    let small = more.1 in
    omega arith

pub overflow_add-value : goal.overflow_add-value
overflow_add-value c =
    let read : IsReadTo c.args.digits.now c.loop-digit.digit-index c.loop-digit.value =
    record {
      few = c.requires.few;
      all = c.requires.digits;
      within = c.loop-digit-test.true;
      is = c.loop-digit.invariant;
    } in
    let more = digit_more c.args.digits.now c.loop-digit.digit-index c.loop-digit.value c.from.result read
    (search rules) in
    let small = more.1 in
    omega arith

pub loop-digit-preserved : goal.loop-digit-preserved
loop-digit-preserved c =
    let read : IsReadTo c.args.digits.now c.loop-digit.digit-index c.loop-digit.value =
    record {
      few = c.requires.few;
      all = c.requires.digits;
      within = c.loop-digit-test.true;
      is = c.loop-digit.invariant;
    } in
    let more = digit_more c.args.digits.now c.loop-digit.digit-index c.loop-digit.value c.from.result read
    (search rules) in
    more.0
