use Rattle.std.proofs.Common.{◌≡◌, ◌<◌, ◌≤◌, ◌+◌, ◌-◌, ◌*◌, ℕ, ◌∷◌, suc, drop, drop-cons, get_or, refl, sym, ap, ◌∙◌}
use Rattle.std.proofs.Common.{arith}
use Rattle.std.specs.List.{fold}
use Rattle.std.proofs.lemmas.List.{drop_all}
use Rattle.qc_accept.proofs.Digits.{few_small, digit_more, digit_at}
use Rattle.qc_accept.proofs.words.value.Goals as goal

pub loop-digit-init : goal.loop-digit-init
loop-digit-init c = record { written = refl; small = omega arith }

pub overflow_mul-value : goal.overflow_mul-value
overflow_mul-value c = let small : c.loop-digit.value < 100000 =
    few_small c.loop-digit.digit-index c.loop-digit.value (omega arith) c.loop-digit.invariant.small in omega arith

pub overflow_add-value : goal.overflow_add-value
overflow_add-value c =
    let small : c.loop-digit.value < 100000 =
    few_small c.loop-digit.digit-index c.loop-digit.value (omega arith) c.loop-digit.invariant.small in
    let digit : get_or c.args.digits.now c.loop-digit.digit-index 0 ≤ 57 =
    digit_at c.args.digits.now c.loop-digit.digit-index c.loop-digit-test.true c.requires.digits in
    omega arith

pub loop-digit-preserved : goal.loop-digit-preserved
loop-digit-preserved c =
    let next : suc c.loop-digit.digit-index ≡ c.loop-digit.digit-index + 1 = omega arith in
    let left : drop c.loop-digit.digit-index c.args.digits.now ≡ get_or c.args.digits.now c.loop-digit.digit-index 0
    ∷ drop (c.loop-digit.digit-index + 1) c.args.digits.now =
    drop-cons c.args.digits.now c.loop-digit.digit-index 0 c.loop-digit-test.true
    ∙ ap (λ (n : ℕ). get_or c.args.digits.now c.loop-digit.digit-index 0 ∷ drop n c.args.digits.now) next in
    record {
      written = sym (ap (fold (λ n d. 10 * n + (d - 48)) c.loop-digit.value) left) ∙ c.loop-digit.invariant.written;
      small = digit_more c.loop-digit.digit-index c.loop-digit.value
          (get_or c.args.digits.now c.loop-digit.digit-index 0) c.loop-digit.invariant.small
          (digit_at c.args.digits.now c.loop-digit.digit-index c.loop-digit-test.true c.requires.digits);
    }

pub returns-clause-value : goal.returns-clause-value
returns-clause-value c =
    sym (ap (fold (λ n d. 10 * n + (d - 48)) c.loop-digit.value)
    (drop_all c.loop-digit.digit-index c.args.digits.now c.loop-digit-test.false)) ∙ c.loop-digit.invariant.written

pub returns-clause-small : goal.returns-clause-small
returns-clause-small c = few_small c.loop-digit.digit-index c.loop-digit.value
    (omega arith) c.loop-digit.invariant.small
