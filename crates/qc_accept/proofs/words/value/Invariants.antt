use Rattle.std.proofs.Common.{◌≡◌, ◌+◌, ◌-◌, ◌*◌, ◌<◌, drop}
use Rattle.std.specs.List.{fold}
use Rattle.qc_accept.specs.Vocabulary.{value_of}
use Rattle.qc_accept.proofs.Digits.{limit}
use Rattle.qc_accept.proofs.words.value.Given as goal

abbrev pub invariant-loop-digit : goal.invariant-loop-digit
invariant-loop-digit l = record {
  written : fold (λ n d. 10 * n + (d - 48)) l.value (drop l.digit-index l.digits) ≡ value_of l.digits;
  small : l.value < limit l.digit-index;
}
