use Rattle.std.proofs.Common.{◌≡◌, None}
use Rattle.qc_cert.specs.Vocabulary.{inv_fault}
use Rattle.qc_list.specs.Vocabulary.{first_below}
use Rattle.qc_cert.proofs.faultless_walk.are_invs_even.Given as goal

abbrev pub invariant-loop-inv : goal.invariant-loop-inv
invariant-loop-inv l = record {
  same : l.covered ≡ l.fn.covered;
  none : first_below l.inv (inv_fault l.kind l.fn.covered.list 0 l.triple) ≡ None;
}
