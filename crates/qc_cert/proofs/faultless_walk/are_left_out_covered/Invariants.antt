use Rattle.std.proofs.Common.{◌≡◌, None}
use Rattle.qc_cert.specs.Vocabulary.{left_out_fault}
use Rattle.qc_list.specs.Vocabulary.{first_below}
use Rattle.qc_cert.proofs.faultless_walk.are_left_out_covered.Given as goal

abbrev pub invariant-loop-event : goal.invariant-loop-event
invariant-loop-event l = record {
  same : l.covered ≡ l.fn.covered;
  none : first_below l.event (left_out_fault l.kind l.fn.covered.list 0 l.triple) ≡ None;
}
