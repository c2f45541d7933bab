use Rattle.std.proofs.Common.{◌≡◌, None}
use Rattle.qc_cert.specs.Vocabulary.{left_out_fault}
use Rattle.qc_list.specs.Vocabulary.{first_below}
use Rattle.qc_cert.proofs.rules.Search.of_left_out.Given as goal

abbrev pub invariant-loop-event : goal.invariant-loop-event
invariant-loop-event l = first_below l.event
    (left_out_fault l.self.kind.now l.self.triples.now l.self.place l.self.triple.now) ≡ None
