use Rattle.std.proofs.Common.{◌≡◌, None}
use Rattle.qc_cert.specs.Vocabulary.{unequal_fault}
use Rattle.qc_list.specs.Vocabulary.{first_below}
use Rattle.qc_cert.proofs.rules.of_responses.Given as goal

abbrev pub invariant-loop-resp : goal.invariant-loop-resp
invariant-loop-resp l = first_below l.resp (unequal_fault l.kind l.place l.triple l.inv) ≡ None
