use Rattle.std.proofs.Common.{◌≡◌, None}
use Rattle.qc_cert.specs.Vocabulary.{inv_fault}
use Rattle.qc_list.specs.Vocabulary.{first_below}
use Rattle.qc_cert.proofs.rules.Search.of_invs.Given as goal

abbrev pub invariant-loop-inv : goal.invariant-loop-inv
invariant-loop-inv l =
    first_below l.inv (inv_fault l.self.kind.now l.self.triples.now l.self.place l.self.triple.now) ≡ None
