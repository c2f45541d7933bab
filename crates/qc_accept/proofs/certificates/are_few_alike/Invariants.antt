use Rattle.std.proofs.Common.{take}
use Rattle.qc_accept.proofs.Alike.{AreCounted}
use Rattle.qc_accept.proofs.certificates.are_few_alike.Given as goal

abbrev pub invariant-loop-triple : goal.invariant-loop-triple
invariant-loop-triple l = AreCounted l.counts (take l.triple-index l.triples)
