use Rattle.qc_cert.proofs.Tables.{IsBegun}
use Rattle.qc_cert.proofs.blocks.word.Given as goal

abbrev pub invariant-loop-k : goal.invariant-loop-k
invariant-loop-k l = IsBegun l.sets l.from l.number l.some l.k l.word
