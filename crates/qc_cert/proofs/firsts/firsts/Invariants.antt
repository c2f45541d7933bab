use Rattle.std.proofs.Common.{◌≡◌, ◌++◌, drop, take}
use Rattle.qc_cert.specs.Vocabulary.{firsts, firsts_after, is_among}
use Rattle.qc_cert.specs.declared.triple.Triple.{Triple}
use Rattle.qc_cert.proofs.firsts.firsts.Given as goal

abbrev pub invariant-triples : goal.invariant-triples
invariant-triples l = record {
  marks : l.firsts.items ++ firsts_after (take l.triple-index l.list) (drop l.triple-index l.list) ≡ firsts l.list;
  seen : (t : Triple) → is_among l.seen.keys t ≡ is_among (take l.triple-index l.list) t;
}
